-- HTTP sessions that are closed, and events by which nothing is read.
use Rattle.std.proofs.Common.{◌≡◌, ℕ, Bool, false, cond, List, [], Option, Some, None, refl, ap, sym, subst, ◌∙◌}
use Rattle.std.specs.Option.{option_map_or}
use Rattle.satip_base.specs.Lists.{Has}
use Rattle.satip_base.specs.Output.{Output}
use Rattle.satip_plain.specs.Types.{SessionId, Config}
use Rattle.satip_plain.specs.declared.answers.Answer.{Answer}
use Rattle.satip_plain.specs.declared.answers.Answer.TheVariants.{Closed}
use Rattle.satip_plain.specs.declared.answers.Closed.TheVariants.{Yes, Gone as ClosedGone}
use Rattle.satip_plain.specs.declared.events.Event.{Event}
use Rattle.satip_plain.specs.declared.events.Event.TheVariants.{Ended, Ask, Close, Stop}
use Rattle.satip_plain.specs.State.{Session, State, http_session}
use Rattle.satip_plain.specs.Sending.{settle}
use Rattle.satip_plain.specs.Steps.{outcome, end_where, is_session, on_close}
use Rattle.satip_plain.specs.Readings.{Made, Readings, living, living_session, any_where, is_accepted, frees, ends, keeps_alive, is_selected, pulled_by, read_one, living_http}
use Rattle.satip_laws.proofs.SameTests.{either_false}
use Rattle.satip_laws.proofs.Finding.{either_way}
use Rattle.satip_laws.proofs.Agree.{Agrees, Matched, serves}
use Rattle.satip_laws.proofs.Sweeping.{agrees_ended, freed_same}
use Rattle.satip_laws.proofs.Reading.{item, read_simply, read_other, simply_same, simply_ends, simply_still, never, nothing}
use Rattle.satip_laws.proofs.Moments.{is_this_http, http_match, http_none, http_some, http_only}

module _ (c : Config) (g : Readings) (free : (f : ℕ) → serves g f ≡ false → g.mux f ≡ None) (caller : ℕ) (answer : Answer) (out : Output) where
  still : frees (read_simply g g.clock never never nothing nothing) ≡ g
  still = ap frees (simply_still g) ∙ freed_same g free

  unselected : (e : Event) (s : SessionId) → cond {A = List (List ℕ)} (any_where (is_selected g e) (living_session g s)) [] [] ≡ []
  unselected e s = sym (either_way [] (any_where (is_selected g e) (living_session g s)))

  pub ended_read : (front tune : ℕ) → read_one c g (item caller (Ended front tune) answer out) ≡ g
  ended_read front tune = let e = item caller (Ended front tune) answer out in
      read_other c g e (sym (either_way None (is_accepted answer))) (sym (either_way None (is_accepted answer))) (λ s. either_false (is_accepted answer))
      ∙ ap frees (simply_same g g.clock (ends c g e) (keeps_alive e.event) never never
      (λ s. cond (any_where (is_selected g e.event) (living_session g s)) [] []) (pulled_by e) nothing nothing (λ m h. refl) (λ m h. refl) (unselected e.event)
      (λ s. refl)) ∙ still

  pub ask_read : (front : ℕ) → read_one c g (item caller (Ask front) answer out) ≡ g
  ask_read front = let e = item caller (Ask front) answer out in
      read_other c g e (sym (either_way None (is_accepted answer))) (sym (either_way None (is_accepted answer))) (λ s. either_false (is_accepted answer))
      ∙ ap frees (simply_same g g.clock (ends c g e) (keeps_alive e.event) never never
      (λ s. cond (any_where (is_selected g e.event) (living_session g s)) [] []) (pulled_by e) nothing nothing (λ m h. refl) (λ m h. refl) (unselected e.event)
      (λ s. refl)) ∙ still

  pub stop_read : read_one c g (item caller Stop answer out) ≡ g
  stop_read = let e = item caller Stop answer out in
      read_other c g e (sym (either_way None (is_accepted answer))) (sym (either_way None (is_accepted answer))) (λ s. either_false (is_accepted answer))
      ∙ ap frees (simply_same g g.clock (ends c g e) (keeps_alive e.event) never never
      (λ s. cond (any_where (is_selected g e.event) (living_session g s)) [] []) (pulled_by e) nothing nothing (λ m h. refl) (λ m h. refl) (unselected e.event)
      (λ s. refl)) ∙ still

  -- a close by which these sessions end
  close_read : (id : SessionId) (p : Made → Bool) → ((m : Made) → Has m (living g) → is_this_http id m ≡ p m)
      → read_one c g (item caller (Close id) answer out) ≡ frees (read_simply g g.clock p never nothing nothing)
  close_read id p same = let e = item caller (Close id) answer out in
      read_other c g e (sym (either_way None (is_accepted answer))) (sym (either_way None (is_accepted answer))) (λ s. either_false (is_accepted answer))
      ∙ ap frees (simply_same g g.clock (ends c g e) (keeps_alive e.event) p never
      (λ s. cond (any_where (is_selected g e.event) (living_session g s)) [] []) (pulled_by e) nothing nothing same (λ m h. refl)
      (unselected e.event) (λ s. refl))

pub agrees_close : (c : Config) (st : State) (g : Readings) (caller : ℕ) (answer : Answer) (out : Output) (id : SessionId) → Agrees c st g
    → Agrees c (on_close id st).state (read_one c g (item caller (Close id) answer out))
agrees_close c st g caller answer out id a = by (living_http g id) (http_session st id) refl (http_match c st g id a)
  where
    by : (o : Option Made) (q : Option Session) → living_http g id ≡ o → Matched g o q
        → Agrees c (option_map_or (λ s. outcome (end_where (is_session id) st) (Closed Yes) []) q (outcome (settle st) (Closed ClosedGone) [])).state
        (read_one c g (item caller (Close id) answer out))
    by None None e same = subst (Agrees c st) (sym (close_read c g a.free caller answer out id never (http_none g id e) ∙ still c g a.free caller answer out)) a
    by None (Some s) e same = absurd same
    by (Some m) None e same = absurd same
    by (Some m) (Some s) e same =
        let found = http_some g a.loosely.told id m e in
        subst (Agrees c (end_where (is_session id) st).state)
        (sym (close_read c g a.free caller answer out id (is_this_http id) (λ n h. refl) ∙ ap frees (simply_ends g g.clock (is_this_http id))))
        (agrees_ended c st g (is_this_http id) (is_session id) (λ n t h k. http_only g a.loosely.told id m id e (sym found.1) n t h k) a)
