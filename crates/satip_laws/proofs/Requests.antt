-- Requests that are refused, and those that change no stream.
use Rattle.std.proofs.Common.{◌≡◌, ℕ, ◌&&◌, not, Bool, true, false, cond, List, [], unwrap_or, Option, Some, None, is_none, refl, ap, sym, subst, ◌∙◌}
use Rattle.std.specs.Option.{option_map, option_and_then, option_map_or}
use Rattle.satip_base.specs.Lists.{Has}
use Rattle.satip_base.specs.Output.{Output}
use Rattle.satip_rtsp.specs.declared.requests.Method.TheVariants.{Teardown}
use Rattle.satip_plain.specs.Types.{SessionId, Config, Peer, Draw, Request}
use Rattle.satip_plain.specs.declared.answers.Answer.{Answer}
use Rattle.satip_plain.specs.declared.events.Event.{Event}
use Rattle.satip_plain.specs.declared.events.Event.TheVariants.{Request as Asked}
use Rattle.satip_plain.specs.State.{Session, State}
use Rattle.satip_plain.specs.Sending.{settle}
use Rattle.satip_plain.specs.Refusals.{session_named}
use Rattle.satip_rtsp.specs.Methods.{names_none, needs_session, is_setup, changes}
use Rattle.satip_plain.specs.Steps.{hear, heard_by, is_session, end_where, teardown_of, accepted}
use Rattle.satip_plain.specs.Histories.{Item}
use Rattle.satip_plain.specs.Readings.{Made, Readings, Asking, living, living_session, home_of_number, next_made, any_where, is_accepted, made_by, makes, session_in, query_in, asking, named_in, names, is_teardown, is_play, frees, ends, keeps_alive, starts_playing, is_selected, pulled_by, read_one}
use Rattle.satip_laws.proofs.SameTests.{either_false, middle_true, middle_false}
use Rattle.satip_laws.proofs.Finding.{either_way}
use Rattle.satip_laws.proofs.Agree.{Same, Agrees, Matched, serves}
use Rattle.satip_laws.proofs.Quiet.{heard_read, agrees_heard}
use Rattle.satip_laws.proofs.Sweeping.{agrees_ended, over_part, over_read, freed_same}
use Rattle.satip_laws.proofs.Adding.{making}
use Rattle.satip_laws.proofs.Reading.{item, read_other, simply_same, simply_parts, never, nothing, where_never, never_where, or_false, found_living}
use Rattle.satip_laws.proofs.Deciding.{Passes, named_match, names_it, rtsp_named, none_named, named_present, needs_named}

-- readings by which nothing happened

pub heard_never : (g : Readings) (p : Made → Bool) → ((m : Made) → Has m (living g) → p m ≡ false) → heard_read p g ≡ g
heard_never g p none = λ i. record g { heard = λ s. same s i }
  where
    same : (s : SessionId) → cond (any_where p (living_session g s)) g.clock (g.heard s) ≡ g.heard s
    same s = ap (λ b. cond b g.clock (g.heard s)) (where_never p (living_session g s) (λ m f. none m (found_living g s m f).0))

pub over_never : (g : Readings) → ((f : ℕ) → serves g f ≡ false → g.mux f ≡ None) → over_read never g ≡ g
over_never g free = ap frees same ∙ freed_same g free
  where
    same : over_part never g ≡ g
    same = λ i. record g { over = λ s. or_false (g.over s) (any_where never (living_session g s)) (never_where (living_session g s)) i }

ends_false : (x y z : Bool) → (x && z) ≡ false → (x && y && z) ≡ false
ends_false true true z e = e
ends_false true false z e = refl
ends_false false y z e = refl

-- the session that a request names was heard of
pub agrees_heard_by : (c : Config) (st : State) (g : Readings) (peer : Peer) (draw : Draw) (r : Request) → Agrees c st g
    → Agrees c (heard_by r st) (heard_read (keeps_alive (Asked peer draw r)) g)
agrees_heard_by c st g peer draw r a = by (named_in g r.session) (session_named st r.session) refl (named_match c st g a r.session)
  where
    keeps : Made → Bool
    keeps = keeps_alive (Asked peer draw r)

    quiet : ((m : Made) → Has m (living g) → keeps m ≡ false) → Agrees c st (heard_read keeps g)
    quiet none = subst (Agrees c st) (sym (heard_never g keeps none)) a

    one : (m : Made) (s : Session) → named_in g r.session ≡ Some m → Same g m s → (b : Bool) → is_none r.refusal ≡ b
        → Agrees c (cond b (hear s.id st) st) (heard_read keeps g)
    one m s e same true f = agrees_heard c st g keeps (is_session s.id)
        (λ k t h i. middle_true (not k.http) (is_none r.refusal) (names r.session k.id) f ∙ rtsp_named g a.loosely.told r.session m e k h
        ∙ names_it g a.loosely.told r.session m s.id e same.id k t h i) a
    one m s e same false f = quiet (λ k h. middle_false (not k.http) (is_none r.refusal) (names r.session k.id) f)

    by : (o : Option Made) (q : Option Session) → named_in g r.session ≡ o → Matched g o q
        → Agrees c (option_map_or (λ s. cond (is_none r.refusal) (hear s.id st) st) q st) (heard_read keeps g)
    by None None e same = quiet (λ k h. ends_false (not k.http) (is_none r.refusal) (names r.session k.id) (none_named g r.session e k h))
    by None (Some s) e same = absurd same
    by (Some m) None e same = absurd same
    by (Some m) (Some s) e same = one m s e same (is_none r.refusal) refl

module _ (c : Config) (st : State) (g : Readings) (a : Agrees c st g) (caller : ℕ) (peer : Peer) (draw : Draw) (r : Request) (answer : Answer)
    (out : Output) where
  abbrev pub ev : Event
  ev = Asked peer draw r

  abbrev pub e : Item
  e = item caller ev answer out

  abbrev pub heard : State
  heard = heard_by r st

  abbrev pub g_heard : Readings
  g_heard = heard_read (keeps_alive ev) g

  pub heard_agrees : Agrees c heard g_heard
  heard_agrees = agrees_heard_by c st g peer draw r a

  -- an entry that makes no session and changes no stream
  pub hears_read : (p : Made → Bool) → makes g e ≡ None → asking g e ≡ None → ((s : SessionId) → starts_playing e s ≡ false)
      → ((m : Made) → Has m (living g) → ends c g e m ≡ p m)
      → read_one c g e ≡ over_read p g_heard
  hears_read p none still starts ended =
      read_other c g e none still starts
      ∙ ap frees (simply_same g g.clock (ends c g e) (keeps_alive ev) p (keeps_alive ev)
      (λ s. cond {A = List (List ℕ)} (any_where (is_selected g ev) (living_session g s)) [] []) (pulled_by e) nothing nothing
      ended (λ m h. refl) (λ s. sym (either_way [] (any_where (is_selected g ev) (living_session g s)))) (λ s. refl)
      ∙ simply_parts g p (keeps_alive ev))

  -- a refused request
  pub agrees_refused : is_accepted answer ≡ false → Agrees c heard (read_one c g e)
  agrees_refused refused = subst (Agrees c heard) (sym (hears_read never
      (ap (λ b. cond b (made_by g ev) None) refused)
      (ap (λ b. cond b (option_and_then (λ m. option_map (λ q. record { home = m.home; query = q }) (query_in ev)) (session_in g ev)) None) refused)
      (λ s. ap (λ b. b && (is_play r.method && names r.session s)) refused)
      (λ m h. ap (λ b. b && is_teardown r.method && names r.session m.id) refused)
      ∙ over_never g_heard a.free)) heard_agrees

  -- the stream of a session that a SETUP makes
  abbrev pub home_made : SessionId
  home_made = unwrap_or (option_and_then (home_of_number g) r.stream) (next_made g draw.word)

  -- only PLAY starts a session's playing
  pub not_played : (s : SessionId) → is_play r.method ≡ false → starts_playing e s ≡ false
  not_played s other = ap (λ b. is_accepted answer && (b && names r.session s)) other ∙ either_false (is_accepted answer)

  pub not_ended : (m : Made) → is_teardown r.method ≡ false → ends c g e m ≡ false
  not_ended m other = middle_false (is_accepted answer) (is_teardown r.method) (names r.session m.id) other

  -- a request that changes no stream
  pub no_change : changes r.method ≡ false → asking g e ≡ None
  no_change still = ap (λ b. cond (is_accepted answer)
      (option_and_then (λ m. option_map (λ q. record { home = m.home; query = q }) (cond b (Some r.query) None)) (session_in g ev)) None) still
      ∙ by (is_accepted answer) (session_in g ev)
    where
      by : (b : Bool) (o : Option Made) → cond {A = Option Asking} b (option_and_then (λ m. None) o) None ≡ None
      by true None = refl
      by true (Some m) = refl
      by false o = refl

  pub no_session : is_setup r.method ≡ false → makes g e ≡ None
  no_session other = ap (λ b. cond (is_accepted answer) (cond (b && names_none r.session) (Some (making g false home_made draw)) None) None) other
      ∙ sym (either_way None (is_accepted answer))

  -- OPTIONS and DESCRIBE
  pub agrees_told : is_setup r.method ≡ false → changes r.method ≡ false → is_teardown r.method ≡ false → is_play r.method ≡ false
      → Agrees c heard (read_one c g e)
  agrees_told setup change teardown play = subst (Agrees c heard) (sym (hears_read never (no_session setup) (no_change change)
      (λ s. not_played s play) (λ m h. not_ended m teardown) ∙ over_never g_heard a.free)) heard_agrees

  -- TEARDOWN
  pub agrees_teardown : r.method ≡ Teardown → is_accepted answer ≡ true → Passes c st r
      → Agrees c (option_map_or (teardown_of r heard) (session_named heard r.session) (accepted (settle heard) [])).state (read_one c g e)
  agrees_teardown method acc p = by (session_named heard r.session)
      (subst (λ o. Matched g_heard o (session_named heard r.session)) named.1 (named_match c heard g_heard heard_agrees r.session))
    where
      named : (m : Made) × (named_in g r.session ≡ Some m)
      named = named_present c st g a r (needs_named st r (ap needs_session method) p.present) p.present

      ended : (m : Made) → Has m (living g) → ends c g e m ≡ names r.session m.id
      ended m h = ap (λ b. b && is_teardown r.method && names r.session m.id) acc ∙ ap (λ b. b && names r.session m.id) (ap is_teardown method)

      read : read_one c g e ≡ over_read (λ m. names r.session m.id) g_heard
      read = hears_read (λ m. names r.session m.id) (no_session (ap is_setup method)) (no_change (ap changes method))
          (λ s. not_played s (ap is_play method)) ended

      by : (q : Option Session) → Matched g_heard (Some named.0) q
          → Agrees c (option_map_or (teardown_of r heard) q (accepted (settle heard) [])).state (read_one c g e)
      by None same = absurd same
      by (Some s) same = subst (Agrees c (end_where (is_session s.id) heard).state) (sym read)
          (agrees_ended c heard g_heard (λ m. names r.session m.id) (is_session s.id)
          (λ k t h i. names_it g_heard heard_agrees.loosely.told r.session named.0 s.id named.1 same.id k t h i) heard_agrees)
