-- The pull law.
use Rattle.std.proofs.Common.{arith, ◌≡◌, ◌⊎◌, inl, inr, ℕ, ◌+◌, ◌==◌, ◌<◌, ◌≤◌, ◌&&◌, Bool, true, false, cond, List, [], ◌∷◌, ◌++◌, length, drop, Option, Some, None, refl, ap, sym, subst, ◌∙◌, append-nil, append_assoc, length-append}
use Rattle.std.specs.Option.{option_map_or}
use Rattle.std.proofs.lemmas.List.{take-append-drop}
use Rattle.std.proofs.lemmas.Bool.{eq-eqb, and_from}
use Rattle.satip_plain.proofs.SameIds.{same_id_is}
use Rattle.satip_base.specs.Lists.{Has, Each, Begins}
use Rattle.satip_base.specs.Output.{Output}
use Rattle.satip_plain.specs.declared.answers.Answer.{Answer}
use Rattle.satip_plain.specs.declared.answers.Answer.TheVariants.{Replied, Get, Beat, Work, Pulled, Closed}
use Rattle.satip_plain.specs.declared.answers.Pulled.TheVariants.{Bytes, Empty, Gone as PulledGone}
use Rattle.satip_plain.specs.declared.events.Event.{Event}
use Rattle.satip_plain.specs.declared.events.Event.TheVariants.{Request as Asked, Get as Got, Tick, Packet, Ended, Ask, Pull, Close, Stop}
use Rattle.satip_plain.specs.Types.{SessionId, Config}
use Rattle.satip_plain.specs.State.{Session, State, same_id, http_session, held}
use Rattle.satip_plain.specs.Sending.{settle}
use Rattle.satip_plain.specs.Steps.{step, outcome, pull_some, most_queued}
use Rattle.satip_plain.specs.Values.{IsEvent}
use Rattle.satip_plain.specs.Histories.{Item, LegalFrom, Fits, opening}
use Rattle.satip_plain.specs.Readings.{Made, Readings, living, living_session, living_http, any_where, makes, ends, is_selected, packet_in, pulled_by, nothing_read, read_one, read_from}
use Rattle.satip_laws.specs.Pulling.{PullsInOrder}
use Rattle.satip_laws.proofs.SameTests.{none_true}
use Rattle.satip_laws.proofs.Finding.{either_way}
use Rattle.satip_laws.proofs.Agree.{Agrees, Matched, alike_back, living_found}
use Rattle.satip_laws.proofs.Sweeping.{living_none}
use Rattle.satip_laws.proofs.Moments.{http_match, http_some}
use Rattle.satip_laws.proofs.Reading.{item}
use Rattle.satip_laws.proofs.Steps.{agrees_step}
use Rattle.satip_laws.proofs.Latest.{lives_on, lived_before, makes_new}
use Rattle.satip_laws.proofs.Law.{agrees_opening}

-- what holds of every id, and of every HTTP session that lives
pub record InOrder (g : Readings) : Type 0 where
  pub begins : (s : SessionId) → Begins (g.pulled s) (g.selected s)
  pub near : (m : Made) → Has m (living g) → m.http ≡ true → length (g.selected m.id) ≤ length (g.pulled m.id) + most_queued

begins_more : (xs ys zs : List (List ℕ)) → Begins xs ys → Begins xs (ys ++ zs)
begins_more xs ys zs b = record { rest = b.rest ++ zs; whole = ap (λ l. l ++ zs) b.whole ∙ append_assoc xs b.rest zs }

abbrev more_selected : Readings → Item → SessionId → List (List ℕ)
more_selected g e s = cond (any_where (is_selected g e.event) (living_session g s)) (packet_in e.event) []

-- an id of which nothing is pulled
begins_on : (c : Config) (g : Readings) (e : Item) (s : SessionId) → pulled_by e s ≡ [] → Begins (g.pulled s) (g.selected s)
    → Begins ((read_one c g e).pulled s) ((read_one c g e).selected s)
begins_on c g e s none b =
    subst (λ xs. Begins xs (g.selected s ++ more_selected g e s)) (sym (ap (λ xs. g.pulled s ++ xs) none ∙ append-nil (g.pulled s)))
    (begins_more (g.pulled s) (g.selected s) (more_selected g e s) b)

-- a living HTTP session
begins_living : (c : Config) (st : State) (g : Readings) → Agrees c st g → (m : Made) → Has m (living g) → m.http ≡ true
    → Begins (g.pulled m.id) (g.selected m.id)
begins_living c st g a m h http =
    let b = alike_back g m (living g) st.sessions a.loosely.sessions h in
    let q = b.2.queue (b.2.http ∙ http) in
    record {
      rest = drop (length (g.pulled m.id)) b.0.picked;
      whole = sym b.2.picked ∙ sym (take-append-drop (length (g.pulled m.id)) b.0.picked) ∙ ap (λ xs. xs ++ drop (length (g.pulled m.id)) b.0.picked) q.begins;
    }

pulled_other : (caller : ℕ) (id s : SessionId) (answer : Answer) (out : Output) → same_id id s ≡ false → pulled_by (item caller (Pull id) answer out) s ≡ []
pulled_other caller id s (Replied replied) out k = refl
pulled_other caller id s (Get started) out k = refl
pulled_other caller id s (Beat beat) out k = refl
pulled_other caller id s (Work work) out k = refl
pulled_other caller id s (Pulled (Bytes n)) out k = rw k refl
pulled_other caller id s (Pulled Empty) out k = refl
pulled_other caller id s (Pulled PulledGone) out k = refl
pulled_other caller id s (Closed closed) out k = refl

module _ (c : Config) (st : State) (g : Readings) (a : Agrees c st g) (e : Item) (is : IsEvent e.event) (fits : Fits (step c st e.event) e)
    (order : InOrder g) where
  pulls_nothing : (event : Event) → e.event ≡ event → ((id : SessionId) → event ≡ Pull id → ⊥) → (s : SessionId) → pulled_by e s ≡ []
  pulls_nothing (Asked peer draw r) f other s = rw f refl
  pulls_nothing (Got peer draw r) f other s = rw f refl
  pulls_nothing (Tick now) f other s = rw f refl
  pulls_nothing (Packet front tune packet) f other s = rw f refl
  pulls_nothing (Ended front tune) f other s = rw f refl
  pulls_nothing (Ask front) f other s = rw f refl
  pulls_nothing (Pull id) f other s = absurd (other id refl)
  pulls_nothing (Close id) f other s = rw f refl
  pulls_nothing Stop f other s = rw f refl

  begins_step : (s : SessionId) → Begins ((read_one c g e).pulled s) ((read_one c g e).selected s)
  begins_step s = by e.event refl
    where
      later : Agrees c (step c st e.event).state (read_one c g e)
      later = agrees_step c st g e is fits a

      plainly : ((id : SessionId) → e.event ≡ Pull id → ⊥) → Begins ((read_one c g e).pulled s) ((read_one c g e).selected s)
      plainly other = begins_on c g e s (pulls_nothing e.event refl other s) (order.begins s)

      gone : (id : SessionId) → e.event ≡ Pull id → e.answer ≡ Pulled PulledGone → Begins ((read_one c g e).pulled s) ((read_one c g e).selected s)
      gone id f answer = begins_on c g e s (rw (f, answer) refl) (order.begins s)

      pulled : (id : SessionId) → e.event ≡ Pull id → (m : Made) → living_http g id ≡ Some m → (b : Bool) → same_id id s ≡ b
          → Begins ((read_one c g e).pulled s) ((read_one c g e).selected s)
      pulled id f m there true k =
          let found = http_some g a.loosely.told id m there in
          let lives : Has m (living (read_one c g e)) = lives_on c g e a.loosely.told m found.0 (rw f refl) in
          subst (λ x. Begins ((read_one c g e).pulled x) ((read_one c g e).selected x)) (found.1 ∙ same_id_is id s k)
          (begins_living c (step c st e.event).state (read_one c g e) later m lives found.2)
      pulled id f m there false k = begins_on c g e s (not_it e.answer refl) (order.begins s)
        where
          not_it : (x : Answer) → e.answer ≡ x → pulled_by e s ≡ []
          not_it x j = subst (λ y. pulled_by (item e.caller y e.answer e.out) s ≡ []) (sym f) (pulled_other e.caller id s e.answer e.out k)

      by_match : (id : SessionId) → e.event ≡ Pull id → (o : Option Made) (q : Option Session) → living_http g id ≡ o → Matched g o q
          → e.answer ≡ (option_map_or (λ x. pull_some st x (held x)) q (outcome (settle st) (Pulled PulledGone) [])).answer
          → Begins ((read_one c g e).pulled s) ((read_one c g e).selected s)
      by_match id f None None there same answer = gone id f answer
      by_match id f None (Some x) there same answer = absurd same
      by_match id f (Some m) q there same answer = pulled id f m there (same_id id s) refl

      by : (event : Event) → e.event ≡ event → Begins ((read_one c g e).pulled s) ((read_one c g e).selected s)
      by (Asked peer draw r) f = plainly (λ id k. cc)
      by (Got peer draw r) f = plainly (λ id k. cc)
      by (Tick now) f = plainly (λ id k. cc)
      by (Packet front tune packet) f = plainly (λ id k. cc)
      by (Ended front tune) f = plainly (λ id k. cc)
      by (Ask front) f = plainly (λ id k. cc)
      by (Pull id) f = by_match id f (living_http g id) (http_session st id) refl (http_match c st g id a) (fits.answer ∙ ap (λ x. (step c st x).answer) f)
      by (Close id) f = plainly (λ id k. cc)
      by Stop f = plainly (λ id k. cc)

  near_step : (m : Made) → Has m (living (read_one c g e)) → m.http ≡ true
      → length ((read_one c g e).selected m.id) ≤ length ((read_one c g e).pulled m.id) + most_queued
  near_step m h http = by (lived_before c g e a.loosely.told m h)
    where
      longer : (xs ys zs us : List (List ℕ)) → length xs + length ys ≤ length zs + most_queued → length (xs ++ ys) ≤ length (zs ++ us) + most_queued
      longer xs ys zs us k = let i = length-append xs ys in let j = length-append zs us in omega (arith, i, j, k)

      none_more : Has m (living g) → more_selected g e m.id ≡ []
          → length (g.selected m.id ++ more_selected g e m.id) ≤ length (g.pulled m.id ++ pulled_by e m.id) + most_queued
      none_more lives none = let few = order.near m lives http in
          longer (g.selected m.id) (more_selected g e m.id) (g.pulled m.id) (pulled_by e m.id) (rw none (omega (arith, few)))

      nothing : (event : Event) → packet_in event ≡ [] → e.event ≡ event → more_selected g e m.id ≡ []
      nothing event none f = ap (λ ps. cond (any_where (is_selected g e.event) (living_session g m.id)) ps []) (ap packet_in f ∙ none)
          ∙ sym (either_way [] (any_where (is_selected g e.event) (living_session g m.id)))

      full : (front tune : ℕ) (packet : List ℕ) → e.event ≡ Packet front tune packet → ends c g e m ≡ false → is_selected g (Packet front tune packet) m ≡ true
          → length (g.selected m.id) ≡ length (g.pulled m.id) + most_queued → ⊥
      full front tune packet f stays sel long =
          none_true (m.http && is_selected g (Packet front tune packet) m && length (g.selected m.id) == length (g.pulled m.id) + most_queued)
          (and_from (m.http && is_selected g (Packet front tune packet) m) (length (g.selected m.id) == length (g.pulled m.id) + most_queued)
          (and_from m.http (is_selected g (Packet front tune packet) m) http sel)
          (eq-eqb (length (g.selected m.id)) (length (g.pulled m.id) + most_queued) long))
          (sym (ap (λ y. ends c g (item e.caller y e.answer e.out) m) f) ∙ stays)

      packet : (front tune : ℕ) (p : List ℕ) → e.event ≡ Packet front tune p → Has m (living g) → ends c g e m ≡ false
          → length (g.selected m.id ++ more_selected g e m.id) ≤ length (g.pulled m.id ++ pulled_by e m.id) + most_queued
      packet front tune p f lives stays = one (is_selected g (Packet front tune p) m) refl
        where
          more : more_selected g e m.id ≡ cond {A = List (List ℕ)} (is_selected g (Packet front tune p) m) (p ∷ []) []
          more = ap (λ y. cond {A = List (List ℕ)} (any_where (is_selected g y) (living_session g m.id)) (packet_in y) []) f
              ∙ ap (λ o. cond {A = List (List ℕ)} (any_where (is_selected g (Packet front tune p)) o) (p ∷ []) []) (living_found g a.loosely.told m lives)

          one : (b : Bool) → is_selected g (Packet front tune p) m ≡ b
              → length (g.selected m.id ++ more_selected g e m.id) ≤ length (g.pulled m.id ++ pulled_by e m.id) + most_queued
          one false k = none_more lives (more ∙ ap (λ b. cond {A = List (List ℕ)} b (p ∷ []) []) k)
          one true k =
              let few = order.near m lives http in
              let other = full front tune p f stays k in
              let one_more : length (more_selected g e m.id) ≡ 1 = ap length (more ∙ ap (λ b. cond {A = List (List ℕ)} b (p ∷ []) []) k) in
              longer (g.selected m.id) (more_selected g e m.id) (g.pulled m.id) (pulled_by e m.id) (omega (arith, few, other, one_more))

      old : (event : Event) → e.event ≡ event → Has m (living g) → ends c g e m ≡ false
          → length (g.selected m.id ++ more_selected g e m.id) ≤ length (g.pulled m.id ++ pulled_by e m.id) + most_queued
      old (Asked peer draw r) f lives stays = none_more lives (nothing (Asked peer draw r) refl f)
      old (Got peer draw r) f lives stays = none_more lives (nothing (Got peer draw r) refl f)
      old (Tick now) f lives stays = none_more lives (nothing (Tick now) refl f)
      old (Packet front tune p) f lives stays = packet front tune p f lives stays
      old (Ended front tune) f lives stays = none_more lives (nothing (Ended front tune) refl f)
      old (Ask front) f lives stays = none_more lives (nothing (Ask front) refl f)
      old (Pull id) f lives stays = none_more lives (nothing (Pull id) refl f)
      old (Close id) f lives stays = none_more lives (nothing (Close id) refl f)
      old Stop f lives stays = none_more lives (nothing Stop refl f)

      by : (Has m (living g) × (ends c g e m ≡ false)) ⊎ (makes g e ≡ Some m)
          → length (g.selected m.id ++ more_selected g e m.id) ≤ length (g.pulled m.id ++ pulled_by e m.id) + most_queued
      by (inl p) = old e.event refl p.0 p.1
      by (inr made) =
          let new : m.id.count ≡ length g.made + 1 = makes_new g e m made in
          let above : length g.made < m.id.count = omega (arith, new) in
          let u = a.loosely.told.unmade m.id above in
          let none : more_selected g e m.id ≡ [] = ap (λ o. cond {A = List (List ℕ)} (any_where (is_selected g e.event) o) (packet_in e.event) [])
          (living_none g a.loosely.told m.id above) in
          let no_selected : length (g.selected m.id) ≡ 0 = ap length u.selected in
          let no_more : length (more_selected g e m.id) ≡ 0 = ap length none in
          longer (g.selected m.id) (more_selected g e m.id) (g.pulled m.id) (pulled_by e m.id) (omega (arith, no_selected, no_more))

  order_step : InOrder (read_one c g e)
  order_step = record { begins = begins_step; near = near_step }

order_from : (c : Config) (h : List Item) (st : State) (g : Readings) → Each (λ e. IsEvent e.event) h → LegalFrom c st h → Agrees c st g → InOrder g
    → InOrder (read_from c g h)
order_from c [] st g events legal a order = order
order_from c (e ∷ h) st g events legal a order =
    order_from c h (step c st e.event).state (read_one c g e) events.1 legal.1 (agrees_step c st g e events.0 legal.0 a)
    (order_step c st g a e events.0 legal.0 order)

pub pulls_in_order : PullsInOrder
pulls_in_order c h m legal made http =
    let order = order_from c.config h (opening c) (nothing_read c) legal.events legal.entries (agrees_opening c)
    (record { begins = λ s. record { rest = []; whole = refl }; near = λ n k i. absurd k }) in
    record { begins = order.begins m.id; near = λ lives. order.near m lives http }
