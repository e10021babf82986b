-- What a history does to every session.
use Rattle.std.proofs.Common.{arith, ◌≡◌, ℕ, ◌+◌, ◌≤◌, ◌&&◌, Bool, true, false, List, [], ◌∷◌, ◌++◌, map, length, Option, Some, None, is_none, option_to_list, refl, ap, sym, ◌∙◌, if◌then◌else◌, unwrap_or}
use Rattle.std.specs.List.{range_with_len}
use Rattle.satip_plain.specs.declared.events.Event.{Event}
use Rattle.satip_plain.specs.declared.events.Event.TheVariants.{Request as Asked, Get as Got, Tick, Packet, Ended, Ask, Pull, Close, Stop}
use Rattle.satip_plain.specs.declared.setting.Setting.{Setting}
use Rattle.satip_plain.specs.Types.{SessionId, Config}
use Rattle.satip_plain.specs.State.{Session, State, same_id}
use Rattle.satip_plain.specs.Refusals.{decide, decide_get, makes_session}
use Rattle.satip_plain.specs.Steps.{step, new_session, no_ports, setup_number, least_free}
use Rattle.satip_plain.specs.Histories.{Item, opening, after_from}
use Rattle.satip_plain.specs.Packets.{sent_from}
use Rattle.satip_laws.specs.Makings.{made_by, made_from, SessionsAreCounted}
use Rattle.satip_laws.specs.Given.{given_in, given_from}
use Rattle.satip_laws.specs.Pulls.{taken_in, taken_from}
use Rattle.satip_laws.proofs.Ids.{look, or_else, or_else_none, or_else_assoc, look_append, Above, above_less, above_absent, below_found, found_id}
use Rattle.satip_laws.proofs.Told.{Told, told, told-append}
use Rattle.satip_laws.proofs.Evolving.{Fine, Runs, runs_still, evolves_then, most_of}
use Rattle.satip_laws.proofs.Moves.{IsSound}
use Rattle.satip_laws.proofs.Events.{StepOf, a_step}

-- a session as it is made: the next in count, and nothing was given to it yet
pub record IsNew (made : ℕ) (x : Session) : Type 0 where
  pub count : x.id.count ≡ made + 1
  pub picked : x.picked ≡ []
  pub sizes : x.sizes ≡ []

pub new_one : (c : Config) (st : State) (e : Event) (x : Session) → made_by c st e ≡ Some x → IsNew st.made x
new_one c st (Asked peer draw r) x e = by (makes_session r && is_none (decide c st r)) e
  where
    by : (b : Bool) → (if b then Some (new_session st false peer draw (unwrap_or r.ports no_ports) (setup_number r st)) else None) ≡ Some x → IsNew st.made x
    by true f = let same : new_session st false peer draw (unwrap_or r.ports no_ports) (setup_number r st) ≡ x = cc in
        record { count = ap (λ z. z.id.count) (sym same); picked = ap (λ z. z.picked) (sym same); sizes = ap (λ z. z.sizes) (sym same) }
    by false f = cc
new_one c st (Got peer draw r) x e = by (is_none (decide_get c st r)) e
  where
    by : (b : Bool) → (if b then Some (new_session st true peer draw no_ports (least_free st.streams)) else None) ≡ Some x → IsNew st.made x
    by true f = let same : new_session st true peer draw no_ports (least_free st.streams) ≡ x = cc in
        record { count = ap (λ z. z.id.count) (sym same); picked = ap (λ z. z.picked) (sym same); sizes = ap (λ z. z.sizes) (sym same) }
    by false f = cc
new_one c st (Tick now) x e = cc
new_one c st (Packet front tune packet) x e = cc
new_one c st (Ended front tune) x e = cc
new_one c st (Ask front) x e = cc
new_one c st (Pull id) x e = cc
new_one c st (Close id) x e = cc
new_one c st Stop x e = cc

-- the sessions made from a state on are beyond those made before
above_append : (n : ℕ) (xs ys : List Session) → Above n xs → Above n ys → Above n (xs ++ ys)
above_append n [] ys a b = b
above_append n (x ∷ xs) ys a b = (a.0, above_append n xs ys a.1 b)

above_one : (n : ℕ) (o : Option Session) → ((x : Session) → o ≡ Some x → x.id.count ≡ n + 1) → Above n (option_to_list o)
above_one n None count = tt
above_one n (Some x) count = (omega (arith, count x refl), tt)

pub made_above : (c : Config) (es : List Item) (st : State) → IsSound st → Above st.made (made_from c st es)
made_above c [] st sound = tt
made_above c (e ∷ es) st sound =
    let step1 = a_step c st e.event sound in
    let rest : Above (step c st e.event).state.made (made_from c (step c st e.event).state es) = made_above c es (step c st e.event).state step1.sound in
    above_append st.made (option_to_list (made_by c st e.event)) (made_from c (step c st e.event).state es)
    (above_one st.made (made_by c st e.event) (λ x f. (new_one c st e.event x f).count))
    (above_less st.made (step c st e.event).state.made (made_from c (step c st e.event).state es) (omega (arith, step1.made)) rest)

look_one_made : (s : SessionId) (o : Option Session) (x : Session) → look s (option_to_list o) ≡ Some x → o ≡ Some x
look_one_made s None x e = cc
look_one_made s (Some y) x e = by (same_id y.id s) e
  where
    by : (b : Bool) → (if b then Some y else None) ≡ Some x → Some y ≡ Some x
    by true f = f
    by false f = cc

-- whoever is known before or made by an event has a count within those made after it
known_few : (c : Config) (st : State) (e : Event) (s : SessionId) (x : Session) → IsSound st
    → or_else (look s st.sessions) (look s (option_to_list (made_by c st e))) ≡ Some x
    → s.count ≤ (step c st e).state.made
known_few c st e s x sound f = by (look s st.sessions) refl f
  where
    step1 : StepOf st (step c st e) (made_by c st e) (given_in st e) (taken_in st e)
    step1 = a_step c st e sound

    new_few : (o : Option Session) → made_by c st e ≡ o → o ≡ Some x → (step c st e).state.made ≡ st.made + length (option_to_list o) → s.count ≡ x.id.count
        → s.count ≤ (step c st e).state.made
    new_few None g h made same = cc
    new_few (Some y) g h made same = omega (arith, (new_one c st e x (g ∙ h)).count, made, same)

    by : (o : Option Session) → look s st.sessions ≡ o → or_else o (look s (option_to_list (made_by c st e))) ≡ Some x → s.count ≤ (step c st e).state.made
    by (Some y) g h = omega (arith, below_found st.made s st.sessions y sound.below g, step1.made)
    by None g h = new_few (made_by c st e) refl (look_one_made s (made_by c st e) x h) step1.made
        (ap (λ i. i.count) (sym (found_id s (option_to_list (made_by c st e)) x h)))

join_runs : (k o r : Option Session) (ts us : List Told) (g t h u : List (List ℕ)) (end : Option Session) → Runs k ts g t o
    → ((x : Session) → k ≡ Some x → r ≡ None) → Runs (or_else o r) us h u end
    → Runs (or_else k r) (ts ++ us) (g ++ h) (t ++ u) end
join_runs None o r ts us g t h u end p none q = rw (p.0, p.1, p.2) (rw p.3 at q)
join_runs (Some x) None r ts us g t h u end p none q = evolves_then x ts g t None us h u end p (rw (none x refl) at q)
join_runs (Some x) (Some y) r ts us g t h u end p none q = evolves_then x ts g t (Some y) us h u end p q

-- what becomes of the session of an id, from the state or from its making on
pub over : (c : Config) (es : List Item) (s : SessionId) (st : State) → IsSound st
    → Runs (or_else (look s st.sessions) (look s (made_from c st es))) (told s (sent_from c st es)) (given_from c st es s) (taken_from c st es s)
    (look s (after_from c st es).sessions)
over c [] s st sound = rw (or_else_none (look s st.sessions)) (runs_still (look s st.sessions))
over c (e ∷ es) s st sound =
    let st1 : State = (step c st e.event).state in
    let step1 = a_step c st e.event sound in
    let first : List Session = option_to_list (made_by c st e.event) in
    let more : List Session = made_from c st1 es in
    let known : Option Session = or_else (look s st.sessions) (look s first) in
    rw (look_append s first more, or_else_assoc (look s st.sessions) (look s first) (look s more), told-append s (step c st e.event).sent (sent_from c st1 es))
    (join_runs known (look s st1.sessions) (look s more) (told s (step c st e.event).sent) (told s (sent_from c st1 es)) _ _ _ _
    (look s (after_from c st1 es).sessions)
    (step1.runs s)
    (λ x f. above_absent st1.made s more (made_above c es st1 step1.sound) (known_few c st e.event s x sound f))
    (over c es s st1 step1.sound))

pub sound_after : (c : Config) (es : List Item) (st : State) → IsSound st → IsSound (after_from c st es)
sound_after c [] st sound = sound
sound_after c (e ∷ es) st sound = sound_after c es (step c st e.event).state (a_step c st e.event sound).sound

pub opening_sound : (c : Setting) → IsSound (opening c)
opening_sound c = record { apart = tt; below = tt; single = record { few = λ n. omega arith }; fine = λ s x e. cc }

-- nothing was given to a session as it is made
pub record IsFresh (x : Session) : Type 0 where
  pub picked : x.picked ≡ []
  pub sizes : x.sizes ≡ []

pub fresh_fine : (x : Session) → IsFresh x → Fine x
fresh_fine x fresh = record { within = rw (fresh.sizes, fresh.picked) (omega arith); few = rw (fresh.sizes, fresh.picked) (by x.http) }
  where
    by : (b : Bool) → 0 ≤ most_of b
    by true = omega arith
    by false = omega arith

pub fresh_made : (c : Config) (es : List Item) (s : SessionId) (st : State) (x : Session) → look s (made_from c st es) ≡ Some x → IsFresh x
fresh_made c [] s st x e = cc
fresh_made c (e ∷ es) s st x f =
    by (look s (option_to_list (made_by c st e.event))) refl
    (sym (look_append s (option_to_list (made_by c st e.event)) (made_from c (step c st e.event).state es)) ∙ f)
    (λ g. fresh_made c es s (step c st e.event).state x g)
  where
    by : (o : Option Session) → look s (option_to_list (made_by c st e.event)) ≡ o → or_else o (look s (made_from c (step c st e.event).state es)) ≡ Some x
        → (look s (made_from c (step c st e.event).state es) ≡ Some x → IsFresh x) → IsFresh x
    by None g h rest = rest h
    by (Some y) g h rest =
        let same : y ≡ x = cc in
        let new : IsNew st.made y = new_one c st e.event y (look_one_made s (made_by c st e.event) y g) in
        record { picked = ap (λ z. z.picked) (sym same) ∙ new.picked; sizes = ap (λ z. z.sizes) (sym same) ∙ new.sizes }

-- counts
counted_from : (c : Config) (es : List Item) (st : State) → IsSound st
    → map (λ x. x.id.count) (made_from c st es) ≡ range_with_len (st.made + 1) (length (made_from c st es))
counted_from c [] st sound = refl
counted_from c (e ∷ es) st sound =
    let step1 = a_step c st e.event sound in
    by (made_by c st e.event) (λ x f. (new_one c st e.event x f).count) step1.made (counted_from c es (step c st e.event).state step1.sound)
  where
    st1 : State
    st1 = (step c st e.event).state

    by : (o : Option Session) → ((x : Session) → o ≡ Some x → x.id.count ≡ st.made + 1) → st1.made ≡ st.made + length (option_to_list o)
        → map (λ x. x.id.count) (made_from c st1 es) ≡ range_with_len (st1.made + 1) (length (made_from c st1 es))
        → map (λ x. x.id.count) (option_to_list o ++ made_from c st1 es) ≡ range_with_len (st.made + 1) (length (option_to_list o ++ made_from c st1 es))
    by None count made rest = let same : st1.made ≡ st.made = made ∙ omega arith in rest ∙ ap (λ n. range_with_len (n + 1) (length (made_from c st1 es))) same
    by (Some x) count made rest =
        ap (λ n. n ∷ map (λ x. x.id.count) (made_from c st1 es)) (count x refl)
        ∙ ap (λ l. (st.made + 1) ∷ l) (rest ∙ ap (λ n. range_with_len (n + 1) (length (made_from c st1 es))) made)

pub sessions_counted : SessionsAreCounted
sessions_counted c h = counted_from c.config h (opening c) (opening_sound c)
