-- The recording law in the words of what is read of a history.
use Rattle.std.proofs.Common.{◌≡◌, ◌⊎◌, inl, inr, ℕ, ◌==◌, ◌&&◌, Bool, true, false, cond, List, [], ◌∷◌, ◌++◌, filter, Option, Some, None, is_some, option_map, refl, ap, sym, subst, ◌∙◌, if◌then◌else◌, option_and_then}
use Rattle.std.specs.Option.{option_map_or}
use Rattle.std.proofs.lemmas.Bool.{eqb-true}
use Rattle.satip_base.specs.Lists.{Each, Has}
use Rattle.satip_tune.specs.Frontends.{mux_for}
use Rattle.satip_ts.specs.Recording.{cut_packets}
use Rattle.satip_plain.specs.declared.events.Event.{Event}
use Rattle.satip_plain.specs.declared.events.Event.TheVariants.{Request as Asked, Get as Got, Tick, Packet, Ended, Ask, Pull, Close, Stop}
use Rattle.satip_plain.specs.declared.setting.Setting.{Setting}
use Rattle.satip_plain.specs.Types.{Config}
use Rattle.satip_plain.specs.State.{State, Stream, Row, is_at, row_of, served_by}
use Rattle.satip_plain.specs.Steps.{step, is_current}
use Rattle.satip_plain.specs.Values.{IsEvent}
use Rattle.satip_plain.specs.Histories.{Item, Legal, LegalFrom, opening, after}
use Rattle.satip_plain.specs.Readings.{Made, Readings, living, nothing_read, read_one, readings}
use Rattle.satip_laws.specs.Agreement.{stream_told}
use Rattle.satip_laws.proofs.Agree.{Agrees, serves_same, stream_here}
use Rattle.satip_laws.proofs.Finding.{find_has, any_has}
use Rattle.satip_laws.proofs.Law.{agrees_after, agrees_opening}
use Rattle.satip_laws.proofs.Steps.{agrees_step}
use Rattle.satip_laws.specs.Recorded.{current_in, current_from, AreTunedTo, BeginsTold, IsRecorded}
use Rattle.satip_laws.specs.ReadRecording.{is_taken, is_fresh, fresh_in, fresh_from, PacketsAreOfRecordings}
use Rattle.satip_laws.proofs.Fronts.{serves, any_served}
use Rattle.satip_laws.proofs.Recording.{packets_recorded}

-- a stream at a front end has its row
at_is : (o : Option ℕ) (f : ℕ) → is_at o f ≡ true → o ≡ Some f
at_is None f e = cc
at_is (Some n) f e = ap (λ k. Some k) (eqb-true n f e)

serves_row : (c : Config) (st : State) (g : Readings) → Agrees c st g → (f : ℕ) → serves st f ≡ true → is_some (row_of st f) ≡ true
serves_row c st g agrees f on =
    let there = any_has (λ t. is_at t.front f) st.streams (sym (any_served f st.streams) ∙ on) in
    agrees.loosely.kept.placed there.0 f there.1 (at_is there.0.front f there.2)

-- a packet is stale as read where it is stale
same_fresh : (c : Config) (st : State) (g : Readings) → Agrees c st g → (f u : ℕ) → is_current st f u ≡ is_fresh g f u
same_fresh c st g agrees f u = by (row_of st f) refl (serves st f) refl (agrees.loosely.tunes f)
  where
    taken : is_taken g f ≡ serves st f
    taken = sym (serves_same c st g agrees f) ∙ sym (any_served f st.streams)

    none : (b : Bool) → (b && false) ≡ false
    none true = refl
    none false = refl

    by : (o : Option Row) → row_of st f ≡ o → (b : Bool) → serves st f ≡ b → option_map_or (λ r. r.tune) o 0 ≡ g.tune f
        → (option_map_or (λ r. r.tune == u) o false && serves st f) ≡ (g.tune f == u && is_taken g f)
    by (Some r) e b on tune = ap (λ n. n == u && serves st f) tune ∙ ap (λ x. g.tune f == u && x) (sym taken)
    by None e false on tune = sym (none (g.tune f == u)) ∙ ap (λ x. g.tune f == u && x) (sym (taken ∙ on))
    by None e true on tune = let some : is_some (row_of st f) ≡ true = serves_row c st g agrees f on in let no_way : is_some (row_of st f) ≡ false =
        ap is_some e in cc

fresh_one : (c : Config) (st : State) (g : Readings) → Agrees c st g → (e : Event) (f u : ℕ) → current_in st e f u ≡ fresh_in g e f u
fresh_one c st g agrees (Packet k n packet) f u = ap (λ b. if k == f && n == u && b then packet ∷ [] else []) (same_fresh c st g agrees k n)
fresh_one c st g agrees (Asked peer draw r) f u = refl
fresh_one c st g agrees (Got peer draw r) f u = refl
fresh_one c st g agrees (Tick now) f u = refl
fresh_one c st g agrees (Ended k n) f u = refl
fresh_one c st g agrees (Ask k) f u = refl
fresh_one c st g agrees (Pull id) f u = refl
fresh_one c st g agrees (Close id) f u = refl
fresh_one c st g agrees Stop f u = refl

fresh_all : (c : Config) (es : List Item) (st : State) (g : Readings) (f u : ℕ) → Each (λ e. IsEvent e.event) es → LegalFrom c st es → Agrees c st g
    → current_from c st es f u ≡ fresh_from c g es f u
fresh_all c [] st g f u events legal agrees = refl
fresh_all c (e ∷ es) st g f u events legal agrees =
    ap (λ l. l ++ current_from c (step c st e.event).state es f u) (fresh_one c st g agrees e.event f u)
    ∙ ap (λ l. fresh_in g e.event f u ++ l)
    (fresh_all c es (step c st e.event).state (read_one c g e) f u events.1 legal.1 (agrees_step c st g e events.0 legal.0 agrees))

-- a beginning of a legal history is legal
pub legal_before : (c : Setting) (h k : List Item) → Legal c (h ++ k) → Legal c h
legal_before c h k legal =
    record { servable = legal.servable; setting = legal.setting; events = events h legal.events; entries = entries h (opening c) legal.entries }
  where
    events : (h : List Item) → Each (λ e. IsEvent e.event) (h ++ k) → Each (λ e. IsEvent e.event) h
    events [] each = tt
    events (e ∷ h) each = (each.0, events h each.1)

    entries : (h : List Item) (st : State) → LegalFrom c.config st (h ++ k) → LegalFrom c.config st h
    entries [] st legal = tt
    entries (e ∷ h) st legal = (legal.0, entries h (step c.config st e.event).state legal.1)

-- the streams at a front end are tuned as they are read
served_has : (f : ℕ) (ts : List Stream) (t : Stream) → Has t ts → is_at t.front f ≡ true → Has t (filter (λ x. is_at x.front f) ts)
served_has f [] t has e = absurd has
served_has f (x ∷ ts) t has e = by (is_at x.front f) refl has (λ h. served_has f ts t h e)
  where
    by : (b : Bool) → is_at x.front f ≡ b → (t ≡ x) ⊎ Has t ts → (Has t ts → Has t (filter (λ x. is_at x.front f) ts))
        → Has t (cond b (x ∷ filter (λ x. is_at x.front f) ts) (filter (λ x. is_at x.front f) ts))
    by true g (inl same) rest = inl same
    by true g (inr later) rest = inr (rest later)
    by false g (inl same) rest = let here : is_at x.front f ≡ true = ap (λ y. is_at y.front f) (sym same) ∙ e in absurd (clash (is_at x.front f) g here)
      where
        clash : (b : Bool) → b ≡ false → b ≡ true → ⊥
        clash b p q = cc
    by false g (inr later) rest = rest later

each_has : (P : Stream → Type 0) (ts : List Stream) (t : Stream) → Each P ts → Has t ts → P t
each_has P [] t each has = absurd has
each_has P (x ∷ ts) t each (inl same) = subst P (sym same) each.0
each_has P (x ∷ ts) t each (inr later) = each_has P ts t each.1 later

read_at : (c : Config) (st : State) (g : Readings) (f mux : ℕ) → Agrees c st g → AreTunedTo c mux (served_by st f) → (ms : List Made)
    → ((m : Made) → Has m ms → Has m (living g))
    → Each (λ m. is_at (g.front m.home) f ≡ true → option_and_then (mux_for c.muxes) (g.tuned m.home) ≡ Some mux) ms
read_at c st g f mux agrees tuned [] lives = tt
read_at c st g f mux agrees tuned (m ∷ ms) lives = (one, read_at c st g f mux agrees tuned ms (λ k h. lives k (inr h)))
  where
    one : is_at (g.front m.home) f ≡ true → option_and_then (mux_for c.muxes) (g.tuned m.home) ≡ Some mux
    one here =
        let there : Has (stream_told g m.home) st.streams =
        (find_has (λ t. t.number == g.number m.home) st.streams (stream_told g m.home) (stream_here c st g agrees m (lives m (inl refl)))).0 in
        each_has (λ t. option_and_then (mux_for c.muxes) t.tuning ≡ Some mux) (served_by st f) (stream_told g m.home) tuned
        (served_has f st.streams (stream_told g m.home) there here)

pub packets_of_recordings : PacketsAreOfRecordings
packets_of_recordings c h caller f u recording due early legal few of pumps = record {
  mux = law.mux;
  packets = subst (λ (l : List (List ℕ)). BeginsTold l (told law.mux))
      (fresh_all c.config h (opening c) (nothing_read c) f u legal.events legal.entries (agrees_opening c)) law.packets;
  streams = λ g k e packet is event on.
      let agrees : Agrees c.config (after c g) (readings c g) = agrees_after c g (legal_before c g (e ∷ k) (subst (Legal c) is legal)) in
      read_at c.config (after c g) (readings c g) f law.mux agrees
      (law.streams g k e packet is event (same_fresh c.config (after c g) (readings c g) agrees f u ∙ on)) (living (readings c g)) (λ m h. h);
}
  where
    law : IsRecorded c h f u recording
    law = packets_recorded c h caller f u recording due early legal few of pumps

    told : ℕ → Option (List (List ℕ))
    told m = option_map cut_packets (recording m)
