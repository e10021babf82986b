-- The packets of a tuning number are a beginning of one recording.
use Rattle.std.proofs.Common.{arith, ◌≡◌, ◌⊎◌, inl, inr, ℕ, suc, ◌+◌, ◌%◌, ◌^◌, ◌<◌, ◌≤◌, ◌==◌, ◌&&◌, Bool, true, false, cond, List, [], ◌∷◌, ◌++◌, map, length, filter, find, Option, Some, None, option_map, refl, ap, sym, subst, ◌∙◌, if◌then◌else◌, unwrap_or, option_and_then}
use Rattle.std.specs.Option.{option_map_or}
use Rattle.std.proofs.lemmas.Bool.{and_parts, eqb-true, eqb-false, eq-eqb, ne_eqb}
use Rattle.satip_base.specs.History.{own_of, kept_if}
use Rattle.satip_base.specs.Lists.{Each}
use Rattle.satip_tune.specs.declared.frontends.Front.{Front}
use Rattle.satip_ts.specs.Recording.{cut_packets}
use Rattle.satip_plain.specs.declared.answers.Answer.TheVariants.{Work as WorkIs}
use Rattle.satip_plain.specs.declared.answers.Work.{Work}
use Rattle.satip_plain.specs.declared.answers.Work.TheVariants.{Tune, Nothing, Stopping}
use Rattle.satip_plain.specs.declared.events.Event.{Event}
use Rattle.satip_plain.specs.declared.events.Event.TheVariants.{Request as Asked, Get as Got, Tick, Packet, Ended, Ask, Pull, Close, Stop}
use Rattle.satip_plain.specs.declared.setting.Setting.{Setting}
use Rattle.satip_plain.specs.Types.{Config}
use Rattle.satip_plain.specs.State.{State, Stream, Row, is_at, row_of, served_by}
use Rattle.satip_plain.specs.Steps.{step, is_current, work, work_of_row}
use Rattle.satip_plain.specs.Histories.{Item, LegalFrom, opening, after_from, untuned}
use Rattle.satip_plain.specs.Pumping.{Reel, Due, Asking, Feeding, Finished, fresh, tuned, after_work, work_told, moved, none_of, rest_of, after_entry, IsFirst, IsDue, Pumps}
use Rattle.satip_laws.specs.Recorded.{current_in, current_from, is_packet_on, PacketsAreOf, BeginsTold, AreTunedTo, IsRecorded, PacketsAreRecorded}
use Rattle.satip_laws.proofs.Fronts.{serves, tune_of, mux_at, IsMatched, AreFronts, Keeps, Anew, Shifts}
use Rattle.satip_laws.proofs.FrontEvents.{event_shifts}

-- a tuning number is the front end's, and it serves

record IsOn (st : State) (f u : ℕ) : Type 0 where
  tune : tune_of st f ≡ Some u
  on : serves st f ≡ true

on_of : (st : State) (f u : ℕ) → is_current st f u ≡ true → IsOn st f u
on_of st f u e = by (row_of st f) refl e
  where
    by : (o : Option Row) → row_of st f ≡ o → (option_map_or (λ r. r.tune == u) o false && serves st f) ≡ true → IsOn st f u
    by None g h = cc
    by (Some r) g h =
        let parts = and_parts (r.tune == u) (serves st f) h in
        record { tune = rw g (ap (λ n. Some n) (eqb-true r.tune u parts.0)); on = parts.1 }

current_of : (st : State) (f u : ℕ) → IsOn st f u → is_current st f u ≡ true
current_of st f u on = by (row_of st f) refl on.tune
  where
    by : (o : Option Row) → row_of st f ≡ o → option_map (λ r. r.tune) o ≡ Some u → (option_map_or (λ r. r.tune == u) o false && serves st f) ≡ true
    by None g h = cc
    by (Some r) g h = let same : r.tune ≡ u = cc in rw (eq-eqb r.tune u same) on.on

not_current : (st : State) (f u : ℕ) → (IsOn st f u → ⊥) → is_current st f u ≡ false
not_current st f u off = by (is_current st f u) refl
  where
    by : (b : Bool) → is_current st f u ≡ b → b ≡ false
    by true e = absurd (off (on_of st f u e))
    by false e = refl

-- the front end's tuning number has room for n more
abbrev HasRoom : State → ℕ → ℕ → Type 0
HasRoom st f n = (t : ℕ) → tune_of st f ≡ Some t → t + n < 18446744073709551616

-- the front end was tuned at least so often, if it is there
abbrev IsReached : State → ℕ → ℕ → Type 0
IsReached st f u = (t : ℕ) → tune_of st f ≡ Some t → u ≤ t

-- once more
once_more : (o : Option ℕ) (t n : ℕ) → ((k : ℕ) → o ≡ Some k → k + suc n < 18446744073709551616) → option_map (λ k. (k + 1) % 2 ^ 64) o ≡ Some t
    → (k : ℕ) × (o ≡ Some k) × (t ≡ k + 1)
once_more None t n room e = cc
once_more (Some k) t n room e =
    let less : k + suc n < 18446744073709551616 = room k refl in
    let same : (k + 1) % 18446744073709551616 ≡ t = cc in
    (k, refl, omega (arith, less, same))

room_after : (st st1 : State) (f n : ℕ) → HasRoom st f (suc n) → Keeps f st st1 ⊎ Anew f st st1 → HasRoom st1 f n
room_after st st1 f n room (inl k) t e = let less : t + suc n < 18446744073709551616 = room t (sym k.tune ∙ e) in omega (arith, less)
room_after st st1 f n room (inr k) t e =
    let old = once_more (tune_of st f) t n room (sym k.tune ∙ e) in
    let less : old.0 + suc n < 18446744073709551616 = room old.0 old.1 in
    omega (arith, old.2, less)

reached_after : (st st1 : State) (f u n : ℕ) → HasRoom st f (suc n) → IsReached st f u → Keeps f st st1 ⊎ Anew f st st1 → IsReached st1 f u
reached_after st st1 f u n room reached (inl k) t e = reached t (sym k.tune ∙ e)
reached_after st st1 f u n room reached (inr k) t e =
    let old = once_more (tune_of st f) t n room (sym k.tune ∙ e) in
    let le : u ≤ old.0 = reached old.0 old.1 in
    omega (arith, old.2, le)

-- who is on was on before, with its multiplex
on_before : (st st1 : State) (f u n : ℕ) → HasRoom st f (suc n) → IsReached st f u → Keeps f st st1 ⊎ Anew f st st1 → IsOn st1 f u
    → IsOn st f u × (mux_at st1 f ≡ mux_at st f)
on_before st st1 f u n room reached (inl k) on = (record { tune = sym k.tune ∙ on.tune; on = (k.on on.on).0 }, (k.on on.on).1)
on_before st st1 f u n room reached (inr k) on =
    let old = once_more (tune_of st f) u n room (sym k.tune ∙ on.tune) in
    let le : u ≤ old.0 = reached old.0 old.1 in
    absurd (omega (arith, old.2, le))

-- no packet is current

current_none : (st : State) (e : Event) (f u : ℕ) → is_current st f u ≡ false → current_in st e f u ≡ []
current_none st (Packet g n packet) f u off = by (g == f) (n == u) refl refl
  where
    by : (a b : Bool) → (g == f) ≡ a → (n == u) ≡ b → (if a && b && is_current st g n then packet ∷ [] else []) ≡ []
    by true true e h =
        let same_front : g ≡ f = eqb-true g f e in
        let same_tune : n ≡ u = eqb-true n u h in
        rw (same_front, same_tune, off) refl
    by true false e h = refl
    by false b e h = refl
current_none st (Asked peer draw r) f u off = refl
current_none st (Got peer draw r) f u off = refl
current_none st (Tick now) f u off = refl
current_none st (Ended g n) f u off = refl
current_none st (Ask g) f u off = refl
current_none st (Pull id) f u off = refl
current_none st (Close id) f u off = refl
current_none st Stop f u off = refl

current_other : (st : State) (e : Event) (f u : ℕ) → is_packet_on f e ≡ false → current_in st e f u ≡ []
current_other st (Packet g n packet) f u other = rw other refl
current_other st (Asked peer draw r) f u other = refl
current_other st (Got peer draw r) f u other = refl
current_other st (Tick now) f u other = refl
current_other st (Ended g n) f u other = refl
current_other st (Ask g) f u other = refl
current_other st (Pull id) f u other = refl
current_other st (Close id) f u other = refl
current_other st Stop f u other = refl

-- a tuning number that is over doesn't come back
over_from : (c : Config) (es : List Item) (st : State) (f u : ℕ) → AreFronts c st → HasRoom st f (length es) → IsReached st f u → is_current st f u ≡ false
    → current_from c st es f u ≡ []
over_from c [] st f u fronts room reached off = refl
over_from c (e ∷ es) st f u fronts room reached off =
    let st1 : State = (step c st e.event).state in
    let shifts = event_shifts c st e.event fronts in
    let off1 : is_current st1 f u ≡ false = not_current st1 f u
    (λ on. still (current_of st f u (on_before st st1 f u (length es) room reached (shifts.each f) on).0)) in
    ap (λ l. l ++ current_from c st1 es f u) (current_none st e.event f u off)
    ∙ over_from c es st1 f u shifts.fronts (room_after st st1 f (length es) room (shifts.each f))
    (reached_after st st1 f u (length es) room reached (shifts.each f)) off1
  where
    still : is_current st f u ≡ true → ⊥
    still on = cc

-- what work tells

record TellsTune (st : State) (f m u : ℕ) : Type 0 where
  on : IsOn st f u
  mux : mux_at st f ≡ Some m

tells_tune : (st : State) (f m u : ℕ) → work st f ≡ Tune m u → TellsTune st f m u
tells_tune st f m u e = by st.stopped (serves st f) refl (row_of st f) refl e
  where
    in_row : (r : Row) → row_of st f ≡ Some r → serves st f ≡ true → (o : Option ℕ) (b : Bool) → r.mux ≡ o
        → option_map_or (λ mux. if b then Nothing else Tune mux r.tune) o Nothing ≡ Tune m u → TellsTune st f m u
    in_row r g on None b h k = cc
    in_row r g on (Some n) true h k = cc
    in_row r g on (Some n) false h k =
        let same_mux : n ≡ m = cc in
        let same_tune : r.tune ≡ u = cc in
        record { on = record { tune = rw g (ap (λ n. Some n) same_tune); on = on }; mux = rw g (h ∙ ap (λ n. Some n) same_mux) }

    by : (s b : Bool) → serves st f ≡ b → (o : Option Row) → row_of st f ≡ o
        → (if s then Stopping else (if b then option_map_or work_of_row o Nothing else Nothing)) ≡ Tune m u → TellsTune st f m u
    by true b on o g h = cc
    by false true on None g h = cc
    by false true on (Some r) g h = in_row r g on r.mux r.ended refl h
    by false false on o g h = cc

-- what a pump reads

reel_of : Due → Option Reel
reel_of (Asking reel) = reel
reel_of (Feeding reel) = Some reel
reel_of Finished = None

-- what is left of the recording of a tuning number: of the reel, where it is read, else the whole of that of multiplex m
abbrev Recordings : Type 0
Recordings = ℕ → Option (List ℕ)

abbrev told_all : Recordings → ℕ → Option (List (List ℕ))
told_all recording m = option_map cut_packets (recording m)

abbrev left_in : Recordings → Option Reel → ℕ → ℕ → Option (List (List ℕ))
left_in recording None m u = told_all recording m
left_in recording (Some reel) m u = if reel.tune == u then reel.left else told_all recording m

-- how the reel stands to the front end: it is of no later tuning number, and of that of multiplex m where it is of u
record IsReady (st : State) (f u m : ℕ) (o : Option Reel) : Type 0 where
  tunes : (r : Reel) (t : ℕ) → o ≡ Some r → tune_of st f ≡ Some t → r.tune ≤ t
  mux : IsOn st f u → unwrap_or (mux_at st f) 0 ≡ m
  reel : (r : Reel) → o ≡ Some r → r.tune ≡ u → IsOn st f u → mux_at st f ≡ Some m

ready_after : (st st1 : State) (f u m n : ℕ) (o : Option Reel) → HasRoom st f (suc n) → IsReached st f u → Keeps f st st1 ⊎ Anew f st st1 → IsReady st f u m o
    → IsReady st1 f u m o
ready_after st st1 f u m n o room reached shift ready = record {
  tunes = λ r t e g. tunes r t e shift g;
  mux = λ on. let was = on_before st st1 f u n room reached shift on in ap (λ x. unwrap_or x 0) was.1 ∙ ready.mux was.0;
  reel = λ r e same on. let was = on_before st st1 f u n room reached shift on in was.1 ∙ ready.reel r e same was.0;
}
  where
    tunes : (r : Reel) (t : ℕ) → o ≡ Some r → Keeps f st st1 ⊎ Anew f st st1 → tune_of st1 f ≡ Some t → r.tune ≤ t
    tunes r t e (inl k) g = ready.tunes r t e (sym k.tune ∙ g)
    tunes r t e (inr k) g =
        let old = once_more (tune_of st f) t n room (sym k.tune ∙ g) in
        let le : r.tune ≤ old.0 = ready.tunes r old.0 e old.1 in
        omega (arith, old.2, le)

-- a reel of the same tuning number is as ready
ready_moved : (st : State) (f u m : ℕ) (r s : Reel) → s.tune ≡ r.tune → IsReady st f u m (Some r) → IsReady st f u m (Some s)
ready_moved st f u m r s same ready = record {
  tunes = λ x t e g. let is : s ≡ x = cc in let le : r.tune ≤ t = ready.tunes r t refl g in rw (← is, same) le;
  mux = ready.mux;
  reel = λ x e h on. let is : s ≡ x = cc in ready.reel r refl (sym same ∙ ap (λ z. z.tune) is ∙ h) on;
}

tuned_tune : (recording : Recordings) (o : Option Reel) (m u : ℕ) → (tuned recording o m u).tune ≡ u
tuned_tune recording None m u = refl
tuned_tune recording (Some r) m u = by (r.tune == u) refl
  where
    by : (b : Bool) → (r.tune == u) ≡ b → (if b then r else fresh recording m u).tune ≡ u
    by true e = eqb-true r.tune u e
    by false e = refl

ready_tuned : (st : State) (f u m k v : ℕ) (recording : Recordings) (o : Option Reel) → TellsTune st f k v → (IsOn st f u → unwrap_or (mux_at st f) 0 ≡ m)
    → IsReady st f u m (Some (tuned recording o k v))
ready_tuned st f u m k v recording o tells mux = record {
  tunes = λ r t e g. let is : tuned recording o k v ≡ r = cc in
      let tune : r.tune ≡ v = ap (λ z. z.tune) (sym is) ∙ tuned_tune recording o k v in
      let same : Some t ≡ Some v = sym g ∙ tells.on.tune in
      let at : t ≡ v = cc in omega (arith, tune, at);
  mux = mux;
  reel = λ r e h on. let is : unwrap_or (mux_at st f) 0 ≡ m = mux on in let has : k ≡ m = sym (ap (λ x. unwrap_or x 0) tells.mux) ∙ is in
      tells.mux ∙ ap (λ n. Some n) has;
}

-- what is left is the same where the reel goes on or begins
left_tuned : (recording : Recordings) (o : Option Reel) (m u : ℕ) → left_in recording (Some (tuned recording o m u)) m u ≡ left_in recording o m u
left_tuned recording None m u = rw (eq-eqb u u refl) refl
left_tuned recording (Some r) m u = by (r.tune == u) refl
  where
    by : (b : Bool) → (r.tune == u) ≡ b → left_in recording (Some (if b then r else fresh recording m u)) m u ≡ (if b then r.left else told_all recording m)
    by true e = rw e refl
    by false e = rw (eq-eqb u u refl) refl

-- nothing begins everything
begins_nothing : (o : Option (List (List ℕ))) → BeginsTold [] o
begins_nothing None = tt
begins_nothing (Some all) = record { rest = all; whole = refl }

begins_none : (xs : List (List ℕ)) (o : Option (List (List ℕ))) → xs ≡ [] → BeginsTold xs o
begins_none xs o e = rw e (begins_nothing o)

begins_empty : (xs : List (List ℕ)) → BeginsTold xs (Some []) → xs ≡ []
begins_empty [] b = refl
begins_empty (x ∷ xs) b = let whole : [] ≡ (x ∷ xs) ++ b.rest = b.whole in cc

-- after the end of a recording there are no packets
begins_ended : (xs : List (List ℕ)) (left : Option (List (List ℕ))) → BeginsTold xs (none_of left) → BeginsTold xs left
begins_ended xs None b = tt
begins_ended xs (Some all) b = begins_none xs (Some all) (begins_empty xs b)

-- one packet more
begins_more : (packet : List ℕ) (xs : List (List ℕ)) (left : Option (List (List ℕ))) → IsFirst packet left → BeginsTold xs (option_map rest_of left)
    → BeginsTold (packet ∷ xs) left
begins_more packet xs None first b = tt
begins_more packet xs (Some []) first b = absurd first
begins_more packet xs (Some (x ∷ all)) first b = record { rest = b.rest; whole = ap (λ p. p ∷ all) (sym first) ∙ ap (λ l. packet ∷ l) b.whole }

-- the streams of a front end are tuned to its multiplex

tuned_served : (c : Config) (rows : List Row) (f m : ℕ) (r : Row) (ts : List Stream) → Each (IsMatched c rows) ts → find (λ r. r.number == f) rows ≡ Some r
    → r.mux ≡ Some m → AreTunedTo c m (filter (λ t. is_at t.front f) ts)
tuned_served c rows f m r [] each found mux = tt
tuned_served c rows f m r (t ∷ ts) each found mux = by (is_at t.front f) refl (tuned_served c rows f m r ts each.1 found mux)
  where
    by : (b : Bool) → is_at t.front f ≡ b → AreTunedTo c m (filter (λ t. is_at t.front f) ts)
        → AreTunedTo c m (cond b (t ∷ filter (λ t. is_at t.front f) ts) (filter (λ t. is_at t.front f) ts))
    by true e rest = (sym (each.0 f r e found) ∙ mux, rest)
    by false e rest = rest

tuned_at : (c : Config) (st : State) (f m : ℕ) → AreFronts c st → mux_at st f ≡ Some m → AreTunedTo c m (served_by st f)
tuned_at c st f m fronts mux = by (row_of st f) refl mux
  where
    by : (o : Option Row) → row_of st f ≡ o → option_and_then (λ r. r.mux) o ≡ Some m → AreTunedTo c m (served_by st f)
    by None g e = cc
    by (Some r) g e = tuned_served c st.rows f m r st.streams fronts.matched g e

-- at each packet that isn't stale the streams are tuned to this multiplex
abbrev Splits : Config → State → List Item → ℕ → ℕ → ℕ → Type 0
Splits c st es f u m = (g k : List Item) (e : Item) (packet : List ℕ) → es ≡ g ++ e ∷ k → e.event ≡ Packet f u packet
    → is_current (after_from c st g) f u ≡ true → AreTunedTo c m (served_by (after_from c st g) f)

splits_none : (c : Config) (st : State) (f u m : ℕ) → Splits c st [] f u m
splits_none c st f u m [] k e packet same event on = cc
splits_none c st f u m (x ∷ g) k e packet same event on = cc

splits_more : (c : Config) (st : State) (x : Item) (es : List Item) (f u m : ℕ)
    → ((packet : List ℕ) → x.event ≡ Packet f u packet → is_current st f u ≡ true → AreTunedTo c m (served_by st f))
    → Splits c (step c st x.event).state es f u m → Splits c st (x ∷ es) f u m
splits_more c st x es f u m first rest [] k e packet same event on = let is : x ≡ e = cc in first packet (ap (λ z. z.event) is ∙ event) on
splits_more c st x es f u m first rest (y ∷ g) k e packet same event on =
    let is : x ≡ y = cc in
    let more : es ≡ g ++ e ∷ k = cc in
    subst (λ (z : Item). is_current (after_from c (step c st z.event).state g) f u ≡ true
    → AreTunedTo c m (served_by (after_from c (step c st z.event).state g) f)) is (rest g k e packet more event) on

-- the own entries of a pump and those of others

other_own : (caller : ℕ) (e : Item) (es : List Item) → (e.caller == caller) ≡ false → own_of caller (e ∷ es) ≡ own_of caller es
other_own caller e es other = rw other refl

not_packet : (caller f : ℕ) (e : Item) → (is_packet_on f e.event ≡ true → e.caller ≡ caller) → (e.caller == caller) ≡ false → is_packet_on f e.event ≡ false
not_packet caller f e own other = by (is_packet_on f e.event) refl
  where
    by : (b : Bool) → is_packet_on f e.event ≡ b → b ≡ false
    by true g = absurd (eqb-false e.caller caller other (own g))
    by false g = refl

packet_is : (f u : ℕ) (packet : List ℕ) (event : Event) → event ≡ Packet f u packet → is_packet_on f event ≡ true
packet_is f u packet event e = rw e (eq-eqb f f refl)

-- a pump that is finished gives no packet
finished_none : (c : Config) (caller f u : ℕ) (recording : Recordings) (es : List Item) (st : State) (next : Due) (early : ℕ) → PacketsAreOf caller f es
    → Pumps f recording Finished (own_of caller es) next early → current_from c st es f u ≡ []
finished_none c caller f u recording [] st next early of pumps = refl
finished_none c caller f u recording (e ∷ es) st next early of pumps =
    by (e.caller == caller) refl pumps (λ p. finished_none c caller f u recording es (step c st e.event).state next early of.1 p)
  where
    by : (b : Bool) → (e.caller == caller) ≡ b → Pumps f recording Finished (kept_if b e (own_of caller es)) next early
        → (Pumps f recording Finished (own_of caller es) next early → current_from c (step c st e.event).state es f u ≡ [])
        → current_from c st (e ∷ es) f u ≡ []
    by true g pumps rest = absurd pumps.0
    by false g pumps rest = ap (λ l. l ++ current_from c (step c st e.event).state es f u) (current_other st e.event f u (not_packet caller f e of.0 g))
        ∙ rest pumps

-- what the reel is after an event of the pump, before its answer
abbrev seen : Due → Event → Option Reel
seen (Asking reel) event = reel
seen (Feeding reel) event = Some (moved event reel)
seen Finished event = None

moved_tune : (event : Event) (reel : Reel) → (moved event reel).tune ≡ reel.tune
moved_tune (Packet g n packet) reel = refl
moved_tune (Ended g n) reel = refl
moved_tune (Asked peer draw r) reel = refl
moved_tune (Got peer draw r) reel = refl
moved_tune (Tick now) reel = refl
moved_tune (Ask g) reel = refl
moved_tune (Pull id) reel = refl
moved_tune (Close id) reel = refl
moved_tune Stop reel = refl

ready_seen : (st : State) (f u m : ℕ) (due : Due) (event : Event) → IsReady st f u m (reel_of due) → IsReady st f u m (seen due event)
unfolding reel_of
ready_seen st f u m (Asking reel) event ready = ready
ready_seen st f u m (Feeding reel) event ready = ready_moved st f u m reel (moved event reel) (moved_tune event reel) ready
ready_seen st f u m Finished event ready = ready

-- the answer to an event of a pump is the work of its front end
answer_is : (c : Config) (st : State) (f : ℕ) (due : Due) (event : Event) → IsDue f due event
    → (step c st event).answer ≡ WorkIs (work (step c st event).state f)
answer_is c st f (Asking reel) event due = rw due refl
answer_is c st f (Feeding reel) event (inl fed) = rw fed.1 refl
answer_is c st f (Feeding reel) event (inr ended) = rw ended refl
answer_is c st f Finished event due = absurd due

due_after : (recording : Recordings) (f : ℕ) (due : Due) (e : Item) → IsDue f due e.event
    → after_entry recording due e ≡ after_work recording (seen due e.event) (work_told e.answer)
due_after recording f (Asking reel) e due = refl
due_after recording f (Feeding reel) e due = refl
due_after recording f Finished e due = absurd due

-- what holds once an answer was heard
record Heard (st : State) (f u m : ℕ) (recording : Recordings) (o : Option Reel) (due : Due) : Type 0 where
  ready : IsReady st f u m (reel_of due)
  left : (left_in recording (reel_of due) m u ≡ left_in recording o m u) ⊎ ((is_current st f u ≡ false) ⊎ (due ≡ Finished))

heard_work : (st : State) (f u m : ℕ) (recording : Recordings) (o : Option Reel) → IsReady st f u m o → (w : Work) → work st f ≡ w
    → Heard st f u m recording o (after_work recording o w)
unfolding reel_of
heard_work st f u m recording o ready Nothing e = record { ready = ready; left = inl refl }
heard_work st f u m recording o ready Stopping e =
    record { ready = record { tunes = λ r t g h. cc; mux = ready.mux; reel = λ r g h on. cc }; left = inr (inr refl) }
heard_work st f u m recording o ready (Tune k v) e = record { ready = ready_tuned st f u m k v recording o tells ready.mux; left = by (v == u) refl }
  where
    tells : TellsTune st f k v
    tells = tells_tune st f k v e

    same : v ≡ u → left_in recording (Some (tuned recording o k v)) m u ≡ left_in recording o m u
    same g =
        let on : IsOn st f u = subst (λ (n : ℕ). IsOn st f n) g tells.on in
        let has : k ≡ m = sym (ap (λ x. unwrap_or x 0) tells.mux) ∙ ready.mux on in
        rw (g, has) (left_tuned recording o m u)

    differs : (v == u) ≡ false → IsOn st f u → ⊥
    differs g on = let both : Some v ≡ Some u = sym tells.on.tune ∙ on.tune in let is : v ≡ u = cc in eqb-false v u g is

    by : (b : Bool) → (v == u) ≡ b → (left_in recording (Some (tuned recording o k v)) m u ≡ left_in recording o m u)
        ⊎ ((is_current st f u ≡ false) ⊎ (Feeding (tuned recording o k v) ≡ Finished))
    by true g = inl (same (eqb-true v u g))
    by false g = inr (inl (not_current st f u (differs g)))

-- the packets of the rest, against what is left before the answer
left_before : (c : Config) (caller f u m : ℕ) (recording : Recordings) (es : List Item) (st : State) (o : Option Reel) (due next : Due) (early : ℕ)
    → AreFronts c st → HasRoom st f (length es) → IsReached st f u
    → PacketsAreOf caller f es → Pumps f recording due (own_of caller es) next early → Heard st f u m recording o due
    → BeginsTold (current_from c st es f u) (left_in recording (reel_of due) m u) → BeginsTold (current_from c st es f u) (left_in recording o m u)
left_before c caller f u m recording es st o due next early fronts room reached of pumps heard begins = by heard.left
  where
    by : (left_in recording (reel_of due) m u ≡ left_in recording o m u) ⊎ ((is_current st f u ≡ false) ⊎ (due ≡ Finished))
        → BeginsTold (current_from c st es f u) (left_in recording o m u)
    by (inl same) = subst (λ (l : Option (List (List ℕ))). BeginsTold (current_from c st es f u) l) same begins
    by (inr (inl off)) = begins_none (current_from c st es f u) (left_in recording o m u) (over_from c es st f u fronts room reached off)
    by (inr (inr end)) =
        let pumps1 : Pumps f recording Finished (own_of caller es) next early =
        subst (λ (d : Due). Pumps f recording d (own_of caller es) next early) end pumps in
        begins_none (current_from c st es f u) (left_in recording o m u) (finished_none c caller f u recording es st next early of pumps1)

packet_here : (st : State) (f u n : ℕ) (packet : List ℕ) (b a : Bool) → (n == u) ≡ b → is_current st f u ≡ a
    → current_in st (Packet f n packet) f u ≡ (if b && a then packet ∷ [] else [])
packet_here st f u n packet true a e g = let same : n ≡ u = eqb-true n u e in rw (same, eq-eqb f f refl, eq-eqb u u refl, g) refl
packet_here st f u n packet false a e g = rw (e, eq-eqb f f refl) refl

-- the packets with that of the event, against what was left before it
with_event : (c : Config) (st : State) (f u m : ℕ) (recording : Recordings) (due : Due) (event : Event) (more : List (List ℕ)) → IsDue f due event
    → (is_current st f u ≡ false → current_in st event f u ++ more ≡ [])
    → BeginsTold more (left_in recording (seen due event) m u) → BeginsTold (current_in st event f u ++ more) (left_in recording (reel_of due) m u)
unfolding reel_of
with_event c st f u m recording (Asking reel) event more due off begins = rw due begins
with_event c st f u m recording Finished event more due off begins = absurd due
with_event c st f u m recording (Feeding reel) event more (inr ended) off begins = by (reel.tune == u) refl (rw ended at begins)
  where
    none : current_in st event f u ≡ []
    none = rw ended refl

    by : (b : Bool) → (reel.tune == u) ≡ b → BeginsTold more (if b then none_of reel.left else told_all recording m)
        → BeginsTold (current_in st event f u ++ more) (if b then reel.left else told_all recording m)
    by true e begins = rw none (begins_ended more reel.left begins)
    by false e begins = rw none begins
with_event c st f u m recording (Feeding reel) event more (inl fed) off begins = by (reel.tune == u) refl (is_current st f u) refl (rw fed.1 at begins)
  where
    packet : List ℕ
    packet = fed.0

    here : (b a : Bool) → (reel.tune == u) ≡ b → is_current st f u ≡ a → current_in st event f u ≡ (if b && a then packet ∷ [] else [])
    here b a e g = ap (λ v. current_in st v f u) fed.1 ∙ packet_here st f u reel.tune packet b a e g

    by : (b : Bool) → (reel.tune == u) ≡ b → (a : Bool) → is_current st f u ≡ a
        → BeginsTold more (if b then option_map rest_of reel.left else told_all recording m)
        → BeginsTold (current_in st event f u ++ more) (if b then reel.left else told_all recording m)
    by true e true g begins = rw (here true true e g) (begins_more packet more reel.left fed.2 begins)
    by true e false g begins = begins_none _ reel.left (off g)
    by false e a g begins = rw (here false a e g) begins

-- a packet of the pump that isn't stale finds the streams tuned
packet_tuned : (c : Config) (st : State) (f u m : ℕ) (due : Due) (event : Event) → AreFronts c st → IsDue f due event → IsReady st f u m (reel_of due)
    → (packet : List ℕ) → event ≡ Packet f u packet → is_current st f u ≡ true → AreTunedTo c m (served_by st f)
unfolding reel_of
packet_tuned c st f u m (Asking reel) event fronts due ready packet e on = let no_way : Ask f ≡ Packet f u packet = sym due ∙ e in cc
packet_tuned c st f u m Finished event fronts due ready packet e on = absurd due
packet_tuned c st f u m (Feeding reel) event fronts (inr ended) ready packet e on = let no_way : Ended f reel.tune ≡ Packet f u packet = sym ended ∙ e in cc
packet_tuned c st f u m (Feeding reel) event fronts (inl fed) ready packet e on =
    let both : Packet f reel.tune fed.0 ≡ Packet f u packet = sym fed.1 ∙ e in
    let same : reel.tune ≡ u = cc in
    tuned_at c st f m fronts (ready.reel reel refl same (on_of st f u on))

-- all of this over the entries that follow, for a tuning number that was reached
record IsBegun (c : Config) (st : State) (es : List Item) (f u m : ℕ) (left : Option (List (List ℕ))) : Type 0 where
  packets : BeginsTold (current_from c st es f u) left
  streams : Splits c st es f u m

begun : (c : Config) (caller f u m : ℕ) (recording : Recordings) (es : List Item) (st : State) (due next : Due) (early : ℕ) → AreFronts c st → LegalFrom c st es
    → PacketsAreOf caller f es
    → Pumps f recording due (own_of caller es) next early → HasRoom st f (length es) → IsReached st f u → IsReady st f u m (reel_of due)
    → IsBegun c st es f u m (left_in recording (reel_of due) m u)
begun c caller f u m recording [] st due next early fronts legal of pumps room reached ready =
    record { packets = begins_nothing (left_in recording (reel_of due) m u); streams = splits_none c st f u m }
begun c caller f u m recording (e ∷ es) st due next early fronts legal of pumps room reached ready =
    by (e.caller == caller) refl pumps
    (λ d n r p. begun c caller f u m recording es (step c st e.event).state d next n (event_shifts c st e.event fronts).fronts legal.1 of.1 p
    (room_after st (step c st e.event).state f (length es) room ((event_shifts c st e.event fronts).each f))
    (reached_after st (step c st e.event).state f u (length es) room reached ((event_shifts c st e.event fronts).each f)) r)
  where
    st1 : State
    st1 = (step c st e.event).state

    shifts : Shifts c st st1
    shifts = event_shifts c st e.event fronts

    room1 : HasRoom st1 f (length es)
    room1 = room_after st st1 f (length es) room (shifts.each f)

    reached1 : IsReached st1 f u
    reached1 = reached_after st st1 f u (length es) room reached (shifts.each f)

    by : (b : Bool) → (e.caller == caller) ≡ b → Pumps f recording due (kept_if b e (own_of caller es)) next early
        → ((d : Due) (n : ℕ) → IsReady st1 f u m (reel_of d) → Pumps f recording d (own_of caller es) next n
        → IsBegun c st1 es f u m (left_in recording (reel_of d) m u)) → IsBegun c st (e ∷ es) f u m (left_in recording (reel_of due) m u)
    by false g pumps rest =
        let other : is_packet_on f e.event ≡ false = not_packet caller f e of.0 g in
        let more : IsBegun c st1 es f u m (left_in recording (reel_of due) m u) =
        rest due early (ready_after st st1 f u m (length es) (reel_of due) room reached (shifts.each f) ready) pumps in
        record {
          packets = subst (λ (l : List (List ℕ)). BeginsTold (l ++ current_from c st1 es f u) (left_in recording (reel_of due) m u))
              (sym (current_other st e.event f u other)) more.packets;
          streams = splits_more c st e es f u m (λ packet h on. let is : is_packet_on f e.event ≡ true = packet_is f u packet e.event h in cc) more.streams;
        }
    by true g pumps rest =
        let answer : e.answer ≡ WorkIs (work st1 f) = legal.0.answer ∙ answer_is c st f due e.event pumps.0 in
        let o : Option Reel = seen due e.event in
        let ready1 : IsReady st1 f u m o = ready_after st st1 f u m (length es) o room reached (shifts.each f) (ready_seen st f u m due e.event ready) in
        let next_due : after_entry recording due e ≡ after_work recording o (work st1 f) =
        due_after recording f due e pumps.0 ∙ ap (λ a. after_work recording o (work_told a)) answer in
        let heard : Heard st1 f u m recording o (after_work recording o (work st1 f)) = heard_work st1 f u m recording o ready1 (work st1 f) refl in
        let pumps1 : Pumps f recording (after_work recording o (work st1 f)) (own_of caller es) next pumps.1.0 =
        subst (λ (d : Due). Pumps f recording d (own_of caller es) next pumps.1.0) next_due pumps.1.1 in
        let more : IsBegun c st1 es f u m (left_in recording (reel_of (after_work recording o (work st1 f))) m u) =
        rest (after_work recording o (work st1 f)) pumps.1.0 heard.ready pumps1 in
        record {
          packets = with_event c st f u m recording due e.event (current_from c st1 es f u) pumps.0 (λ off. over_from c (e ∷ es) st f u fronts room reached off)
              (left_before c caller f u m recording es st1 o (after_work recording o (work st1 f)) next pumps.1.0 shifts.fronts room1 reached1 of.1 pumps1 heard
              more.packets);
          streams = splits_more c st e es f u m (packet_tuned c st f u m due e.event fronts pumps.0 ready) more.streams;
        }

-- a tuning number that is still to come

abbrev IsToCome : State → ℕ → ℕ → Type 0
IsToCome st f u = (t : ℕ) → tune_of st f ≡ Some t → t < u

-- no reel is of a later tuning number than the front end's
abbrev NoLater : State → ℕ → Option Reel → Type 0
NoLater st f o = (r : Reel) (t : ℕ) → o ≡ Some r → tune_of st f ≡ Some t → r.tune ≤ t

off_to_come : (st : State) (f u : ℕ) → IsToCome st f u → is_current st f u ≡ false
off_to_come st f u later = not_current st f u (λ on. absurd (let less : u < u = later u on.tune in omega (arith, less)))

no_later_after : (st st1 : State) (f n : ℕ) (o : Option Reel) → HasRoom st f (suc n) → Keeps f st st1 ⊎ Anew f st st1 → NoLater st f o → NoLater st1 f o
no_later_after st st1 f n o room shift no_later r t e g = by shift
  where
    by : Keeps f st st1 ⊎ Anew f st st1 → r.tune ≤ t
    by (inl k) = no_later r t e (sym k.tune ∙ g)
    by (inr k) =
        let old = once_more (tune_of st f) t n room (sym k.tune ∙ g) in
        let le : r.tune ≤ old.0 = no_later r old.0 e old.1 in
        omega (arith, old.2, le)

-- the reel before the answer isn't of the tuning number that has just come
not_of : (st st1 : State) (f u n : ℕ) (o : Option Reel) → HasRoom st f (suc n) → Keeps f st st1 ⊎ Anew f st st1 → IsToCome st f u → NoLater st f o
    → tune_of st1 f ≡ Some u → (r : Reel) → o ≡ Some r → r.tune ≡ u → ⊥
not_of st st1 f u n o room (inl k) later no_later now r e same = let less : u < u = later u (sym k.tune ∙ now) in absurd (omega (arith, less))
not_of st st1 f u n o room (inr k) later no_later now r e same =
    let old = once_more (tune_of st f) u n room (sym k.tune ∙ now) in
    let le : r.tune ≤ old.0 = no_later r old.0 e old.1 in
    absurd (omega (arith, old.2, le, same))

-- such a reel is ready, and nothing is left of it for this tuning number but the whole recording
ready_other : (st : State) (f u : ℕ) (o : Option Reel) → NoLater st f o → ((r : Reel) → o ≡ Some r → r.tune ≡ u → ⊥)
    → IsReady st f u (unwrap_or (mux_at st f) 0) o
ready_other st f u o no_later other = record { tunes = no_later; mux = λ on. refl; reel = λ r e same on. absurd (other r e same) }

left_other : (recording : Recordings) (o : Option Reel) (m u : ℕ) → ((r : Reel) → o ≡ Some r → r.tune ≡ u → ⊥) → left_in recording o m u ≡ told_all recording m
left_other recording None m u other = refl
left_other recording (Some r) m u other = rw (ne_eqb r.tune u (other r refl)) refl

no_later_seen : (st : State) (f : ℕ) (due : Due) (event : Event) → NoLater st f (reel_of due) → NoLater st f (seen due event)
unfolding reel_of
no_later_seen st f (Asking reel) event no_later = no_later
no_later_seen st f (Feeding reel) event no_later = λ r t e g.
    let is : moved event reel ≡ r = cc in let le : reel.tune ≤ t = no_later reel t refl g in rw (← is, moved_tune event reel) le
no_later_seen st f Finished event no_later = no_later

no_later_work : (st : State) (f : ℕ) (recording : Recordings) (o : Option Reel) → NoLater st f o → (w : Work) → work st f ≡ w
    → NoLater st f (reel_of (after_work recording o w))
unfolding reel_of
no_later_work st f recording o no_later Nothing e = no_later
no_later_work st f recording o no_later Stopping e = λ r t g h. cc
no_later_work st f recording o no_later (Tune k v) e = λ r t g h.
    let tells : TellsTune st f k v = tells_tune st f k v e in
    let is : tuned recording o k v ≡ r = cc in
    let tune : r.tune ≡ v = ap (λ z. z.tune) (sym is) ∙ tuned_tune recording o k v in
    let same : Some t ≡ Some v = sym h ∙ tells.on.tune in
    let at : t ≡ v = cc in omega (arith, tune, at)

-- all of this from the beginning on
record IsMade (c : Config) (st : State) (es : List Item) (f u : ℕ) (recording : Recordings) : Type 0 where
  mux : ℕ
  begun : IsBegun c st es f u mux (told_all recording mux)

made_more : (c : Config) (st : State) (e : Item) (es : List Item) (f u : ℕ) (recording : Recordings) → is_current st f u ≡ false
    → IsMade c (step c st e.event).state es f u recording → IsMade c st (e ∷ es) f u recording
made_more c st e es f u recording off made = record {
  mux = made.mux;
  begun = record {
    packets = subst (λ (l : List (List ℕ)). BeginsTold (l ++ current_from c (step c st e.event).state es f u) (told_all recording made.mux))
        (sym (current_none st e.event f u off)) made.begun.packets;
    streams = splits_more c st e es f u made.mux (λ packet h on. cc) made.begun.streams;
  };
}

-- whether the tuning number has come
has_come : (st : State) (f u : ℕ) → (tune_of st f ≡ Some u) ⊎ (tune_of st f ≡ Some u → ⊥)
has_come st f u = by (tune_of st f)
  where
    at : (t : ℕ) (b : Bool) → (t == u) ≡ b → (Some t ≡ Some u) ⊎ (Some t ≡ Some u → ⊥)
    at t true e = inl (ap (λ n. Some n) (eqb-true t u e))
    at t false e = inr (λ g. let is : t ≡ u = cc in eqb-false t u e is)

    by : (o : Option ℕ) → (o ≡ Some u) ⊎ (o ≡ Some u → ⊥)
    by None = inr (λ g. cc)
    by (Some t) = at t (t == u) refl

to_come_after : (st st1 : State) (f u n : ℕ) → HasRoom st f (suc n) → Keeps f st st1 ⊎ Anew f st st1 → IsToCome st f u → (tune_of st1 f ≡ Some u → ⊥)
    → IsToCome st1 f u
to_come_after st st1 f u n room (inl k) later other t e = later t (sym k.tune ∙ e)
to_come_after st st1 f u n room (inr k) later other t e = by (t == u) refl
  where
    old : (k : ℕ) × (tune_of st f ≡ Some k) × (t ≡ k + 1)
    old = once_more (tune_of st f) t n room (sym k.tune ∙ e)

    by : (b : Bool) → (t == u) ≡ b → t < u
    by true g = let is : t ≡ u = eqb-true t u g in absurd (other (e ∙ ap (λ n. Some n) is))
    by false g = let less : old.0 < u = later old.0 old.1 in let differs : t ≡ u → ⊥ = eqb-false t u g in omega (arith, less, old.2, differs)

-- at the moment that a tuning number has come
come : (c : Config) (caller f u : ℕ) (recording : Recordings) (es : List Item) (st : State) (due next : Due) (early : ℕ) (m : ℕ) → AreFronts c st
    → LegalFrom c st es → PacketsAreOf caller f es
    → Pumps f recording due (own_of caller es) next early → HasRoom st f (length es) → tune_of st f ≡ Some u → IsReady st f u m (reel_of due)
    → left_in recording (reel_of due) m u ≡ told_all recording m → IsMade c st es f u recording
come c caller f u recording es st due next early m fronts legal of pumps room now ready left =
    let b : IsBegun c st es f u m (left_in recording (reel_of due) m u) =
    begun c caller f u m recording es st due next early fronts legal of pumps room
    (λ t e. let both : Some u ≡ Some t = sym now ∙ e in let is : u ≡ t = cc in omega (arith, is)) ready in
    record {
      mux = m;
      begun =
          record { packets = subst (λ (l : Option (List (List ℕ))). BeginsTold (current_from c st es f u) l) left b.packets; streams = b.streams };
    }

-- at an answer by which the tuning number has come
come_heard : (st : State) (f u : ℕ) (recording : Recordings) (o : Option Reel) → NoLater st f o → ((r : Reel) → o ≡ Some r → r.tune ≡ u → ⊥)
    → tune_of st f ≡ Some u → (w : Work) → work st f ≡ w
    → IsReady st f u (unwrap_or (mux_at st f) 0) (reel_of (after_work recording o w))
    × (left_in recording (reel_of (after_work recording o w)) (unwrap_or (mux_at st f) 0) u ≡ told_all recording (unwrap_or (mux_at st f) 0))
unfolding reel_of
come_heard st f u recording o no_later other now Nothing e = (ready_other st f u o no_later other, left_other recording o (unwrap_or (mux_at st f) 0) u other)
come_heard st f u recording o no_later other now Stopping e = (record { tunes = λ r t g h. cc; mux = λ on. refl; reel = λ r g h on. cc }, refl)
come_heard st f u recording o no_later other now (Tune k v) e =
    let tells : TellsTune st f k v = tells_tune st f k v e in
    let both : Some v ≡ Some u = sym tells.on.tune ∙ now in
    let same : v ≡ u = cc in
    let has : k ≡ unwrap_or (mux_at st f) 0 = sym (ap (λ x. unwrap_or x 0) tells.mux) in (
      ready_tuned st f u (unwrap_or (mux_at st f) 0) k v recording o tells (λ on. refl),
      ap (λ n. left_in recording (Some (tuned recording o n v)) (unwrap_or (mux_at st f) 0) u) has
          ∙ ap (λ n. left_in recording (Some (tuned recording o (unwrap_or (mux_at st f) 0) n)) (unwrap_or (mux_at st f) 0) u) same
          ∙ left_tuned recording o (unwrap_or (mux_at st f) 0) u ∙ left_other recording o (unwrap_or (mux_at st f) 0) u other,
    )

to_come : (c : Config) (caller f u : ℕ) (recording : Recordings) (es : List Item) (st : State) (due next : Due) (early : ℕ) → AreFronts c st → LegalFrom c st es
    → PacketsAreOf caller f es
    → Pumps f recording due (own_of caller es) next early → HasRoom st f (length es) → IsToCome st f u → NoLater st f (reel_of due)
    → IsMade c st es f u recording
to_come c caller f u recording [] st due next early fronts legal of pumps room later no_later =
    record { mux = 0; begun = record { packets = begins_nothing (told_all recording 0); streams = splits_none c st f u 0 } }
to_come c caller f u recording (e ∷ es) st due next early fronts legal of pumps room later no_later =
    made_more c st e es f u recording (off_to_come st f u later) (by (e.caller == caller) refl pumps
    (λ d n p h k. to_come c caller f u recording es st1 d next n shifts.fronts legal.1 of.1 p room1 h k))
  where
    st1 : State
    st1 = (step c st e.event).state

    shifts : Shifts c st st1
    shifts = event_shifts c st e.event fronts

    room1 : HasRoom st1 f (length es)
    room1 = room_after st st1 f (length es) room (shifts.each f)

    by : (b : Bool) → (e.caller == caller) ≡ b → Pumps f recording due (kept_if b e (own_of caller es)) next early
        → ((d : Due) (n : ℕ) → Pumps f recording d (own_of caller es) next n → IsToCome st1 f u → NoLater st1 f (reel_of d) → IsMade c st1 es f u recording)
        → IsMade c st1 es f u recording
    by false g pumps rest = at (has_come st1 f u)
      where
        no_later1 : NoLater st1 f (reel_of due)
        no_later1 = no_later_after st st1 f (length es) (reel_of due) room (shifts.each f) no_later

        at : (tune_of st1 f ≡ Some u) ⊎ (tune_of st1 f ≡ Some u → ⊥) → IsMade c st1 es f u recording
        at (inl now) =
            let other = not_of st st1 f u (length es) (reel_of due) room (shifts.each f) later no_later now in
            come c caller f u recording es st1 due next early (unwrap_or (mux_at st1 f) 0) shifts.fronts legal.1 of.1 pumps room1 now
            (ready_other st1 f u (reel_of due) no_later1 other)
            (left_other recording (reel_of due) (unwrap_or (mux_at st1 f) 0) u other)
        at (inr not_yet) = rest due early pumps (to_come_after st st1 f u (length es) room (shifts.each f) later not_yet) no_later1
    by true g pumps rest = at (has_come st1 f u)
      where
        o : Option Reel
        o = seen due e.event

        w : Work
        w = work st1 f

        answer : e.answer ≡ WorkIs w
        answer = legal.0.answer ∙ answer_is c st f due e.event pumps.0

        pumps1 : Pumps f recording (after_work recording o w) (own_of caller es) next pumps.1.0
        pumps1 = subst (λ (d : Due). Pumps f recording d (own_of caller es) next pumps.1.0)
            (due_after recording f due e pumps.0 ∙ ap (λ a. after_work recording o (work_told a)) answer) pumps.1.1

        no_later0 : NoLater st f o
        no_later0 = no_later_seen st f due e.event no_later

        no_later1 : NoLater st1 f o
        no_later1 = no_later_after st st1 f (length es) o room (shifts.each f) no_later0

        at : (tune_of st1 f ≡ Some u) ⊎ (tune_of st1 f ≡ Some u → ⊥) → IsMade c st1 es f u recording
        at (inl now) =
            let both = come_heard st1 f u recording o no_later1 (not_of st st1 f u (length es) o room (shifts.each f) later no_later0 now) now w refl in
            come c caller f u recording es st1 (after_work recording o w) next pumps.1.0 (unwrap_or (mux_at st1 f) 0) shifts.fronts legal.1 of.1 pumps1 room1
            now both.0 both.1
        at (inr not_yet) = rest (after_work recording o w) pumps.1.0 pumps1 (to_come_after st st1 f u (length es) room (shifts.each f) later not_yet)
            (no_later_work st1 f recording o no_later1 w refl)

-- the opening

opening_fronts : (c : Setting) → AreFronts c.config (opening c)
opening_fronts c = record { matched = tt; free = λ f e. by f c.config.fronts }
  where
    by : (f : ℕ) (fronts : List Front) → option_and_then (λ r. r.mux) (find (λ r. r.number == f) (map untuned fronts)) ≡ None
    by f [] = refl
    by f (front ∷ fronts) = at (front.number == f) (by f fronts)
      where
        at : (b : Bool) → option_and_then (λ r. r.mux) (find (λ r. r.number == f) (map untuned fronts)) ≡ None
            → option_and_then (λ r. r.mux) (if b then Some (untuned front) else find (λ r. r.number == f) (map untuned fronts)) ≡ None
        at true e = refl
        at false e = e

opening_tune : (f : ℕ) (fronts : List Front) (t : ℕ) → option_map (λ r. r.tune) (find (λ r. r.number == f) (map untuned fronts)) ≡ Some t → t ≡ 0
opening_tune f [] t e = cc
opening_tune f (front ∷ fronts) t e = by (front.number == f) e (λ g. opening_tune f fronts t g)
  where
    by : (b : Bool) → option_map (λ r. r.tune) (if b then Some (untuned front) else find (λ r. r.number == f) (map untuned fronts)) ≡ Some t
        → (option_map (λ r. r.tune) (find (λ r. r.number == f) (map untuned fronts)) ≡ Some t → t ≡ 0) → t ≡ 0
    by true g rest = cc
    by false g rest = rest g

pub packets_recorded : PacketsAreRecorded
unfolding reel_of
packets_recorded c h caller f u recording due early legal few of pumps = by (u == 0) refl
  where
    st : State
    st = opening c

    zero_tune : (t : ℕ) → tune_of st f ≡ Some t → t ≡ 0
    zero_tune t e = opening_tune f c.config.fronts t e

    room : HasRoom st f (length h)
    room t e = let none : t ≡ 0 = zero_tune t e in omega (arith, none, few)

    ready : IsReady st f u 0 (reel_of (Asking None))
    ready = record { tunes = λ r t e g. cc; mux = λ on. let off : serves st f ≡ true = on.on in cc; reel = λ r e same on. cc }

    told : IsMade c.config st h f u recording → IsRecorded c h f u recording
    told made = record { mux = made.mux; packets = made.begun.packets; streams = made.begun.streams }

    by : (b : Bool) → (u == 0) ≡ b → IsRecorded c h f u recording
    by true e =
        let none : u ≡ 0 = eqb-true u 0 e in
        let b : IsBegun c.config st h f u 0 (told_all recording 0) =
        begun c.config caller f u 0 recording h st (Asking None) due early (opening_fronts c) legal.entries of pumps room (λ t g. omega (arith, none)) ready in
        told (record { mux = 0; begun = b })
    by false e =
        let some : u ≡ 0 → ⊥ = eqb-false u 0 e in
        told (to_come c.config caller f u recording h st (Asking None) due early (opening_fronts c) legal.entries of pumps room
        (λ t g. let none : t ≡ 0 = zero_tune t g in omega (arith, none, some)) (λ r t g k. cc))
