-- Of one sender's datagrams in any order within the window, the items stand for all indices in order.
use Rattle.std.proofs.Common.{◌≡◌, inl, inr, ℕ, ◌+◌, ◌-◌, ◌%◌, ◌<◌, ◌≤◌, ◌==◌, ◌||◌, max, nat_le, zero, suc, Bool, true, false, List, [], ◌∷◌, ◌++◌, map, filter, length, Option, None, Some, refl, sym, ap, ◌∙◌, subst, arith, if◌then◌else◌, append_assoc, append-nil}
use Rattle.std.specs.List.{All}
use Rattle.std.proofs.lemmas.Bool.{cases_lt}
use Rattle.std.proofs.lemmas.Bool.Decides.{nat_tests}
use Rattle.std.proofs.lemmas.List.Elements.{All-map}
use Rattle.satip_rtp_receiver.specs.Caught.{Datagram, Placed, arrivals, index_ahead, index_of, greater, place_from, placed, greatest, is_index, has_arrived, passed, packets_of, with_item, items_from, items_by, last_items, caught, caught_from}
use Rattle.satip_rtp_receiver.specs.Order.{sent, AreNear, newest, StandFor, AlwaysCatchesInOrder, AlwaysCatchesSent}
use Rattle.satip_rtp_receiver.specs.declared.item.Item.{Item}
use Rattle.satip_rtp_receiver.specs.declared.item.Item.TheVariants.{Data, Gap}
use Rattle.satip_rtp_receiver.proofs.AllLemmas.{always_catches_all, last_items-cons}
use Rattle.satip_rtp_receiver.proofs.IndexLemmas.{index-near, index-back, index-none}
use Rattle.satip_rtp_receiver.proofs.SlotLemmas.{finds, Finds, greatest-more, greater-above, has_arrived-more, arrived-within, passed-cons}

-- all datagrams are of the first one's source
keep : {X : Type 0} (b : Bool) (d : X) (ds : List X) → b ≡ true → (if b then d ∷ ds else ds) ≡ d ∷ ds
keep true d ds e = refl
keep false d ds e = absurd (grind (arith, nat_tests))

same-number : (n : ℕ) → (n == n) ≡ true
same-number n = grind (arith, nat_tests)

filter-sent : (start ssrc : ℕ) (packets : ℕ → List ℕ) (js : List ℕ)
    → filter (λ x. ssrc == x.ssrc) (map (sent start ssrc packets) js) ≡ map (sent start ssrc packets) js
filter-sent start ssrc packets [] = refl
filter-sent start ssrc packets (j ∷ js) =
    let rest = filter (λ x. ssrc == x.ssrc) (map (sent start ssrc packets) js) in
    keep (ssrc == ssrc) (sent start ssrc packets j) rest (same-number ssrc)
    ∙ ap (λ ds. sent start ssrc packets j ∷ ds) (filter-sent start ssrc packets js)

-- an index of the sender's, counted from the first arrival's on
abbrev index_from : ℕ → ℕ → Option ℕ
index_from first j = if nat_le first j then Some (j - first) else None

index_from-behind : (first j : ℕ) → first ≤ j → index_from first j ≡ Some (j - first)
index_from-behind first j h = grind (arith, nat_tests)

index_from-before : (first j : ℕ) → j < first → index_from first j ≡ None
index_from-before first j h = grind (arith, nat_tests)

-- how far the datagram of index j is ahead of the one of index m
far-ahead : (start first m j : ℕ) → first ≤ m → m ≤ j → j < m + 32768
    → ((start + j) % 65536 + 65536 - ((start + first) % 65536 + (m - first)) % 65536) % 65536 ≡ j - m
far-ahead start first m j a b c = omega arith

far-behind : (start first m j : ℕ) → first ≤ m → j < m → m < j + 1024
    → ((start + j) % 65536 + 65536 - ((start + first) % 65536 + (m - first)) % 65536) % 65536 ≡ 65536 - (m - j)
far-behind start first m j a b c = omega arith

index-sent : (start first m j : ℕ) → first ≤ m → m < j + 1024 → j < m + 32768
    → index_of ((start + first) % 65536) (m - first) ((start + j) % 65536) ≡ index_from first j
unfolding index_of
index-sent start first m j a b c = elim (cases_lt j m) [
  | inl behind ↦
      let far = far-behind start first m j a behind b in
      ap (λ d. index_ahead (m - first) d) far ∙ elim (cases_lt j first) [
        | inl before ↦ index-none (m - first) (65536 - (m - j)) (omega arith) (omega arith) ∙ sym (index_from-before first j before)
        | inr within ↦
            let at : m - first + (65536 - (m - j)) - 65536 ≡ j - first = omega arith in
            index-back (m - first) (65536 - (m - j)) (omega arith) (omega arith) (omega arith)
            ∙ ap (λ i. Some i) at ∙ sym (index_from-behind first j within)
      ]
  | inr ahead ↦
      let at : m - first + (j - m) ≡ j - first = omega arith in
      ap (λ d. index_ahead (m - first) d) (far-ahead start first m j a ahead c)
      ∙ index-near (m - first) (j - m) (omega arith)
      ∙ ap (λ i. Some i) at ∙ sym (index_from-behind first j (omega arith))
]

greater-from : (first m j : ℕ) → greater (m - first) (index_from first j) ≡ max m j - first
greater-from first m j = elim (cases_lt j first) [
  | inl before ↦
      let same : m - first ≡ max m j - first = omega arith in
      ap (λ i. greater (m - first) i) (index_from-before first j before) ∙ same
  | inr within ↦
      let same : max (m - first) (j - first) ≡ max m j - first = omega arith in
      ap (λ i. greater (m - first) i) (index_from-behind first j within) ∙ same
]

-- the arrivals, placed
abbrev arrival : ℕ → (ℕ → List ℕ) → ℕ → Placed
arrival first packets j = record { index = index_from first j; packets = packets j }

place-sent : (start ssrc : ℕ) (packets : ℕ → List ℕ) (first m : ℕ) (js : List ℕ) → first ≤ m → AreNear m js
    → place_from ((start + first) % 65536) (m - first) (map (sent start ssrc packets) js) ≡ map (arrival first packets) js
place-sent start ssrc packets first m [] h near = refl
place-sent start ssrc packets first m (j ∷ js) h near =
    let number = (start + first) % 65536 in
    let rest = map (sent start ssrc packets) js in
    let index = index-sent start first m j h near.0 near.1 in
    ap (λ (i : Option ℕ). record { index = i; packets = packets j } ∷ place_from number (greater (m - first) i) rest) index
    ∙ ap (λ k. arrival first packets j ∷ place_from number k rest) (greater-from first m j)
    ∙ ap (λ ps. arrival first packets j ∷ ps) (place-sent start ssrc packets first (max m j) js (omega arith) near.2)

placed-sent : (start ssrc : ℕ) (packets : ℕ → List ℕ) (first : ℕ) (js : List ℕ) → AreNear first js
    → placed (map (sent start ssrc packets) (first ∷ js)) ≡ map (arrival first packets) (first ∷ js)
placed-sent start ssrc packets first js near =
    let number = (start + first) % 65536 in
    let rest = map (sent start ssrc packets) js in
    let none : 0 ≡ first - first = omega arith in
    let here : Some 0 ≡ index_from first first = ap (λ i. Some i) none ∙ sym (index_from-behind first first (omega arith)) in
    ap (λ (i : Option ℕ). record { index = i; packets = packets first } ∷ place_from number 0 rest) here
    ∙ ap (λ k. arrival first packets first ∷ place_from number k rest) none
    ∙ ap (λ ps. arrival first packets first ∷ ps) (place-sent start ssrc packets first first js (omega arith) near)

greatest-sent : (packets : ℕ → List ℕ) (first : ℕ) (js : List ℕ) → greatest (map (arrival first packets) js) ≡ newest js - first
greatest-sent packets first [] = omega arith
greatest-sent packets first (j ∷ js) =
    ap (λ m. greater m (index_from first j)) (greatest-sent packets first js) ∙ greater-from first (newest js) j

-- whatever stands at an index has the sender's packets
abbrev IsSent : ℕ → (ℕ → List ℕ) → Placed → Type 0
IsSent first packets p = (i : ℕ) → is_index i p.index ≡ true → p.packets ≡ packets (first + i)

abbrev AreSent : ℕ → (ℕ → List ℕ) → List Placed → Type 0
AreSent first packets [] = Unit {0}
AreSent first packets (p ∷ ps) = IsSent first packets p × AreSent first packets ps

sent-more : (first : ℕ) (packets : ℕ → List ℕ) (ps : List Placed) (p : Placed)
    → AreSent first packets ps → IsSent first packets p → AreSent first packets (ps ++ p ∷ [])
sent-more first packets [] p a s = (s, tt)
sent-more first packets (q ∷ ps) p a s = (a.0, sent-more first packets ps p a.1 s)

index-tells : (first j i : ℕ) (b : Bool) → nat_le first j ≡ b → is_index i (if b then Some (j - first) else None) ≡ true → j ≡ first + i
index-tells first j i true e h = grind (arith, nat_tests)
index-tells first j i false e h = absurd (grind (arith, nat_tests))

arrivals-sent : (packets : ℕ → List ℕ) (first : ℕ) (js : List ℕ) → AreSent first packets (map (arrival first packets) js)
arrivals-sent packets first [] = tt
arrivals-sent packets first (j ∷ js) =
    (λ i h. ap (λ k. packets k) (index-tells first j i (nat_le first j) refl h), arrivals-sent packets first js)

abbrev Fits : List ℕ → Option (List ℕ) → Type 0
Fits bytes None = Unit {0}
Fits bytes (Some found) = found ≡ bytes

fits-if : (bytes found : List ℕ) (b : Bool) → found ≡ bytes → Fits bytes (if b then Some found else None)
fits-if bytes found true e = e
fits-if bytes found false e = tt

fits-one : (bytes : List ℕ) (b : Bool) (one other : Option (List ℕ)) → (b ≡ true → Fits bytes one) → Fits bytes other
    → Fits bytes (if b then one else other)
fits-one bytes true one other f g = f refl
fits-one bytes false one other f g = g

packets-fit : (first : ℕ) (packets : ℕ → List ℕ) (before ps : List Placed) (i : ℕ) → AreSent first packets ps
    → Fits (packets (first + i)) (packets_of before ps i)
packets-fit first packets before [] i a = tt
packets-fit first packets before (p ∷ ps) i a =
    fits-one (packets (first + i)) (is_index i p.index) (if nat_le (passed before) i then Some p.packets else None)
    (packets_of (before ++ p ∷ []) ps i)
    (λ e. fits-if (packets (first + i)) p.packets (nat_le (passed before) i) (a.0 i e))
    (packets-fit first packets (before ++ p ∷ []) ps i a.1)

-- items stand for consecutive indices
stand-gap : (start : ℕ) (packets : ℕ → List ℕ) (j end number count : ℕ) (items : List Item) → number ≡ (start + j) % 65536
    → StandFor start packets (j + 1 + count) end items → StandFor start packets j end (Gap number (count + 1) ∷ items)
stand-gap start packets j end number count items e s =
    let at : j + 1 + count ≡ j + (count + 1) = omega arith in
    (e, omega arith, subst (λ k. StandFor start packets k end items) at s)

stand-one : (start : ℕ) (packets : ℕ → List ℕ) (j end number : ℕ) (told : Option (List ℕ)) (items : List Item)
    → number ≡ (start + j) % 65536 → Fits (packets j) told → StandFor start packets (j + 1) end items
    → StandFor start packets j end (with_item number told items)
stand-one start packets j end number (Some bytes) items e f s = (e, f, s)
stand-one start packets j end number None [] e f s = (e, omega arith, s)
stand-one start packets j end number None (Data from bytes ∷ items) e f s = (e, omega arith, s)
stand-one start packets j end number None (Gap from count ∷ items) e f s = stand-gap start packets j end number count items e s.2

stand-items : (start first : ℕ) (packets : ℕ → List ℕ) (ps : List Placed) (i n j end : ℕ) → AreSent first packets ps
    → j ≡ first + i → end ≡ j + n → StandFor start packets j end (items_from ((start + first) % 65536) ps i n)
stand-items start first packets ps i zero j end a e f = omega (arith, f)
stand-items start first packets ps i (suc n) j end a e f =
    let number : ((start + first) % 65536 + i) % 65536 ≡ (start + j) % 65536 = omega (arith, e) in
    stand-one start packets j end (((start + first) % 65536 + i) % 65536) (packets_of [] ps i)
    (items_from ((start + first) % 65536) ps (i + 1) n) number
    (subst (λ k. Fits (packets k) (packets_of [] ps i)) (sym e) (packets-fit first packets [] ps i a))
    (stand-items start first packets ps (i + 1) n (j + 1) end a (omega (arith, e)) (omega (arith, f)))

stand-append : (start : ℕ) (packets : ℕ → List ℕ) (j middle end : ℕ) (items more : List Item)
    → StandFor start packets j middle items → StandFor start packets middle end more → StandFor start packets j end (items ++ more)
stand-append start packets j middle end [] more s t = subst (λ k. StandFor start packets k end more) (sym s) t
stand-append start packets j middle end (Data number bytes ∷ items) more s t =
    (s.0, s.1, stand-append start packets (j + 1) middle end items more s.2 t)
stand-append start packets j middle end (Gap from count ∷ items) more s t =
    (s.0, s.1, stand-append start packets (j + count) middle end items more s.2 t)

-- an arrival never lowers the first missing index
or-true : (a b : Bool) → a ≡ true → (a || b) ≡ true
or-true true b e = refl
or-true false b e = absurd (grind (arith, nat_tests))

stops-below : (ps : List Placed) (p : Placed) (r s : ℕ) → Finds 64 (greatest ps - 63) ps r
    → Finds 64 (greatest (ps ++ p ∷ []) - 63) (ps ++ p ∷ []) s → s < r → ⊥
stops-below ps p r s f g l =
    let up = greater-above (greatest ps) p.index in
    let more = greatest-more ps p in
    let here : has_arrived s ps ≡ true = f.arrived s (omega (arith, up, more, g.from)) l in
    let there : has_arrived s (ps ++ p ∷ []) ≡ true = has_arrived-more s ps p ∙ or-true (has_arrived s ps) (is_index s p.index) here in
    let none : has_arrived s (ps ++ p ∷ []) ≡ false = g.stops (omega (arith, up, more, arrived-within s ps here)) in
    cc

passed-rises : (ps : List Placed) (p : Placed) → passed ps ≤ passed (ps ++ p ∷ [])
passed-rises [] p = omega arith
passed-rises (q ∷ qs) p =
    let ps = q ∷ qs in
    elim (cases_lt (passed (ps ++ p ∷ [])) (passed ps)) [
      | inl below ↦ absurd (stops-below ps p (passed ps) (passed (ps ++ p ∷ [])) (finds 64 (greatest ps - 63) ps)
          (finds 64 (greatest (ps ++ p ∷ []) - 63) (ps ++ p ∷ [])) below)
      | inr above ↦ above
    ]

passed-within : (ps : List Placed) → 0 < length ps → passed ps ≤ greatest ps + 1
passed-within ps h =
    let m = greatest ps in
    let f : Finds 64 (m - 63) ps (passed ps) = subst (λ r. Finds 64 (m - 63) ps r) (sym (passed-cons ps h)) (finds 64 (m - 63) ps) in
    elim (cases_lt (m + 1) (passed ps)) [
      | inl over ↦ absurd (omega (arith, arrived-within (m + 1) ps (f.arrived (m + 1) (omega arith) over)))
      | inr within ↦ within
    ]

stand-by : (start first : ℕ) (packets : ℕ → List ℕ) (before ps : List Placed) → AreSent first packets before → AreSent first packets ps
    → StandFor start packets (first + passed before) (first + passed (before ++ ps)) (items_by ((start + first) % 65536) before ps)
stand-by start first packets before [] a s = ap (λ (qs : List Placed). first + passed qs) (sym (append-nil before))
stand-by start first packets before (p ∷ ps) a s =
    let more = before ++ p ∷ [] in
    let number = (start + first) % 65536 in
    let up = passed-rises before p in
    let b = sent-more first packets before p a s.0 in
    let all = ap (λ (qs : List Placed). first + passed qs) (append_assoc before (p ∷ []) ps) in
    stand-append start packets (first + passed before) (first + passed more) (first + passed (before ++ p ∷ ps))
    (items_from number more (passed before) (passed more - passed before)) (items_by number more ps)
    (stand-items start first packets more (passed before) (passed more - passed before) (first + passed before) (first + passed more)
    b refl (omega (arith, up)))
    (subst (λ e. StandFor start packets (first + passed more) e (items_by number more ps)) all
    (stand-by start first packets more ps b s.1))

stand-placed : (start first : ℕ) (packets : ℕ → List ℕ) (ps : List Placed) → 0 < length ps → AreSent first packets ps
    → StandFor start packets first (first + greatest ps + 1)
    (items_by ((start + first) % 65536) [] ps ++ last_items ((start + first) % 65536) ps)
stand-placed start first packets ps some a =
    let number = (start + first) % 65536 in
    let begin : first + 0 ≡ first = omega arith in
    let rest = greatest ps + 1 - passed ps in
    let within = passed-within ps some in
    stand-append start packets first (first + passed ps) (first + greatest ps + 1) (items_by number [] ps) (last_items number ps)
    (subst (λ k. StandFor start packets k (first + passed ps) (items_by number [] ps)) begin (stand-by start first packets [] ps tt a))
    (subst (λ items. StandFor start packets (first + passed ps) (first + greatest ps + 1) items) (sym (last_items-cons number ps some))
    (stand-items start first packets ps (passed ps) rest (first + passed ps) (first + greatest ps + 1) a refl (omega (arith, within))))

-- the items of near indices
items-sent : (start ssrc : ℕ) (packets : ℕ → List ℕ) (j : ℕ) (js : List ℕ) → AreNear j js
    → caught true (map (sent start ssrc packets) (j ∷ js))
    ≡ items_by ((start + j) % 65536) [] (map (arrival j packets) (j ∷ js)) ++ last_items ((start + j) % 65536) (map (arrival j packets) (j ∷ js))
items-sent start ssrc packets j js near =
    let number = (start + j) % 65536 in
    let d = sent start ssrc packets j in
    ap (λ ds. items_by number [] (placed (d ∷ ds)) ++ last_items number (placed (d ∷ ds))) (filter-sent start ssrc packets js)
    ∙ ap (λ ps. items_by number [] ps ++ last_items number ps) (placed-sent start ssrc packets j js near)

numbers-sent : (start ssrc : ℕ) (packets : ℕ → List ℕ) (js : List ℕ) → All (λ d. d.number < 65536) (map (sent start ssrc packets) js)
numbers-sent start ssrc packets js = All-map (λ d. d.number < 65536) (sent start ssrc packets) js (λ k e l. omega arith)

pub always_catches_in_order : AlwaysCatchesInOrder
always_catches_in_order start ssrc packets j js near =
    let ps = map (arrival j packets) (j ∷ js) in
    let all = (always_catches_all (map (sent start ssrc packets) (j ∷ js)) (numbers-sent start ssrc packets (j ∷ js))).with_end in
    let last : j + greatest ps + 1 ≡ newest (j ∷ js) + 1 = omega (arith, greatest-sent packets j (j ∷ js)) in
    subst (λ items. StandFor start packets j (newest (j ∷ js) + 1) items) (sym (all ∙ items-sent start ssrc packets j js near))
    (subst (λ e. StandFor start packets j e (items_by ((start + j) % 65536) [] ps ++ last_items ((start + j) % 65536) ps)) last
    (stand-placed start j packets ps (omega arith) (arrivals-sent packets j (j ∷ js))))

-- the items without the end are the first of those with it
begun : (ds : List Datagram) → (later : List Item) × (caught_from true ds ≡ caught_from false ds ++ later)
begun [] = ([], refl)
begun (d ∷ ds) =
    let items = items_by d.number [] (placed (d ∷ ds)) in
    (last_items d.number (placed (d ∷ ds)), ap (λ (is : List Item). is ++ last_items d.number (placed (d ∷ ds))) (sym (append-nil items)))

pub always_catches_sent : AlwaysCatchesSent
always_catches_sent start ssrc packets j js near =
    let ds = map (sent start ssrc packets) (j ∷ js) in
    let all = (always_catches_all ds (numbers-sent start ssrc packets (j ∷ js))).with_end in
    let later = begun (arrivals ds) in
    record {
      with_end = subst (λ items. StandFor start packets j (newest (j ∷ js) + 1) items) all (always_catches_in_order start ssrc packets j js near);
      later = later.0;
      before_end = later.1;
    }
