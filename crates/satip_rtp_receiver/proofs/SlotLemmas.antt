-- The places of indices: what came for them, and how far they can be handed up.
use Rattle.std.proofs.Common.{◌≡◌, ◌⊎◌, inl, inr, ℕ, ◌+◌, ◌-◌, ◌%◌, ◌<◌, ◌≤◌, ◌||◌, nat_le, zero, suc, Bool, true, false, List, [], ◌∷◌, ◌++◌, length, take, drop, get_or, Option, None, Some, is_some, refl, sym, ap, ◌∙◌, subst, arith, if◌then◌else◌, append_assoc, append-nil}
use Rattle.std.proofs.lemmas.Bool.{cases_lt, false_from_ne_true}
use Rattle.std.proofs.lemmas.Bool.Decides.{nat_tests}
use Rattle.std.proofs.lemmas.List.Folds.{list_any-append}
use Rattle.satip_rtp_receiver.specs.Caught.{Placed, greater, greatest, is_index, has_arrived, first_missing, passed, packets_of, with_item, items_from}
use Rattle.satip_rtp_receiver.proofs.DrainLemmas.{slot_items, reach}

-- the places of n indices, from i on
abbrev pub slots_from : List Placed → ℕ → ℕ → List (Option (List ℕ))
slots_from ps i zero = []
slots_from ps i (suc n) = packets_of [] ps i ∷ slots_from ps (i + 1) n

pub items_from-slots : (first : ℕ) (ps : List Placed) (i n : ℕ) → items_from first ps i n ≡ slot_items ((first + i) % 65536) (slots_from ps i n)
items_from-slots first ps i zero = refl
items_from-slots first ps i (suc n) =
    let next : (first + (i + 1)) % 65536 ≡ ((first + i) % 65536 + 1) % 65536 = omega arith in
    ap (λ items. with_item ((first + i) % 65536) (packets_of [] ps i) items)
    (items_from-slots first ps (i + 1) n ∙ ap (λ a. slot_items a (slots_from ps (i + 1) n)) next)

pub length-slots : (ps : List Placed) (i n : ℕ) → length (slots_from ps i n) ≡ n
length-slots ps i zero = refl
length-slots ps i (suc n) = omega (arith, length-slots ps (i + 1) n)

pub take-slots : (ps : List Placed) (i n k : ℕ) → k ≤ n → take k (slots_from ps i n) ≡ slots_from ps i k
take-slots ps i n zero h = refl
take-slots ps i zero (suc k) h = absurd (omega arith)
take-slots ps i (suc n) (suc k) h = ap (λ t. packets_of [] ps i ∷ t) (take-slots ps (i + 1) n k (omega arith))

pub drop-slots : (ps : List Placed) (i n k : ℕ) → k ≤ n → drop k (slots_from ps i n) ≡ slots_from ps (i + k) (n - k)
drop-slots ps i n zero h =
    let a : i ≡ i + 0 = omega arith in
    let b : n ≡ n - 0 = omega arith in
    ap (λ j. slots_from ps j n) a ∙ ap (λ m. slots_from ps (i + 0) m) b
drop-slots ps i zero (suc k) h = absurd (omega arith)
drop-slots ps i (suc n) (suc k) h =
    let a : i + 1 + k ≡ i + suc k = omega arith in
    let b : n - k ≡ suc n - suc k = omega arith in
    drop-slots ps (i + 1) n k (omega arith) ∙ ap (λ j. slots_from ps j (n - k)) a ∙ ap (λ m. slots_from ps (i + suc k) m) b

pub get_or-slots : (ps : List Placed) (i n k : ℕ) → k < n → get_or (slots_from ps i n) k None ≡ packets_of [] ps (i + k)
get_or-slots ps i zero k h = absurd (omega arith)
get_or-slots ps i (suc n) zero h = let a : i ≡ i + 0 = omega arith in ap (λ j. packets_of [] ps j) a
get_or-slots ps i (suc n) (suc k) h =
    let a : i + 1 + k ≡ i + suc k = omega arith in
    get_or-slots ps (i + 1) n k (omega arith) ∙ ap (λ j. packets_of [] ps j) a

-- one more arrival
or-false : (b : Bool) → (b || false) ≡ b
or-false true = refl
or-false false = refl

pub has_arrived-more : (i : ℕ) (ps : List Placed) (p : Placed) → has_arrived i (ps ++ p ∷ []) ≡ (has_arrived i ps || is_index i p.index)
has_arrived-more i ps p =
    list_any-append (λ x. is_index i x.index) ps (p ∷ []) ∙ ap (λ b. has_arrived i ps || b) (or-false (is_index i p.index))

greater-greater : (m : ℕ) (a b : Option ℕ) → greater (greater m a) b ≡ greater (greater m b) a
greater-greater m None b = refl
greater-greater m (Some i) None = refl
greater-greater m (Some i) (Some j) = omega arith

pub greatest-more : (ps : List Placed) (p : Placed) → greatest (ps ++ p ∷ []) ≡ greater (greatest ps) p.index
greatest-more [] p = refl
greatest-more (q ∷ ps) p = ap (λ m. greater m q.index) (greatest-more ps p) ∙ greater-greater (greatest ps) p.index q.index

pick : {X : Type 0} (b a : Bool) (x y z : X) → (if b then x else (if a then y else z)) ≡ (if b || a then (if b then x else y) else z)
pick true a x y z = refl
pick false a x y z = refl

packets_of-behind : (i : ℕ) (before ps : List Placed) (p : Placed)
    → packets_of before (ps ++ p ∷ []) i ≡ (if has_arrived i ps then packets_of before ps i else packets_of (before ++ ps) (p ∷ []) i)
packets_of-behind i before [] p = ap (λ (b : List Placed). packets_of b (p ∷ []) i) (sym (append-nil before))
packets_of-behind i before (q ∷ ps) p =
    let here : Option (List ℕ) = if nat_le (passed before) i then Some q.packets else None in
    let behind = append_assoc before (q ∷ []) ps in
    ap (λ t. if is_index i q.index then here else t) (packets_of-behind i (before ++ q ∷ []) ps p)
    ∙ pick (is_index i q.index) (has_arrived i ps) here (packets_of (before ++ q ∷ []) ps i) (packets_of ((before ++ q ∷ []) ++ ps) (p ∷ []) i)
    ∙ ap (λ (b : List Placed). if has_arrived i (q ∷ ps) then packets_of before (q ∷ ps) i else packets_of b (p ∷ []) i) behind

pub packets_of-more : (i : ℕ) (ps : List Placed) (p : Placed)
    → packets_of [] (ps ++ p ∷ []) i ≡ (if has_arrived i ps then packets_of [] ps i else packets_of ps (p ∷ []) i)
packets_of-more i ps p = packets_of-behind i [] ps p

-- no index above the greatest has arrived
is_index-greater : (i m : ℕ) (index : Option ℕ) → is_index i index ≡ true → i ≤ greater m index
is_index-greater i m None e = absurd (grind (arith, nat_tests))
is_index-greater i m (Some j) e = grind (arith, nat_tests)

pub greater-above : (m : ℕ) (index : Option ℕ) → m ≤ greater m index
greater-above m None = omega arith
greater-above m (Some i) = omega arith

either : (a b : Bool) → (a || b) ≡ true → (a ≡ true) ⊎ (b ≡ true)
either true b e = inl refl
either false b e = inr e

pub arrived-within : (i : ℕ) (ps : List Placed) → has_arrived i ps ≡ true → i ≤ greatest ps
arrived-within i [] e = absurd (grind (arith, nat_tests))
arrived-within i (p ∷ ps) e =
    elim (either (is_index i p.index) (has_arrived i ps) e) [
      | inl here ↦ is_index-greater i (greatest ps) p.index here
      | inr behind ↦ omega (arith, arrived-within i ps behind, greater-above (greatest ps) p.index)
    ]

up_to : (i k : ℕ) → i ≤ k → (i ≡ k) ⊎ (i + 1 ≤ k)
up_to zero zero h = inl refl
up_to zero (suc k) h = inr (omega arith)
up_to (suc i) zero h = absurd (omega arith)
up_to (suc i) (suc k) h = elim (up_to i k (omega arith)) [ inl same ↦ inl (omega (arith, same)) | inr above ↦ inr (omega (arith, above)) ]

-- of n indices from i on, r is the first that is missing
pub record Finds (n i : ℕ) (ps : List Placed) (r : ℕ) : Type 0 where
  pub from : i ≤ r
  pub within : r ≤ i + n
  pub arrived : (k : ℕ) → i ≤ k → k < r → has_arrived k ps ≡ true
  pub stops : r < i + n → has_arrived r ps ≡ false

finds-step : (n i : ℕ) (ps : List Placed) (r : ℕ) (b : Bool) → has_arrived i ps ≡ b → Finds n (i + 1) ps r
    → Finds (suc n) i ps (if b then r else i)
finds-step n i ps r true e f = record {
  from = omega (arith, f.from);
  within = omega (arith, f.within);
  arrived = λ k a l. elim (up_to i k a) [ inl same ↦ ap (λ j. has_arrived j ps) (sym same) ∙ e | inr above ↦ f.arrived k above l ];
  stops = λ h. f.stops (omega arith);
}
finds-step n i ps r false e f = record {
  from = omega arith;
  within = omega arith;
  arrived = λ k a l. absurd (omega arith);
  stops = λ h. e;
}

pub finds : (n i : ℕ) (ps : List Placed) → Finds n i ps (first_missing n i ps)
finds zero i ps = record { from = omega arith; within = omega arith; arrived = λ k a b. absurd (omega arith); stops = λ h. absurd (omega arith) }
finds (suc n) i ps = finds-step n i ps (first_missing n (i + 1) ps) (has_arrived i ps) refl (finds n (i + 1) ps)

-- a place holds packets exactly where its index has arrived
abbrev pub IsSound : ℕ → List Placed → Type 0
IsSound from ps = (i : ℕ) → from ≤ i → has_arrived i ps ≡ is_some (packets_of [] ps i)

reach-slot : (i n : ℕ) (ps : List Placed) (slot : Option (List ℕ)) (held : List (Option (List ℕ)))
    → i + 1 + reach zero held ≡ first_missing n (i + 1) ps
    → i + reach zero (slot ∷ held) ≡ (if is_some slot then first_missing n (i + 1) ps else i)
reach-slot i n ps None held h = omega arith
reach-slot i n ps (Some packets) held h = omega arith

reach-none : (n i : ℕ) (ps : List Placed) → IsSound i ps → i + reach zero (slots_from ps i n) ≡ first_missing n i ps
reach-none zero i ps s = omega arith
reach-none (suc n) i ps s =
    reach-slot i n ps (packets_of [] ps i) (slots_from ps (i + 1) n) (reach-none n (i + 1) ps (λ k h. s k (omega arith)))
    ∙ ap (λ b. if b then first_missing n (i + 1) ps else i) (sym (s i (omega arith)))

pub reach-slots : (u n i : ℕ) (ps : List Placed) → u ≤ n → IsSound i ps
    → i + reach u (slots_from ps i n) ≡ first_missing (n - u) (i + u) ps
reach-slots zero n i ps h s =
    let a : i ≡ i + 0 = omega arith in
    let b : n ≡ n - 0 = omega arith in
    reach-none n i ps s ∙ ap (λ j. first_missing n j ps) a ∙ ap (λ m. first_missing m (i + 0) ps) b
reach-slots (suc u) zero i ps h s = absurd (omega arith)
reach-slots (suc u) (suc n) i ps h s =
    let a : i + 1 + u ≡ i + suc u = omega arith in
    let b : n - u ≡ suc n - suc u = omega arith in
    let one : i + reach (suc u) (slots_from ps i (suc n)) ≡ i + 1 + reach u (slots_from ps (i + 1) n) = omega arith in
    one ∙ reach-slots u n (i + 1) ps (omega arith) (λ k g. s k (omega arith))
    ∙ ap (λ j. first_missing (n - u) j ps) a ∙ ap (λ m. first_missing m (i + suc u) ps) b

-- indices that have arrived are gone by
pub missing-behind-arrived : (a b i : ℕ) (ps : List Placed) → ((k : ℕ) → i ≤ k → k < i + a → has_arrived k ps ≡ true)
    → first_missing (b + a) i ps ≡ first_missing b (i + a) ps
missing-behind-arrived zero b i ps h =
    let e : i ≡ i + 0 = omega arith in
    let f : b + 0 ≡ b = omega arith in
    ap (λ j. first_missing (b + 0) j ps) e ∙ ap (λ m. first_missing m (i + 0) ps) f
missing-behind-arrived (suc a) b i ps h =
    let f : b + suc a ≡ suc (b + a) = omega arith in
    let e : i + 1 + a ≡ i + suc a = omega arith in
    ap (λ m. first_missing m i ps) f
    ∙ ap (λ t. if t then first_missing (b + a) (i + 1) ps else i) (h i (omega arith) (omega arith))
    ∙ missing-behind-arrived a b (i + 1) ps (λ k g l. h k (omega arith) (omega arith))
    ∙ ap (λ j. first_missing b j ps) e

-- past an index that is missing nothing is looked at
pub missing-more : (n e i : ℕ) (ps : List Placed) → has_arrived (i + n) ps ≡ false → first_missing (n + e) i ps ≡ first_missing n i ps
missing-more zero zero i ps h = refl
missing-more zero (suc e) i ps h =
    let z : i + 0 ≡ i = omega arith in
    let f : 0 + suc e ≡ suc e = omega arith in
    ap (λ n. first_missing n i ps) f
    ∙ ap (λ b. if b then first_missing e (i + 1) ps else i) (sym (ap (λ j. has_arrived j ps) z) ∙ h)
missing-more (suc n) e i ps h =
    let f : suc n + e ≡ suc (n + e) = omega arith in
    let z : i + suc n ≡ i + 1 + n = omega arith in
    ap (λ m. first_missing m i ps) f
    ∙ ap (λ t. if has_arrived i ps then t else i) (missing-more n e (i + 1) ps (sym (ap (λ j. has_arrived j ps) z) ∙ h))

-- from an index on that isn't above the first missing one, the places reach up to that
pub passed-cons : (ps : List Placed) → 0 < length ps → passed ps ≡ first_missing 64 (greatest ps - 63) ps
passed-cons [] h = absurd (omega arith)
passed-cons (p ∷ ps) h = refl

pub record IsBelowPassed (from : ℕ) (ps : List Placed) : Type 0 where
  pub some : 0 < length ps
  pub within : from ≤ greatest ps + 1
  pub arrived : (k : ℕ) → greatest ps - 63 ≤ k → k < from → has_arrived k ps ≡ true
  pub sound : IsSound from ps

pub missing-above : (i : ℕ) (ps : List Placed) → greatest ps < i → has_arrived i ps ≡ false
missing-above i ps h = false_from_ne_true (has_arrived i ps) (λ e. absurd (omega (arith, arrived-within i ps e)))

reach-many : (from : ℕ) (ps : List Placed) → IsBelowPassed from ps → 64 ≤ greatest ps + 1 - from
    → from + reach (greatest ps + 1 - from - 64) (slots_from ps from (greatest ps + 1 - from)) ≡ passed ps
reach-many from ps b many =
    let m = greatest ps in
    let n = m + 1 - from in
    let u = n - 64 in
    let whole : n - u ≡ 64 = omega arith in
    let start : from + u ≡ m - 63 = omega arith in
    reach-slots u n from ps (omega arith) b.sound
    ∙ ap (λ k. first_missing k (from + u) ps) whole ∙ ap (λ i. first_missing 64 i ps) start
    ∙ sym (passed-cons ps b.some)

reach-few : (from : ℕ) (ps : List Placed) → IsBelowPassed from ps → greatest ps + 1 - from < 64
    → from + reach (greatest ps + 1 - from - 64) (slots_from ps from (greatest ps + 1 - from)) ≡ passed ps
reach-few from ps b few =
    let m = greatest ps in
    let n = m + 1 - from in
    let low = m - 63 in
    let a = from - low in
    let e = 64 - a - n in
    let h : from ≤ m + 1 = b.within in
    let none : n - 64 ≡ 0 = omega arith in
    let n_all : n - 0 ≡ n = omega arith in
    let from_all : from + 0 ≡ from = omega arith in
    let sum : n + e + a ≡ 64 = omega arith in
    let start : low + a ≡ from = omega arith in
    let past : has_arrived (from + n) ps ≡ false = missing-above (from + n) ps (omega arith) in
    let skipped = missing-behind-arrived a (n + e) low ps (λ k g l. b.arrived k g (omega arith)) in
    ap (λ u. from + reach u (slots_from ps from n)) none
    ∙ reach-slots 0 n from ps (omega arith) b.sound
    ∙ ap (λ k. first_missing k (from + 0) ps) n_all ∙ ap (λ i. first_missing n i ps) from_all
    ∙ sym (missing-more n e from ps past)
    ∙ ap (λ i. first_missing (n + e) i ps) (sym start)
    ∙ sym skipped ∙ ap (λ k. first_missing k low ps) sum
    ∙ sym (passed-cons ps b.some)

pub reach-passed : (from : ℕ) (ps : List Placed) → IsBelowPassed from ps
    → from + reach (greatest ps + 1 - from - 64) (slots_from ps from (greatest ps + 1 - from)) ≡ passed ps
reach-passed from ps b =
    let m = greatest ps in
    let n = m + 1 - from in
    elim (cases_lt n 64) [ inl few ↦ reach-few from ps b few | inr many ↦ reach-many from ps b many ]

-- the first missing index is such an index
pub passed-below : (ps : List Placed) → 0 < length ps → IsSound (passed ps) ps → IsBelowPassed (passed ps) ps
passed-below ps h s =
    let m = greatest ps in
    let f : Finds 64 (m - 63) ps (passed ps) =
    subst (λ r. Finds 64 (m - 63) ps r) (sym (passed-cons ps h)) (finds 64 (m - 63) ps) in
    record {
      some = h;
      within = elim (cases_lt (m + 1) (passed ps)) [
        | inl over ↦ absurd (omega (arith, arrived-within (m + 1) ps (f.arrived (m + 1) (omega arith) over)))
        | inr within ↦ within
      ];
      arrived = f.arrived;
      sound = s;
    }

-- at most 64 places are from the first missing index up to the greatest
pub passed-near : (ps : List Placed) → 0 < length ps → greatest ps + 1 ≤ passed ps + 64
passed-near ps h = omega (arith, passed-cons ps h, (finds 64 (greatest ps - 63) ps).from)
