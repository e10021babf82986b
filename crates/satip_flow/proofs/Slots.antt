-- Subscribers by their slots, of which lacks two are the same.
use Rattle.std.proofs.Common.{ℕ, ◌≡◌, ◌<◌, ◌≤◌, zero, suc, Bool, true, false, not, cond, eqb, ◌||◌, List, [], ◌∷◌, length, map, set, get_or, Some, None, refl, sym, ap, subst, ◌∙◌, arith}
use Rattle.std.proofs.lemmas.Bool.{false≢true, or_parts}
use Rattle.std.proofs.lemmas.Bool.Decides.{nat_tests}
use Rattle.std.proofs.lemmas.List.Folds.{list_any_at}
use Rattle.std.proofs.lemmas.List.{length-map}
use Rattle.std.proofs.lemmas.Map.Keys.{IsDistinct-cons}
use Rattle.std.proofs.lemmas.Map.Steps.{length-le_from_distinct_below}
use Rattle.std.specs.List.{list_any, remove, AllByRecursion, IsDistinct}
use Rattle.satip_flow.specs.Subscription.{Subscription, has_slot}
use Rattle.satip_flow.specs.Standing.{IsNowhere, StandsAt}
use Rattle.satip_flow.specs.Subscriptions.{of_slot, change_slot, without, comes_before, put, SlotsApart}

false_or : (a b : Bool) → a ≡ false → b ≡ false → (a || b) ≡ false
false_or true b h k = absurd (cc)
false_or false b h k = k

-- the same slot
pub slot_is : (slot : ℕ) (s : Subscription) → has_slot slot s ≡ true → s.place.slot ≡ slot
slot_is slot s h = grind (arith, nat_tests)

slots_differ : (a b : ℕ) → eqb a b ≡ false → eqb b a ≡ false
slots_differ a b h = grind (arith, nat_tests)

-- who has a slot is alone with it
pub not_after : (slot : ℕ) (x : Subscription) (xs : List Subscription) → list_any (has_slot x.place.slot) xs ≡ false → has_slot slot x ≡ true
    → list_any (has_slot slot) xs ≡ false
not_after slot x xs apart h = subst (λ n. list_any (has_slot n) xs ≡ false) (slot_is slot x h) apart

not_before : (slot : ℕ) (x : Subscription) (xs : List Subscription) (i : ℕ) (d : Subscription) → list_any (has_slot x.place.slot) xs ≡ false
    → i < length xs → has_slot slot (get_or xs i d) ≡ true → has_slot slot x ≡ false
not_before slot x xs i d apart h has = each (has_slot slot x) refl
  where
    found : list_any (has_slot slot) xs ≡ true
    found = list_any_at (has_slot slot) xs i d h has

    each : (t : Bool) → has_slot slot x ≡ t → t ≡ false
    each true e = absurd (false≢true (sym (not_after slot x xs apart e) ∙ found))
    each false e = refl

-- nobody has the slot
pub none_changed : (slot : ℕ) (f : Subscription → Subscription) (xs : List Subscription) → list_any (has_slot slot) xs ≡ false
    → change_slot slot f xs ≡ xs
none_changed slot f [] h = refl
none_changed slot f (x ∷ xs) h =
    let (lacks, none) = or_parts (has_slot slot x) (list_any (has_slot slot) xs) h in
    ap (λ t. cond t (f x) x ∷ change_slot slot f xs) lacks ∙ ap (λ rest. x ∷ rest) (none_changed slot f xs none)

pub none_found : (slot : ℕ) (xs : List Subscription) → list_any (has_slot slot) xs ≡ false → of_slot slot xs ≡ None
none_found slot [] h = refl
none_found slot (x ∷ xs) h =
    let (lacks, none) = or_parts (has_slot slot x) (list_any (has_slot slot) xs) h in
    ap (λ t. cond t (Some x) (of_slot slot xs)) lacks ∙ none_found slot xs none

pub none_without : (slot : ℕ) (xs : List Subscription) → list_any (has_slot slot) xs ≡ false → without slot xs ≡ xs
none_without slot [] h = refl
none_without slot (x ∷ xs) h =
    let (lacks, none) = or_parts (has_slot slot x) (list_any (has_slot slot) xs) h in
    ap (λ t. cond (not t) (x ∷ without slot xs) (without slot xs)) lacks ∙ ap (λ rest. x ∷ rest) (none_without slot xs none)

-- the one at a place has the slot
pub one_changed : (slot : ℕ) (f : Subscription → Subscription) (xs : List Subscription) (i : ℕ) (d : Subscription) → SlotsApart xs
    → i < length xs → has_slot slot (get_or xs i d) ≡ true → change_slot slot f xs ≡ set xs i (f (get_or xs i d))
one_changed slot f [] i d apart h has = absurd (omega (arith, h))
one_changed slot f (x ∷ xs) zero d (below, apart, rest) h has =
    ap (λ t. cond t (f x) x ∷ change_slot slot f xs) has ∙ ap (λ others. f x ∷ others) (none_changed slot f xs (not_after slot x xs apart has))
one_changed slot f (x ∷ xs) (suc i) d (below, apart, rest) h has =
    let inside : i < length xs = omega (arith, h) in
    ap (λ t. cond t (f x) x ∷ change_slot slot f xs) (not_before slot x xs i d apart inside has)
    ∙ ap (λ others. x ∷ others) (one_changed slot f xs i d rest inside has)

pub one_found : (slot : ℕ) (xs : List Subscription) (i : ℕ) (d : Subscription) → SlotsApart xs → i < length xs → has_slot slot (get_or xs i d) ≡ true
    → of_slot slot xs ≡ Some (get_or xs i d)
one_found slot [] i d apart h has = absurd (omega (arith, h))
one_found slot (x ∷ xs) zero d (below, apart, rest) h has = ap (λ t. cond t (Some x) (of_slot slot xs)) has
one_found slot (x ∷ xs) (suc i) d (below, apart, rest) h has =
    let inside : i < length xs = omega (arith, h) in
    ap (λ t. cond t (Some x) (of_slot slot xs)) (not_before slot x xs i d apart inside has) ∙ one_found slot xs i d rest inside has

pub one_without : (slot : ℕ) (xs : List Subscription) (i : ℕ) (d : Subscription) → SlotsApart xs → i < length xs → has_slot slot (get_or xs i d) ≡ true
    → without slot xs ≡ remove xs i
one_without slot [] i d apart h has = absurd (omega (arith, h))
one_without slot (x ∷ xs) zero d (below, apart, rest) h has =
    ap (λ t. cond (not t) (x ∷ without slot xs) (without slot xs)) has ∙ none_without slot xs (not_after slot x xs apart has)
one_without slot (x ∷ xs) (suc i) d (below, apart, rest) h has =
    let inside : i < length xs = omega (arith, h) in
    ap (λ t. cond (not t) (x ∷ without slot xs) (without slot xs)) (not_before slot x xs i d apart inside has)
    ∙ ap (λ others. x ∷ others) (one_without slot xs i d rest inside has)

-- slots stay apart where places stay
any-map : (slot : ℕ) (f : Subscription → Subscription) → ((s : Subscription) → (f s).place ≡ s.place) → (xs : List Subscription)
    → list_any (has_slot slot) (map f xs) ≡ list_any (has_slot slot) xs
any-map slot f keeps [] = refl
any-map slot f keeps (x ∷ xs) =
    ap (λ place. eqb place.slot slot || list_any (has_slot slot) (map f xs)) (keeps x)
    ∙ ap (λ others. has_slot slot x || others) (any-map slot f keeps xs)

pub apart-map : (f : Subscription → Subscription) → ((s : Subscription) → (f s).place ≡ s.place) → (xs : List Subscription) → SlotsApart xs
    → SlotsApart (map f xs)
apart-map f keeps [] apart = tt
apart-map f keeps (x ∷ xs) (below, apart, rest) = (
  subst (λ place. place.slot < 64) (sym (keeps x)) below,
  ap (λ place. list_any (has_slot place.slot) (map f xs)) (keeps x) ∙ any-map x.place.slot f keeps xs ∙ apart,
  apart-map f keeps xs rest,
)

-- and where one goes
any-without : (slot other : ℕ) (xs : List Subscription) → list_any (has_slot other) xs ≡ false → list_any (has_slot other) (without slot xs) ≡ false
any-without slot other [] h = refl
any-without slot other (x ∷ xs) h =
    let (lacks, none) = or_parts (has_slot other x) (list_any (has_slot other) xs) h in
    each (has_slot slot x) lacks (any-without slot other xs none)
  where
    each : (t : Bool) → has_slot other x ≡ false → list_any (has_slot other) (without slot xs) ≡ false
        → list_any (has_slot other) (cond (not t) (x ∷ without slot xs) (without slot xs)) ≡ false
    each true lacks none = none
    each false lacks none = false_or (has_slot other x) (list_any (has_slot other) (without slot xs)) lacks none

pub apart-without : (slot : ℕ) (xs : List Subscription) → SlotsApart xs → SlotsApart (without slot xs)
apart-without slot [] apart = tt
apart-without slot (x ∷ xs) (below, apart, rest) = each (has_slot slot x) (apart-without slot xs rest) (any-without slot x.place.slot xs apart)
  where
    each : (t : Bool) → SlotsApart (without slot xs) → list_any (has_slot x.place.slot) (without slot xs) ≡ false
        → SlotsApart (cond (not t) (x ∷ without slot xs) (without slot xs))
    each true others none = others
    each false others none = (below, none, others)

-- and where one with another slot comes
any-put : (slot : ℕ) (s : Subscription) (xs : List Subscription) → has_slot slot s ≡ false → list_any (has_slot slot) xs ≡ false
    → list_any (has_slot slot) (put s xs) ≡ false
any-put slot s [] lacks none = false_or (has_slot slot s) false lacks refl
any-put slot s (x ∷ xs) lacks none =
    let (other, others) = or_parts (has_slot slot x) (list_any (has_slot slot) xs) none in
    each (comes_before s.place x.place) none other (any-put slot s xs lacks others)
  where
    each : (t : Bool) → list_any (has_slot slot) (x ∷ xs) ≡ false → has_slot slot x ≡ false → list_any (has_slot slot) (put s xs) ≡ false
        → list_any (has_slot slot) (cond t (s ∷ x ∷ xs) (x ∷ put s xs)) ≡ false
    each true none other rest = false_or (has_slot slot s) (list_any (has_slot slot) (x ∷ xs)) lacks none
    each false none other rest = false_or (has_slot slot x) (list_any (has_slot slot) (put s xs)) other rest

pub apart-put : (s : Subscription) (xs : List Subscription) → s.place.slot < 64 → list_any (has_slot s.place.slot) xs ≡ false → SlotsApart xs
    → SlotsApart (put s xs)
apart-put s [] inside none apart = (inside, refl, tt)
apart-put s (x ∷ xs) inside none (below, apart, rest) =
    let (other, others) = or_parts (has_slot s.place.slot x) (list_any (has_slot s.place.slot) xs) none in
    each (comes_before s.place x.place) none (any-put x.place.slot s xs (slots_differ x.place.slot s.place.slot other) apart)
    (apart-put s xs inside others rest)
  where
    each : (t : Bool) → list_any (has_slot s.place.slot) (x ∷ xs) ≡ false → list_any (has_slot x.place.slot) (put s xs) ≡ false → SlotsApart (put s xs)
        → SlotsApart (cond t (s ∷ x ∷ xs) (x ∷ put s xs))
    each true none rest_none rest_apart = (inside, none, (below, apart, rest))
    each false none rest_none rest_apart = (below, rest_none, rest_apart)

-- so there are at most 64, and fewer where a slot is free
distinct_from : (slot : ℕ) (xs : List Subscription) → list_any (has_slot slot) xs ≡ false
    → AllByRecursion (λ y. eqb slot y ≡ false) (map (λ s. s.place.slot) xs)
distinct_from slot [] h = tt
distinct_from slot (x ∷ xs) h =
    let (lacks, none) = or_parts (has_slot slot x) (list_any (has_slot slot) xs) h in
    (slots_differ x.place.slot slot lacks, distinct_from slot xs none)

distinct_slots : (xs : List Subscription) → SlotsApart xs → IsDistinct eqb (map (λ s. s.place.slot) xs)
unfolding IsDistinct
distinct_slots [] apart = tt
distinct_slots (x ∷ xs) (below, apart, rest) = (distinct_from x.place.slot xs apart, distinct_slots xs rest)

slots_below : (xs : List Subscription) → SlotsApart xs → (q : ℕ) → list_any (eqb q) (map (λ s. s.place.slot) xs) ≡ true → q < 64
slots_below [] apart q h = absurd (cc)
slots_below (x ∷ xs) (below, apart, rest) q h = each (eqb q x.place.slot) refl (slots_below xs rest q) h
  where
    each : (t : Bool) → eqb q x.place.slot ≡ t → (list_any (eqb q) (map (λ s. s.place.slot) xs) ≡ true → q < 64)
        → (t || list_any (eqb q) (map (λ s. s.place.slot) xs)) ≡ true → q < 64
    each true e ih k = grind (arith, nat_tests)
    each false e ih k = ih k

pub fewer_than_64 : (slot : ℕ) (xs : List Subscription) → SlotsApart xs → slot < 64 → list_any (has_slot slot) xs ≡ false → length xs < 64
fewer_than_64 slot xs apart inside none =
    let all = map (λ (s : Subscription). s.place.slot) xs in
    let distinct = IsDistinct-cons eqb slot all (distinct_from slot xs none) (distinct_slots xs apart) in
    let few = length-le_from_distinct_below (slot ∷ all) 64 distinct (λ q h. below q h) in
    omega (arith, few, length-map xs (λ (s : Subscription). s.place.slot))
  where
    below : (q : ℕ) → list_any (eqb q) (slot ∷ map (λ s. s.place.slot) xs) ≡ true → q < 64
    below q h = each (eqb q slot) refl h
      where
        each : (t : Bool) → eqb q slot ≡ t → (t || list_any (eqb q) (map (λ s. s.place.slot) xs)) ≡ true → q < 64
        each true e k = grind (arith, nat_tests)
        each false e k = slots_below xs apart q k

-- at most 64 without a free slot
pub at_most_64 : (xs : List Subscription) → SlotsApart xs → length xs ≤ 64
at_most_64 xs apart =
    let few = length-le_from_distinct_below (map (λ (s : Subscription). s.place.slot) xs) 64 (distinct_slots xs apart) (slots_below xs apart) in
    omega (arith, few, length-map xs (λ (s : Subscription). s.place.slot))

-- each has a slot below 64
pub slot_below : (xs : List Subscription) → SlotsApart xs → (i : ℕ) (d : Subscription) → i < length xs → (get_or xs i d).place.slot < 64
slot_below [] apart i d h = absurd (omega (arith, h))
slot_below (x ∷ xs) (below, apart, rest) zero d h = below
slot_below (x ∷ xs) (below, apart, rest) (suc i) d h = slot_below xs rest i d (omega (arith, h))

-- an element within a list is read whatever stands for the others
pub read_same : (xs : List Subscription) (i : ℕ) (d e : Subscription) → i < length xs → get_or xs i d ≡ get_or xs i e
read_same [] i d e h = absurd (omega (arith, h))
read_same (x ∷ xs) zero d e h = refl
read_same (x ∷ xs) (suc i) d e h = read_same xs i d e (omega (arith, h))

-- nobody has a slot, or one does
pub nowhere : (slot : ℕ) (xs : List Subscription) → list_any (has_slot slot) xs ≡ false → IsNowhere slot xs
nowhere slot xs h = record {
  absent = h;
  found = none_found slot xs h;
  changed = λ f. none_changed slot f xs h;
  others = none_without slot xs h;
}

pub stands_at : (slot : ℕ) (xs : List Subscription) (i : ℕ) (one : Subscription) → SlotsApart xs → i < length xs → one ≡ get_or xs i one
    → one.place.slot ≡ slot → StandsAt slot xs i
stands_at slot xs i one apart h is same = record {
  within = h;
  present = list_any_at (has_slot slot) xs i one h (has one);
  found = λ d. one_found slot xs i d apart h (has d);
  changed = λ f d. one_changed slot f xs i d apart h (has d);
  others = one_without slot xs i one apart h (has one);
}
  where
    has_one : has_slot slot one ≡ true
    has_one = grind (arith, nat_tests)

    has : (d : Subscription) → has_slot slot (get_or xs i d) ≡ true
    has d = ap (λ s. has_slot slot s) (read_same xs i d one h ∙ sym is) ∙ has_one
