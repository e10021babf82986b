-- The subscriber of a slot, when the list of subscribers changes.
use Rattle.std.proofs.Common.{ℕ, ◌≡◌, ◌≢◌, ◌<◌, zero, suc, Bool, true, false, not, cond, eqb, ◌&&◌, ◌||◌, List, [], ◌∷◌, length, map, get_or, Option, Some, None, option_map, refl, sym, ap, subst, ◌∙◌, arith}
use Rattle.std.proofs.lemmas.Bool.{false≢true, eq-eqb, ne_eqb, or_parts}
use Rattle.std.proofs.lemmas.List.Folds.{list_any_at}
use Rattle.std.specs.List.{list_any}
use Rattle.satip_flow.specs.Subscription.{Subscription, has_slot}
use Rattle.satip_flow.specs.Subscriptions.{of_slot, without, comes_before, put, SlotsApart}
use Rattle.satip_flow.specs.Rows.{holds_of}
use Rattle.satip_flow.proofs.Slots.{slot_is, one_found, none_found}

pub same_one : (a b : Subscription) → Some a ≡ Some b → a ≡ b
same_one a b e = ap (λ o. inside o) e
  where
    inside : Option Subscription → Subscription
    inside None = a
    inside (Some s) = s

-- who passes a test
pub record Passing (p : Subscription → Bool) (o : Option Subscription) : Type 0 where
  pub one : Subscription
  pub is : o ≡ Some one
  pub passes : p one ≡ true

pub passing : (p : Subscription → Bool) (o : Option Subscription) → holds_of p o ≡ true → Passing p o
passing p None h = absurd (false≢true h)
passing p (Some s) h = record { one = s; is = refl; passes = h }

-- the one at a place is its slot's
pub at_slot : (xs : List Subscription) (i : ℕ) (d : Subscription) → SlotsApart xs → i < length xs
    → of_slot (get_or xs i d).place.slot xs ≡ Some (get_or xs i d)
at_slot xs i d apart h = one_found (get_or xs i d).place.slot xs i d apart h (eq-eqb (get_or xs i d).place.slot (get_or xs i d).place.slot refl)

-- the place of a slot's subscriber
pub record Found (slot : ℕ) (xs : List Subscription) (s : Subscription) : Type 0 where
  pub at : ℕ
  pub within : at < length xs
  pub is : (d : Subscription) → get_or xs at d ≡ s
  pub has : s.place.slot ≡ slot

pub found_at : (slot : ℕ) (xs : List Subscription) (s : Subscription) → of_slot slot xs ≡ Some s → Found slot xs s
found_at slot [] s e = absurd (cc)
found_at slot (x ∷ xs) s e = each (has_slot slot x) refl e (found_at slot xs s)
  where
    each : (t : Bool) → has_slot slot x ≡ t → cond t (Some x) (of_slot slot xs) ≡ Some s → (of_slot slot xs ≡ Some s → Found slot xs s)
        → Found slot (x ∷ xs) s
    each true h e later =
        let same = same_one x s e in
        record { at = zero; within = omega arith; is = λ d. same; has = ap (λ s. s.place.slot) (sym same) ∙ slot_is slot x h }
    each false h e later =
        let found = later e in
        record { at = suc found.at; within = omega (arith, found.within); is = λ d. found.is d; has = found.has }

pub found_any : (slot : ℕ) (xs : List Subscription) (s : Subscription) (p : Subscription → Bool) → of_slot slot xs ≡ Some s → p s ≡ true
    → list_any p xs ≡ true
found_any slot xs s p e passes =
    let found = found_at slot xs s e in
    list_any_at p xs found.at s found.within (ap p (found.is s) ∙ passes)

-- if none passes by its slot, none does
pub none_any : (p : Subscription → Bool) (xs : List Subscription)
    → ((i : ℕ) (d : Subscription) → i < length xs → p (get_or xs i d) ≡ false) → list_any p xs ≡ false
none_any p [] none = refl
none_any p (x ∷ xs) none =
    ap (λ t. t || list_any p xs) (none zero x (omega arith)) ∙ none_any p xs (λ i d h. none (suc i) d (omega (arith, h)))

-- a change that keeps places
pub of_map : (slot : ℕ) (f : Subscription → Subscription) → ((s : Subscription) → (f s).place ≡ s.place) → (xs : List Subscription)
    → of_slot slot (map f xs) ≡ option_map f (of_slot slot xs)
of_map slot f keeps [] = refl
of_map slot f keeps (x ∷ xs) =
    ap (λ place. cond (eqb place.slot slot) (Some (f x)) (of_slot slot (map f xs))) (keeps x) ∙ each (has_slot slot x) (of_map slot f keeps xs)
  where
    each : (t : Bool) → of_slot slot (map f xs) ≡ option_map f (of_slot slot xs)
        → cond t (Some (f x)) (of_slot slot (map f xs)) ≡ option_map f (cond t (Some x) (of_slot slot xs))
    each true ih = refl
    each false ih = ih

-- whom a change made
pub record Made (f : Subscription → Subscription) (o : Option Subscription) (s : Subscription) : Type 0 where
  pub from : Subscription
  pub is : o ≡ Some from
  pub made : f from ≡ s

pub made_from : (f : Subscription → Subscription) (o : Option Subscription) (s : Subscription) → option_map f o ≡ Some s → Made f o s
made_from f None s e = absurd (cc)
made_from f (Some t) s e = record { from = t; is = refl; made = same_one (f t) s e }

-- one more
swapped : (a b : Bool) (x y : Subscription) (rest : Option Subscription) → (a ≡ true → b ≡ false)
    → cond b (Some y) (cond a (Some x) rest) ≡ cond a (Some x) (cond b (Some y) rest)
swapped true true x y rest h = absurd (false≢true (sym (h refl)))
swapped true false x y rest h = refl
swapped false true x y rest h = refl
swapped false false x y rest h = refl

pub of_put : (slot : ℕ) (s : Subscription) (xs : List Subscription) → list_any (has_slot s.place.slot) xs ≡ false
    → of_slot slot (put s xs) ≡ cond (has_slot slot s) (Some s) (of_slot slot xs)
of_put slot s [] none = refl
of_put slot s (x ∷ xs) none =
    let (lacks, others) = or_parts (has_slot s.place.slot x) (list_any (has_slot s.place.slot) xs) none in
    let not_both : has_slot slot s ≡ true → has_slot slot x ≡ false = λ e. subst (λ n. has_slot n x ≡ false) (slot_is slot s e) lacks in
    each (comes_before s.place x.place) (of_put slot s xs others) (swapped (has_slot slot s) (has_slot slot x) s x (of_slot slot xs) not_both)
  where
    each : (t : Bool) → of_slot slot (put s xs) ≡ cond (has_slot slot s) (Some s) (of_slot slot xs)
        → cond (has_slot slot x) (Some x) (cond (has_slot slot s) (Some s) (of_slot slot xs))
        ≡ cond (has_slot slot s) (Some s) (cond (has_slot slot x) (Some x) (of_slot slot xs))
        → of_slot slot (cond t (s ∷ x ∷ xs) (x ∷ put s xs)) ≡ cond (has_slot slot s) (Some s) (cond (has_slot slot x) (Some x) (of_slot slot xs))
    each true ih swap = refl
    each false ih swap = ap (λ o. cond (has_slot slot x) (Some x) o) ih ∙ swap

pub of_put_same : (slot : ℕ) (s : Subscription) (xs : List Subscription) → list_any (has_slot s.place.slot) xs ≡ false → s.place.slot ≡ slot
    → of_slot slot (put s xs) ≡ Some s
of_put_same slot s xs none same =
    of_put slot s xs none ∙ ap (λ t. cond t (Some s) (of_slot slot xs)) (eq-eqb s.place.slot slot same)

pub of_put_other : (slot : ℕ) (s : Subscription) (xs : List Subscription) → list_any (has_slot s.place.slot) xs ≡ false → s.place.slot ≢ slot
    → of_slot slot (put s xs) ≡ of_slot slot xs
of_put_other slot s xs none differs =
    of_put slot s xs none ∙ ap (λ t. cond t (Some s) (of_slot slot xs)) (ne_eqb s.place.slot slot differs)

-- one less
pub of_without_same : (slot : ℕ) (xs : List Subscription) → of_slot slot (without slot xs) ≡ None
of_without_same slot [] = refl
of_without_same slot (x ∷ xs) = each (has_slot slot x) refl (of_without_same slot xs)
  where
    each : (t : Bool) → has_slot slot x ≡ t → of_slot slot (without slot xs) ≡ None
        → of_slot slot (cond (not t) (x ∷ without slot xs) (without slot xs)) ≡ None
    each true e ih = ih
    each false e ih = ap (λ t. cond t (Some x) (of_slot slot (without slot xs))) e ∙ ih

pub of_without_other : (slot other : ℕ) (xs : List Subscription) → other ≢ slot → of_slot other (without slot xs) ≡ of_slot other xs
of_without_other slot other [] differs = refl
of_without_other slot other (x ∷ xs) differs = each (has_slot slot x) refl (of_without_other slot other xs differs)
  where
    each : (t : Bool) → has_slot slot x ≡ t → of_slot other (without slot xs) ≡ of_slot other xs
        → of_slot other (cond (not t) (x ∷ without slot xs) (without slot xs)) ≡ cond (has_slot other x) (Some x) (of_slot other xs)
    each true e ih =
        let lacks = ne_eqb x.place.slot other (λ same. differs (sym same ∙ slot_is slot x e)) in
        ih ∙ sym (ap (λ t. cond t (Some x) (of_slot other xs)) lacks)
    each false e ih = ap (λ o. cond (has_slot other x) (Some x) o) ih
