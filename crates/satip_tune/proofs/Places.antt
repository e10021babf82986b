-- A place is found exactly where an element passes.
use Rattle.std.proofs.Common.{◌≡◌, ℕ, suc, ◌+◌, Bool, true, false, cond, not, ◌||◌, List, [], ◌∷◌, ◌++◌, length, None, Some, is_some, position, nat_lt, take, drop, ◌<◌, ◌≤◌, refl, sym, ap, ◌∙◌, arith}
use Rattle.std.proofs.lemmas.Bool.{ltb-true, ltb-false, or_parts}
use Rattle.std.proofs.lemmas.List.{take_all, drop_all, drop-drop}
use Rattle.std.proofs.lemmas.List.Splits.{slice_split-cons_no, slice_split-cons_yes, slice_split_first}
use Rattle.std.proofs.lemmas.Bool.Decides.{nat_tests}
use Rattle.std.specs.List.{list_any, position_or_len, before_first, after_first, slice_split, onto_first}

is_some-cond : (b : Bool) (n : ℕ) → is_some (cond b (Some n) None) ≡ b
is_some-cond true n = refl
is_some-cond false n = refl

nat_lt-zero_suc : (n : ℕ) → nat_lt 0 (suc n) ≡ true
nat_lt-zero_suc n = grind (arith, nat_tests)

nat_lt-suc : (m n : ℕ) → nat_lt (1 + m) (suc n) ≡ nat_lt m n
nat_lt-suc m n = grind (arith, nat_tests)

position_or_len-lt : {X : Type 0} (p : X → Bool) → (xs : List X) → nat_lt (position_or_len p xs) (length xs) ≡ list_any p xs
position_or_len-lt p [] = refl
position_or_len-lt p (x ∷ xs) =
    elim (p x) as (λ b. nat_lt (cond (not b) (1 + position_or_len p xs) 0) (suc (length xs)) ≡ (b || list_any p xs)) [
      | true ↦ nat_lt-zero_suc (length xs)
      | false ↦ nat_lt-suc (position_or_len p xs) (length xs) ∙ position_or_len-lt p xs
    ]

-- whether there is a first place that passes
pub is_some-position : {X : Type 0} (p : X → Bool) → (xs : List X) → is_some (position p xs) ≡ list_any p xs
is_some-position p xs = is_some-cond (nat_lt (position_or_len p xs) (length xs)) (position_or_len p xs) ∙ position_or_len-lt p xs

pub slice_split-no : {X : Type 0} (p : X → Bool) → (xs : List X) → list_any p xs ≡ false → slice_split p xs ≡ xs ∷ []
slice_split-no p [] none = refl
slice_split-no p (x ∷ xs) none =
    let both : (p x ≡ false) × (list_any p xs ≡ false) = or_parts (p x) (list_any p xs) none in
    slice_split-cons_no p x xs both.0 ∙ ap (λ parts. onto_first x parts) (slice_split-no p xs both.1)

-- a list that is cut behind its first part
pub slice_split-join : {X : Type 0} (p : X → Bool) → (xs : List X) (y : X) (ys : List X) → list_any p xs ≡ false → p y ≡ true
    → slice_split p (xs ++ y ∷ ys) ≡ xs ∷ slice_split p ys
slice_split-join p [] y ys none here = slice_split-cons_yes p y ys here
slice_split-join p (x ∷ xs) y ys none here =
    let both : (p x ≡ false) × (list_any p xs ≡ false) = or_parts (p x) (list_any p xs) none in
    slice_split-cons_no p x (xs ++ y ∷ ys) both.0 ∙ ap (λ parts. onto_first x parts) (slice_split-join p xs y ys both.1 here)

-- where no element passes, the list is not cut
pub record Uncut {X : Type 0} (p : X → Bool) (xs : List X) : Type 0 where
  pub parts : slice_split p xs ≡ xs ∷ []
  pub before : xs ≡ before_first p xs
  pub after : [] ≡ after_first p xs

pub uncut : {X : Type 0} (p : X → Bool) (xs : List X) → position p xs ≡ None → Uncut p xs
uncut p xs none =
    let no : list_any p xs ≡ false = sym (is_some-position p xs) ∙ ap is_some none in
    let far : length xs ≤ position_or_len p xs = ltb-false _ _ (position_or_len-lt p xs ∙ no) in
    record {
      parts = slice_split-no p xs no;
      before = sym (take_all (position_or_len p xs) xs far);
      after = sym (drop_all (position_or_len p xs + 1) xs (omega arith));
    }

place-is : (b : Bool) (n i : ℕ) → cond b (Some n) None ≡ Some i → (b ≡ true) × (n ≡ i)
place-is true n i h = (refl, cc)
place-is false n i h = absurd (cc)

-- where one passes, the list is cut at the first
pub record Cut {X : Type 0} (p : X → Bool) (xs front rest : List X) : Type 0 where
  pub parts : slice_split p xs ≡ front ∷ slice_split p rest
  pub before : front ≡ before_first p xs
  pub after : rest ≡ after_first p xs

pub cut_at : {X : Type 0} (p : X → Bool) (xs : List X) (i : ℕ) (d : X) (front middle rest : List X) → position p xs ≡ Some i → front ≡ take i xs
    → middle ≡ drop i xs → rest ≡ drop 1 middle → Cut p xs front rest
cut_at {X} p xs i d front middle rest some at_front at_middle at_rest =
    let is : (nat_lt (position_or_len p xs) (length xs) ≡ true) × (position_or_len p xs ≡ i) = place-is _ _ _ some in
    let within : position_or_len p xs < length xs = ltb-true _ _ is.0 in
    let before : front ≡ before_first p xs = at_front ∙ ap (λ n. take n xs) (sym is.1) in
    let after : rest ≡ after_first p xs =
    at_rest ∙ ap (λ (l : List X). drop 1 l) at_middle ∙ drop-drop 1 i xs ∙ ap (λ n. drop (n + 1) xs) (sym is.1) in
    record {
      parts = slice_split_first p xs d within ∙ ap (λ (l : List X). l ∷ slice_split p (after_first p xs)) (sym before)
          ∙ ap (λ (l : List X). front ∷ slice_split p l) (sym after);
      before = before;
      after = after;
    }
