-- Lists and tests of them.
use Rattle.std.proofs.Common.{◌≡◌, ◌∙◌, ◌<◌, ◌≤◌, ◌&&◌, ◌||◌, not, Bool, true, false, cond, List, [], ◌∷◌, length, map, filter, refl, ap, sym, arith, find}
use Rattle.std.proofs.Common.{is_some, Option, None, Some}
use Rattle.std.specs.List.{list_any, list_all}
use Rattle.std.specs.Option.{option_map}
use Rattle.std.proofs.lemmas.Bool.{and_parts, and_from, or_parts, true≢false}
use Rattle.std.proofs.lemmas.Option.{same_Some}

module _ {X : Type 0} where
  -- a change of those that pass, where none does
  pub map_none : (p : X → Bool) (g : X → X) (xs : List X) → list_any p xs ≡ false → map (λ x. cond (p x) (g x) x) xs ≡ xs
  map_none p g [] none = refl
  map_none p g (x ∷ xs) none =
      let parts = or_parts _ _ none in
      ap (λ b. cond b (g x) x ∷ map (λ y. cond (p y) (g y) y) xs) parts.0 ∙ ap (λ ys. x ∷ ys) (map_none p g xs parts.1)

  -- where none is found, none passes
  pub any_none : (p : X → Bool) (xs : List X) → find p xs ≡ None → list_any p xs ≡ false
  any_none p [] none = refl
  any_none p (x ∷ xs) none = each (p x) none (any_none p xs)
    where
      each : (b : Bool) → cond b (Some x) (find p xs) ≡ None → (find p xs ≡ None → list_any p xs ≡ false) → (b || list_any p xs) ≡ false
      each true one rest = absurd (true≢false (ap is_some one))
      each false one rest = rest one

  -- what is found passes
  pub find_passes : (p : X → Bool) (xs : List X) (x : X) → find p xs ≡ Some x → p x ≡ true
  find_passes p [] x found = cc
  find_passes p (y ∷ xs) x found = each (p y) refl found (find_passes p xs x)
    where
      each : (b : Bool) → p y ≡ b → cond b (Some y) (find p xs) ≡ Some x → (find p xs ≡ Some x → p x ≡ true) → p x ≡ true
      each true passes one rest = ap p (sym (same_Some y x one)) ∙ passes
      each false _ one rest = rest one

  -- a filter that drops none
  pub filter_none : (p : X → Bool) (xs : List X) → list_any p xs ≡ false → filter (λ x. not (p x)) xs ≡ xs
  filter_none p [] none = refl
  filter_none p (x ∷ xs) none =
      let parts = or_parts _ _ none in
      each (p x) parts.0 (filter_none p xs parts.1)
    where
      each : (b : Bool) → b ≡ false → filter (λ y. not (p y)) xs ≡ xs → cond (not b) (x ∷ filter (λ y. not (p y)) xs) (filter (λ y. not (p y)) xs) ≡ x ∷ xs
      each true one rest = cc
      each false one rest = ap (λ ys. x ∷ ys) rest

  pub length-filter-le : (p : X → Bool) (xs : List X) → length (filter p xs) ≤ length xs
  length-filter-le p [] = omega arith
  length-filter-le p (x ∷ xs) = each (p x) (length-filter-le p xs)
    where
      each : (b : Bool) → length (filter p xs) ≤ length xs → length (cond b (x ∷ filter p xs) (filter p xs)) ≤ length (x ∷ xs)
      each true rest = omega arith
      each false rest = omega arith

  -- a filter that drops one at least
  pub length-filter-lt : (p : X → Bool) (xs : List X) → list_any p xs ≡ true → length (filter (λ x. not (p x)) xs) < length xs
  length-filter-lt p [] some = cc
  length-filter-lt p (x ∷ xs) some = each (p x) some (length-filter-lt p xs) (length-filter-le (λ y. not (p y)) xs)
    where
      each : (b : Bool) → (b || list_any p xs) ≡ true → (list_any p xs ≡ true → length (filter (λ y. not (p y)) xs) < length xs)
          → length (filter (λ y. not (p y)) xs) ≤ length xs
          → length (cond (not b) (x ∷ filter (λ y. not (p y)) xs) (filter (λ y. not (p y)) xs)) < length (x ∷ xs)
      each true _ rest le = omega arith
      each false some rest le = let lt = rest some in omega (arith, lt)

  -- what fails of all fails of those that are kept
  pub any-filter : (p q : X → Bool) (xs : List X) → list_any q xs ≡ false → list_any q (filter p xs) ≡ false
  any-filter p q [] none = refl
  any-filter p q (x ∷ xs) none =
      let parts = or_parts _ _ none in
      each (p x) parts.0 (any-filter p q xs parts.1)
    where
      each : (b : Bool) → q x ≡ false → list_any q (filter p xs) ≡ false → list_any q (cond b (x ∷ filter p xs) (filter p xs)) ≡ false
      each true one rest = ap (λ c. c || list_any q (filter p xs)) one ∙ rest
      each false one rest = rest

  -- what holds of all holds of those that are kept
  pub all-filter : (p q : X → Bool) (xs : List X) → list_all q xs ≡ true → list_all q (filter p xs) ≡ true
  all-filter p q [] all = refl
  all-filter p q (x ∷ xs) all =
      let parts = and_parts _ _ all in
      each (p x) parts.0 (all-filter p q xs parts.1)
    where
      each : (b : Bool) → q x ≡ true → list_all q (filter p xs) ≡ true → list_all q (cond b (x ∷ filter p xs) (filter p xs)) ≡ true
      each true one rest = and_from _ _ one rest
      each false one rest = rest

  pub all_weaker : (p q : X → Bool) (xs : List X) → ((x : X) → p x ≡ true → q x ≡ true) → list_all p xs ≡ true → list_all q xs ≡ true
  all_weaker p q [] weaker all = refl
  all_weaker p q (x ∷ xs) weaker all =
      let parts = and_parts _ _ all in
      and_from _ _ (weaker x parts.0) (all_weaker p q xs weaker parts.1)

  -- two tests of each
  pub all_both : (p q : X → Bool) (xs : List X) → list_all p xs ≡ true → list_all q xs ≡ true → list_all (λ x. p x && q x) xs ≡ true
  all_both p q [] one other = refl
  all_both p q (x ∷ xs) one other =
      let left = and_parts _ _ one in
      let right = and_parts _ _ other in
      and_from _ _ (and_from _ _ left.0 right.0) (all_both p q xs left.1 right.1)

  pub any-cond : (q : X → Bool) (b : Bool) (x : X) (xs : List X) → list_any q (cond b (x ∷ xs) xs) ≡ cond b (q x || list_any q xs) (list_any q xs)
  any-cond q true x xs = refl
  any-cond q false x xs = refl

  -- an element is found exactly where one passes
  pub find_any : (p : X → Bool) (xs : List X) → is_some (find p xs) ≡ list_any p xs
  find_any p [] = refl
  find_any p (x ∷ xs) = each (p x) (find_any p xs)
    where
      each : (b : Bool) → is_some (find p xs) ≡ list_any p xs → is_some (cond b (Some x) (find p xs)) ≡ (b || list_any p xs)
      each true rest = refl
      each false rest = rest

-- a result that stands for what is found is there exactly where one passes
pub found_lives : {X Y Z : Type 0} (p : X → Bool) (xs : List X) (f : X → Z) (g : Y → Z) (r : Option Y) → option_map g r ≡ option_map f (find p xs)
    → is_some r ≡ list_any p xs
found_lives p xs f g r same = sym (some_map g r) ∙ ap is_some same ∙ some_map f (find p xs) ∙ find_any p xs
  where
    some_map : {A B : Type 0} (h : A → B) (o : Option A) → is_some (option_map h o) ≡ is_some o
    some_map h None = refl
    some_map h (Some a) = refl
