-- What two readings one after the other make of a list.
use Rattle.std.proofs.Common.{◌≡◌, ℕ, suc, Bool, true, false, ◌&&◌, ◌||◌, List, [], ◌∷◌, length, map, Option, Some, None, is_some, option_and_then, refl, ap}
use Rattle.std.specs.List.{list_all, list_any, filter_map, cons_option}
use Rattle.std.specs.Option.{option_map_or}
use Rattle.std.proofs.lemmas.Bool.{false≢true}

all_step : {A B : Type 0} (g : A → Option B) (o : Option A) (ys : List A) (rest same : Bool) → (is_some o && rest) ≡ true
    → (rest ≡ true → list_all (λ y. is_some (g y)) ys ≡ same)
    → list_all (λ y. is_some (g y)) (cons_option o ys) ≡ (is_some (option_and_then g o) && same)
all_step g None ys rest same h more = absurd (false≢true h)
all_step g (Some y) ys rest same h more = ap (λ b. is_some (g y) && b) (more h)

length_step : {A : Type 0} (o : Option A) (ys : List A) (n : ℕ) (rest : Bool) → (is_some o && rest) ≡ true → (rest ≡ true → length ys ≡ n)
    → length (cons_option o ys) ≡ suc n
length_step None ys n rest h more = absurd (false≢true h)
length_step (Some y) ys n rest h more = ap suc (more h)

module _ {X A B : Type 0} (f : X → Option A) (g : A → Option B) where
  pub filter_map-filter_map : (xs : List X) → filter_map g (filter_map f xs) ≡ filter_map (λ x. option_and_then g (f x)) xs
  filter_map-filter_map [] = refl
  filter_map-filter_map (x ∷ xs) =
      elim (f x) as (λ o. filter_map g (cons_option o (filter_map f xs)) ≡ cons_option (option_and_then g o) (filter_map (λ z. option_and_then g (f z)) xs)) [
        | None ↦ filter_map-filter_map xs
        | Some y ↦ ap (cons_option (g y)) (filter_map-filter_map xs)
      ]

  pub list_all-whole : (xs : List X) → list_all (λ x. is_some (f x)) xs ≡ true
      → list_all (λ y. is_some (g y)) (filter_map f xs) ≡ list_all (λ x. is_some (option_and_then g (f x))) xs
  list_all-whole [] h = refl
  list_all-whole (x ∷ xs) h = all_step g (f x) _ _ _ h (list_all-whole xs)

module _ {X A : Type 0} (f : X → Option A) where
  pub length-whole : (xs : List X) → list_all (λ x. is_some (f x)) xs ≡ true → length (filter_map f xs) ≡ length xs
  length-whole [] h = refl
  length-whole (x ∷ xs) h = length_step (f x) _ _ _ h (length-whole xs)

  pub filter_map-map : {Y : Type 0} (view : Y → X) (ys : List Y) → filter_map f (map view ys) ≡ filter_map (λ y. f (view y)) ys
  filter_map-map view [] = refl
  filter_map-map view (y ∷ ys) = ap (cons_option (f (view y))) (filter_map-map view ys)

  pub list_any-filter_map : (p : A → Bool) (xs : List X) → list_any p (filter_map f xs) ≡ list_any (λ x. option_map_or p (f x) false) xs
  list_any-filter_map p [] = refl
  list_any-filter_map p (x ∷ xs) =
      elim (f x) as (λ o. list_any p (cons_option o (filter_map f xs)) ≡ (option_map_or p o false || list_any (λ z. option_map_or p (f z) false) xs)) [
        | None ↦ list_any-filter_map p xs
        | Some y ↦ ap (λ b. p y || b) (list_any-filter_map p xs)
      ]

pub ruleset wholes = (filter_map-filter_map, list_all-whole, length-whole, filter_map-map, list_any-filter_map)
