-- Lists that are changed and cut element by element.
use Rattle.std.proofs.Common.{◌≡◌, ◌∙◌, ℕ, ◌||◌, Bool, true, false, cond, List, [], ◌∷◌, ◌++◌, Option, None, Some, map, filter, filter_map, flat_map, find}
use Rattle.std.proofs.Common.{slice_get, slice_set, refl, ap, sym, zero, suc}
use Rattle.std.specs.List.{list_any, cons_option}
use Rattle.std.specs.Option.{option_map}
use Rattle.std.proofs.lemmas.Bool.{true≢false}
use Rattle.satip_base.specs.Lists.{Each}

-- two facts of each element
pub each_both : {X : Type 0} (P Q : X → Type 0) (xs : List X) → Each P xs → Each Q xs → Each (λ x. P x × Q x) xs
each_both P Q [] one other = tt
each_both P Q (x ∷ xs) one other = ((one.0, other.0), each_both P Q xs one.1 other.1)

-- a weaker fact of each element
pub each_weaker : {X : Type 0} (P Q : X → Type 0) → ((x : X) → P x → Q x) → (xs : List X) → Each P xs → Each Q xs
each_weaker P Q so [] all = tt
each_weaker P Q so (x ∷ xs) all = (so x all.0, each_weaker P Q so xs all.1)

pub each_any : {X : Type 0} (P : X → Type 0) → ((x : X) → P x) → (xs : List X) → Each P xs
each_any P so [] = tt
each_any P so (x ∷ xs) = (so x, each_any P so xs)

pub each_append : {X : Type 0} (P : X → Type 0) (xs ys : List X) → Each P xs → Each P ys → Each P (xs ++ ys)
each_append P [] ys one other = other
each_append P (x ∷ xs) ys one other = (one.0, each_append P xs ys one.1 other)

-- what no element passes
pub none_each : {X : Type 0} (p : X → Bool) (xs : List X) → list_any p xs ≡ false → Each (λ x. p x ≡ false) xs
none_each p [] none = tt
none_each p (x ∷ xs) none = by (p x) refl (none_each p xs) none
  where
    by : (b : Bool) → p x ≡ b → (list_any p xs ≡ false → Each (λ y. p y ≡ false) xs) → (b || list_any p xs) ≡ false → Each (λ y. p y ≡ false) (x ∷ xs)
    by true is rest none = absurd (true≢false none)
    by false is rest none = (is, rest none)

pub filter_agree : {X : Type 0} (p q : X → Bool) (xs : List X) → Each (λ x. p x ≡ q x) xs → filter p xs ≡ filter q xs
filter_agree p q [] all = refl
filter_agree p q (x ∷ xs) all =
    ap (λ b. cond b (x ∷ filter p xs) (filter p xs)) all.0 ∙ ap (λ ys. cond (q x) (x ∷ ys) ys) (filter_agree p q xs all.1)

pub filter_none : {X : Type 0} (p : X → Bool) (xs : List X) → Each (λ x. p x ≡ false) xs → filter p xs ≡ []
filter_none p [] all = refl
filter_none p (x ∷ xs) all = ap (λ b. cond b (x ∷ filter p xs) (filter p xs)) all.0 ∙ filter_none p xs all.1

pub filter_all : {X : Type 0} (p : X → Bool) (xs : List X) → Each (λ x. p x ≡ true) xs → filter p xs ≡ xs
filter_all p [] all = refl
filter_all p (x ∷ xs) all = ap (λ b. cond b (x ∷ filter p xs) (filter p xs)) all.0 ∙ ap (λ ys. x ∷ ys) (filter_all p xs all.1)

pub filter_map_agree : {X Y : Type 0} (h k : X → Option Y) (xs : List X) → Each (λ x. h x ≡ k x) xs → filter_map h xs ≡ filter_map k xs
filter_map_agree h k [] all = refl
filter_map_agree h k (x ∷ xs) all =
    ap (λ o. cons_option o (filter_map h xs)) all.0 ∙ ap (λ ys. cons_option (k x) ys) (filter_map_agree h k xs all.1)

pub flat_map_agree : {X Y : Type 0} (h k : X → List Y) (xs : List X) → Each (λ x. h x ≡ k x) xs → flat_map h xs ≡ flat_map k xs
flat_map_agree h k [] all = refl
flat_map_agree h k (x ∷ xs) all =
    ap (λ ys. ys ++ flat_map h xs) all.0 ∙ ap (λ ys. k x ++ ys) (flat_map_agree h k xs all.1)

-- of elements that were changed
pub any-map : {X Y : Type 0} (p : Y → Bool) (f : X → Y) (xs : List X) → list_any p (map f xs) ≡ list_any (λ x. p (f x)) xs
any-map p f [] = refl
any-map p f (x ∷ xs) = ap (λ b. p (f x) || b) (any-map p f xs)

pub find-map : {X Y : Type 0} (p : Y → Bool) (f : X → Y) (xs : List X) → find p (map f xs) ≡ option_map f (find (λ x. p (f x)) xs)
find-map p f [] = refl
find-map p f (x ∷ xs) = by (p (f x)) (find-map p f xs)
  where
    by : (b : Bool) → find p (map f xs) ≡ option_map f (find (λ y. p (f y)) xs)
        → cond b (Some (f x)) (find p (map f xs)) ≡ option_map f (cond b (Some x) (find (λ y. p (f y)) xs))
    by true rest = refl
    by false rest = rest

pub filter-map : {X Y : Type 0} (p : Y → Bool) (f : X → Y) (xs : List X) → filter p (map f xs) ≡ map f (filter (λ x. p (f x)) xs)
filter-map p f [] = refl
filter-map p f (x ∷ xs) = by (p (f x)) (filter-map p f xs)
  where
    by : (b : Bool) → filter p (map f xs) ≡ map f (filter (λ y. p (f y)) xs)
        → cond b (f x ∷ filter p (map f xs)) (filter p (map f xs)) ≡ map f (cond b (x ∷ filter (λ y. p (f y)) xs) (filter (λ y. p (f y)) xs))
    by true rest = ap (λ ys. f x ∷ ys) rest
    by false rest = rest

pub filter_map-map : {X Y Z : Type 0} (h : Y → Option Z) (f : X → Y) (xs : List X) → filter_map h (map f xs) ≡ filter_map (λ x. h (f x)) xs
filter_map-map h f [] = refl
filter_map-map h f (x ∷ xs) = ap (λ ys. cons_option (h (f x)) ys) (filter_map-map h f xs)

pub filter_map-mapped : {X Y Z : Type 0} (g : Y → Z) (h : X → Option Y) (xs : List X) → filter_map (λ x. option_map g (h x)) xs ≡ map g (filter_map h xs)
filter_map-mapped g h [] = refl
filter_map-mapped {Y = Y} g h (x ∷ xs) = by (h x) (filter_map-mapped g h xs)
  where
    by : (o : Option Y) → filter_map (λ y. option_map g (h y)) xs ≡ map g (filter_map h xs)
        → cons_option (option_map g o) (filter_map (λ y. option_map g (h y)) xs) ≡ map g (cons_option o (filter_map h xs))
    by None rest = rest
    by (Some y) rest = ap (λ ys. g y ∷ ys) rest

pub map-append : {X Y : Type 0} (f : X → Y) (xs ys : List X) → map f (xs ++ ys) ≡ map f xs ++ map f ys
map-append f [] ys = refl
map-append f (x ∷ xs) ys = ap (λ zs. f x ∷ zs) (map-append f xs ys)

pub flat_map-mapped : {X Y Z : Type 0} (g : Y → Z) (h : X → List Y) (xs : List X) → flat_map (λ x. map g (h x)) xs ≡ map g (flat_map h xs)
flat_map-mapped g h [] = refl
flat_map-mapped g h (x ∷ xs) = ap (λ ys. map g (h x) ++ ys) (flat_map-mapped g h xs) ∙ sym (map-append g (h x) (flat_map h xs))

-- what is there is there
pub none_some : {X : Type 0} (x : X) → None ≡ Some x → ⊥
none_some {X = X} x e = true≢false (ap (λ o. lacks o) e)
  where
    lacks : Option X → Bool
    lacks None = true
    lacks (Some z) = false

-- an element is set
pub get-set_same : {X : Type 0} (xs : List X) (i : ℕ) (x y : X) → slice_get xs i ≡ Some x → slice_get (slice_set xs i y) i ≡ Some y
get-set_same [] i x y there = absurd (none_some x there)
get-set_same (z ∷ xs) zero x y there = refl
get-set_same (z ∷ xs) (suc i) x y there = get-set_same xs i x y there

pub get-set_other : {X : Type 0} (xs : List X) (i k : ℕ) (y : X) → (k ≡ i → ⊥) → slice_get (slice_set xs i y) k ≡ slice_get xs k
get-set_other [] i k y other = refl
get-set_other (z ∷ xs) zero zero y other = absurd (other refl)
get-set_other (z ∷ xs) zero (suc k) y other = refl
get-set_other (z ∷ xs) (suc i) zero y other = refl
get-set_other (z ∷ xs) (suc i) (suc k) y other = get-set_other xs i k y (λ e. other (ap suc e))
