-- Elements of lists that a test picks.
use Rattle.std.proofs.Common.{◌≡◌, ℕ, zero, suc, Bool, true, false, not, cond, ◌||◌, List, [], ◌∷◌, ◌++◌, map, filter, find, Option, Some, None}
use Rattle.std.proofs.Common.{refl, sym, ap, subst, ◌∙◌, inl, inr}
use Rattle.std.specs.List.{list_any, list_all, slice_get}
use Rattle.std.specs.Option.{option_map}
use Rattle.std.proofs.lemmas.Bool.{or_parts, and_parts}
use Rattle.std.proofs.lemmas.Option.{same_Some}
use Rattle.satip_base.specs.Lists.{Has}
use Rattle.satip_table.proofs.Listing.{filter_none}

module _ {X : Type 0} where
  pub find_none : (p : X → Bool) (xs : List X) → list_any p xs ≡ false → find p xs ≡ None
  find_none p [] none = refl
  find_none p (x ∷ xs) none =
      let parts = or_parts (p x) (list_any p xs) none in
      ap (λ b. cond b (Some x) (find p xs)) parts.0 ∙ find_none p xs parts.1

  pub map_none : (p : X → Bool) (f : X → X) (xs : List X) → list_any p xs ≡ false → map (λ y. cond (p y) (f y) y) xs ≡ xs
  map_none p f [] none = refl
  map_none p f (x ∷ xs) none =
      let parts = or_parts (p x) (list_any p xs) none in
      ap (λ b. cond b (f x) x ∷ map (λ y. cond (p y) (f y) y) xs) parts.0 ∙ ap (λ ys. x ∷ ys) (map_none p f xs parts.1)

  -- one of which the test holds, among others of which it doesn't
  pub map_one : (p : X → Bool) (f : X → X) (a : List X) (x : X) (b : List X) → list_any p a ≡ false → p x ≡ true → list_any p b ≡ false
      → map (λ y. cond (p y) (f y) y) (a ++ x ∷ b) ≡ a ++ f x ∷ b
  map_one p f [] x b before here behind =
      ap (λ t. cond t (f x) x ∷ map (λ y. cond (p y) (f y) y) b) here ∙ ap (λ ys. f x ∷ ys) (map_none p f b behind)
  map_one p f (y ∷ a) x b before here behind =
      let parts = or_parts (p y) (list_any p a) before in
      ap (λ t. cond t (f y) y ∷ map (λ z. cond (p z) (f z) z) (a ++ x ∷ b)) parts.0
      ∙ ap (λ ys. y ∷ ys) (map_one p f a x b parts.1 here behind)

  pub find_one : (p : X → Bool) (a : List X) (x : X) (b : List X) → list_any p a ≡ false → p x ≡ true → find p (a ++ x ∷ b) ≡ Some x
  find_one p [] x b before here = ap (λ t. cond t (Some x) (find p b)) here
  find_one p (y ∷ a) x b before here =
      let parts = or_parts (p y) (list_any p a) before in
      ap (λ t. cond t (Some y) (find p (a ++ x ∷ b))) parts.0 ∙ find_one p a x b parts.1 here

  pub filter_one : (p : X → Bool) (a : List X) (x : X) (b : List X) → list_any p a ≡ false → p x ≡ true → list_any p b ≡ false
      → filter (λ y. not (p y)) (a ++ x ∷ b) ≡ a ++ b
  filter_one p [] x b before here behind =
      ap (λ t. cond (not t) (x ∷ filter (λ y. not (p y)) b) (filter (λ y. not (p y)) b)) here ∙ filter_none p b behind
  filter_one p (y ∷ a) x b before here behind =
      let parts = or_parts (p y) (list_any p a) before in
      ap (λ t. cond (not t) (y ∷ filter (λ z. not (p z)) (a ++ x ∷ b)) (filter (λ z. not (p z)) (a ++ x ∷ b))) parts.0
      ∙ ap (λ ys. y ∷ ys) (filter_one p a x b parts.1 here behind)

  -- who stands at a place
  pub get_has : (xs : List X) (k : ℕ) (x : X) → slice_get xs k ≡ Some x → Has x xs
  get_has [] k x got = absurd (cc)
  get_has (y ∷ xs) zero x got = inl (sym (same_Some y x got))
  get_has (y ∷ xs) (suc k) x got = inr (get_has xs k x got)

  pub any_get : (p : X → Bool) (xs : List X) (k : ℕ) (x : X) → list_any p xs ≡ false → slice_get xs k ≡ Some x → p x ≡ false
  any_get p [] k x none got = absurd (cc)
  any_get p (y ∷ xs) zero x none got =
      let parts = or_parts (p y) (list_any p xs) none in
      ap p (sym (same_Some y x got)) ∙ parts.0
  any_get p (y ∷ xs) (suc k) x none got =
      let parts = or_parts (p y) (list_any p xs) none in
      any_get p xs k x parts.1 got

  pub find_place : (p : X → Bool) (xs : List X) (x : X) → find p xs ≡ Some x → (k : ℕ) × (slice_get xs k ≡ Some x) × (p x ≡ true)
  find_place p [] x found = absurd (cc)
  find_place p (y ∷ xs) x found = by (p y) refl found (λ e. find_place p xs x e)
    where
      by : (b : Bool) → p y ≡ b → cond b (Some y) (find p xs) ≡ Some x
          → (find p xs ≡ Some x → (k : ℕ) × (slice_get xs k ≡ Some x) × (p x ≡ true))
          → (k : ℕ) × (slice_get (y ∷ xs) k ≡ Some x) × (p x ≡ true)
      by true e same rest = (zero, same, subst (λ z. p z ≡ true) (same_Some y x same) e)
      by false e same rest = let r = rest same in (suc r.0, r.1, r.2)

pub find-map : {X Y : Type 0} (f : X → Y) (p : Y → Bool) (xs : List X) → find p (map f xs) ≡ option_map f (find (λ x. p (f x)) xs)
find-map f p [] = refl
find-map f p (x ∷ xs) = by (p (f x)) (find-map f p xs)
  where
    by : (b : Bool) → find p (map f xs) ≡ option_map f (find (λ y. p (f y)) xs)
        → cond b (Some (f x)) (find p (map f xs)) ≡ option_map f (cond b (Some x) (find (λ y. p (f y)) xs))
    by true rest = refl
    by false rest = rest

pub get-map : {X Y : Type 0} (f : X → Y) (xs : List X) (k : ℕ) → slice_get (map f xs) k ≡ option_map f (slice_get xs k)
get-map f [] k = refl
get-map f (x ∷ xs) zero = refl
get-map f (x ∷ xs) (suc k) = get-map f xs k

pub any-map : {X Y : Type 0} (f : X → Y) (p : Y → Bool) (xs : List X) → list_any p (map f xs) ≡ list_any (λ x. p (f x)) xs
any-map f p [] = refl
any-map f p (x ∷ xs) = ap (λ b. p (f x) || b) (any-map f p xs)

pub map_some : {X Y : Type 0} (f : X → Y) (o : Option X) (y : Y) → option_map f o ≡ Some y → (x : X) × (o ≡ Some x) × (f x ≡ y)
map_some f None y e = absurd (cc)
map_some f (Some x) y e = (x, refl, same_Some (f x) y e)

pub map_nothing : {X Y : Type 0} (f : X → Y) (o : Option X) → option_map f o ≡ None → o ≡ None
map_nothing f None e = refl
map_nothing f (Some x) e = absurd (cc)

-- a test that agrees with another at each element finds the same
pub find_agree : {X : Type 0} (p q : X → Bool) (xs : List X) → ((x : X) → p x ≡ q x) → find p xs ≡ find q xs
find_agree p q [] same = refl
find_agree p q (x ∷ xs) same = ap (λ b. cond b (Some x) (find p xs)) (same x) ∙ ap (λ o. cond (q x) (Some x) o) (find_agree p q xs same)

pub all_get : {X : Type 0} (p : X → Bool) (xs : List X) (k : ℕ) (x : X) → list_all p xs ≡ true → slice_get xs k ≡ Some x → p x ≡ true
all_get p [] k x all got = absurd (cc)
all_get p (y ∷ xs) zero x all got = let parts = and_parts (p y) (list_all p xs) all in ap p (sym (same_Some y x got)) ∙ parts.0
all_get p (y ∷ xs) (suc k) x all got = let parts = and_parts (p y) (list_all p xs) all in all_get p xs k x parts.1 got

module _ {X : Type 0} where
  pub find_some : (p : X → Bool) (xs : List X) → list_any p xs ≡ true → (x : X) × (find p xs ≡ Some x)
  find_some p [] any = absurd (cc)
  find_some p (x ∷ xs) any = by (p x) any (λ e. find_some p xs e)
    where
      by : (b : Bool) → (b || list_any p xs) ≡ true → (list_any p xs ≡ true → (y : X) × (find p xs ≡ Some y)) → (y : X) × (cond b (Some x) (find p xs) ≡ Some y)
      by true e rest = (x, refl)
      by false e rest = rest e
