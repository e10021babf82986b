-- Look-ups in lists, and what a list has.
use Rattle.std.proofs.Common.{arith, ◌≡◌, ◌⊎◌, inl, inr, suc, ◌≤◌, ◌&&◌, ◌||◌, Bool, true, false, cond, List, [], ◌∷◌, ◌++◌, map, filter, find, length, Option, Some, None, is_some, refl, ap, sym, ◌∙◌}
use Rattle.std.specs.List.{list_any}
use Rattle.std.specs.Option.{option_map}
use Rattle.std.proofs.lemmas.Bool.{false_from_ne_true}
use Rattle.satip_base.specs.Lists.{Has}
use Rattle.satip_laws.proofs.SameTests.{none_true}

pub either_way : {A : Type 0} (o : A) (b : Bool) → o ≡ cond b o o
either_way o true = refl
either_way o false = refl

module _ {X : Type 0} where
  -- what is found is there and passes
  pub find_has : (p : X → Bool) (xs : List X) (x : X) → find p xs ≡ Some x → Has x xs × (p x ≡ true)
  find_has p [] x e = cc
  find_has p (y ∷ ys) x e = by (p y) refl e (λ f. find_has p ys x f)
    where
      by : (b : Bool) → p y ≡ b → cond b (Some y) (find p ys) ≡ Some x → (find p ys ≡ Some x → Has x ys × (p x ≡ true)) → ((x ≡ y) ⊎ Has x ys) × (p x ≡ true)
      by true f here rest = let same : x ≡ y = cc in (inl same, ap p same ∙ f)
      by false f later rest = let r = rest later in (inr r.0, r.1)

  -- where nothing is found, nothing passes
  pub find_fails : (p : X → Bool) (xs : List X) (x : X) → find p xs ≡ None → Has x xs → p x ≡ false
  find_fails p [] x e h = absurd h
  find_fails p (y ∷ ys) x e h = by (p y) refl e h (λ f k. find_fails p ys x f k)
    where
      by : (b : Bool) → p y ≡ b → cond b (Some y) (find p ys) ≡ None → (x ≡ y) ⊎ Has x ys → (find p ys ≡ None → Has x ys → p x ≡ false) → p x ≡ false
      by true f none k rest = cc
      by false f none (inl same) rest = ap p same ∙ f
      by false f none (inr k) rest = rest none k

  pub find_is_any : (p : X → Bool) (xs : List X) → is_some (find p xs) ≡ list_any p xs
  find_is_any p [] = refl
  find_is_any p (x ∷ xs) = by (p x) (find_is_any p xs)
    where
      by : (b : Bool) → is_some (find p xs) ≡ list_any p xs → is_some (cond b (Some x) (find p xs)) ≡ (b || list_any p xs)
      by true rest = refl
      by false rest = rest

  -- where some element passes, one is found
  pub find_some : (p : X → Bool) (xs : List X) (x : X) → Has x xs → p x ≡ true → (y : X) × (find p xs ≡ Some y)
  find_some p xs x h e = by (find p xs) refl
    where
      by : (o : Option X) → find p xs ≡ o → (y : X) × (find p xs ≡ Some y)
      by None f = none_true (p x) e (find_fails p xs x f h)
      by (Some y) f = (y, f)

  -- where only this one passes, it is found
  pub find_only : (p : X → Bool) (xs : List X) (x : X) → Has x xs → p x ≡ true → ((y : X) → Has y xs → p y ≡ true → y ≡ x) → find p xs ≡ Some x
  find_only p xs x h e only =
      let found = find_some p xs x h e in
      let f : find p xs ≡ Some found.0 = found.1 in
      let there = find_has p xs found.0 f in
      f ∙ ap Some (only found.0 there.0 there.1)

  pub find_no : (p : X → Bool) (xs : List X) → ((y : X) → Has y xs → p y ≡ true → ⊥) → find p xs ≡ None
  find_no p xs never = by (find p xs) refl
    where
      by : (o : Option X) → find p xs ≡ o → find p xs ≡ None
      by None f = f
      by (Some y) f = let there = find_has p xs y f in absurd (never y there.0 there.1)

  pub find_agree : (p q : X → Bool) (xs : List X) → ((x : X) → Has x xs → p x ≡ q x) → find p xs ≡ find q xs
  find_agree p q [] same = refl
  find_agree p q (x ∷ xs) same = ap (λ b. cond b (Some x) (find p xs)) (same x (inl refl))
      ∙ ap (λ o. cond (q x) (Some x) o) (find_agree p q xs (λ y h. same y (inr h)))

  pub find_append : (p : X → Bool) (xs ys : List X) → find p xs ≡ None → find p (xs ++ ys) ≡ find p ys
  find_append p [] ys none = refl
  find_append p (x ∷ xs) ys none = by (p x) none (λ f. find_append p xs ys f)
    where
      by : (b : Bool) → cond b (Some x) (find p xs) ≡ None → (find p xs ≡ None → find p (xs ++ ys) ≡ find p ys)
          → cond b (Some x) (find p (xs ++ ys)) ≡ find p ys
      by true f rest = cc
      by false f rest = rest f

  pub find_before : (p : X → Bool) (xs ys : List X) (x : X) → find p xs ≡ Some x → find p (xs ++ ys) ≡ Some x
  find_before p [] ys x e = cc
  find_before p (y ∷ xs) ys x e = by (p y) e (λ f. find_before p xs ys x f)
    where
      by : (b : Bool) → cond b (Some y) (find p xs) ≡ Some x → (find p xs ≡ Some x → find p (xs ++ ys) ≡ Some x) → cond b (Some y) (find p (xs ++ ys)) ≡ Some x
      by true f rest = f
      by false f rest = rest f

  -- tests

  pub any_has : (p : X → Bool) (xs : List X) → list_any p xs ≡ true → (x : X) × Has x xs × (p x ≡ true)
  any_has p [] e = cc
  any_has p (y ∷ ys) e = by (p y) refl e (λ f. any_has p ys f)
    where
      by : (b : Bool) → p y ≡ b → (b || list_any p ys) ≡ true → (list_any p ys ≡ true → (x : X) × Has x ys × (p x ≡ true))
          → (x : X) × ((x ≡ y) ⊎ Has x ys) × (p x ≡ true)
      by true f t rest = (y, inl refl, f)
      by false f t rest = let r = rest t in (r.0, inr r.1, r.2)

  pub has_any : (p : X → Bool) (xs : List X) (x : X) → Has x xs → p x ≡ true → list_any p xs ≡ true
  has_any p [] x h e = absurd h
  has_any p (y ∷ ys) x (inl same) e = let f : p y ≡ true = ap p (sym same) ∙ e in rw f refl
  has_any p (y ∷ ys) x (inr h) e = by (p y) (has_any p ys x h e)
    where
      by : (b : Bool) → list_any p ys ≡ true → (b || list_any p ys) ≡ true
      by true f = refl
      by false f = f

  pub any_no : (p : X → Bool) (xs : List X) (x : X) → list_any p xs ≡ false → Has x xs → p x ≡ false
  any_no p xs x none h = false_from_ne_true (p x) (λ e. none_true (list_any p xs) (has_any p xs x h e) none)

  pub no_any : (p : X → Bool) (xs : List X) → ((x : X) → Has x xs → p x ≡ true → ⊥) → list_any p xs ≡ false
  no_any p xs never = false_from_ne_true (list_any p xs) (λ e. let r = any_has p xs e in never r.0 r.1 r.2)

  pub any_agree : (p q : X → Bool) (xs : List X) → ((x : X) → Has x xs → p x ≡ q x) → list_any p xs ≡ list_any q xs
  any_agree p q [] same = refl
  any_agree p q (x ∷ xs) same = ap (λ b. b || list_any p xs) (same x (inl refl)) ∙ ap (λ b. q x || b) (any_agree p q xs (λ y h. same y (inr h)))

  pub any_filter : (p q : X → Bool) (xs : List X) → list_any q (filter p xs) ≡ list_any (λ x. p x && q x) xs
  any_filter p q [] = refl
  any_filter p q (x ∷ xs) = by (p x) (any_filter p q xs)
    where
      by : (b : Bool) → list_any q (filter p xs) ≡ list_any (λ y. p y && q y) xs
          → list_any q (cond b (x ∷ filter p xs) (filter p xs)) ≡ ((b && q x) || list_any (λ y. p y && q y) xs)
      by true rest = ap (λ b. q x || b) rest
      by false rest = rest

  pub any_append : (p : X → Bool) (xs ys : List X) → list_any p (xs ++ ys) ≡ (list_any p xs || list_any p ys)
  any_append p [] ys = refl
  any_append p (x ∷ xs) ys = ap (λ b. p x || b) (any_append p xs ys) ∙ by (p x)
    where
      by : (b : Bool) → (b || (list_any p xs || list_any p ys)) ≡ ((b || list_any p xs) || list_any p ys)
      by true = refl
      by false = refl

  -- filters

  pub filter_has : (p : X → Bool) (xs : List X) (x : X) → Has x (filter p xs) → Has x xs × (p x ≡ true)
  filter_has p [] x h = absurd h
  filter_has p (y ∷ ys) x h = by (p y) refl h (λ k. filter_has p ys x k)
    where
      by : (b : Bool) → p y ≡ b → Has x (cond b (y ∷ filter p ys) (filter p ys)) → (Has x (filter p ys) → Has x ys × (p x ≡ true))
          → ((x ≡ y) ⊎ Has x ys) × (p x ≡ true)
      by true f (inl same) rest = (inl same, ap p same ∙ f)
      by true f (inr k) rest = let r = rest k in (inr r.0, r.1)
      by false f k rest = let r = rest k in (inr r.0, r.1)

  pub has_filter : (p : X → Bool) (xs : List X) (x : X) → Has x xs → p x ≡ true → Has x (filter p xs)
  has_filter p [] x h e = absurd h
  has_filter p (y ∷ ys) x h e = by (p y) refl h (λ k. has_filter p ys x k e)
    where
      by : (b : Bool) → p y ≡ b → (x ≡ y) ⊎ Has x ys → (Has x ys → Has x (filter p ys)) → Has x (cond b (y ∷ filter p ys) (filter p ys))
      by true f (inl same) rest = inl same
      by true f (inr k) rest = inr (rest k)
      by false f (inl same) rest = none_true (p y) (ap p (sym same) ∙ e) f
      by false f (inr k) rest = rest k

  pub filter_agree : (p q : X → Bool) (xs : List X) → ((x : X) → Has x xs → p x ≡ q x) → filter p xs ≡ filter q xs
  filter_agree p q [] same = refl
  filter_agree p q (x ∷ xs) same = ap (λ b. cond b (x ∷ filter p xs) (filter p xs)) (same x (inl refl))
      ∙ ap (λ o. cond (q x) (x ∷ o) o) (filter_agree p q xs (λ y h. same y (inr h)))

  pub filter_append : (p : X → Bool) (xs ys : List X) → filter p (xs ++ ys) ≡ filter p xs ++ filter p ys
  filter_append p [] ys = refl
  filter_append p (x ∷ xs) ys = ap (λ o. cond (p x) (x ∷ o) o) (filter_append p xs ys) ∙ by (p x)
    where
      by : (b : Bool) → cond b (x ∷ (filter p xs ++ filter p ys)) (filter p xs ++ filter p ys) ≡ cond b (x ∷ filter p xs) (filter p xs) ++ filter p ys
      by true = refl
      by false = refl

  pub filter_twice : (p q : X → Bool) (xs : List X) → filter q (filter p xs) ≡ filter (λ x. p x && q x) xs
  filter_twice p q [] = refl
  filter_twice p q (x ∷ xs) = by (p x) (filter_twice p q xs)
    where
      by : (b : Bool) → filter q (filter p xs) ≡ filter (λ y. p y && q y) xs
          → filter q (cond b (x ∷ filter p xs) (filter p xs)) ≡ cond (b && q x) (x ∷ filter (λ y. p y && q y) xs) (filter (λ y. p y && q y) xs)
      by true rest = ap (λ o. cond (q x) (x ∷ o) o) rest
      by false rest = rest

  -- a look-up behind a filter that gives one answer to all that pass
  pub find_filter : (p q : X → Bool) (u : Bool) (xs : List X) → ((x : X) → p x ≡ true → q x ≡ u) → find p (filter q xs) ≡ cond u (find p xs) None
  find_filter p q u [] same = either_way None u
  find_filter p q u (x ∷ xs) same = by (p x) (q x) u refl refl (same x) (find_filter p q u xs same)
    where
      by : (a b w : Bool) → p x ≡ a → q x ≡ b → (p x ≡ true → q x ≡ w) → find p (filter q xs) ≡ cond w (find p xs) None
          → find p (cond b (x ∷ filter q xs) (filter q xs)) ≡ cond w (cond a (Some x) (find p xs)) None
      by true true true f g s rest = rw f refl
      by true true false f g s rest = none_true (q x) g (s f)
      by true false true f g s rest = none_true (q x) (s f) g
      by true false false f g s rest = rest
      by false true w f g s rest = rw f rest
      by false false w f g s rest = rest

  pub length_filter : (p : X → Bool) (xs : List X) → length (filter p xs) ≤ length xs
  length_filter p [] = omega arith
  length_filter p (x ∷ xs) = by (p x) (length_filter p xs)
    where
      by : (b : Bool) → length (filter p xs) ≤ length xs → length (cond b (x ∷ filter p xs) (filter p xs)) ≤ suc (length xs)
      by true h = omega (arith, h)
      by false h = omega (arith, h)

  -- what a list of two parts has
  pub has_parts : (x : X) (xs ys : List X) → Has x (xs ++ ys) → Has x xs ⊎ Has x ys
  has_parts x [] ys h = inr h
  has_parts x (y ∷ xs) ys (inl same) = inl (inl same)
  has_parts x (y ∷ xs) ys (inr h) = by (has_parts x xs ys h)
    where
      by : Has x xs ⊎ Has x ys → ((x ≡ y) ⊎ Has x xs) ⊎ Has x ys
      by (inl k) = inl (inr k)
      by (inr k) = inr k

  pub has_left : (x : X) (xs ys : List X) → Has x xs → Has x (xs ++ ys)
  has_left x [] ys h = absurd h
  has_left x (y ∷ xs) ys (inl same) = inl same
  has_left x (y ∷ xs) ys (inr h) = inr (has_left x xs ys h)

  pub has_right : (x : X) (xs ys : List X) → Has x ys → Has x (xs ++ ys)
  has_right x [] ys h = h
  has_right x (y ∷ xs) ys h = inr (has_right x xs ys h)

module _ {X Y : Type 0} where
  pub map_has : (f : X → Y) (xs : List X) (y : Y) → Has y (map f xs) → (x : X) × Has x xs × (y ≡ f x)
  map_has f [] y h = absurd h
  map_has f (x ∷ xs) y (inl same) = (x, inl refl, same)
  map_has f (x ∷ xs) y (inr h) = let r = map_has f xs y h in (r.0, inr r.1, r.2)

  pub has_map : (f : X → Y) (xs : List X) (x : X) → Has x xs → Has (f x) (map f xs)
  has_map f [] x h = absurd h
  has_map f (y ∷ xs) x (inl same) = inl (ap f same)
  has_map f (y ∷ xs) x (inr h) = inr (has_map f xs x h)

  pub find_map : (p : Y → Bool) (f : X → Y) (xs : List X) → find p (map f xs) ≡ option_map f (find (λ x. p (f x)) xs)
  find_map p f [] = refl
  find_map p f (x ∷ xs) = by (p (f x)) (find_map p f xs)
    where
      by : (b : Bool) → find p (map f xs) ≡ option_map f (find (λ y. p (f y)) xs)
          → cond b (Some (f x)) (find p (map f xs)) ≡ option_map f (cond b (Some x) (find (λ y. p (f y)) xs))
      by true rest = refl
      by false rest = rest

  pub any_map : (p : Y → Bool) (f : X → Y) (xs : List X) → list_any p (map f xs) ≡ list_any (λ x. p (f x)) xs
  any_map p f [] = refl
  any_map p f (x ∷ xs) = ap (λ b. p (f x) || b) (any_map p f xs)

  pub map_agree : (f g : X → Y) (xs : List X) → ((x : X) → Has x xs → f x ≡ g x) → map f xs ≡ map g xs
  map_agree f g [] same = refl
  map_agree f g (x ∷ xs) same = ap (λ y. y ∷ map f xs) (same x (inl refl)) ∙ ap (λ ys. g x ∷ ys) (map_agree f g xs (λ y h. same y (inr h)))
