-- A list that is changed from its front on.
use Rattle.std.proofs.Common.{ℕ, ◌≡◌, ◌+◌, ◌<◌, ◌≤◌, zero, suc, List, [], ◌∷◌, ◌++◌, length, map, take, drop, set, get_or, refl, sym, ap, ◌∙◌, arith, add-one, append-nil, append_assoc}
use Rattle.std.specs.List.{flat_map}

module _ {X : Type 0} where
  -- the first n elements are changed
  abbrev pub sweep : (X → X) → ℕ → List X → List X
  sweep f n xs = map f (take n xs) ++ drop n xs

  pub length-sweep : (f : X → X) (n : ℕ) (xs : List X) → length (sweep f n xs) ≡ length xs
  length-sweep f zero xs = refl
  length-sweep f (suc n) [] = refl
  length-sweep f (suc n) (x ∷ xs) = omega (arith, length-sweep f n xs)

  -- the next element is as it was
  pub sweep-next : (f : X → X) (n : ℕ) (xs : List X) (d : X) → get_or (sweep f n xs) n d ≡ get_or xs n d
  sweep-next f zero xs d = refl
  sweep-next f (suc n) [] d = refl
  sweep-next f (suc n) (x ∷ xs) d = sweep-next f n xs d

  sweep-suc : (f : X → X) (n : ℕ) (xs : List X) (d : X) → n < length xs → set (sweep f n xs) n (f (get_or xs n d)) ≡ sweep f (suc n) xs
  sweep-suc f zero [] d h = absurd (omega (arith, h))
  sweep-suc f zero (x ∷ xs) d h = refl
  sweep-suc f (suc n) [] d h = absurd (omega (arith, h))
  sweep-suc f (suc n) (x ∷ xs) d h = ap (λ t. f x ∷ t) (sweep-suc f n xs d (omega (arith, h)))

  -- and is changed
  pub sweep-more : (f : X → X) (n : ℕ) (xs : List X) (d : X) → n < length xs → set (sweep f n xs) n (f (get_or xs n d)) ≡ sweep f (n + 1) xs
  sweep-more f n xs d h = sweep-suc f n xs d h ∙ ap (λ m. sweep f m xs) (sym (add-one n))

  -- until all are
  pub sweep-all : (f : X → X) (n : ℕ) (xs : List X) → length xs ≤ n → sweep f n xs ≡ map f xs
  sweep-all f zero [] h = refl
  sweep-all f zero (x ∷ xs) h = absurd (omega (arith, h))
  sweep-all f (suc n) [] h = refl
  sweep-all f (suc n) (x ∷ xs) h = ap (λ t. f x ∷ t) (sweep-all f n xs (omega (arith, h)))

module _ {X Y : Type 0} where
  flat_map-suc : (g : X → List Y) (n : ℕ) (xs : List X) (d : X) → n < length xs → flat_map g (take (suc n) xs) ≡ flat_map g (take n xs) ++ g (get_or xs n d)
  flat_map-suc g zero [] d h = absurd (omega (arith, h))
  flat_map-suc g zero (x ∷ xs) d h = append-nil (g x)
  flat_map-suc g (suc n) [] d h = absurd (omega (arith, h))
  flat_map-suc g (suc n) (x ∷ xs) d h =
      ap (λ t. g x ++ t) (flat_map-suc g n xs d (omega (arith, h))) ∙ sym (append_assoc (g x) (flat_map g (take n xs)) (g (get_or xs n d)))

  -- what the first elements gave, and one more
  pub flat_map-more : (g : X → List Y) (n : ℕ) (xs : List X) (d : X) → n < length xs
      → flat_map g (take (n + 1) xs) ≡ flat_map g (take n xs) ++ g (get_or xs n d)
  flat_map-more g n xs d h = ap (λ m. flat_map g (take m xs)) (add-one n) ∙ flat_map-suc g n xs d h
