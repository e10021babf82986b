-- Lists of results in another order are results in that order.
use Rattle.std.proofs.Common.{◌≡◌, ◌∙◌, ℕ, ◌<◌, List, [], ◌∷◌, length, map, get_or, refl, sym, ap, arith}
use Rattle.std.proofs.Math.ListN.{set, get_or-map as get_or_map}
use Rattle.std.specs.List.{swap}
use Rattle.std.specs.List.Sorted.{IsPermutation}
use Rattle.std.proofs.lemmas.List.{map-set}
use Rattle.std.proofs.lemmas.List.Sorted.{IsPermutation-keeps, IsPermutation-refl, IsPermutation-swap, IsPermutation-trans}

map-length : {S T : Type 0} (f : S → T) (xs : List S) → length (map f xs) ≡ length xs
map-length f [] = refl
map-length f (x ∷ xs) = let e = map-length f xs in omega (arith, e)

map-swap : {S T : Type 0} (f : S → T) (xs : List S) (i j : ℕ) → swap (map f xs) i j ≡ map f (swap xs i j)
map-swap f [] i j = refl
map-swap {S} {T} f (x ∷ xs) i j =
    let l : List S = x ∷ xs in
    let a : get_or (map f l) j (f x) ≡ f (get_or l j x) = get_or_map f l j x in
    let b : get_or (map f l) i (f x) ≡ f (get_or l i x) = get_or_map f l i x in
    (λ k. set (set (map f l) i (a k)) j (b k))
    ∙ ap (λ (t : List T). set t j (f (get_or l i x))) (sym (map-set f l i (get_or l j x)))
    ∙ sym (map-set f (set l i (get_or l j x)) j (get_or l i x))

-- the list is that of the results of f over xs in another order
pub record Shuffled {S T : Type 0} (f : S → T) (xs : List S) (ys : List T) : Type 0 where
  pub moved : List S
  pub permutation : IsPermutation xs moved
  pub is : ys ≡ map f moved

pub shuffled : {S T : Type 0} (f : S → T) (xs : List S) (ys : List T) → IsPermutation (map f xs) ys → Shuffled f xs ys
shuffled {S} {T} f xs ys p = IsPermutation-keeps (map f xs) (Shuffled f xs) start step ys p
  where
    start : Shuffled f xs (map f xs)
    start = record { moved = xs; permutation = IsPermutation-refl xs; is = refl }

    step : (l : List T) (i j : ℕ) → i < length l → j < length l → Shuffled f xs l → Shuffled f xs (swap l i j)
    step l i j a b h =
        let long : length l ≡ length h.moved = ap length h.is ∙ map-length f h.moved in
        record {
          moved = swap h.moved i j;
          permutation =
              IsPermutation-trans xs h.moved (swap h.moved i j) h.permutation
              (IsPermutation-swap h.moved (swap h.moved i j) i j (omega (arith, long, a)) (omega (arith, long, b)) refl);
          is = ap (λ (t : List T). swap t i j) h.is ∙ map-swap f h.moved i j;
        }
