-- Lists that are the same as far as they were compared.
use Rattle.std.proofs.Common.{◌≡◌, ℕ, zero, suc, ◌+◌, add-one, List, [], ◌∷◌, take, refl, ap, ◌∙◌}
use Rattle.std.specs.Prelude.{slice_get}

next_same : {T : Type 0} (i : ℕ) (xs ys : List T) → slice_get xs i ≡ slice_get ys i → take i xs ≡ take i ys → take (suc i) xs ≡ take (suc i) ys
next_same i [] [] here before = refl
next_same zero [] (y ∷ ys) here before = cc here
next_same (suc i) [] (y ∷ ys) here before = cc before
next_same zero (x ∷ xs) [] here before = cc here
next_same (suc i) (x ∷ xs) [] here before = cc before
next_same {T} zero (x ∷ xs) (y ∷ ys) here before = let same : x ≡ y = cc here in ap (λ (z : T). z ∷ []) same
next_same {T} (suc i) (x ∷ xs) (y ∷ ys) here before =
    let same : x ≡ y = cc before in
    let rest : take i xs ≡ take i ys = cc before in
    ap (λ (l : List T). x ∷ l) (next_same i xs ys here rest) ∙ ap (λ (z : T). z ∷ take (suc i) ys) same

-- one element more is the same
pub same_more : {T : Type 0} (i : ℕ) (xs ys : List T) → slice_get xs i ≡ slice_get ys i → take i xs ≡ take i ys → take (i + 1) xs ≡ take (i + 1) ys
same_more i xs ys here before = rw add-one (next_same i xs ys here before)
