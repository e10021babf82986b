-- Lists of kits that grow.
use Rattle.std.proofs.Common.{◌≡◌, ℕ, ◌+◌, List, [], ◌∷◌, ◌++◌, All, length, length-append, arith, subst, sym}
use Rattle.std.proofs.lemmas.List.Elements.{All-nil, All-cons, All-append}

-- one kit more, of which P holds as it holds of the others
pub one_more : {X : Type 0} (P : X → Type 0) (xs ys : List X) (x : X) (n : ℕ) → ys ≡ xs ++ x ∷ []
    → (length xs ≡ n) × All P xs → P x → (length ys ≡ n + 1) × All P ys
one_more {X} P xs ys x n is before here =
    let count : length xs ≡ n = before.0 in
    let longer : length (xs ++ x ∷ []) ≡ n + 1 = omega (arith, length-append {A = X}, count) in
    let Q : List X → Type 0 = λ zs. (length zs ≡ n + 1) × All P zs in
    subst Q (sym is) (longer, All-append P xs (x ∷ []) before.1 (All-cons P x [] here (All-nil P)))
