-- Kits of workers that grow in number.
use Rattle.std.proofs.Common.{◌≡◌, ℕ, ◌+◌, List, [], ◌∷◌, ◌++◌, map, length, length-append, arith, subst, sym}
use Rattle.satip_base.specs.Lists.{Each}

each_more : {X V : Type 0} (view : X → V) (P : V → Type 0) (xs : List X) (x : X) → Each P (map view xs) → P (view x)
    → Each P (map view (xs ++ x ∷ []))
each_more view P [] x before here = (here, tt)
each_more view P (y ∷ xs) x before here = (before.0, each_more view P xs x before.1 here)

-- one kit more, of whose view P holds as it holds of the others'
pub one_more : {X V : Type 0} (view : X → V) (P : V → Type 0) (xs ys : List X) (x : X) (n : ℕ) → ys ≡ xs ++ x ∷ []
    → (length xs ≡ n) × Each P (map view xs) → P (view x) → (length ys ≡ n + 1) × Each P (map view ys)
one_more {X} view P xs ys x n is before here =
    let count : length xs ≡ n = before.0 in
    let longer : length (xs ++ x ∷ []) ≡ n + 1 = omega (arith, length-append {A = X}, count) in
    let Q : List X → Type 0 = λ zs. (length zs ≡ n + 1) × Each P (map view zs) in
    subst Q (sym is) (longer, each_more view P xs x before.1 here)
