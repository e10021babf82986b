-- Lists that begin alike.
use Rattle.std.proofs.Common.{◌≡◌, ◌∙◌, ◌≤◌, List, [], ◌++◌, length, length-append, append-nil, arith, drop, sym, ap}
use Rattle.std.proofs.Math.Seq.{drop-append_seam}
use Rattle.satip_base.specs.Lists.{Begins}

-- what stands behind the same beginning is the same
pub same_behind : {A : Type 0} (xs ys zs : List A) → xs ++ ys ≡ xs ++ zs → ys ≡ zs
same_behind {A = A} xs ys zs e =
    sym (drop-append_seam xs ys) ∙ ap (λ (l : List A). drop (length xs) l) e ∙ drop-append_seam xs zs

-- and none where that is all
pub none_behind : {A : Type 0} (xs ys : List A) → xs ++ ys ≡ xs → ys ≡ []
none_behind xs ys e = same_behind xs ys [] (e ∙ sym (append-nil xs))

-- a beginning isn't longer
pub begins_shorter : {A : Type 0} (xs ys : List A) → Begins xs ys → length xs ≤ length ys
begins_shorter {A = A} xs ys begins =
    let e : length ys ≡ length (xs ++ begins.rest) = ap (λ (l : List A). length l) begins.whole in
    omega (arith, e, length-append xs begins.rest)
