-- Two lists side by side, cut at one place.
use Rattle.std.proofs.Common.{◌≡◌, List, [], ◌∷◌, ◌++◌, subst, sym}
use Rattle.satip_jobs.specs.Pairs.{Both}

both_append : {S T : Type 0} (P : S → T → Type 0) (us xs : List S) (vs ys : List T) → Both P us vs → Both P xs ys → Both P (us ++ xs) (vs ++ ys)
both_append P [] xs [] ys front back = back
both_append P [] xs (v ∷ vs) ys front back = absurd front
both_append P (u ∷ us) xs [] ys front back = absurd front
both_append P (u ∷ us) xs (v ∷ vs) ys front back = (front.0, both_append P us xs vs ys front.1 back)

-- what holds of both halves holds of the whole
pub both_halves : {S T : Type 0} (P : S → T → Type 0) (all us xs : List S) (vs ys : List T) → all ≡ us ++ xs
    → Both P us vs → Both P xs ys → Both P all (vs ++ ys)
both_halves P all us xs vs ys are front back =
    subst (λ all. Both P all (vs ++ ys)) (sym are) (both_append P us xs vs ys front back)
