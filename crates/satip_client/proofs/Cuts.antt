-- Where a text that is cut short ends, by the parts of the whole.
use Rattle.std.proofs.Common.{◌≡◌, ◌⊎◌, inl, inr, ℕ, ◌+◌, ◌≤◌, List, [], ◌∷◌, ◌++◌, length, refl, ap, subst, arith, length-append}
use Rattle.std.specs.List.{All}
use Rattle.std.proofs.lemmas.List.{get_or_append_left}

-- xs ends before ys does
pub record IsInside (xs ys : List ℕ) : Type 0 where
  pub byte : ℕ
  pub left : List ℕ
  pub is : ys ≡ xs ++ byte ∷ left

-- xs goes on behind ys
pub record IsBehind (xs more ys zs : List ℕ) : Type 0 where
  pub over : List ℕ
  pub is : xs ≡ ys ++ over
  pub rest : over ++ more ≡ zs

pub cut : (xs more ys zs : List ℕ) → xs ++ more ≡ ys ++ zs → IsInside xs ys ⊎ IsBehind xs more ys zs
cut xs more [] zs e = inr (record { over = xs; is = refl; rest = e })
cut [] more (y ∷ ys) zs e = inl (record { byte = y; left = ys; is = refl })
cut (x ∷ xs) more (y ∷ ys) zs e =
    let first : x ≡ y = cc in
    elim (cut xs more ys zs (cc)) [
      | inl i ↦ inl (record { byte = i.byte; left = i.left; is = cc (i.is, first) })
      | inr b ↦ inr (record { over = b.over; is = cc (b.is, first); rest = b.rest })
    ]

pub All-front : {X : Type 0} (P : X → Type 0) (xs ys : List X) → All P (xs ++ ys) → All P xs
All-front P xs ys all k d l =
    subst P (get_or_append_left xs ys d k l) (all k d (omega (arith, length-append xs ys)))

-- what stands before the end of a list that ends inside
pub inside-front : (P : ℕ → Type 0) (xs ys : List ℕ) → IsInside xs ys → All P ys → All P xs
inside-front P xs ys i all = All-front P xs (i.byte ∷ i.left) (subst (λ (t : List ℕ). All P t) i.is all)

pub inside-shorter : (xs ys : List ℕ) → IsInside xs ys → length xs + 1 ≤ length ys
inside-shorter xs ys i = omega (arith, ap length i.is, length-append xs (i.byte ∷ i.left))
