-- What the worked rows of the recording law come to.
use Rattle.std.proofs.Common.{◌≡◌, ℕ, ◌<◌, ◌&&◌, if◌then◌else◌, Bool, true, false, List, [], ◌∷◌, ◌++◌, length, arith, refl, ap, length-append}
use Rattle.satip_base.specs.Lists.{Begins}
use Rattle.satip_plain.specs.Histories.{Item}

-- a test that fails whatever the tuning number is
pub and_false : (b : Bool) → (b && false) ≡ true → ⊥
and_false true is = cc
and_false false is = cc

pub none_where : (b : Bool) (xs : List (List ℕ)) → (if b && false then xs else []) ++ [] ≡ []
none_where true xs = refl
none_where false xs = refl

-- nothing stands before the one entry of a history
pub none_before : (g k : List Item) (e x : Item) → x ∷ [] ≡ g ++ e ∷ k → g ≡ []
none_before [] k e x is = refl
none_before (y ∷ g) k e x is = absurd (omega (arith, ap length is, length-append (y ∷ g) (e ∷ k)))

-- more packets than there are, and another than the first
pub too_many : (xs ys : List (List ℕ)) → Begins xs ys → length ys < length xs → ⊥
too_many xs ys begins less = omega (arith, ap length begins.whole, length-append xs begins.rest, less)

pub first_told : (x y : List ℕ) (xs ys : List (List ℕ)) → Begins (x ∷ xs) (y ∷ ys) → y ≡ x
first_told x y xs ys begins = head y x ys (xs ++ begins.rest) begins.whole
  where
    head : (a b : List ℕ) (more others : List (List ℕ)) → a ∷ more ≡ b ∷ others → a ≡ b
    head a b more others is = cc
