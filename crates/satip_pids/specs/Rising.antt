-- Lists of numbers that rise strictly, as sets.
use Rattle.std.specs.Prelude.{◌≡◌, ℕ, suc, ◌≤◌, Bool, true, false, not, List, [], ◌∷◌, length, if◌then◌else◌, nat_lt, ◌==◌, fold, filter, insert}
use Rattle.std.specs.List.{list_any}

-- each number is at least `low`, and above the one before it
abbrev pub IsRising : ℕ → List ℕ → Type 0
IsRising low [] = Unit {0}
IsRising low (x ∷ xs) = (low ≤ x) × IsRising (suc x) xs

-- whether a list has a number
abbrev pub has_number : List ℕ → ℕ → Bool
has_number xs n = list_any (λ x. x == n) xs

-- a rising list with one more number, unless it has it already
abbrev pub put : ℕ → List ℕ → List ℕ
put n [] = n ∷ []
put n (x ∷ xs) = if nat_lt n x then n ∷ x ∷ xs else if nat_lt x n then x ∷ put n xs else x ∷ xs

-- a rising list with the numbers of another list added
abbrev pub put_all : List ℕ → List ℕ → List ℕ
put_all xs ns = fold (λ ys n. put n ys) xs ns

-- the numbers of a list that another doesn't have
abbrev pub without : List ℕ → List ℕ → List ℕ
without xs ns = filter (λ x. not (has_number ns x)) xs

-- a number that a list has: putting it there changes nothing
pub record IsThere (xs : List ℕ) (n : ℕ) : Type 0 where
  pub had : has_number xs n ≡ true
  pub same : put n xs ≡ xs

-- a number that a list doesn't have, and the place where it is put
pub record GoesAt (xs : List ℕ) (n place : ℕ) : Type 0 where
  pub absent : has_number xs n ≡ false
  pub within : place ≤ length xs
  pub inserted : put n xs ≡ insert xs place n
