-- The histories of a counter, whose events are numbers to add and whose answers are the sums after them, for the tests.
use Rattle.std.specs.Prelude.{◌≡◌, ℕ, ◌+◌, min, List, [], ◌∷◌, ◌++◌, length}
use Rattle.satip_base.specs.declared.entry.Entry.{Entry}
use Rattle.satip_turn.specs.declared.view.Row.{Row}
use Rattle.satip_turn.specs.Shown.{Shown}

-- the sum after one more number: it stays at the greatest u64
abbrev pub more : ℕ → ℕ → ℕ
more sum n = min (sum + n) 18446744073709551615

-- the sum after a history, from this sum on
abbrev pub sum_after : ℕ → List (Entry ℕ ℕ (Unit {0})) → ℕ
sum_after sum [] = sum
sum_after sum (e ∷ es) = sum_after (more sum e.event) es

-- each answer is the sum after its number
abbrev pub IsCounted : ℕ → List (Entry ℕ ℕ (Unit {0})) → Type 0
IsCounted sum [] = Unit {0}
IsCounted sum (e ∷ es) = (e.answer ≡ more sum e.event) × IsCounted (more sum e.event) es

-- the sum is that of a history whose answers are right
abbrev pub IsSumOf : ℕ → List (Entry ℕ ℕ (Unit {0})) → Type 0
IsSumOf sum h = IsCounted 0 h × (sum ≡ sum_after 0 h)

-- the pass made one pass more, and keeps one row more, which has that pass's number and one entry
pub record KeepsOne {E A O C : Type 0} (o n : Shown E A O C) : Type 0 where
  pub row : Row E A O
  pub kept : n.kept ≡ o.kept ++ row ∷ []
  pub made : n.made ≡ o.made ++ row.number ∷ []
  pub one : length row.own ≡ 1
