-- The statuses of a serve with journals, compared with those of the other commands.
use Rattle.std.specs.Prelude.{◌≡◌, ℕ}

-- the status is none that a serve with journals never has
pub record IsOfJournal (status : ℕ) : Type 0 where
  pub usage : status ≡ 2 → ⊥
  pub script : status ≡ 4 → ⊥
  pub long : status ≡ 8 → ⊥
