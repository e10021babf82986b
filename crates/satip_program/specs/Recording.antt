-- The statuses of a recording, compared with those of the other commands.
use Rattle.std.specs.Prelude.{◌≡◌, ℕ}

-- the status is none that a recording never has
pub record IsApart (status : ℕ) : Type 0 where
  pub usage : status ≡ 2 → ⊥
  pub configuration : status ≡ 3 → ⊥
  pub script : status ≡ 4 → ⊥
  pub input : status ≡ 5 → ⊥
  pub doors : status ≡ 7 → ⊥
  pub long : status ≡ 8 → ⊥
  pub full : status ≡ 9 → ⊥
