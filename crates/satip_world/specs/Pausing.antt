-- Exact counts of pauses.
use Rattle.std.specs.Prelude.{ℕ, ◌+◌, ◌≤◌, ◌⊎◌}

-- a count rose by n, or is at its last value; it never falls, and rises by no more than n
pub record RisesBy (n before now : ℕ) : Type 0 where
  pub rose : (before + n ≤ now) ⊎ (18446744073709551615 ≤ now)
  pub most : now ≤ before + n
  pub kept : before ≤ now
