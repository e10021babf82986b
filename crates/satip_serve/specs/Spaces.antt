-- The memory of jobs.
use Rattle.std.specs.Prelude.{◌≡◌, ℕ, ◌≤◌, List, [], length}

-- the memory of `count` jobs, of which none has begun
pub record IsSpaceFor {S G M : Type 0} (count : ℕ) (gears : List G) (rooms : List M) (seats : List S) (capacity : ℕ) : Type 0 where
  pub gears_are : length gears ≡ count
  pub rooms_are : length rooms ≡ count
  pub none : seats ≡ []
  pub space : count ≤ capacity
