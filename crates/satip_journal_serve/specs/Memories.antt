-- The memory of jobs with journals.
use Rattle.std.specs.Prelude.{◌≡◌, ℕ, ◌≤◌, List, [], length}

-- rooms for this number of jobs, of which none has begun, and lists with memory for their seats and for the parts of their journals
pub record IsRoomFor {A S G : Type 0} (count : ℕ) (rooms : List A) (seats : List S) (seat_space : ℕ) (gears : List G) (gear_space : ℕ) : Type 0 where
  pub rooms_are : length rooms ≡ count
  pub no_seats : seats ≡ []
  pub for_seats : count ≤ seat_space
  pub no_gears : gears ≡ []
  pub for_gears : count ≤ gear_space
