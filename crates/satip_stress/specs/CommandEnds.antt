-- The outcome of a stress run, by its status.
use Rattle.std.specs.Prelude.{◌≡◌, ℕ, List, [], ◌∷◌}
use Rattle.satip_base.specs.Streams.{Feed, Drain, PutAll, FailedToPut}
use Rattle.satip_base.specs.Lists.{Has}
use Rattle.satip_stress.specs.Ends.{stressed}

-- the statuses of a stress run
abbrev pub stress_statuses : List ℕ
stress_statuses = 0 ∷ 6 ∷ 70 ∷ []

-- a stress run: its seed and its count, its input and its output before and after it, and its status
pub record StressEnds (out_tells : Type 0) (seed count : ℕ) (i j : Feed) (o n : Drain) (status : ℕ) : Type 0 where
  pub status_is : Has status stress_statuses
  -- nothing is taken of the input
  pub input : j ≡ i
  -- with 0 the six counts of the run were written, with 6 a prefix of them, and with 70 nothing
  pub counted : status ≡ 0 → PutAll out_tells o n (stressed seed count)
  pub counted_partly : status ≡ 6 → FailedToPut out_tells o n (stressed seed count)
  pub wants : status ≡ 70 → n ≡ o
