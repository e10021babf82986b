-- The output of a stress run.
use Rattle.std.specs.Prelude.{◌≡◌, ℕ, List}
use Rattle.satip_base.specs.Streams.{Drain, PutAll, FailedToPut}
use Rattle.satip_config.specs.declared.outcome.Outcome.{Outcome}
use Rattle.satip_config.specs.declared.outcome.Outcome.TheVariants.{Done, OutputFault, OutOfMemory}
use Rattle.satip_script.specs.Runs.{run}
use Rattle.satip_stress.specs.Counting.{counts, lines}
use Rattle.satip_stress.specs.Making.{stress, stress_setting}

-- the six lines of the history in which caller 0 submits the events
abbrev pub stressed : ℕ → ℕ → List ℕ
stressed seed count = lines (counts (run stress_setting (stress seed count)))

-- what was written of these lines, by the outcome of a stress run; it has no other outcomes
abbrev pub StressRuns : (tells : Type 0) (o n : Drain) (lines : List ℕ) → Outcome → Type 0
StressRuns tells o n lines Done = PutAll tells o n lines
StressRuns tells o n lines OutputFault = FailedToPut tells o n lines
StressRuns tells o n lines OutOfMemory = n ≡ o
StressRuns tells o n lines _ = ⊥
