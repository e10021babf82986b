-- Batch commands. They read a configuration and then the whole input, and write one result: `replay`, and `audit` of another crate.
use Rattle.std.specs.Prelude.{◌≡◌, ℕ, ◌+◌, ◌≤◌, List, [], ◌∷◌, Option, Some, IfSome, IsSomeAnd, MatchOption}
use Rattle.satip_base.specs.Lists.{Has}
use Rattle.satip_base.specs.Streams.{Feed, Rose}
use Rattle.satip_world.specs.Counts.{Rises}
use Rattle.satip_config.specs.Configurations.{configuration_limit}
use Rattle.satip_config.specs.Lines.{Says}
use Rattle.satip_config.specs.Outcomes.{line_of, status_of}
use Rattle.satip_config.specs.declared.outcome.Outcome.{Outcome}
use Rattle.satip_config.specs.declared.outcome.Outcome.TheVariants.{Done, Configuration, Script, Journals, InputFault, OutputFault, TooLong, OutOfMemory}
use Rattle.satip_desk.specs.Desks.{GivenFrom}
use Rattle.satip_desk.specs.Streams.{Streams, Tells}
use Rattle.satip_desk.specs.Views.{DeskView}
use Rattle.satip_replay.specs.BatchStreams.{BatchStreams, with_config}
use Rattle.satip_replay.specs.Ends.{EndsByInput}

-- a batch command: of which devices the content is known; what was done, by the outcome, with the streams before and after; and the outcomes that the texts of
-- the configuration and of the input allow
pub record BatchCommand : Type 1 where
  pub tells : Tells
  pub outcome : (o n : BatchStreams) → Outcome → Type 0
  pub allows : (config_text text : List ℕ) → Outcome → Type 0

-- the batch command that does this, for any devices
abbrev pub batch_command : Tells → (outcome : (config_tells in_tells out_tells : Type 0) (o n : BatchStreams) → Outcome → Type 0)
    → (allows : (config_text text : List ℕ) → Outcome → Type 0) → BatchCommand
batch_command t outcome allows = record { tells = t; outcome = outcome t.config t.input t.output; allows = allows }

-- the statuses of a batch command
abbrev pub batch_statuses : List ℕ
batch_statuses = 0 ∷ 3 ∷ 4 ∷ 5 ∷ 6 ∷ 8 ∷ 70 ∷ []

-- what holds of each batch command, by its outcome: a fault has its cause. It has no other outcomes
abbrev pub BatchRuns : (config_tells : Type 0) (o n : BatchStreams) → Outcome → Type 0
BatchRuns ct o n Done = Unit {0}
BatchRuns ct o n (Configuration fault) = Unit {0}
BatchRuns ct o n (Script number) = Unit {0}
BatchRuns ct o n (Journals number) = Unit {0}
BatchRuns ct o n InputFault = EndsByInput ct o n
BatchRuns ct o n OutputFault = Rose o.output.faults n.output.faults
BatchRuns ct o n TooLong = Unit {0}
BatchRuns ct o n OutOfMemory = Unit {0}
BatchRuns ct o n _ = ⊥

-- no configuration opened: nothing was taken of the input, and nothing was written
pub record IsUnopened (s r : Streams) (ending : Outcome) : Type 0 where
  pub ending_is : ending ≡ InputFault
  pub input : r.input ≡ s.input
  pub output : r.output ≡ s.output

-- a batch command by the configuration of this name ends with this status. `d` and `f` are the desk before and after it, `s` and `r` the streams. `source` is the
-- source of the configuration as it is after the command, if the desk gave one
pub record BatchEnds (c : BatchCommand) (name : List ℕ) (d f : DeskView) (s r : Streams) (source : Option Feed) (status : ℕ) : Type 0 where
  pub status_is : Has status batch_statuses
  -- the outcome of this status, its line on the errors sink, and what was done
  pub ending : Outcome
  pub ending_status : status ≡ status_of ending
  pub says : Says c.tells.errors s.errors r.errors (line_of ending)
  pub outcome : MatchOption source (IsUnopened s r ending) (λ after.
      GivenFrom c.tells.config (d.text name) (λ before. c.outcome (with_config before s) (with_config after r) ending))
  -- if the desk gave no configuration its fault count rose; if it gave one the count is unchanged
  pub config : MatchOption source (Rises d.faults f.faults) (λ _. f.faults ≡ d.faults)
  -- at most one byte more than its limit is taken of it
  pub config_limit : IfSome source (λ after. after.taken ≤ configuration_limit + 1)
  -- if nothing failed, the outcome is one that the texts of the configuration and of the input allow
  pub settled : (told : List ℕ) → d.text name ≡ Some told → c.tells.input → (Rose d.faults f.faults → ⊥)
      → (IsSomeAnd source (λ after. Rose 0 after.faults) → ⊥) → (Rose s.input.faults r.input.faults → ⊥) → c.allows told s.input.left ending
