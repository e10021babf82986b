-- The outcome of a replay, by its status.
use Rattle.std.specs.Prelude.{ℕ, List, Option}
use Rattle.satip_base.specs.Streams.{Feed}
use Rattle.satip_desk.specs.Streams.{Streams, Tells}
use Rattle.satip_desk.specs.Views.{DeskView}
use Rattle.satip_replay.specs.BatchCommands.{BatchCommand, BatchEnds, batch_command}
use Rattle.satip_replay.specs.Ends.{ReplayOutcome, IsEndOf}

-- the command `replay`
abbrev pub replay_command : Tells → BatchCommand
replay_command t = batch_command t ReplayOutcome IsEndOf

-- a replay by the configuration of this name ends with this status
abbrev pub ReplayEnds : (t : Tells) (name : List ℕ) (d f : DeskView) (s r : Streams) (source : Option Feed) (status : ℕ) → Type 0
ReplayEnds t name d f s r source status = BatchEnds (replay_command t) name d f s r source status
