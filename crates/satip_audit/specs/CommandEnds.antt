-- The outcome of an audit, by its status.
use Rattle.std.specs.Prelude.{ℕ, List, Option}
use Rattle.satip_base.specs.Streams.{Feed}
use Rattle.satip_desk.specs.Streams.{Streams, Tells}
use Rattle.satip_desk.specs.Views.{DeskView}
use Rattle.satip_replay.specs.BatchCommands.{BatchCommand, BatchEnds, batch_command}
use Rattle.satip_audit.specs.Ends.{AuditOutcome, IsEndOf}

-- the command `audit`
abbrev pub audit_command : Tells → BatchCommand
audit_command t = batch_command t AuditOutcome IsEndOf

-- an audit by the configuration of this name ends with this status
abbrev pub AuditEnds : (t : Tells) (name : List ℕ) (d f : DeskView) (s r : Streams) (source : Option Feed) (status : ℕ) → Type 0
AuditEnds t name d f s r source status = BatchEnds (audit_command t) name d f s r source status
