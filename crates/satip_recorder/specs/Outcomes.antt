-- The outcome of a recording, as the program's exit status and line have it.
use Rattle.satip_client.specs.declared.ending.RecordEnd.{RecordEnd}
use Rattle.satip_client.specs.declared.ending.RecordEnd.TheVariants as ends
use Rattle.satip_config.specs.declared.outcome.Outcome.{Outcome}
use Rattle.satip_config.specs.declared.outcome.Outcome.TheVariants.{Done, OutputFault, Refused, BadReply, Silent, PeerFault, Closed, OutOfMemory}

-- the outcome of a recording that ends so
abbrev pub outcome_of : RecordEnd → Outcome
outcome_of ends.Done = Done
outcome_of ends.OutputFault = OutputFault
outcome_of (ends.Refused code) = Refused code
outcome_of ends.BadReply = BadReply
outcome_of ends.Silent = Silent
outcome_of ends.PeerFault = PeerFault
outcome_of ends.Closed = Closed
outcome_of ends.OutOfMemory = OutOfMemory
