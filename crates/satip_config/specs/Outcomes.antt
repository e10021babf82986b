-- The outcomes of commands: their exit statuses, and their lines on the errors sink.
use Rattle.std.specs.Prelude.{◌≡◌, ℕ, List, [], codes}
use Rattle.satip_base.specs.Streams.{Drain}
use Rattle.satip_config.specs.declared.outcome.Outcome.{Outcome}
use Rattle.satip_config.specs.declared.outcome.Outcome.TheVariants.{Done, Configuration, Script, Journals, InputFault, OutputFault, DoorsFault, TooLong, HistoryFull, Refused, BadReply, Silent, PeerFault, Closed, OutOfMemory}
use Rattle.satip_config.specs.declared.reading.ConfigurationEnd.{ConfigurationEnd}
use Rattle.satip_config.specs.declared.reading.ConfigurationEnd.TheVariants as reading
use Rattle.satip_config.specs.Lines.{Says, configuration_line, number_line}

-- the exit status of an outcome
abbrev pub status_of : Outcome → ℕ
status_of Done = 0
status_of (Configuration fault) = 3
status_of (Script number) = 4
status_of (Journals number) = 4
status_of InputFault = 5
status_of OutputFault = 6
status_of DoorsFault = 7
status_of TooLong = 8
status_of HistoryFull = 9
status_of (Refused code) = 10
status_of BadReply = 11
status_of Silent = 12
status_of PeerFault = 13
status_of Closed = 14
status_of OutOfMemory = 70

-- the line of an outcome on the errors sink
abbrev pub line_of : Outcome → List ℕ
line_of Done = []
line_of (Configuration fault) = configuration_line fault
line_of (Script number) = number_line (codes "script: line ") number
line_of (Journals number) = number_line (codes "journal: line ") number
line_of InputFault = codes "input fault\n"
line_of OutputFault = codes "output fault\n"
line_of DoorsFault = codes "doors fault\n"
line_of TooLong = codes "input too long\n"
line_of HistoryFull = codes "history full\n"
line_of (Refused code) = number_line (codes "refused ") code
line_of BadReply = codes "bad reply\n"
line_of Silent = codes "silent\n"
line_of PeerFault = codes "peer fault\n"
line_of Closed = codes "closed\n"
line_of OutOfMemory = codes "out of memory\n"

-- the outcome of a command whose configuration isn't read
abbrev pub outcome_of_reading : ConfigurationEnd → Outcome
outcome_of_reading (reading.Fault fault) = Configuration fault
outcome_of_reading reading.SourceFailed = InputFault
outcome_of_reading reading.OutOfMemory = OutOfMemory

-- the line of an outcome with this status was logged
pub record Logs (tells : Type 0) (o n : Drain) (status : ℕ) : Type 0 where
  pub outcome : Outcome
  pub status_is : status ≡ status_of outcome
  pub says : Says tells o n (line_of outcome)
