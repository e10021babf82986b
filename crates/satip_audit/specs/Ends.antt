-- The outcomes of an audit.
use Rattle.std.specs.Prelude.{◌≡◌, ℕ, ◌<◌, ◌≤◌, List, length, Ok, Err}
use Rattle.satip_base.specs.Streams.{Feed, Drain, Rose, PutAll, FailedToPut}
use Rattle.satip_tune.specs.Configuration.{Configuration}
use Rattle.satip_config.specs.Config.{config}
use Rattle.satip_audit.specs.declared.verdicts.Verdict.{Verdict}
use Rattle.satip_audit.specs.Journals.{IsJournal, Note}
use Rattle.satip_config.specs.Reading.{EndsTooLong}
use Rattle.satip_config.specs.Configurations.{Configured, IsConfiguration}
use Rattle.satip_replay.specs.BatchStreams.{BatchStreams}
use Rattle.satip_replay.specs.Replays.{script_limit}
use Rattle.satip_replay.specs.Ends.{EndsByConfiguration, EndsByInput, EndsByLength}
use Rattle.satip_config.specs.declared.outcome.Outcome.{Outcome}
use Rattle.satip_config.specs.declared.outcome.Outcome.TheVariants.{Done, Configuration as OfConfiguration, Journals, InputFault, OutputFault, TooLong, OutOfMemory}
use Rattle.satip_audit.specs.Printed.{verdict_text}
use Rattle.satip_audit.specs.Audits.{Audited, Heard, Judged}

-- the first wrong line of the whole input has this number; nothing was written
pub record EndsByJournal (config_tells in_tells : Type 0) (o n : BatchStreams) (number : ℕ) : Type 0 where
  pub configuration : Configuration
  pub configured : Configured config_tells o.config n.config configuration
  pub heard : Heard in_tells o.input n.input (Err number)
  pub output : n.output ≡ o.output

-- the output failed after a prefix of the verdict
pub record EndsByOutput (config_tells in_tells out_tells : Type 0) (o n : BatchStreams) : Type 0 where
  pub verdict : Verdict
  pub judged : Judged config_tells in_tells o n verdict
  pub failed : FailedToPut out_tells o.output n.output (verdict_text verdict)

-- no source failed, and nothing was written
pub record EndsByWant (o n : BatchStreams) : Type 0 where
  pub config_faults : n.config.faults ≡ o.config.faults
  pub in_faults : n.input.faults ≡ o.input.faults
  pub output : n.output ≡ o.output

-- the outcome if the input isn't read
abbrev pub InputEnds : (tells : Type 0) (i j : Feed) → Outcome → Type 0
InputEnds tells i j InputFault = Rose i.faults j.faults
InputEnds tells i j TooLong = EndsTooLong tells i j script_limit
InputEnds tells i j OutOfMemory = j.faults ≡ i.faults
InputEnds tells i j _ = ⊥

-- the outcome of writing a verdict
abbrev pub WriteEnds : (tells : Type 0) (o n : Drain) (text : List ℕ) → Outcome → Type 0
WriteEnds tells o n text Done = PutAll tells o n text
WriteEnds tells o n text OutputFault = FailedToPut tells o n text
WriteEnds tells o n text _ = ⊥

-- what was done, by the outcome of an audit: the line of the verdict was written, or a prefix of it, or nothing
abbrev pub AuditOutcome : (config_tells in_tells out_tells : Type 0) (o n : BatchStreams) → Outcome → Type 0
AuditOutcome ct it ot o n Done = Audited ct it ot o n
AuditOutcome ct it ot o n (OfConfiguration fault) = EndsByConfiguration ct o n fault
AuditOutcome ct it ot o n (Journals number) = EndsByJournal ct it o n number
AuditOutcome ct it ot o n InputFault = EndsByInput ct o n
AuditOutcome ct it ot o n OutputFault = EndsByOutput ct it ot o n
AuditOutcome ct it ot o n TooLong = EndsByLength ct it o n
AuditOutcome ct it ot o n OutOfMemory = EndsByWant o n
AuditOutcome ct it ot o n _ = ⊥

-- the text is journals without a wrong line, within the limit
pub record IsRight (text : List ℕ) : Type 0 where
  pub notes : List Note
  pub journal : IsJournal text (Ok notes)
  pub short : length text ≤ script_limit

-- the text has this first wrong line, and is within the limit
pub record IsWrong (text : List ℕ) (number : ℕ) : Type 0 where
  pub journal : IsJournal text (Err number)
  pub short : length text ≤ script_limit

-- the outcomes that the texts of the configuration and of the journals allow, if no source fails
abbrev pub IsEndOf : (config_text text : List ℕ) → Outcome → Type 0
IsEndOf config_text text Done = IsConfiguration config_text × IsRight text
IsEndOf config_text text (OfConfiguration fault) = config config_text ≡ Err fault
IsEndOf config_text text (Journals number) = IsConfiguration config_text × IsWrong text number
IsEndOf config_text text OutputFault = IsConfiguration config_text × IsRight text
IsEndOf config_text text TooLong = IsConfiguration config_text × (script_limit < length text)
IsEndOf config_text text OutOfMemory = Unit {0}
IsEndOf config_text text _ = ⊥
