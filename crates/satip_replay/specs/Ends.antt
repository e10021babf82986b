-- The outcomes of a replay.
use Rattle.std.specs.Prelude.{◌≡◌, ℕ, ◌<◌, ◌≤◌, ◌⊎◌, List, length, Ok, Err}
use Rattle.satip_base.specs.Streams.{Feed, Drain, Rose, Began, PutAll, FailedToPut}
use Rattle.satip_plain.specs.Types.{Config as Configuration}
use Rattle.satip_config.specs.Config.{config}
use Rattle.satip_config.specs.declared.fault.ConfigFault.{ConfigFault}
use Rattle.satip_plain.specs.declared.events.Event.{Event}
use Rattle.satip_script.specs.Scripts.{IsScript}
use Rattle.satip_config.specs.Reading.{EndsTooLong}
pub use Rattle.satip_config.specs.Configurations.{Configured, IsConfiguration, Refused}
use Rattle.satip_replay.specs.BatchStreams.{BatchStreams}
use Rattle.satip_config.specs.declared.outcome.Outcome.{Outcome}
use Rattle.satip_config.specs.declared.outcome.Outcome.TheVariants.{Done, Configuration as OfConfiguration, Script, InputFault, OutputFault, TooLong, OutOfMemory}
use Rattle.satip_replay.specs.Replays.{script_limit, Scripted, Replayed, PartlyReplayed}

-- the configuration is refused; nothing was taken of the input or written
pub record EndsByConfiguration (tells : Type 0) (o n : BatchStreams) (fault : ConfigFault) : Type 0 where
  pub refused : Refused tells o.config n.config fault
  pub input : n.input ≡ o.input
  pub output : n.output ≡ o.output

-- the first wrong line of the whole input has this number; nothing was written
pub record EndsByScript (config_tells in_tells : Type 0) (o n : BatchStreams) (number : ℕ) : Type 0 where
  pub configuration : Configuration
  pub configured : Configured config_tells o.config n.config configuration
  pub scripted : Scripted in_tells o.input n.input (Err number)
  pub output : n.output ≡ o.output

-- the configuration's source failed, and nothing was taken of the input
pub record ConfigurationFails (o n : BatchStreams) : Type 0 where
  pub rose : Rose o.config.faults n.config.faults
  pub input : n.input ≡ o.input

-- the input failed after a valid configuration
pub record InputFails (config_tells : Type 0) (o n : BatchStreams) : Type 0 where
  pub configuration : Configuration
  pub configured : Configured config_tells o.config n.config configuration
  pub rose : Rose o.input.faults n.input.faults

-- one of the two sources failed; nothing was written
pub record EndsByInput (config_tells : Type 0) (o n : BatchStreams) : Type 0 where
  pub cause : ConfigurationFails o n ⊎ InputFails config_tells o n
  pub output : n.output ≡ o.output

-- one byte of input too many was taken; nothing was written
pub record EndsByLength (config_tells in_tells : Type 0) (o n : BatchStreams) : Type 0 where
  pub configuration : Configuration
  pub configured : Configured config_tells o.config n.config configuration
  pub long : EndsTooLong in_tells o.input n.input script_limit
  pub output : n.output ≡ o.output

-- the output failed after a prefix of the printed run
pub record EndsByOutput (config_tells in_tells out_tells : Type 0) (o n : BatchStreams) : Type 0 where
  pub part : PartlyReplayed config_tells in_tells out_tells o n
  pub rose : Rose o.output.faults n.output.faults

-- out of memory: nothing was written yet, or a prefix of the printed run
pub record EndsByWant (config_tells in_tells out_tells : Type 0) (o n : BatchStreams) : Type 0 where
  pub config_faults : n.config.faults ≡ o.config.faults
  pub in_faults : n.input.faults ≡ o.input.faults
  pub out_faults : n.output.faults ≡ o.output.faults
  pub written : (n.output ≡ o.output) ⊎ PartlyReplayed config_tells in_tells out_tells o n

-- the outcome if no script is read
abbrev pub ScriptEnds : (tells : Type 0) (i j : Feed) → Outcome → Type 0
ScriptEnds tells i j (Script number) = Scripted tells i j (Err number)
ScriptEnds tells i j InputFault = Rose i.faults j.faults
ScriptEnds tells i j TooLong = EndsTooLong tells i j script_limit
ScriptEnds tells i j OutOfMemory = j.faults ≡ i.faults
ScriptEnds tells i j _ = ⊥

-- out of memory in the middle of a text
pub record StopsWanting (tells : Type 0) (o n : Drain) (text : List ℕ) : Type 0 where
  pub faults : n.faults ≡ o.faults
  pub content : tells → Began o.sent n.sent text

-- the outcome of writing a printed run
abbrev pub RunEnds : (tells : Type 0) (o n : Drain) (text : List ℕ) → Outcome → Type 0
RunEnds tells o n text Done = PutAll tells o n text
RunEnds tells o n text OutputFault = FailedToPut tells o n text
RunEnds tells o n text OutOfMemory = StopsWanting tells o n text
RunEnds tells o n text _ = ⊥

-- what was done, by the outcome of a replay: the printed run was written, or a prefix of it, or nothing
abbrev pub ReplayOutcome : (config_tells in_tells out_tells : Type 0) (o n : BatchStreams) → Outcome → Type 0
ReplayOutcome ct it ot o n Done = Replayed ct it ot o n
ReplayOutcome ct it ot o n (OfConfiguration fault) = EndsByConfiguration ct o n fault
ReplayOutcome ct it ot o n (Script number) = EndsByScript ct it o n number
ReplayOutcome ct it ot o n InputFault = EndsByInput ct o n
ReplayOutcome ct it ot o n OutputFault = EndsByOutput ct it ot o n
ReplayOutcome ct it ot o n TooLong = EndsByLength ct it o n
ReplayOutcome ct it ot o n OutOfMemory = EndsByWant ct it ot o n
ReplayOutcome ct it ot o n _ = ⊥

-- the text is a script within the limit
pub record IsRightScript (text : List ℕ) : Type 0 where
  pub events : List Event
  pub script : IsScript text (Ok events)
  pub short : length text ≤ script_limit

-- the text has its first wrong line here, and is within the limit
pub record HasWrongLine (text : List ℕ) (number : ℕ) : Type 0 where
  pub script : IsScript text (Err number)
  pub short : length text ≤ script_limit

-- the outcomes that the texts of the configuration and of the script allow, if no source fails
abbrev pub IsEndOf : (config_text text : List ℕ) → Outcome → Type 0
IsEndOf config_text text Done = IsConfiguration config_text × IsRightScript text
IsEndOf config_text text (OfConfiguration fault) = config config_text ≡ Err fault
IsEndOf config_text text (Script number) = IsConfiguration config_text × HasWrongLine text number
IsEndOf config_text text OutputFault = IsConfiguration config_text × IsRightScript text
IsEndOf config_text text TooLong = IsConfiguration config_text × (script_limit < length text)
IsEndOf config_text text OutOfMemory = Unit {0}
IsEndOf config_text text _ = ⊥
