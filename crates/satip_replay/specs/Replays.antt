-- A replay: a configuration and a script, read as a whole, and the printed run.
use Rattle.std.specs.Prelude.{ℕ, ◌≤◌, List, length, Result, Ok}
use Rattle.satip_base.specs.Streams.{Feed, PutAll, Began}
use Rattle.satip_plain.specs.Types.{Config as Configuration}
use Rattle.satip_plain.specs.declared.events.Event.{Event}
use Rattle.satip_plain.specs.declared.setting.Setting.{Setting}
use Rattle.satip_script.specs.Scripts.{IsScript}
use Rattle.satip_script.specs.Runs.{run}
use Rattle.satip_script.specs.Printed.{printed}
use Rattle.satip_config.specs.Reading.{ReadWhole}
use Rattle.satip_replay.specs.BatchStreams.{BatchStreams}
pub use Rattle.satip_config.specs.Configurations.{configuration_limit, Configured}

-- the most bytes of a script
abbrev pub script_limit : ℕ
script_limit = 67108864

-- a replay starts at the moment 0
abbrev pub setting_of : Configuration → Setting
setting_of c = record { config = c; start = 0 }

-- the text that a replay prints: the run of the events, which caller 0 submits
abbrev pub replayed : Configuration → List Event → List ℕ
replayed c events = printed (run (setting_of c) events)

-- the whole input was read, and is the script of these events, or has its first wrong line here
pub record Scripted (tells : Type 0) (i j : Feed) (result : Result (List Event) ℕ) : Type 0 where
  pub text : List ℕ
  pub whole : ReadWhole tells i j text
  pub short : length text ≤ script_limit
  pub script : IsScript text result

-- the whole input was read, has this text, and is a script without a wrong line
pub record HasScript (tells : Type 0) (i j : Feed) (text : List ℕ) : Type 0 where
  pub whole : ReadWhole tells i j text
  pub short : length text ≤ script_limit
  pub events : List Event
  pub script : IsScript text (Ok events)

-- both were read, and both are right
pub record Checked (config_tells in_tells : Type 0) (o n : BatchStreams) : Type 0 where
  pub configuration : Configuration
  pub configured : Configured config_tells o.config n.config configuration
  pub events : List Event
  pub scripted : Scripted in_tells o.input n.input (Ok events)

-- the printed run was written
pub record Replayed (config_tells in_tells out_tells : Type 0) (o n : BatchStreams) : Type 0 where
  pub checked : Checked config_tells in_tells o n
  pub put : PutAll out_tells o.output n.output (replayed checked.configuration checked.events)

-- a prefix of the printed run was written
pub record PartlyReplayed (config_tells in_tells out_tells : Type 0) (o n : BatchStreams) : Type 0 where
  pub checked : Checked config_tells in_tells o n
  pub sent : out_tells → Began o.output.sent n.output.sent (replayed checked.configuration checked.events)
