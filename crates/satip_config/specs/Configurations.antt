-- Configurations that are read from a source.
use Rattle.std.specs.Prelude.{◌≡◌, ◌≢◌, ℕ, ◌≤◌, ◌⊎◌, true, List, length, Ok, Err}
use Rattle.satip_base.specs.Streams.{Feed, Rose}
use Rattle.satip_tune.specs.Configuration.{Configuration}
use Rattle.satip_config.specs.Config.{config}
use Rattle.satip_config.specs.declared.fault.ConfigFault.{ConfigFault}
use Rattle.satip_config.specs.declared.fault.ConfigFault.TheVariants as faults
use Rattle.satip_fronts.specs.FrontEnds.{IsNumbered}
use Rattle.satip_config.specs.declared.reading.ConfigurationEnd.{ConfigurationEnd}
use Rattle.satip_config.specs.declared.reading.ConfigurationEnd.TheVariants.{Fault, SourceFailed, OutOfMemory}
use Rattle.satip_config.specs.Reading.{Read, ReadWhole}

-- the most bytes of a configuration
abbrev pub configuration_limit : ℕ
configuration_limit = 1048576

-- the whole source was read, and its configuration is this one
pub record Configured (tells : Type 0) (a b : Feed) (c : Configuration) : Type 0 where
  pub text : List ℕ
  pub whole : ReadWhole tells a b text
  pub configured : config text ≡ Ok c

-- a server can be created with the configuration
pub record IsServed (c : Configuration) : Type 0 where
  pub few : length c.fronts ≤ 16
  pub numbered : IsNumbered 1 c.fronts
  pub received : length c.muxes ≤ 256

-- the configuration has this first fault; it was read to its end, unless it is too long
pub record Refused (tells : Type 0) (a b : Feed) (fault : ConfigFault) : Type 0 where
  pub text : List ℕ
  pub read : Read tells a b text
  pub refused : config text ≡ Err fault
  pub whole : tells → config a.left ≡ Err fault
  pub known : fault ≢ faults.Want
  pub ending : (b.ended ≡ true) ⊎ (fault ≡ faults.Long)
  pub faults : b.faults ≡ a.faults

-- the reason that no configuration is read
abbrev pub ConfigurationEnds : (tells : Type 0) (a b : Feed) → ConfigurationEnd → Type 0
ConfigurationEnds tells a b (Fault fault) = Refused tells a b fault
ConfigurationEnds tells a b SourceFailed = Rose a.faults b.faults
ConfigurationEnds tells a b OutOfMemory = b.faults ≡ a.faults

-- the text has a configuration
pub record IsConfiguration (text : List ℕ) : Type 0 where
  pub configuration : Configuration
  pub configured : config text ≡ Ok configuration
