-- The lines that are sent to the errors sink.
use Rattle.std.specs.Prelude.{ℕ, ◌⊎◌, List, ◌++◌, codes, decimal}
use Rattle.satip_base.specs.Streams.{Drain, PutAll, FailedToPut}
use Rattle.satip_config.specs.declared.fault.ConfigFault.{ConfigFault}
use Rattle.satip_config.specs.FaultText.{fault_text}

-- a line was sent, or a prefix of it if the sink failed
abbrev pub Says : (tells : Type 0) (o n : Drain) (line : List ℕ) → Type 0
Says tells o n line = PutAll tells o n line ⊎ FailedToPut tells o n line

-- the line of the first fault of a configuration
abbrev pub configuration_line : ConfigFault → List ℕ
configuration_line fault = codes "configuration: " ++ fault_text fault ++ codes "\n"

-- words with a number after them, as a line
abbrev pub number_line : (words : List ℕ) → ℕ → List ℕ
number_line words number = words ++ decimal number ++ codes "\n"
