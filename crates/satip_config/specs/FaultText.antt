-- Texts of faults of a configuration.
use Rattle.std.specs.Prelude.{ℕ, List, ◌++◌, codes}
use Rattle.satip_config.specs.declared.fault.ConfigFault.{ConfigFault}
use Rattle.satip_config.specs.declared.fault.ConfigFault.TheVariants as faults
use Rattle.satip_config.specs.Keys.{key_text}

-- the text of a fault after `configuration: ` in a message
abbrev pub fault_text : ConfigFault → List ℕ
fault_text faults.Long = codes "too long"
fault_text faults.NotToml = codes "not toml"
fault_text (faults.Shape key) = codes "shape of " ++ key_text key
fault_text (faults.Value key) = codes "value of " ++ key_text key
fault_text faults.Want = codes "out of memory"
