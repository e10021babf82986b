-- The keys of a configuration, and their texts.
use Rattle.std.specs.Prelude.{ℕ, List, ◌++◌, codes}
use Rattle.std.specs.Fmt.{decimal}
use Rattle.satip_config.specs.declared.key.ConfigTable.{ConfigTable}
use Rattle.satip_config.specs.declared.key.ConfigTable.TheVariants as tables
use Rattle.satip_config.specs.declared.key.ConfigName.{ConfigName}
use Rattle.satip_config.specs.declared.key.ConfigName.TheVariants as names
use Rattle.satip_config.specs.declared.key.ConfigKey.{ConfigKey}

-- a key's name, which the text has before the `=`
abbrev pub name_text : ConfigName → List ℕ
name_text names.Address = codes "address"
name_text names.RtspPort = codes "rtsp_port"
name_text names.HttpPort = codes "http_port"
name_text names.Timeout = codes "timeout"
name_text names.Workers = codes "workers"
name_text names.Frontend = codes "frontend"
name_text names.Sources = codes "sources"
name_text names.Systems = codes "systems"
name_text names.Mux = codes "mux"
name_text names.Src = codes "src"
name_text names.Freq = codes "freq"
name_text names.Pol = codes "pol"
name_text names.Msys = codes "msys"
name_text names.Sr = codes "sr"
name_text names.File = codes "file"

-- a key of the document itself
abbrev pub top_key : ConfigName → ConfigKey
top_key name = record { table = tables.Top; number = 0; name = name }

-- a key of the front end of this number
abbrev pub front_key : ℕ → ConfigName → ConfigKey
front_key number name = record { table = tables.Frontend; number = number; name = name }

-- a key of the multiplex of this number
abbrev pub mux_key : ℕ → ConfigName → ConfigKey
mux_key number name = record { table = tables.Mux; number = number; name = name }

-- a name in a message, after its entry's array and number
abbrev pub text_in : ConfigTable → ℕ → List ℕ → List ℕ
text_in tables.Top number name = name
text_in tables.Frontend number name = codes "frontend." ++ decimal number ++ codes "." ++ name
text_in tables.Mux number name = codes "mux." ++ decimal number ++ codes "." ++ name

-- the text of a key in a message
abbrev pub key_text : ConfigKey → List ℕ
key_text key = text_in key.table key.number (name_text key.name)
