-- How long the line of a fault of a configuration is.
use Rattle.std.proofs.Common.{ℕ, ◌<◌, ◌≤◌, List, length, decimal, length-append, arith, lit≤}
use Rattle.satip_config.specs.declared.key.ConfigTable.{ConfigTable}
use Rattle.satip_config.specs.declared.key.ConfigTable.TheVariants as tables
use Rattle.satip_config.specs.declared.key.ConfigName.{ConfigName}
use Rattle.satip_config.specs.declared.key.ConfigName.TheVariants as names
use Rattle.satip_config.specs.declared.key.ConfigKey.{ConfigKey}
use Rattle.satip_config.specs.Keys.{name_text, text_in, key_text}
use Rattle.satip_base.proofs.NumberLemmas.{length-decimal_u16}

-- how long a name is
name_length : (name : ConfigName) → length (name_text name) ≤ 9
name_length names.Address = lit≤ tt
name_length names.RtspPort = lit≤ tt
name_length names.HttpPort = lit≤ tt
name_length names.Timeout = lit≤ tt
name_length names.Workers = lit≤ tt
name_length names.Frontend = lit≤ tt
name_length names.Sources = lit≤ tt
name_length names.Systems = lit≤ tt
name_length names.Mux = lit≤ tt
name_length names.Src = lit≤ tt
name_length names.Freq = lit≤ tt
name_length names.Pol = lit≤ tt
name_length names.Msys = lit≤ tt
name_length names.Sr = lit≤ tt
name_length names.File = lit≤ tt

text_length : (table : ConfigTable) (number : ℕ) (name : List ℕ) → number < 65536 → length name ≤ 9 → length (text_in table number name) ≤ 24
text_length tables.Top number name small short = omega arith
text_length tables.Frontend number name small short =
    let digits : length (decimal number) ≤ 5 = length-decimal_u16 number small in
    grind (arith, length-append, digits)
text_length tables.Mux number name small short =
    let digits : length (decimal number) ≤ 5 = length-decimal_u16 number small in
    grind (arith, length-append, digits)

-- how long a key's text is
pub key_length : (key : ConfigKey) → key.number < 65536 → length (key_text key) ≤ 24
key_length key small = text_length key.table key.number (name_text key.name) small (name_length key.name)

pub ruleset key_room = (key_length)
