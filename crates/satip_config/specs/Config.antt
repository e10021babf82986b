-- The configuration of a text, or its first fault.
use Rattle.std.specs.Prelude.{ℕ, nat_lt, List, [], length, Option, Some, None, Ok, Err, if◌then◌else◌}
use Rattle.std.specs.Option.{ok_or}
use Rattle.std.specs.Str.{is_utf8}
use Rattle.toml.specs.Data.{Data, Members}
use Rattle.toml.specs.Parse.{parse_document}
use Rattle.satip_tune.specs.declared.frontends.Front.{Front}
use Rattle.satip_tune.specs.declared.frontends.Mux.{Mux}
use Rattle.satip_base.specs.Numbers.{ip_of}
use Rattle.satip_config.specs.declared.key.ConfigName.TheVariants as names
use Rattle.satip_config.specs.declared.fault.ConfigFault.TheVariants as faults
use Rattle.satip_tune.specs.Configuration.{Configuration}
use Rattle.satip_config.specs.Keys.{top_key}
use Rattle.satip_config.specs.Steps.{Reading, ◌>>=◌}
use Rattle.satip_config.specs.Values.{value_at, number_or, word_at, array, array_at, tables_in}
use Rattle.satip_config.specs.Entries.{front_at, entries, recordings}

-- the front ends of an array, which has 1 to 16 tables
unfoldable pub fronts_in : List Data → Reading (List Front)
fronts_in values = tables_in 1 16 (top_key names.Frontend) values >>= entries front_at 1

-- the front ends of a document
unfoldable pub fronts_of : Members → Reading (List Front)
fronts_of table = array_at (top_key names.Frontend) table >>= fronts_in

-- the multiplexes of an array, which has at most 256 tables, and the names of their recordings
unfoldable pub recordings_in : List Data → Reading (List Mux × List (List ℕ))
recordings_in values = tables_in 0 256 (top_key names.Mux) values >>= recordings

-- the same for an optional value; none if the key is missing
abbrev pub recordings_unless_missing : Option Data → Reading (List Mux × List (List ℕ))
recordings_unless_missing None = Ok ([], [])
recordings_unless_missing (Some value) = array (top_key names.Mux) value >>= recordings_in

-- the multiplexes of a document
unfoldable pub recordings_of : Members → Reading (List Mux × List (List ℕ))
recordings_of table = recordings_unless_missing (value_at (top_key names.Mux) table)

-- the configuration of a document
unfoldable pub configuration_of : Members → Reading Configuration
configuration_of table = do
  address ← word_at ip_of (top_key names.Address) table
  rtsp_port ← number_or 554 1 65535 (top_key names.RtspPort) table
  http_port ← number_or 8875 1 65535 (top_key names.HttpPort) table
  timeout ← number_or 60 10 3600 (top_key names.Timeout) table
  workers ← number_or 8 1 64 (top_key names.Workers) table
  fronts ← fronts_of table
  found ← recordings_of table
  Ok (record {
    address = address;
    rtsp_port = rtsp_port;
    http_port = http_port;
    timeout = timeout;
    workers = workers;
    fronts = fronts;
    muxes = found.0;
    files = found.1;
  })

-- the TOML document of bytes, if they are one
abbrev pub document : List ℕ → Option Members
document bytes = if is_utf8 bytes then parse_document bytes else None

-- the document of bytes, which are at most 1048576
abbrev pub document_of : List ℕ → Reading Members
document_of bytes = if nat_lt 1048576 (length bytes) then Err faults.Long else ok_or (document bytes) faults.NotToml

-- the configuration of bytes, or their first fault
unfoldable pub config : List ℕ → Reading Configuration
config bytes = document_of bytes >>= configuration_of
