-- The entries of the arrays of tables: front ends and multiplexes.
use Rattle.std.specs.Prelude.{ℕ, suc, Bool, ◌==◌, List, [], ◌∷◌, map, Ok}
use Rattle.std.specs.List.{range_with_len, list_any}
use Rattle.toml.specs.Data.{Data, Members, as_str, as_integer}
use Rattle.satip_tune.specs.declared.frontends.Front.{Front}
use Rattle.satip_tune.specs.declared.frontends.Mux.{Mux}
use Rattle.satip_tune.specs.declared.signal.System.{System}
use Rattle.satip_tune.specs.declared.signal.System.TheVariants.{Dvbs, Dvbs2}
use Rattle.satip_tune.specs.Signal.{system_eq}
use Rattle.satip_tune.specs.Words.{pol_named, system_named}
use Rattle.satip_config.specs.declared.key.ConfigKey.{ConfigKey}
use Rattle.satip_config.specs.declared.key.ConfigName.TheVariants as names
use Rattle.satip_config.specs.Keys.{front_key, mux_key}
use Rattle.satip_config.specs.Steps.{Reading, ◌>>=◌, counted}
use Rattle.satip_config.specs.Values.{within, khz_of, number_at, word_at, array_at, list_in}

-- the places of sources: place n is true if n is one of the numbers
unfoldable pub source_places : List ℕ → List Bool
source_places numbers = map (λ place. list_any (λ n. n == place) numbers) (range_with_len 0 256)

-- the places of systems: place 0 for DVB-S, place 1 for DVB-S2
unfoldable pub system_places : List System → List Bool
system_places systems = list_any (system_eq Dvbs) systems ∷ list_any (system_eq Dvbs2) systems ∷ []

-- the sources of an array: 1 to 255 integers, each from 1 to 255
unfoldable pub sources_in : ConfigKey → List Data → Reading (List Bool)
sources_in key values = do
  numbers ← list_in as_integer 255 (within 1 255) key values
  Ok (source_places numbers)

-- the systems of an array: one or two strings
unfoldable pub systems_in : ConfigKey → List Data → Reading (List Bool)
systems_in key values = do
  systems ← list_in as_str 2 system_named key values
  Ok (system_places systems)

-- the front end of the table with this number
unfoldable pub front_at : ℕ → Members → Reading Front
front_at number table = do
  sources ← array_at (front_key number names.Sources) table >>= sources_in (front_key number names.Sources)
  systems ← array_at (front_key number names.Systems) table >>= systems_in (front_key number names.Systems)
  Ok (record { number = number; sources = sources; systems = systems })

-- the multiplex of the table with this number, and the name of its recording
unfoldable pub mux_at : ℕ → Members → Reading (Mux × List ℕ)
mux_at number table = do
  src ← number_at 1 255 (mux_key number names.Src) table
  freq ← word_at khz_of (mux_key number names.Freq) table
  pol ← word_at pol_named (mux_key number names.Pol) table
  msys ← word_at system_named (mux_key number names.Msys) table
  sr ← number_at 1 99999 (mux_key number names.Sr) table
  file ← word_at (counted 1 255) (mux_key number names.File) table
  Ok (record { src = src; freq = freq; pol = pol; msys = msys; sr = sr }, file)

-- a list of multiplexes with their recordings, as two lists
abbrev pub apart : List (Mux × List ℕ) → List Mux × List (List ℕ)
apart found = (map (λ recording. recording.0) found, map (λ recording. recording.1) found)

-- the entries of an array of tables, numbered from `number` on
unfoldable pub entries : {A : Type 0} → (ℕ → Members → Reading A) → ℕ → List Members → Reading (List A)
entries entry_at number [] = Ok []
entries entry_at number (table ∷ tables) = do
  first ← entry_at number table
  rest ← entries entry_at (suc number) tables
  Ok (first ∷ rest)

-- the multiplexes of the tables, and the names of their recordings
unfoldable pub recordings : List Members → Reading (List Mux × List (List ℕ))
recordings tables = do
  found ← entries mux_at 1 tables
  Ok (apart found)
