-- The text of a query, in the order of the keys.
use Rattle.std.specs.Prelude.{ℕ, ◌<◌, ◌≤◌, ◌||◌, Bool, true, false, if◌then◌else◌, codes, decimal, filter, map, List, [], ◌∷◌, ◌++◌, length, Option, None, Some, IfSome}
use Rattle.std.specs.List.{join_with_byte}
use Rattle.satip_pids.specs.Pids.{IsPidList}
use Rattle.satip_tune.specs.Frequency.{frequency_text}
use Rattle.satip_tune.specs.Words.{all_keys, key_text, pol_text, system_text, modulation_text, roll_off_text, fec_text, pilots_text_of}
use Rattle.satip_tune.specs.declared.keys.Key.{Key}
use Rattle.satip_tune.specs.declared.keys.Key.TheVariants.{Fe, Src, Freq, Pol, Ro, Msys, Mtype, Plts, Sr, Fec, Pids, Addpids, Delpids}
use Rattle.satip_query.specs.Queries.{is_given}
use Rattle.satip_query.specs.declared.queries.PidsGiven.{PidsGiven}
use Rattle.satip_query.specs.declared.queries.PidsGiven.TheVariants.{Absent, All, Empty, List as Listed}
use Rattle.satip_query.specs.declared.queries.Query.{Query}

-- the text of a field, if it is given
abbrev pub field_text : {A : Type 0} → (A → List ℕ) → Option A → List ℕ
field_text text None = []
field_text text (Some value) = text value

-- PIDs with commas between them
unfoldable pub list_text : List ℕ → List ℕ
list_text pids = join_with_byte 44 (map decimal pids)

-- the value of `pids`
abbrev pub pids_text : PidsGiven → List ℕ
pids_text Absent = []
pids_text All = codes "all"
pids_text Empty = codes "none"
pids_text (Listed pids) = list_text pids

-- the value of a key
abbrev pub value_text : Query → Key → List ℕ
value_text query Fe = field_text decimal query.change.fe
value_text query Src = field_text decimal query.change.src
value_text query Freq = field_text frequency_text query.change.freq
value_text query Pol = field_text pol_text query.change.pol
value_text query Ro = field_text roll_off_text query.change.ro
value_text query Msys = field_text system_text query.change.msys
value_text query Mtype = field_text modulation_text query.change.mtype
value_text query Plts = field_text pilots_text_of query.change.plts
value_text query Sr = field_text decimal query.change.sr
value_text query Fec = field_text fec_text query.change.fec
value_text query Pids = pids_text query.pids
value_text query Addpids = field_text list_text query.addpids
value_text query Delpids = field_text list_text query.delpids

-- the piece of a key
abbrev pub piece_text : Query → Key → List ℕ
piece_text query key = key_text key ++ (61 ∷ value_text query key)

-- the text of a query: the pieces of its keys with `&` between them
unfoldable pub query_text : Query → List ℕ
query_text query = join_with_byte 38 (map (piece_text query) (filter (is_given query) all_keys))

-- the text before a piece: `&` after other pieces, else nothing
abbrev pub separator : Bool → List ℕ
separator true = codes "&"
separator false = []

-- the text that a key adds after other pieces, or at the start
abbrev pub part_text : Query → Bool → Key → List ℕ
part_text query started key = if is_given query key then separator started ++ piece_text query key else []

-- the text that keys add, one after another
abbrev pub parts_text : Query → Bool → List Key → List ℕ
parts_text query started [] = []
parts_text query started (key ∷ keys) =
    part_text query started key ++ parts_text query (started || is_given query key) keys

-- a number from `low` to `high`
pub record IsWithin (low high n : ℕ) : Type 0 where
  pub at_least : low ≤ n
  pub at_most : n ≤ high

-- PIDs that a value may list: 1 to 512 of them
pub record AreListed (pids : List ℕ) : Type 0 where
  pub some : 0 < length pids
  pub limits : IsPidList pids

-- the value of `pids` is one that a query may give
abbrev pub MayBeGiven : PidsGiven → Type 0
MayBeGiven Absent = Unit {0}
MayBeGiven All = Unit {0}
MayBeGiven Empty = Unit {0}
MayBeGiven (Listed pids) = AreListed pids

-- each value that is given is allowed
pub record IsAllowed (query : Query) : Type 0 where
  pub fe : IfSome query.change.fe (IsWithin 1 65535)
  pub src : IfSome query.change.src (IsWithin 1 255)
  pub freq : IfSome query.change.freq (IsWithin 1000 99999999)
  pub sr : IfSome query.change.sr (IsWithin 1 99999)
  pub pids : MayBeGiven query.pids
  pub addpids : IfSome query.addpids AreListed
  pub delpids : IfSome query.delpids AreListed
