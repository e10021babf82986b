-- Queries, and which keys one gives.
use Rattle.std.specs.Prelude.{Bool, true, false, None, is_some}
use Rattle.std.specs.List.{list_any}
use Rattle.satip_tune.specs.declared.keys.Key.{Key}
use Rattle.satip_tune.specs.declared.keys.Key.TheVariants.{Pids, Addpids, Delpids}
use Rattle.satip_tune.specs.Tunings.{change_gives}
use Rattle.satip_tune.specs.Words.{all_keys}
use Rattle.satip_query.specs.declared.queries.Query.{Query}
use Rattle.satip_query.specs.declared.queries.PidsGiven.{PidsGiven}
use Rattle.satip_query.specs.declared.queries.PidsGiven.TheVariants.{Absent, All, Empty, List as Listed}

-- the query that gives nothing
abbrev pub new_query : Query
new_query = record {
  change = record {
    fe = None;
    src = None;
    freq = None;
    pol = None;
    ro = None;
    msys = None;
    mtype = None;
    plts = None;
    sr = None;
    fec = None;
  };
  pids = Absent;
  addpids = None;
  delpids = None;
}

-- whether `pids` is given
abbrev pub are_given_by : PidsGiven → Bool
are_given_by Absent = false
are_given_by All = true
are_given_by Empty = true
are_given_by (Listed pids) = true

-- whether a query gives a key
abbrev pub is_given : Query → Key → Bool
is_given query Pids = are_given_by query.pids
is_given query Addpids = is_some query.addpids
is_given query Delpids = is_some query.delpids
is_given query key = change_gives query.change key

-- whether a query gives a known key
abbrev pub gives_key : Query → Bool
gives_key query = list_any (is_given query) all_keys
