-- The tuning that results from a change, with an old tuning or without.
use Rattle.std.specs.Prelude.{ℕ, Bool, false, not, [], ◌∷◌, Option, None, Some, Result, Ok, Err, unwrap_or, is_some, find}
use Rattle.std.specs.List.{list_any}
use Rattle.std.specs.Option.{option_or}
use Rattle.satip_tune.specs.Words.{all_keys}
use Rattle.satip_tune.specs.declared.keys.Key.{Key}
use Rattle.satip_tune.specs.declared.keys.Key.TheVariants.{Fe, Src, Freq, Pol as PolKey, Ro, Msys, Mtype, Plts, Sr, Fec as FecKey, Pids, Addpids, Delpids}
use Rattle.satip_tune.specs.declared.signal.Pol.{Pol}
use Rattle.satip_tune.specs.declared.signal.System.{System}
use Rattle.satip_tune.specs.declared.tunings.Tuning.{Tuning}
use Rattle.satip_tune.specs.declared.tunings.Change.{Change}

-- the old tuning with each given field replaced by that of the change
abbrev pub merge_of : Tuning → Change → Tuning
merge_of old change = record {
  fe = option_or change.fe old.fe;
  src = unwrap_or change.src old.src;
  freq = unwrap_or change.freq old.freq;
  pol = unwrap_or change.pol old.pol;
  ro = option_or change.ro old.ro;
  msys = unwrap_or change.msys old.msys;
  mtype = option_or change.mtype old.mtype;
  plts = option_or change.plts old.plts;
  sr = unwrap_or change.sr old.sr;
  fec = option_or change.fec old.fec;
}

-- whether a change gives the key's field; the keys of PIDs have none
abbrev pub change_gives : Change → Key → Bool
change_gives change Fe = is_some change.fe
change_gives change Src = is_some change.src
change_gives change Freq = is_some change.freq
change_gives change PolKey = is_some change.pol
change_gives change Ro = is_some change.ro
change_gives change Msys = is_some change.msys
change_gives change Mtype = is_some change.mtype
change_gives change Plts = is_some change.plts
change_gives change Sr = is_some change.sr
change_gives change FecKey = is_some change.fec
change_gives change Pids = false
change_gives change Addpids = false
change_gives change Delpids = false

-- whether a change gives at least one field
abbrev pub gives_any : Change → Bool
gives_any change = list_any (change_gives change) all_keys

-- the first required key that a change doesn't give
abbrev pub missing : Change → Option Key
missing change = find (λ key. not (change_gives change key)) (Freq ∷ PolKey ∷ Msys ∷ Sr ∷ [])

-- the tuning of the given fields with these required ones, or the first required key that is absent
abbrev pub founded : Change → Option ℕ → Option Pol → Option System → Option ℕ → Result Tuning Key
founded change None pol msys sr = Err Freq
founded change (Some freq) None msys sr = Err PolKey
founded change (Some freq) (Some pol) None sr = Err Msys
founded change (Some freq) (Some pol) (Some msys) None = Err Sr
founded change (Some freq) (Some pol) (Some msys) (Some sr) = Ok (record {
  fe = change.fe;
  src = unwrap_or change.src 1;
  freq = freq;
  pol = pol;
  ro = change.ro;
  msys = msys;
  mtype = change.mtype;
  plts = change.plts;
  sr = sr;
  fec = change.fec;
})

-- the first tuning of a stream, which results from a change alone
abbrev pub first_of : Change → Result Tuning Key
first_of change = founded change change.freq change.pol change.msys change.sr
