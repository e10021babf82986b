-- What a query asks of a stream.
use Rattle.std.specs.Prelude.{ℕ, ◌≡◌, ◌==◌, ◌||◌, Bool, true, List, [], Option, None, Some}
use Rattle.satip_base.specs.Lists.{Each}
use Rattle.satip_pids.specs.Pids.{Only}
use Rattle.satip_query.specs.Queries.{is_given}
use Rattle.satip_tune.specs.declared.keys.Key.TheVariants.{Addpids, Delpids, Pids as PidsKey}
use Rattle.satip_plain.specs.Types.{Pids, Query, Tuning}
use Rattle.satip_plain.specs.State.{State, Stream, stream_of}
use Rattle.satip_plain.specs.Streams.{new_pids, to_set}

-- whether a query gives a list of PIDs
abbrev pub gives_pids : Query → Bool
gives_pids query = is_given query PidsKey || is_given query Addpids || is_given query Delpids

-- the tuning that a query sets for a stream with this tuning and these PIDs, and the stream's new PIDs if the query gives a list of them
pub record Asks (old : Option Tuning) (own : Pids) (query : Query) (tuning : Option Tuning) (pids : Pids) : Type 0 where
  pub sets : tuning ≡ to_set old query.change
  pub selects : gives_pids query ≡ true → pids ≡ new_pids own query

-- each stream of this number selects these PIDs
abbrev pub HasPids : ℕ → Pids → List Stream → Type 0
HasPids number own streams = Each (λ t. (t.number == number) ≡ true → t.pids ≡ own) streams

-- the stream of this number is new: it isn't tuned and selects no PID
abbrev pub IsUntuned : State → ℕ → Type 0
IsUntuned st number = stream_of st number ≡ Some (record { number = number; tuning = None; front = None; pids = Only [] })
