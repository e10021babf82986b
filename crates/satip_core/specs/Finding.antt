-- What a request is found to name and to change.
use Rattle.std.specs.Prelude.{◌≡◌, true, [], Option, IfSome, option_and_then}
use Rattle.std.specs.Option.{option_map_or}
use Rattle.satip_pids.specs.Pids.{Only}
use Rattle.satip_rtsp.specs.Methods.{changes}
use Rattle.satip_plain.specs.Types.{Pids, Query, Request, Tuning}
use Rattle.satip_plain.specs.State.{State, Stream}
use Rattle.satip_plain.specs.Refusals.{stream_meant}
use Rattle.satip_state.specs.Asking.{Asks}
use Rattle.satip_core.specs.declared.deciding.Accepted.{Accepted}
use Rattle.satip_core.specs.RefusalRows.{IsRtsp, NamesSession}

-- what a query asks of this stream, or of a new one
abbrev pub AsksOf : Option Stream → Query → Option Tuning → Pids → Type 0
AsksOf stream query tuning pids = Asks (option_and_then (λ t. t.tuning) stream) (option_map_or (λ t. t.pids) stream (Only [])) query tuning pids

-- the session that an accepted request names, and what its query asks of its stream
pub record Finds (st : State) (r : Request) (accepted : Accepted) (pids : Pids) : Type 0 where
  pub names : NamesSession st r accepted.session
  pub kind : IfSome accepted.session (IsRtsp st)
  pub asks : changes r.method ≡ true → AsksOf (stream_meant st r) r.query accepted.tuning pids
