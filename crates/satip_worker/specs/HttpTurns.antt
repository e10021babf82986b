-- One event of an HTTP connection.
use Rattle.std.specs.Prelude.{◌≡◌, ℕ, false, List}
use Rattle.satip_base.specs.declared.identity.SessionId.{SessionId}
use Rattle.satip_plain.specs.declared.answers.Answer.{Answer}
use Rattle.satip_plain.specs.declared.answers.Answer.TheVariants.{Get as Got, Pulled}
use Rattle.satip_plain.specs.declared.answers.GetAnswer.TheVariants.{Started as session_started, Refused as get_refused}
use Rattle.satip_plain.specs.declared.answers.Pulled.TheVariants.{Bytes, Empty as none_queued, Gone as session_gone}
use Rattle.satip_plain.specs.declared.events.Event.{Event}
use Rattle.satip_plain.specs.Histories.{Item}
use Rattle.satip_world.specs.declared.doors.ConnEnd.{ConnEnd}
use Rattle.satip_worker.specs.declared.http_turns.Getting.{Getting}
use Rattle.satip_worker.specs.declared.http_turns.Getting.TheVariants.{Started, StartCut, Refused, RefusalCut, Unmade as get_unmade}
use Rattle.satip_worker.specs.declared.http_turns.Pulling.{Pulling}
use Rattle.satip_worker.specs.declared.http_turns.Pulling.TheVariants.{Sent, Cut, Empty, Gone, Unmade as pull_unmade}
use Rattle.satip_worker.specs.Answers.{ends_with_last}
use Rattle.satip_worker.specs.Ends.{ServiceEnds}
use Rattle.satip_worker.specs.HttpRun.{Closes}
use Rattle.satip_worker.specs.Progress.{Stage, ConnState, Makes}
use Rattle.satip_worker.specs.Turns.{ReplySent, ReplyLost, EntryMade, TurnUnmade}

-- the GET started this session
abbrev pub IsStart : SessionId → Answer → Type 0
IsStart id answer = answer ≡ Got (session_started id)

-- the GET was refused
abbrev pub IsRefusal : Answer → Type 0
IsRefusal answer = (status : ℕ) × (answer ≡ Got (get_refused status))

-- the pull moved bytes
abbrev pub IsSome : Answer → Type 0
IsSome answer = (count : ℕ) × (answer ≡ Pulled (Bytes count))

-- the pull found no bytes
abbrev pub IsNone : Answer → Type 0
IsNone answer = answer ≡ Pulled none_queued

-- the pull found no such session
abbrev pub IsGone : Answer → Type 0
IsGone answer = answer ≡ Pulled session_gone

-- the outcome of a GET
abbrev pub GetTurns : (ct ot : Type 0) (o n : ConnState) → Event → Getting → Type 0
GetTurns ct ot o n event (Started id) = ReplySent ct ot o n event (IsStart id)
GetTurns ct ot o n event (StartCut id) = ReplyLost ct ot o n event (IsStart id)
GetTurns ct ot o n event Refused = ReplySent ct ot o n event IsRefusal
GetTurns ct ot o n event RefusalCut = ReplyLost ct ot o n event IsRefusal
GetTurns ct ot o n event (get_unmade fault) = TurnUnmade ct ot o n fault

-- the outcome of a pull
abbrev pub PullTurns : (ct ot : Type 0) (o n : ConnState) → Event → Pulling → Type 0
PullTurns ct ot o n event Sent = ReplySent ct ot o n event IsSome
PullTurns ct ot o n event Cut = ReplyLost ct ot o n event IsSome
PullTurns ct ot o n event Empty = EntryMade ct ot o n event IsNone
PullTurns ct ot o n event Gone = EntryMade ct ot o n event IsGone
PullTurns ct ot o n event (pull_unmade fault) = TurnUnmade ct ot o n fault

-- a session was closed for this cause, or the service made no entry of the close
pub record ClosesSession (ot : Type 0) (o n : Stage) (id : SessionId) (cause end : ConnEnd) : Type 0 where
  pub entries : List Item
  pub closes : Closes id cause end entries
  pub unended : ends_with_last entries ≡ false
  pub makes : Makes ot o n entries
  pub service_ends : ServiceEnds end o.may_want n.known
