-- First consequences of the definitions, each the contract of a public function.
use Rattle.std.specs.Prelude.{ℕ, ◌≡◌, false, List, [], ◌++◌, Some, None}
use Rattle.satip_plain.specs.declared.events.Event.TheVariants.{Request as Asked, Get as Got, Packet, Pull, Close}
use Rattle.satip_plain.specs.declared.setting.Setting.{Setting}
use Rattle.std.specs.Bool.{Decides}
use Rattle.satip_plain.specs.SameTuning.{tuning_eq}
use Rattle.satip_plain.specs.Types.{Tuning, Config, Peer, Draw, Request, HttpRequest, SessionId}
use Rattle.satip_plain.specs.State.{State, Session, http_session, held}
use Rattle.satip_plain.specs.Refusals.{Refused, decide, decide_get}
use Rattle.satip_plain.specs.Steps.{Outcome, step, heard_by, hear, is_current}
use Rattle.satip_plain.specs.Histories.{Item, Legal}

-- the outcome leaves this state and sends nothing
pub record Leaves (o : Outcome) (st : State) : Type 0 where
  pub state : o.state ≡ st
  pub sent : o.sent ≡ []

-- a refused request leaves the state as it was, except its session's last activity if the message itself is well-formed
abbrev pub RefusedChangesNothing : Type 0
RefusedChangesNothing =
    (c : Config) (st : State) (peer : Peer) (draw : Draw) (r : Request) (refused : Refused) → decide c st r ≡ Some refused
    → Leaves (step c st (Asked peer draw r)) (heard_by r st)

-- a refused GET leaves the state as it was
abbrev pub RefusedGetChangesNothing : Type 0
RefusedGetChangesNothing =
    (c : Config) (st : State) (peer : Peer) (draw : Draw) (r : HttpRequest) (refused : Refused) → decide_get c st r ≡ Some refused
    → Leaves (step c st (Got peer draw r)) st

-- a stale packet leaves the state as it was
abbrev pub StaleChangesNothing : Type 0
StaleChangesNothing =
    (c : Config) (st : State) (front tune : ℕ) (packet : List ℕ) → is_current st front tune ≡ false
    → Leaves (step c st (Packet front tune packet)) st

-- a pull or a close leaves the state as it was if no HTTP session has that id
abbrev pub GoneChangesNothing : Type 0
GoneChangesNothing =
    (c : Config) (st : State) (id : SessionId) → http_session st id ≡ None
    → Leaves (step c st (Pull id)) st × Leaves (step c st (Close id)) st

-- a pull of an empty queue leaves the state as it was, except its session's last activity
abbrev pub EmptyOnlyHears : Type 0
EmptyOnlyHears =
    (c : Config) (st : State) (id : SessionId) (s : Session) → http_session st id ≡ Some s → held s ≡ []
    → Leaves (step c st (Pull id)) (hear s.id st)

-- each prefix of a legal history is legal
abbrev pub PrefixIsLegal : Type 0
PrefixIsLegal = (c : Setting) (h k : List Item) → Legal c (h ++ k) → Legal c h

-- tunings compare as equal exactly if they are equal
abbrev pub TuningEqIsEquality : Type 0
TuningEqIsEquality = (a b : Tuning) → Decides (tuning_eq a b) (a ≡ b)
