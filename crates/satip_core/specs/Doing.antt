-- The effect of an event, compared with the plain server's.
use Rattle.std.specs.Prelude.{◌≡◌, ◌≤◌, [], map, length, Option, Some, None, IfSome, is_none, false, ℕ}
use Rattle.satip_base.specs.Output.{Output}
use Rattle.satip_plain.specs.declared.answers.Answer.{Answer}
use Rattle.satip_plain.specs.Types.{Config, Peer, Draw, Pids, Ports, Request}
use Rattle.satip_plain.specs.State.{Session, State, stream_of}
use Rattle.satip_plain.specs.Refusals.{decide, is_full, session_named}
use Rattle.satip_base.specs.declared.identity.SessionId.{SessionId}
use Rattle.satip_rtsp.specs.Replies.{plain_reply}
use Rattle.satip_plain.specs.Sending.{settle}
use Rattle.satip_plain.specs.Steps.{Outcome, accepted, end_where, found, heard_by, is_session, least_free, set_up, setup_number, setup_session}
use Rattle.satip_plain.specs.Histories.{datagram}
use Rattle.satip_state.specs.Asking.{IsUntuned}
use Rattle.satip_state.specs.Kept.{Kept}
use Rattle.satip_state.specs.Standing.{StandsFor}
use Rattle.satip_core.specs.declared.deciding.Accepted.{Accepted as Found}
use Rattle.satip_core.specs.Finding.{Finds}

-- the parts represent the state that the plain server leaves; the answer, the reply and the datagrams are the plain server's
pub record Did (c : Config) (v : Kept) (said : Answer) (out : Output) (o : Outcome) : Type 0 where
  pub stands : StandsFor c v o.state
  pub answer : said ≡ o.answer
  pub reply : out.reply ≡ o.reply
  pub datagrams : out.datagrams ≡ map datagram o.sent

-- the outcome of a TEARDOWN of the session of this id, if there is one
abbrev pub torn_down : Option ℕ → State → Option SessionId → Outcome
torn_down cseq st None = accepted (settle st) []
torn_down cseq st (Some id) = accepted (end_where (is_session id) st) (plain_reply cseq 200)

-- the parts represent some state, with at most 16 front ends
pub record Standing (c : Config) (v : Kept) : Type 0 where
  pub few : length c.fronts ≤ 16
  pub state : State
  pub stands : StandsFor c v state

-- the state in which an accepted request is executed, after its session's activity was set
pub record Accepted (c : Config) (st : State) (r : Request) (found : Found) (pids : Pids) : Type 0 where
  pub before : State
  pub heard : st ≡ heard_by r before
  pub accepted : decide c before r ≡ None
  pub finds : Finds before r found pids

-- the parts represent such a state, with at most 16 front ends
pub record Ready (c : Config) (v : Kept) (r : Request) (found : Found) (pids : Pids) : Type 0 where
  pub few : length c.fronts ≤ 16
  pub state : State
  pub stands : StandsFor c v state
  pub accepted : Accepted c state r found pids

-- a SETUP that may be served: it names a living stream or none; it names a session and a stream, or a session can be created
pub record MaySetUp (st : State) (r : Request) : Type 0 where
  pub lives : IfSome r.stream (λ number. is_none (stream_of st number) ≡ false)
  pub moves : (s : Session) → session_named st r.session ≡ Some s → is_none r.stream ≡ false
  pub makes : session_named st r.session ≡ None → is_full st ≡ false

-- the session of a SETUP is created or moved
pub record SetUpAs (c : Config) (v : Kept) (peer : Peer) (draw : Draw) (ports : Ports) (r : Request) (st : State) (given : Option (SessionId × ℕ)) : Type 0 where
  pub made : given ≡ Some (setup_session draw r st, setup_number r st)
  pub stands : StandsFor c v (set_up peer draw ports r st)
  pub untuned : session_named st r.session ≡ None → r.stream ≡ None → IsUntuned (found false peer draw ports st) (least_free st.streams)
