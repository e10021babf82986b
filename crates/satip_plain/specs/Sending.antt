-- The datagrams that leave the server, and how sessions take turns to send.
use Rattle.std.specs.Prelude.{ℕ, ◌+◌, ◌%◌, Bool, List, [], ◌∷◌, ◌++◌, map, flat_map, filter_map, length, Option, Some, if◌then◌else◌}
use Rattle.satip_plain.specs.Types.{SessionId, Address}
use Rattle.satip_plain.specs.State.{Session, State, held}
use Rattle.satip_sdp.specs.Rtcp.declared.views.StreamView.{StreamView}
use Rattle.satip_sdp.specs.Rtcp.declared.views.Sender.{Sender}
use Rattle.satip_rtp.specs.Cut.{cut}

-- a datagram, with its session
pub data Sent : Type 0 where
  Rtp : SessionId → Address → ℕ → ℕ → ℕ → List (List ℕ) → Sent  -- to, number, clock, ssrc, packets
  Report : SessionId → StreamView → Sender → Sent

-- the session of a datagram
abbrev pub marked_with : Sent → SessionId
marked_with (Rtp id to number clock ssrc packets) = id
marked_with (Report id view sender) = id

-- the next state, and the datagrams sent on the way, in order
pub record Move : Type 0 where
  pub state : State
  pub sent : List Sent

-- the move that changes and sends nothing
abbrev pub settle : State → Move
settle st = record { state = st; sent = [] }

-- one move after another
abbrev pub then_move : Move → (State → Move) → Move
then_move m next = let n = next m.state in record { state = n.state; sent = m.sent ++ n.sent }

-- the datagrams of a session in its turn, and the session after it; None if it ends
pub record Turn : Type 0 where
  pub sends : List Sent
  pub after : Option Session

-- each session has its turn, in order of creation
abbrev pub each : (Session → Turn) → State → Move
each turn st = record {
  state = record st { sessions = filter_map (λ s. (turn s).after) st.sessions };
  sent = flat_map (λ s. (turn s).sends) st.sessions;
}

-- only the sessions for which p holds have the turn; the others stay as they are
abbrev pub each_of : (Session → Bool) → (Session → Turn) → State → Move
each_of p turn st = each (λ s. if p s then turn s else record { sends = []; after = Some s }) st

-- the groups of packets as RTP datagrams, numbered from this count of datagrams on
abbrev pub as_rtp : ℕ → Session → ℕ → List (List (List ℕ)) → List Sent
as_rtp clock s count [] = []
as_rtp clock s count (packets ∷ more) =
    Rtp s.id (record { ip = s.peer.ip; port = s.ports.rtp }) ((s.first + count) % 65536) clock s.ssrc packets ∷ as_rtp clock s (count + 1) more

-- full groups of seven held packets leave; if `flush` is set, the rest leaves too
abbrev pub let_go : Bool → ℕ → Session → Turn
let_go flush clock s =
    let groups = cut flush (held s) in
    record {
      sends = as_rtp clock s (length s.sizes) groups;
      after = Some (record s { sizes = s.sizes ++ map length groups });
    }
