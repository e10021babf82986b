-- The plain server's state, with every packet that was ever given to a session.
use Rattle.std.specs.Prelude.{ℕ, ◌==◌, ◌&&◌, not, Bool, false, List, map, filter, find, Option, None, Some, sum, drop, if◌then◌else◌}
use Rattle.satip_plain.specs.Types.{SessionId, Peer, Ports, Tuning, Pids}

-- a session: `picked` has all packets ever given to it; `sizes` has the count of packets of each datagram that it sent, or of each answered pull, oldest first
pub record Session : Type 0 where
  pub id : SessionId
  pub http : Bool
  pub peer : Peer
  pub ports : Ports
  pub stream : ℕ
  pub playing : Bool
  pub heard : ℕ
  pub reported : Option ℕ
  pub ssrc : ℕ
  pub first : ℕ
  pub picked : List (List ℕ)
  pub sizes : List ℕ

-- a stream: its number, what it is tuned to, the front end that serves it, and its PIDs
pub record Stream : Type 0 where
  pub number : ℕ
  pub tuning : Option Tuning
  pub front : Option ℕ
  pub pids : Pids

-- a front end: the multiplex that it is tuned to, the number of times that it was tuned, and whether the recording that plays as its signal has ended
pub record Row : Type 0 where
  pub number : ℕ
  pub mux : Option ℕ
  pub tune : ℕ
  pub ended : Bool

-- the server: sessions are in order of creation, streams and front ends in rising number
pub record State : Type 0 where
  pub clock : ℕ
  pub made : ℕ
  pub stopped : Bool
  pub sessions : List Session
  pub streams : List Stream
  pub rows : List Row

-- whether two ids are equal
abbrev pub same_id : SessionId → SessionId → Bool
same_id a b = a.count == b.count && a.word == b.word

-- whether there is a number, and it is n
abbrev pub is_at : Option ℕ → ℕ → Bool
is_at None n = false
is_at (Some m) n = m == n

-- the living RTSP session of this id, and the living HTTP session
abbrev pub rtsp_session : State → SessionId → Option Session
rtsp_session st id = find (λ s. same_id s.id id && not s.http) st.sessions

abbrev pub http_session : State → SessionId → Option Session
http_session st id = find (λ s. same_id s.id id && s.http) st.sessions

-- the living stream of this number
abbrev pub stream_of : State → ℕ → Option Stream
stream_of st number = find (λ t. t.number == number) st.streams

-- the row of the front end of this number
abbrev pub row_of : State → ℕ → Option Row
row_of st front = find (λ r. r.number == front) st.rows

-- the sessions of a stream: the owner first, then the joined ones in order of joining
abbrev pub members : State → ℕ → List Session
members st number = filter (λ s. s.stream == number) st.sessions

-- the owner of a stream: its earliest session
abbrev pub owner : State → ℕ → Option Session
owner st number = find (λ s. s.stream == number) st.sessions

-- the streams that a front end serves
abbrev pub served_by : State → ℕ → List Stream
served_by st front = filter (λ t. is_at t.front front) st.streams

-- the packets that were given to a session and haven't left yet
abbrev pub held : Session → List (List ℕ)
held s = drop (sum s.sizes) s.picked

-- applies f to each element for which p holds
abbrev pub change_where : {X : Type 0} → (X → Bool) → (X → X) → List X → List X
change_where p f xs = map (λ x. if p x then f x else x) xs

-- the limit of living sessions, and the limit of sessions ever created
abbrev pub most_sessions : ℕ
most_sessions = 64

abbrev pub most_made : ℕ
most_made = 4294967295

-- the last moment, 2^48 - 1 milliseconds; later ones count as this one
abbrev pub last_moment : ℕ
last_moment = 281474976710655
