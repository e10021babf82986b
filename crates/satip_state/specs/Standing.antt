-- When the parts represent a state of the plain server.
use Rattle.std.specs.Prelude.{ℕ, ◌≡◌, ◌<◌, ◌≤◌, true, false, if◌then◌else◌, List, [], map, length, sum, Some, slice_get, IfSome}
use Rattle.satip_base.specs.declared.limits.TheConstants.{QUEUED, MOST_HELD}
use Rattle.std.specs.Option.{option_and_then}
use Rattle.satip_base.specs.Output.{Output}
use Rattle.satip_rtp.specs.Sending.{SendsAll}
use Rattle.satip_base.specs.Lists.{Each}
use Rattle.satip_table.specs.declared.stream.Stream.{Stream as StreamRow}
use Rattle.satip_fronts.specs.declared.front_table.FrontRow.{FrontRow}
use Rattle.satip_fronts.specs.FrontEnds.{front_of}
use Rattle.satip_plain.specs.Types.{Config}
use Rattle.satip_plain.specs.State.{Session, Stream, Row, State, held, stream_of, last_moment}
use Rattle.satip_plain.specs.Sending.{Move}
use Rattle.satip_plain.specs.Histories.{datagram}
use Rattle.satip_state.specs.Kept.{Kept}
use Rattle.satip_state.specs.Seated.{Seated, seat_of, subscribers, due_of}

-- a stream of the table, without its owner, who follows from the order of sessions
unfoldable pub stream_in : StreamRow → Stream
stream_in t = record { number = t.number; tuning = t.tuning; front = t.front; pids = t.pids }

unfoldable pub row_in : FrontRow → Row
row_in r = record { number = r.number; mux = r.mux; tune = r.tune; ended = r.ended }

-- the limit of waiting packets, in the queue of an HTTP session and in a packer
abbrev pub most_held : Session → ℕ
most_held s = if s.http then QUEUED else MOST_HELD

-- the invariant of a session
pub record IsKept (s : Session) : Type 0 where
  pub heard : s.heard ≤ last_moment
  pub reported : IfSome s.reported (λ at. at ≤ last_moment)
  pub first : s.first < 65536
  pub within : sum s.sizes ≤ length s.picked
  pub few : length (held s) ≤ most_held s
  pub http : s.http ≡ true → s.playing ≡ true
  pub idle_picked : s.playing ≡ false → s.picked ≡ []
  pub idle_sizes : s.playing ≡ false → s.sizes ≡ []

-- each part holds its share of the state
pub record StandsFor (c : Config) (v : Kept) (st : State) : Type 0 where
  pub seated : List Seated
  pub clock : v.clock ≡ st.clock
  pub moment : st.clock ≤ last_moment
  pub stopped : v.stopped ≡ st.stopped
  pub timeout : v.timeout ≡ c.timeout
  pub made : v.table.made ≡ st.made
  pub seats : v.table.seats ≡ map seat_of seated
  pub sessions : st.sessions ≡ map (λ x. x.session) seated
  pub each_session : Each IsKept st.sessions
  pub streams : map stream_in v.table.streams ≡ st.streams
  pub numbers : Each (λ t. t.number ≤ 64) st.streams
  pub dues : (slot : ℕ) → slot < 64 → slice_get v.dues slot ≡ Some (due_of v.timeout seated slot)
  pub front_ends : v.fronts.fronts ≡ c.fronts
  pub muxes : v.fronts.muxes ≡ c.muxes
  pub rows : map row_in v.fronts.rows ≡ st.rows
  pub places : (number : ℕ) → front_of v.fronts.places number ≡ option_and_then (λ t. t.front) (stream_of st number)
  pub flow : v.flow ≡ subscribers seated st.streams

-- the parts represent the state after the move, and the datagrams of the move were appended
pub record Moved (c : Config) (v : Kept) (o n : Output) (m : Move) : Type 0 where
  pub stands : StandsFor c v m.state
  pub sent : SendsAll o (map datagram m.sent) n
