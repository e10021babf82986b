-- Agreement of the plain server's state with the readings of its history.
use Rattle.std.specs.Prelude.{ℕ, ◌≡◌, Bool, List, map, length, Option, option_map, option_and_then, Some, sum, take, true}
use Rattle.std.specs.Option.{option_map_or}
use Rattle.satip_base.specs.Lists.{Has}
use Rattle.satip_plain.specs.Types.{SessionId, Config}
use Rattle.satip_plain.specs.declared.setting.Setting.{Setting}
use Rattle.satip_plain.specs.State.{Session, Stream, State, stream_of, row_of, owner as owner_of}
use Rattle.satip_plain.specs.Histories.{Item, Legal, after}
use Rattle.satip_plain.specs.Readings.{Made, Readings, living, owner, home_of_number, plays, readings}
use Rattle.satip_laws.specs.Given.{given}

-- the summary of a living session: its id, whether it is an HTTP session, the number of its stream, whether it plays,
-- the time of its last activity; the SSRC and the first sequence number of its draw
pub record Told : Type 0 where
  pub id : SessionId
  pub http : Bool
  pub stream : ℕ
  pub playing : Bool
  pub heard : ℕ
  pub ssrc : ℕ
  pub first : ℕ

-- the summary from the state
abbrev pub told_by_state : Session → Told
told_by_state s = record { id = s.id; http = s.http; stream = s.stream; playing = s.playing; heard = s.heard; ssrc = s.ssrc; first = s.first }

-- the summary from the readings
abbrev pub told_by_history : Readings → Made → Told
told_by_history g m = record {
  id = m.id;
  http = m.http;
  stream = g.number m.home;
  playing = plays g m;
  heard = g.heard m.id;
  ssrc = m.draw.ssrc;
  first = m.draw.first;
}

-- a living stream, from the readings
abbrev pub stream_told : Readings → SessionId → Stream
stream_told g home = record { number = g.number home; tuning = g.tuned home; front = g.front home; pids = g.pids home }

-- the number of times that a front end was tuned, and the multiplex that it is tuned to
abbrev pub tune_at : State → ℕ → ℕ
tune_at st front = option_map_or (λ r. r.tune) (row_of st front) 0

abbrev pub mux_at : State → ℕ → Option ℕ
mux_at st front = option_and_then (λ r. r.mux) (row_of st front)

-- the owner of the living stream of this number, from the readings
abbrev pub owner_told : Readings → ℕ → Option SessionId
owner_told g number = option_map (λ m. m.id) (option_and_then (owner g) (home_of_number g number))

-- the state agrees with the readings
pub record IsAsRead (c : Config) (st : State) (g : Readings) : Type 0 where
  pub clock : st.clock ≡ g.clock
  pub made : st.made ≡ length g.made
  -- the living sessions, in order of creation
  pub sessions : map told_by_state st.sessions ≡ map (told_by_history g) (living g)
  -- the stream of each number, with its tuning, its front end and its PIDs, and no other stream
  pub streams : (number : ℕ) → stream_of st number ≡ option_map (stream_told g) (home_of_number g number)
  pub each : (t : Stream) → Has t st.streams → stream_of st t.number ≡ Some t
  -- two living streams have different numbers
  pub numbers : (m n : Made) → Has m (living g) → Has n (living g) → g.number m.home ≡ g.number n.home → m.home ≡ n.home
  pub owners : (number : ℕ) → option_map (λ s. s.id) (owner_of st number) ≡ owner_told g number
  pub fronts : map (λ r. r.number) st.rows ≡ map (λ front. front.number) c.fronts
  pub tunes : (front : ℕ) → tune_at st front ≡ g.tune front
  pub muxes : (front : ℕ) → mux_at st front ≡ g.mux front

-- the readings law: after each legal history the state agrees with the readings of the history
abbrev pub StateIsRead : Type 0
StateIsRead = (c : Setting) (h : List Item) → Legal c h → IsAsRead c.config (after c h) (readings c h)

-- the session has picked what is selected for it; of an HTTP session, what has left is what its pulls took
pub record IsServed (g : Readings) (s : Session) : Type 0 where
  pub picked : s.picked ≡ g.selected s.id
  pub pulled : s.http ≡ true → take (sum s.sizes) s.picked ≡ g.pulled s.id

-- a living session was given what is selected for it; of an HTTP session, the first of it is what was pulled
abbrev pub PickedIsSelected : Type 0
PickedIsSelected = (c : Setting) (h : List Item) (s : Session) → Legal c h → Has s (after c h).sessions → IsServed (readings c h) s

-- the packets selected for a session, by the entries, are those that the server gives it
abbrev pub SelectedIsGiven : Type 0
SelectedIsGiven = (c : Setting) (h : List Item) (s : SessionId) → Legal c h → (readings c h).selected s ≡ given c h s
