-- What retunes a stream, by the state before: the stream that an event is about gets a tuning that it didn't have.
use Rattle.std.specs.Prelude.{ℕ, ◌≡◌, ◌==◌, ◌&&◌, Bool, true, false, List, [], ◌∷◌, ◌++◌, Option, Some, None, is_none, is_some, option_and_then, if◌then◌else◌}
use Rattle.std.specs.Option.{option_map_or}
use Rattle.satip_rtsp.specs.declared.requests.Method.{Method}
use Rattle.satip_rtsp.specs.declared.requests.Method.TheVariants.{Play}
use Rattle.satip_plain.specs.declared.events.Event.{Event}
use Rattle.satip_plain.specs.declared.events.Event.TheVariants.{Request as Asked, Get as Got}
use Rattle.satip_plain.specs.declared.setting.Setting.{Setting}
use Rattle.satip_plain.specs.Types.{SessionId, Config, Tuning, Query, Request}
use Rattle.satip_plain.specs.State.{Session, State, stream_of, held}
use Rattle.satip_plain.specs.Streams.{to_set}
use Rattle.satip_rtsp.specs.Methods.{changes}
use Rattle.satip_plain.specs.Refusals.{session_named, decide, decide_get}
use Rattle.satip_plain.specs.Steps.{setup_number, least_free}
use Rattle.satip_plain.specs.Histories.{Item, after}
use Rattle.satip_laws.specs.Makings.{living}

-- a stream, and the query that may change it
pub record Asking : Type 0 where
  pub number : ℕ
  pub query : Query

-- the stream that a SETUP or a PLAY is about
abbrev pub number_asked : Method → State → Request → ℕ
number_asked Play st r = option_map_or (λ s. s.stream) (session_named st r.session) 0
number_asked _ st r = setup_number r st

-- the stream that an accepted event may change: that of an accepted SETUP or PLAY, or the one that a GET founds
abbrev pub asked_in : Config → State → Event → Option Asking
asked_in c st (Asked peer draw r) =
    if changes r.method && is_none (decide c st r) then Some (record { number = number_asked r.method st r; query = r.query }) else None
asked_in c st (Got peer draw r) = if is_none (decide_get c st r) then Some (record { number = least_free st.streams; query = r.query }) else None
asked_in c st _ = None

abbrev pub tuning_of : State → ℕ → Option Tuning
tuning_of st number = option_and_then (λ t. t.tuning) (stream_of st number)

-- the asking is about the stream of this number, and gives it a tuning that it didn't have
abbrev pub sets_tuning : State → ℕ → Asking → Bool
sets_tuning st number a = a.number == number && is_some (to_set (tuning_of st number) a.query.change)

-- the event gives the stream of this number a tuning that it didn't have
abbrev pub retunes : Config → State → Event → ℕ → Bool
retunes c st e number = option_map_or (sets_tuning st number) (asked_in c st e) false

-- no living RTSP session holds a packet after an entry that retunes its stream
abbrev pub RetunedHoldNothing : Type 0
RetunedHoldNothing = (c : Setting) (h : List Item) (e : Item) (s : SessionId) (y : Session)
    → living (after c (h ++ e ∷ [])) s ≡ Some y → y.http ≡ false → retunes c.config (after c h) e.event y.stream ≡ true → held y ≡ []
