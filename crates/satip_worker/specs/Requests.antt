-- The requests of an RTSP connection.
use Rattle.std.specs.Prelude.{ℕ, ◌+◌, List, [], ◌∷◌}
use Rattle.satip_base.specs.declared.network.Peer.{Peer}
use Rattle.satip_base.specs.declared.identity.Draw.{Draw}
use Rattle.satip_frame.specs.Stream.{Tail}
use Rattle.satip_rtsp.specs.declared.requests.Request.{Request}
use Rattle.satip_rtsp.specs.Asked.{asked, broken_request}
use Rattle.satip_frame.specs.Asking.{asked_by_tail as tail_asks, AsksAll as TextAsks}
use Rattle.satip_plain.specs.declared.events.Event.{Event}
use Rattle.satip_plain.specs.declared.events.Event.TheVariants.{Request as Asks}

-- the requests of the bytes that are no message
abbrev pub asked_by_tail : Tail → List Request
asked_by_tail = tail_asks broken_request

-- all requests of a whole text: one for each message, and one more for what is no message
abbrev pub AsksAll : List ℕ → List Request → Type 0
AsksAll = TextAsks asked broken_request

-- the events of a peer's requests, which take consecutive draws from this number on
abbrev pub request_events : Peer → (ℕ → Draw) → ℕ → List Request → List Event
request_events peer drawn number [] = []
request_events peer drawn number (request ∷ requests) = Asks peer (drawn number) request ∷ request_events peer drawn (number + 1) requests
