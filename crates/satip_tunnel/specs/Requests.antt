-- The requests of a connection that carries frames too, and their draws.
use Rattle.std.specs.Prelude.{◌≡◌, ℕ, zero, suc, ◌+◌, List, [], ◌∷◌, ◌++◌, map, length}
use Rattle.rand_chacha.specs.ChaCha.{ChaCha}
use Rattle.satip_base.specs.declared.network.Peer.{Peer}
use Rattle.satip_base.specs.declared.identity.Draw.{Draw}
use Rattle.satip_rtsp_interleaved.specs.Requests.{asked_by_tunnel}
use Rattle.satip_frame.specs.Said.{Said}
use Rattle.satip_frame.specs.Stream.{Tail}
use Rattle.satip_rtsp_interleaved.specs.Parts.{Parts}
use Rattle.satip_plain.specs.declared.events.Event.{Event}
use Rattle.satip_plain.specs.declared.events.Event.TheVariants.{Request as Asks}
use Rattle.satip_rtsp.specs.declared.requests.Request.{Request}
use Rattle.satip_interleave.specs.Histories.{TunnelItem, inners}
use Rattle.satip_worker.specs.Answers.{events_of}
use Rattle.satip_worker.specs.Drawing.{draw_at, before_draw}
use Rattle.satip_worker.specs.Requests.{asked_by_tail}

-- all requests of a whole text with frames: one for each message, and one more for what is no message
pub record AsksInParts (text : List ℕ) (all : List Request) : Type 0 where
  pub messages : List Said
  pub tail : Tail
  pub read : Parts text messages tail
  pub requests : all ≡ map asked_by_tunnel messages ++ asked_by_tail tail

-- the events of a peer's requests, each with the draw at its place
abbrev pub drawn_events : Peer → List Draw → List Request → List Event
drawn_events peer [] requests = []
drawn_events peer (draw ∷ draws) [] = []
drawn_events peer (draw ∷ draws) (request ∷ requests) = Asks peer draw request ∷ drawn_events peer draws requests

-- the server's events among entries of a tunnel
abbrev pub asked_events : List TunnelItem → List Event
asked_events entries = events_of (inners entries)

-- `count` consecutive draws, from this number on
abbrev pub draws_from : (ℕ → Draw) → ℕ → ℕ → List Draw
draws_from drawn number zero = []
draws_from drawn number (suc count) = drawn number ∷ draws_from drawn (number + 1) count

-- these are the next draws of the generator, and `after` is its state after them
abbrev pub TakesDraws : ChaCha → List Draw → ChaCha → Type 0
TakesDraws before draws after =
    (key : List ℕ) (stream number : ℕ) → before ≡ before_draw key stream number
    → (draws ≡ draws_from (draw_at key stream) number (length draws)) × (after ≡ before_draw key stream (number + length draws))
