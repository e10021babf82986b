-- A part of a connection: drains of its lane, and one request with the drains after it.
use Rattle.std.specs.Prelude.{◌≡◌, ◌⊎◌, ℕ, ◌≤◌, Bool, List, [], ◌∷◌}
use Rattle.rand_chacha.specs.ChaCha.{ChaCha}
use Rattle.satip_base.specs.declared.identity.Draw.{Draw}
use Rattle.satip_plain.specs.declared.events.Event.{Event}
use Rattle.satip_plain.specs.declared.events.Event.TheVariants.{Request as Asks}
use Rattle.satip_plain.specs.Histories.{Item}
use Rattle.satip_rtsp.specs.declared.requests.Request.{Request}
use Rattle.satip_plain.specs.Suits.{closes}
use Rattle.satip_interleave.specs.Histories.{TunnelItem, inners}
use Rattle.satip_world.specs.Counts.{Rises}
use Rattle.satip_worker.specs.Answers.{ends_with}
use Rattle.satip_worker.specs.Progress.{Carries, SameFaults}
use Rattle.satip_tunnel.specs.declared.ends.Drained.{Drained}
use Rattle.satip_tunnel.specs.declared.ends.Drained.TheVariants.{More, Dry, Broken as drain_broke, Lost as drain_lost, Spent as drain_spent}
use Rattle.satip_tunnel.specs.declared.ends.Way.{Way}
use Rattle.satip_tunnel.specs.declared.ends.Way.TheVariants.{On, Broken, Lost, Spent}
use Rattle.satip_tunnel.specs.Pauses.{dry_at, dry_in}
use Rattle.satip_tunnel.specs.Walk.{Stance, Free, Draining, Over, MayDrain, Walk, lane_peer}
use Rattle.satip_tunnel.specs.Wire.{wire, SentInPart}
use Rattle.satip_tunnel.specs.Requests.{TakesDraws}
use Rattle.satip_tunnel.specs.Seats.{ConnState, Grows, SeesFull}

-- the caller made these entries, and these bytes were sent
pub record Talks (tells : Type 0) (lane : ℕ) (o n : ConnState) (from to : Stance) (entries : List TunnelItem) (sent : List ℕ) : Type 0 where
  pub walk : Walk lane from entries to
  pub grows : Grows o.seat n.seat entries
  pub carries : Carries tells o.line n.line [] sent
  pub input : n.line.ended ≡ o.line.ended
  pub idles : n.line.idles ≡ o.line.idles

-- the lane was drained; at most the last drain found no frame, and no receive and no send failed
pub record Drains (tells : Type 0) (lane : ℕ) (o n : ConnState) (from to : Stance) : Type 0 where
  pub entries : List TunnelItem
  pub none_asked : inners entries ≡ []
  pub dry : dry_in entries ≤ dry_at to
  pub talks : Talks tells lane o n from to entries (wire entries)
  pub calm : SameFaults o.line n.line

-- the lane was drained, and a send failed, but no receive
pub record DrainsInPart (tells : Type 0) (lane : ℕ) (o n : ConnState) (from : Stance) : Type 0 where
  pub entries : List TunnelItem
  pub none_asked : inners entries ≡ []
  pub dry : dry_in entries ≡ 0
  pub sent : List ℕ
  pub in_part : SentInPart entries sent
  pub talks : Talks tells lane o n from Draining entries sent
  pub faults : Rises o.line.send_faults n.line.send_faults
  pub receives : n.line.receive_faults ≡ o.line.receive_faults

-- the lane was drained until the history was full
pub record DrainsToStop (tells : Type 0) (lane : ℕ) (o n : ConnState) (from : Stance) : Type 0 where
  pub to : Stance
  pub going : MayDrain to
  pub drains : Drains tells lane o n from to
  pub dry : dry_in drains.entries ≡ 0
  pub full : SeesFull n.seat

-- the outcome of one drain
abbrev pub DrainsOnce : (tells : Type 0) (lane : ℕ) (o n : ConnState) (from : Stance) → Drained → Type 0
DrainsOnce tells lane o n from More = Drains tells lane o n from Draining
DrainsOnce tells lane o n from Dry = Drains tells lane o n from Free
DrainsOnce tells lane o n from drain_broke = Drains tells lane o n from Over
DrainsOnce tells lane o n from drain_lost = DrainsInPart tells lane o n from
DrainsOnce tells lane o n from drain_spent = DrainsToStop tells lane o n from

-- the outcome of draining the lane until no frame waits
abbrev pub DrainsAll : (tells : Type 0) (lane : ℕ) (o n : ConnState) (from : Stance) → Way → Type 0
DrainsAll tells lane o n from On = Drains tells lane o n from Free
DrainsAll tells lane o n from Broken = Drains tells lane o n from Over
DrainsAll tells lane o n from Lost = DrainsInPart tells lane o n from
DrainsAll tells lane o n from Spent = DrainsToStop tells lane o n from

-- one request was answered, and the lane drained; no receive and no send failed
pub record Answers (tells : Type 0) (lane : ℕ) (o n : ConnState) (event : Event) (over : Bool) (to : Stance) : Type 0 where
  pub entries : List TunnelItem
  pub item : Item
  pub asked : inners entries ≡ item ∷ []
  pub dry : dry_in entries ≤ dry_at to
  pub event_is : item.event ≡ event
  pub answer_is : ends_with item.answer ≡ over
  pub talks : Talks tells lane o n Free to entries (wire entries)
  pub calm : SameFaults o.line n.line

-- one request was answered, and a send failed, but no receive
pub record AnswersInPart (tells : Type 0) (lane : ℕ) (o n : ConnState) (event : Event) : Type 0 where
  pub entries : List TunnelItem
  pub item : Item
  pub asked : inners entries ≡ item ∷ []
  pub dry : dry_in entries ≡ 0
  pub event_is : item.event ≡ event
  pub sent : List ℕ
  pub in_part : SentInPart entries sent
  pub talks : Talks tells lane o n Free Draining entries sent
  pub faults : Rises o.line.send_faults n.line.send_faults
  pub receives : n.line.receive_faults ≡ o.line.receive_faults

-- the history was full before the request
pub record StopsUnasked (tells : Type 0) (lane : ℕ) (o n : ConnState) : Type 0 where
  pub talks : Talks tells lane o n Free Free [] []
  pub full : SeesFull n.seat

-- one request was answered, and the history was full after it
pub record AnswersToStop (tells : Type 0) (lane : ℕ) (o n : ConnState) (event : Event) (over : Bool) : Type 0 where
  pub to : Stance
  pub going : MayDrain to
  pub answers : Answers tells lane o n event over to
  pub full : SeesFull n.seat

-- the outcome of one request
abbrev pub ExchangesTo : (tells : Type 0) (lane : ℕ) (o n : ConnState) (event : Event) (over : Bool) → Way → Type 0
ExchangesTo tells lane o n event over On = Answers tells lane o n event over Free
ExchangesTo tells lane o n event over Broken = Answers tells lane o n event over Over
ExchangesTo tells lane o n event over Lost = AnswersInPart tells lane o n event
ExchangesTo tells lane o n event over Spent = StopsUnasked tells lane o n ⊎ AnswersToStop tells lane o n event over

-- the outcome of one request with its draw
pub record Exchanges (tells : Type 0) (lane : ℕ) (before after : ChaCha) (o n : ConnState) (request : Request) (way : Way) : Type 0 where
  pub draw : Draw
  pub takes : TakesDraws before (draw ∷ []) after
  pub comes : ExchangesTo tells lane o n (Asks (lane_peer lane) draw request) (closes request.refusal) way
