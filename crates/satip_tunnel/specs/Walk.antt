-- The order of the entries of a connection between its Enter and its Leave.
use Rattle.std.specs.Prelude.{◌≡◌, ℕ, List, [], ◌∷◌}
use Rattle.satip_base.specs.declared.network.Peer.{Peer}
use Rattle.satip_plain.specs.declared.answers.Answer.{Answer}
use Rattle.satip_plain.specs.declared.answers.Answer.TheVariants.{Replied}
use Rattle.satip_plain.specs.declared.events.Event.{Event}
use Rattle.satip_plain.specs.declared.events.Event.TheVariants.{Request as Asks}
use Rattle.satip_interleave.specs.declared.events.TunnelEvent.{TunnelEvent}
use Rattle.satip_interleave.specs.declared.events.TunnelEvent.TheVariants.{Inner, Drain}
use Rattle.satip_interleave.specs.declared.events.TunnelAnswer.{TunnelAnswer}
use Rattle.satip_interleave.specs.declared.events.TunnelAnswer.TheVariants.{Inner as InnerAnswer, Frames, Empty, Broken, Gone}
use Rattle.satip_interleave.specs.Histories.{TunnelItem}

-- the stance of a connection: its next request may be executed; its lane must be drained, after a reply or after frames; or its lane is broken
pub data Stance : Type 0 where
  Free : Stance
  Draining : Stance
  Over : Stance

-- the peer of the requests of a lane's connection
abbrev pub lane_peer : ℕ → Peer
lane_peer lane = record { ip = lane }

-- a lane is drained until it is broken
abbrev pub MayDrain : Stance → Type 0
MayDrain Free = Unit {0}
MayDrain Draining = Unit {0}
MayDrain Over = ⊥

-- the stance after a drain with this answer: after frames the connection drains on
abbrev pub DrainsTo : TunnelAnswer → Stance → Type 0
DrainsTo (Frames count) next = next ≡ Draining
DrainsTo Empty next = next ≡ Free
DrainsTo Gone next = next ≡ Free
DrainsTo Broken next = next ≡ Over
DrainsTo _ next = ⊥

-- a request is answered with a reply
abbrev pub IsReply : Answer → Type 0
IsReply (Replied replied) = Unit {0}
IsReply _ = ⊥

-- the server answered with a reply
abbrev pub IsReplied : TunnelAnswer → Type 0
IsReplied (InnerAnswer answer) = IsReply answer
IsReplied _ = ⊥

-- a request of a free connection has the lane as its peer, and the lane must be drained after it
abbrev pub FollowsAsked : ℕ → Stance → Event → TunnelAnswer → Stance → Type 0
FollowsAsked lane stance (Asks peer draw request) answer next =
    (peer ≡ lane_peer lane) × (stance ≡ Free) × IsReplied answer × (next ≡ Draining)
FollowsAsked lane stance _ answer next = ⊥

-- an entry leads from one stance of the connection to the next
abbrev pub Follows : ℕ → Stance → TunnelEvent → TunnelAnswer → Stance → Type 0
Follows lane stance (Inner event) answer next = FollowsAsked lane stance event answer next
Follows lane stance (Drain number) answer next = (number ≡ lane) × MayDrain stance × DrainsTo answer next
Follows lane stance _ answer next = ⊥

-- a list of entries leads from one stance to another
abbrev pub Walk : ℕ → Stance → List TunnelItem → Stance → Type 0
Walk lane stance [] last = last ≡ stance
Walk lane stance (t ∷ ts) last = (next : Stance) × Follows lane stance t.event t.answer next × Walk lane next ts last
