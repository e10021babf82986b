-- Entries for the worked examples.
use Rattle.std.specs.Prelude.{ℕ, false, List}
use Rattle.satip_base.specs.Output.{Output, empty}
use Rattle.satip_base.specs.History.{entry}
use Rattle.satip_plain.specs.declared.answers.Answer.TheVariants.{Replied}
use Rattle.satip_plain.specs.declared.events.Event.TheVariants.{Request as Asks}
use Rattle.satip_rtsp.specs.Asked.{blank}
use Rattle.satip_interleave.specs.declared.events.TunnelEvent.TheVariants.{Inner, Enter, Drain, Leave}
use Rattle.satip_interleave.specs.declared.events.TunnelAnswer.{TunnelAnswer}
use Rattle.satip_interleave.specs.declared.events.TunnelAnswer.TheVariants.{Inner as InnerAnswer, Left}
use Rattle.satip_interleave.specs.Histories.{TunnelItem}
use Rattle.satip_tunnel.specs.Walk.{lane_peer}

-- an output with this reply and no datagram
abbrev pub reply_of : List ℕ → Output
reply_of reply = record empty { reply = reply }

-- a connection enters, with this answer
abbrev pub enters : TunnelAnswer → TunnelItem
enters answer = entry 1 Enter answer empty

-- a request of a lane's peer, with this reply
abbrev pub asks : ℕ → List ℕ → TunnelItem
asks lane reply =
    entry 1 (Inner (Asks (lane_peer lane) (record { word = 10; ssrc = 20; first = 30 }) blank))
    (InnerAnswer (Replied (record { status = 200; closing = false }))) (reply_of reply)

-- a drain of a lane, with this answer and these frames
abbrev pub drains : ℕ → TunnelAnswer → List ℕ → TunnelItem
drains lane answer frames = entry 1 (Drain lane) answer (reply_of frames)

-- a connection leaves its lane
abbrev pub leaves : ℕ → TunnelItem
leaves lane = entry 1 (Leave lane) Left empty
