-- Entries for the worked examples. The answer of an entry has no effect on the lanes after it.
use Rattle.std.specs.Prelude.{ℕ, List, [], ◌∷◌, replicate}
use Rattle.satip_base.specs.Output.{Datagram, empty}
use Rattle.satip_base.specs.History.{entry}
use Rattle.satip_interleave.specs.Lanes.{drain_answer, lane_of, taken_frames}
use Rattle.std.specs.List.{concat}
use Rattle.satip_plain.specs.declared.answers.Answer.TheVariants.{Beat}
use Rattle.satip_plain.specs.declared.answers.Beat.TheVariants.{Going}
use Rattle.satip_plain.specs.declared.events.Event.TheVariants.{Tick}
use Rattle.satip_interleave.specs.declared.events.TunnelEvent.TheVariants.{Inner, Enter, Drain, Leave}
use Rattle.satip_interleave.specs.declared.events.TunnelAnswer.{TunnelAnswer}
use Rattle.satip_interleave.specs.declared.events.TunnelAnswer.TheVariants.{Inner as InnerAnswer, Lane, Empty, Left}
use Rattle.satip_interleave.specs.Tunnels.{drain_told}
use Rattle.satip_interleave.specs.Histories.{TunnelItem, lanes_after}

-- a connection enters
abbrev pub enters : ℕ → TunnelItem
enters number = entry 1 Enter (Lane number) empty

-- the server sends these datagrams at a tick
abbrev pub sends : List Datagram → TunnelItem
sends datagrams = entry 2 (Inner (Tick 1040)) (InnerAnswer (Beat Going)) (record empty { datagrams = datagrams })

-- a connection drains its lane, and leaves
abbrev pub drains : ℕ → TunnelItem
drains number = entry 1 (Drain number) Empty empty

abbrev pub leaves : ℕ → TunnelItem
leaves number = entry 1 (Leave number) Left empty

-- a datagram of `count` bytes to a port of a lane
abbrev pub datagram_to : ℕ → ℕ → ℕ → Datagram
datagram_to lane port count = record { to = record { ip = lane; port = port }; bytes = replicate count 71 }

-- a datagram of 1140 bytes to channel 0 of a lane, and a report to channel 1
abbrev pub media : ℕ → List Datagram
media lane = datagram_to lane 1 1140 ∷ datagram_to lane 2 152 ∷ []

-- the answer of a drain of a lane after this history, and the frames that it gives
abbrev pub drain_after : List TunnelItem → ℕ → TunnelAnswer
drain_after h lane = drain_told (drain_answer (lane_of lane (lanes_after h).held))

abbrev pub drained_after : List TunnelItem → ℕ → List ℕ
drained_after h lane = concat (taken_frames (lane_of lane (lanes_after h).held))
