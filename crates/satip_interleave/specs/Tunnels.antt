-- The events of a tunnel, the lanes after them, and their answers.
use Rattle.std.specs.Prelude.{ℕ, Bool, true, false, List, [], ◌∷◌, Option, None, Some}
use Rattle.satip_base.specs.Output.{Datagram}
use Rattle.satip_interleave.specs.declared.lane.Drained.{Drained}
use Rattle.satip_interleave.specs.declared.lane.Drained.TheVariants.{Frames as DrainedFrames, Empty as DrainedEmpty, Broken as DrainedBroken, Gone as DrainedGone}
use Rattle.satip_interleave.specs.Lanes.{PlainLanes, drained, entered, left, put_to}
use Rattle.satip_interleave.specs.declared.events.TunnelEvent.{TunnelEvent}
use Rattle.satip_interleave.specs.declared.events.TunnelEvent.TheVariants.{Inner, Enter, Drain, Leave}
use Rattle.satip_interleave.specs.declared.events.TunnelAnswer.{TunnelAnswer}
use Rattle.satip_interleave.specs.declared.events.TunnelAnswer.TheVariants.{Lane, Full, Frames, Empty, Broken, Gone, Left}

-- the lanes after each datagram was sent to its lane, in order
abbrev pub put_all : List Datagram → PlainLanes → PlainLanes
put_all [] lanes = lanes
put_all (d ∷ ds) lanes = put_all ds (put_to d.to d.bytes lanes)

-- the lanes after an event; an event of the server sends these datagrams
abbrev pub moved_by : TunnelEvent → List Datagram → PlainLanes → PlainLanes
moved_by (Inner event) sent lanes = put_all sent lanes
moved_by Enter sent lanes = entered lanes
moved_by (Drain number) sent lanes = drained number lanes
moved_by (Leave number) sent lanes = left number lanes

-- the answer to an entering connection, by the number that it is given
abbrev pub lane_told : Option ℕ → TunnelAnswer
lane_told None = Full
lane_told (Some number) = Lane number

-- the answer to a drain
abbrev pub drain_told : Drained → TunnelAnswer
drain_told (DrainedFrames count) = Frames count
drain_told DrainedEmpty = Empty
drain_told DrainedBroken = Broken
drain_told DrainedGone = Gone

-- the answer to a leaving connection, by whether its lane was held
abbrev pub left_told : Bool → TunnelAnswer
left_told true = Left
left_told false = Gone
