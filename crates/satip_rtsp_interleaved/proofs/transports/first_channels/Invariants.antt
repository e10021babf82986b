use Rattle.std.proofs.Common.{◌≡◌}
use Rattle.satip_tune.specs.Pieces.{pieces_left}
use Rattle.satip_rtsp.specs.Transports.{parameters}
use Rattle.satip_rtsp.proofs.Measures.{bytes_left}
use Rattle.satip_rtsp_interleaved.specs.Channels.{channels_first}
use Rattle.satip_rtsp_interleaved.proofs.transports.first_channels.Given as goal

-- no parameter so far gives channels
abbrev pub invariant-loop-left : goal.invariant-loop-left
invariant-loop-left l = channels_first (parameters l.transport) ≡ channels_first (pieces_left 59 l.left)

abbrev pub decreases-loop-left : goal.decreases-loop-left
decreases-loop-left l = bytes_left l.left
