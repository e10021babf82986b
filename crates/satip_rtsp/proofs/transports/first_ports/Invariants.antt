use Rattle.std.proofs.Common.{◌≡◌}
use Rattle.satip_tune.specs.Pieces.{pieces_left}
use Rattle.satip_rtsp.specs.Transports.{ports_first, parameters}
use Rattle.satip_rtsp.proofs.Measures.{bytes_left}
use Rattle.satip_rtsp.proofs.transports.first_ports.Given as goal

-- no parameter so far gives ports
abbrev pub invariant-loop-left : goal.invariant-loop-left
invariant-loop-left l = ports_first (parameters l.transport) ≡ ports_first (pieces_left 59 l.left)

abbrev pub decreases-loop-left : goal.decreases-loop-left
decreases-loop-left l = bytes_left l.left
