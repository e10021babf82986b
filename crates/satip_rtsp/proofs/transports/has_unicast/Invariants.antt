use Rattle.std.proofs.Common.{◌≡◌}
use Rattle.std.specs.List.{list_any}
use Rattle.satip_tune.specs.Pieces.{pieces_left}
use Rattle.satip_rtsp.specs.Transports.{is_unicast_text, parameters}
use Rattle.satip_rtsp.proofs.Measures.{bytes_left}
use Rattle.satip_rtsp.proofs.transports.has_unicast.Given as goal

-- no parameter so far is `unicast`
abbrev pub invariant-loop-left : goal.invariant-loop-left
invariant-loop-left l = list_any is_unicast_text (parameters l.transport) ≡ list_any is_unicast_text (pieces_left 59 l.left)

abbrev pub decreases-loop-left : goal.decreases-loop-left
decreases-loop-left l = bytes_left l.left
