use Rattle.std.proofs.Common.{◌≡◌, map}
use Rattle.std.specs.List.{slice_split}
use Rattle.satip_tune.specs.Pieces.{is_byte, pieces_left}
use Rattle.satip_rtsp.specs.Transports.{first_of}
use Rattle.satip_rtsp.proofs.Measures.{bytes_left}
use Rattle.satip_rtsp_interleaved.specs.Channels.{channels_by}
use Rattle.satip_rtsp_interleaved.proofs.transports.interleaved.Given as goal

-- no transport so far is acceptable
abbrev pub invariant-loop-left : goal.invariant-loop-left
invariant-loop-left l =
    first_of (map channels_by (slice_split (is_byte 44) l.value)) ≡ first_of (map channels_by (pieces_left 44 l.left))

abbrev pub decreases-loop-left : goal.decreases-loop-left
decreases-loop-left l = bytes_left l.left
