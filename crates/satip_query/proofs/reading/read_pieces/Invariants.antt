use Rattle.std.proofs.Common.{◌≡◌}
use Rattle.std.specs.List.{slice_split}
use Rattle.satip_tune.specs.Pieces.{is_byte, pieces_left}
use Rattle.satip_query.specs.Reading.{with_pieces}
use Rattle.satip_query.proofs.Measures.{bytes_left}
use Rattle.satip_query.proofs.reading.read_pieces.Given as goal

abbrev pub invariant-loop-left : goal.invariant-loop-left
invariant-loop-left l =
    with_pieces l.initial.into (slice_split (is_byte 38) l.text) ≡ with_pieces l.into (pieces_left 38 l.left)

abbrev pub decreases-loop-left : goal.decreases-loop-left
decreases-loop-left l = bytes_left l.left
