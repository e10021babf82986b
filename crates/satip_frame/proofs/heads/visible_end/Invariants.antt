use Rattle.std.proofs.Common.{◌-◌, ◌≤◌, length}
use Rattle.std.specs.Char.{is_ascii_graphic}
use Rattle.httparse.specs.Pieces.{AllPassBetween}
use Rattle.satip_frame.proofs.heads.visible_end.Given as goal

-- the bytes so far are of the class
abbrev pub invariant-loop-end : goal.invariant-loop-end
invariant-loop-end l = (l.start ≤ l.end) × (l.end ≤ length l.head) × AllPassBetween is_ascii_graphic l.head l.start l.end

abbrev pub decreases-loop-end : goal.decreases-loop-end
decreases-loop-end l = length l.head - l.end
