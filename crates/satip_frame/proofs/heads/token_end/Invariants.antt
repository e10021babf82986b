use Rattle.std.proofs.Common.{◌-◌, ◌≤◌, length}
use Rattle.httparse.specs.Grammar.{is_token_byte}
use Rattle.httparse.specs.Pieces.{AllPassBetween}
use Rattle.satip_frame.proofs.heads.token_end.Given as goal

-- the bytes so far are of the class
abbrev pub invariant-loop-end : goal.invariant-loop-end
invariant-loop-end l = (0 ≤ l.end) × (l.end ≤ length l.head) × AllPassBetween is_token_byte l.head 0 l.end

abbrev pub decreases-loop-end : goal.decreases-loop-end
decreases-loop-end l = length l.head - l.end
