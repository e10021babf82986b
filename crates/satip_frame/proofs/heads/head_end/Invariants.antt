use Rattle.std.proofs.Common.{◌-◌}
use Rattle.satip_frame.specs.Head.{HasNoEmptyLine}
use Rattle.satip_frame.proofs.heads.head_end.Given as goal

-- no empty line ends in the bytes so far
abbrev pub invariant-loop-at : goal.invariant-loop-at
invariant-loop-at l = HasNoEmptyLine l.at l.text

abbrev pub decreases-loop-at : goal.decreases-loop-at
decreases-loop-at l = l.limit - l.at
