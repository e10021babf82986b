use Rattle.std.proofs.Common.{◌-◌, ◌≤◌, length}
use Rattle.httparse.specs.Pieces.{AllPassBetween}
use Rattle.satip_client.specs.Heads.{is_byte_of_phrase}
use Rattle.satip_client.proofs.heads.phrase_end.Given as goal

-- the bytes so far are of the phrase
abbrev pub invariant-loop-end : goal.invariant-loop-end
invariant-loop-end l = (l.start ≤ l.end) × (l.end ≤ length l.text) × AllPassBetween is_byte_of_phrase l.text l.start l.end

abbrev pub decreases-loop-end : goal.decreases-loop-end
decreases-loop-end l = length l.text - l.end
