-- The room that a line takes.
use Rattle.satip_base.proofs.NumberLemmas.{length-decimal_u64}

-- the room that a printed number takes
pub ruleset line_room = (length-decimal_u64)
