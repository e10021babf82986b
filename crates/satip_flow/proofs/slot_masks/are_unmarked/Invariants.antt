use Rattle.std.proofs.Common.{◌≡◌, ℕ, ◌<◌, get_or}
use Rattle.satip_flow.proofs.slot_masks.are_unmarked.Given as goal

-- the first words mark none
abbrev pub invariant-loop-row : goal.invariant-loop-row
invariant-loop-row l = (at : ℕ) → at < l.row-index → get_or l.rows at 0 ≡ 0
