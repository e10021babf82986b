-- There is memory for those that are missing.
use Rattle.std.proofs.Common.{◌-◌, ◌≤◌, vec_len, vec_capacity}
use Rattle.satip_serve.proofs.space.make_gears.Given as goal

abbrev pub invariant-loop-gears : goal.invariant-loop-gears
invariant-loop-gears l = (vec_len l.gears ≤ l.count) × (l.count ≤ vec_capacity l.gears)

abbrev pub decreases-loop-gears : goal.decreases-loop-gears
decreases-loop-gears l = l.count - vec_len l.gears
