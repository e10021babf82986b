use Rattle.std.proofs.Common.{◌-◌, length}
use Rattle.satip_interleave.specs.Framed.{IsPast}
use Rattle.satip_interleave.proofs.queue.first_bytes.Given as goal

abbrev pub invariant-loop-count : goal.invariant-loop-count
invariant-loop-count l = IsPast l.ring l.count

abbrev pub decreases-loop-count : goal.decreases-loop-count
decreases-loop-count l = length l.ring - l.count
