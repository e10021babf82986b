use Rattle.std.proofs.Common.{◌-◌, length, drop}
use Rattle.satip_rtsp_interleaved.specs.Fronts.{IsPassed, IsFront}
use Rattle.satip_rtsp_interleaved.proofs.passing.pass_over.Given as goal

-- the bytes so far are passed over, and this is what stands behind them
abbrev pub invariant-loop-front : goal.invariant-loop-front
invariant-loop-front l = IsPassed l.held l.fn.to_come l.at l.left × IsFront (drop l.at l.held) l.left l.front

abbrev pub decreases-loop-front : goal.decreases-loop-front
decreases-loop-front l = length l.held - l.at
