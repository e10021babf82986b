use Rattle.std.proofs.Common.{◌-◌}
use Rattle.satip_table.proofs.SeatPlaces.{Searched}
use Rattle.satip_table.proofs.seats.slot_of.Given as goal

abbrev pub invariant-loop-low : goal.invariant-loop-low
invariant-loop-low l = Searched l.seats l.order l.id l.low l.high

abbrev pub decreases-loop-low : goal.decreases-loop-low
decreases-loop-low l = l.high - l.low
