use Rattle.std.proofs.Common.{◌≡◌, find, drop}
use Rattle.satip_table.specs.Placed.{in_order}
use Rattle.satip_table.specs.Seated.{no_seat}
use Rattle.satip_table.specs.Sessions.{is_in}
use Rattle.satip_table.proofs.seats.first_of.Given as goal

abbrev pub invariant-loop-slot : goal.invariant-loop-slot
invariant-loop-slot l = find (is_in l.stream) (in_order no_seat l.seats (drop l.slot-index l.order)) ≡ find (is_in l.stream) (in_order no_seat l.seats l.order)
