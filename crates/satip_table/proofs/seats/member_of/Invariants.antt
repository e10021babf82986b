use Rattle.std.proofs.Common.{◌≡◌, ◌≤◌, ◌+◌, ◌-◌, drop, slice_get}
use Rattle.satip_table.specs.Placed.{in_order}
use Rattle.satip_table.specs.Seated.{no_seat}
use Rattle.satip_table.specs.Sessions.{members}
use Rattle.satip_table.proofs.seats.member_of.Given as goal

abbrev pub invariant-loop-slot : goal.invariant-loop-slot
invariant-loop-slot l =
    (l.before ≤ l.place + 1) × (l.before ≤ l.slot-index)
    × (slice_get (members l.stream (in_order no_seat l.seats (drop l.slot-index l.order))) (l.place + 1 - l.before) ≡ slice_get
    (members l.stream (in_order no_seat l.seats l.order)) (l.place + 1))
