-- The turn was found taken at each try so far.
use Rattle.std.proofs.Common.{◌≡◌}
use Rattle.satip_turn.specs.Seats.{IsWaiting}
use Rattle.satip_turn.proofs.turns.wait_turn.Given as goal

abbrev pub invariant-loop : goal.invariant-loop
invariant-loop g l =
    (goal.iterator-loop g).can_next l.iterator' × (goal.iterator-loop g).is_finite l.iterator'
    × (l.seat.table_id ≡ l.initial.seat.table_id) × IsWaiting l.initial.seat.me l.seat.me
