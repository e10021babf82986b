-- The pass stays one of the cell.
use Rattle.satip_turn.specs.Shown.{IsOf}
use Rattle.satip_sharing_tests.proofs.threads.try_beside.Given as goal

abbrev pub invariant-loop : goal.invariant-loop
invariant-loop g l = IsOf l.pass l.cell
