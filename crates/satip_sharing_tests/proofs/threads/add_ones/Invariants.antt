-- The pass stays one of the cell.
use Rattle.satip_turn.specs.Shown.{IsOf}
use Rattle.satip_sharing_tests.proofs.threads.add_ones.Given as goal

abbrev pub invariant-loop : goal.invariant-loop
invariant-loop g l = IsOf l.pass l.cell
