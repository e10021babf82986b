use Rattle.std.proofs.Common.{◌≡◌, false}
use Rattle.satip_edge_tests.proofs.outlets.send_counts.Given as goal

abbrev pub invariant-loop : goal.invariant-loop
invariant-loop g l = l.outlet.held ≡ false
