use Rattle.std.proofs.Common.{◌≡◌, length}
use Rattle.satip_fronts.specs.FrontEnds.{IsNumbered}
use Rattle.satip_fixtures.proofs.configurations.front_ends.Given as goal

abbrev pub invariant-loop-below : goal.invariant-loop-below
invariant-loop-below l = (length l.fronts.items ≡ l.below) × IsNumbered 1 l.fronts.items
