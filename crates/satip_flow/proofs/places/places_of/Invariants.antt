use Rattle.std.proofs.Common.{◌≡◌, ◌-◌, ◌<◌, ◌≤◌}
use Rattle.std.specs.Int.{bit_at}
use Rattle.satip_flow.proofs.RowLemmas.{FoundTo, OnlyFound}
use Rattle.satip_flow.proofs.places.places_of.Given as goal

abbrev pub invariant-loop-slot : goal.invariant-loop-slot
invariant-loop-slot l = record {
  within : l.slot ≤ 64;
  is_set : l.slot < 64 → bit_at l.slots l.slot ≡ 1;
  found : FoundTo l.slot l.slots l.places l.marked;
  only : OnlyFound l.slots l.places l.marked;
}

abbrev pub decreases-loop-slot : goal.decreases-loop-slot
decreases-loop-slot l = 64 - l.slot
