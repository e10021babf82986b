use Rattle.std.proofs.Common.{◌≡◌, take, false}
use Rattle.std.specs.List.{list_any}
use Rattle.satip_interleave.specs.Lanes.{has_number}
use Rattle.satip_interleave.proofs.lanes.place_of.Given as goal

abbrev pub invariant-loop-at : goal.invariant-loop-at
invariant-loop-at l = list_any (has_number l.number) (take l.at l.lanes) ≡ false
