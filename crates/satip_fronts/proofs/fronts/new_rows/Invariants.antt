use Rattle.std.proofs.Common.{◌≡◌, map, take}
use Rattle.satip_fronts.specs.FrontEnds.{new_row}
use Rattle.satip_fronts.proofs.fronts.new_rows.Given as goal

abbrev pub invariant-loop-front : goal.invariant-loop-front
invariant-loop-front l = l.rows.items ≡ map new_row (take l.front-index l.fronts)
