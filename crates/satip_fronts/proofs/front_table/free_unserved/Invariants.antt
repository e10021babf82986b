use Rattle.std.proofs.Common.{◌≡◌, ◌++◌, map, take, drop}
use Rattle.satip_fronts.specs.Rows.{freed}
use Rattle.satip_fronts.proofs.front_table.free_unserved.Given as goal

abbrev pub invariant-loop-i : goal.invariant-loop-i
invariant-loop-i l = l.rows ≡ map (freed l.places) (take l.i l.initial.rows) ++ drop l.i l.initial.rows
