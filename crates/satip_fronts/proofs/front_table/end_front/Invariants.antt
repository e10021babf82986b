use Rattle.std.proofs.Common.{◌≡◌, ◌++◌, map, take, drop}
use Rattle.satip_fronts.specs.Rows.{ended_at}
use Rattle.satip_fronts.proofs.front_table.end_front.Given as goal

abbrev pub invariant-loop-i : goal.invariant-loop-i
invariant-loop-i l = l.rows ≡ map (ended_at l.front) (take l.i l.initial.rows) ++ drop l.i l.initial.rows
