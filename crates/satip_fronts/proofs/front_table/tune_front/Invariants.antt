use Rattle.std.proofs.Common.{◌≡◌, ◌++◌, map, take, drop}
use Rattle.satip_fronts.specs.Rows.{tuned_at}
use Rattle.satip_fronts.proofs.front_table.tune_front.Given as goal

abbrev pub invariant-loop-i : goal.invariant-loop-i
invariant-loop-i l = l.rows ≡ map (tuned_at l.front l.mux) (take l.i l.initial.rows) ++ drop l.i l.initial.rows
