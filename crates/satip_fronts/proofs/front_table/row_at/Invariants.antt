use Rattle.std.proofs.Common.{◌≡◌, find, drop}
use Rattle.satip_fronts.specs.Rows.{is_row}
use Rattle.satip_fronts.proofs.front_table.row_at.Given as goal

abbrev pub invariant-loop-row : goal.invariant-loop-row
invariant-loop-row l = find (is_row l.front) (drop l.row-index l.rows) ≡ find (is_row l.front) l.rows
