use Rattle.std.proofs.Common.{◌≡◌, find, drop}
use Rattle.satip_fronts.specs.Openings.{is_open}
use Rattle.satip_fronts.proofs.fronts.Fronts.has_open.Given as goal

abbrev pub invariant-loop-front : goal.invariant-loop-front
invariant-loop-front l =
    find (is_open l.self.rows l.mux l.others l.tuning) (drop l.front-index l.front-items)
    ≡ find (is_open l.self.rows l.mux l.others l.tuning) l.front-items
