use Rattle.std.proofs.Common.{◌≡◌, find, drop}
use Rattle.satip_fronts.specs.Choice.{suits}
use Rattle.satip_fronts.specs.FrontEnds.{outlook}
use Rattle.satip_fronts.proofs.fronts.Fronts.least_of.Given as goal

abbrev pub invariant-loop-front : goal.invariant-loop-front
invariant-loop-front l =
    find (suits l.case (outlook l.self l.stream) l.mux l.tuning) (drop l.front-index l.front-items)
    ≡ find (suits l.case (outlook l.self l.stream) l.mux l.tuning) l.front-items
