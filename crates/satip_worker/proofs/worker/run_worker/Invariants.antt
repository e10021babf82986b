use Rattle.std.proofs.Common.{◌≡◌, false}
use Rattle.satip_worker.specs.DoorPauses.{PausesAtDoors}
use Rattle.satip_worker.specs.Progress.{staged}
use Rattle.satip_worker.proofs.WorkerLemmas.{ServesOn}
use Rattle.satip_worker.proofs.worker.run_worker.Given as goal

-- the connections so far were served and handed back, with the pauses that the contract says
abbrev pub invariant-loop : goal.invariant-loop
invariant-loop g l =
    g.S.Service.same l.initial.service l.service
    × (l.kit.key ≡ l.initial.kit.key)
    × ServesOn g.D.Conn.Conn.tells g.O.Outlet.tells l.initial.kit.key l.number
    (staged g.S.Service.may_want g.S.Service.known g.O.Outlet.outbox l.initial.service l.initial.kit.outlet)
    (staged g.S.Service.may_want g.S.Service.known g.O.Outlet.outbox l.service l.kit.outlet)
    (g.D.Doors.hall l.initial.kit.doors) (g.D.Doors.hall l.kit.doors) l.draws
    × ((g.O.Outlet.outbox l.kit.outlet).held ≡ false)
    × PausesAtDoors 0 (g.D.Doors.hall l.initial.kit.doors) (g.D.Doors.hall l.kit.doors) (g.P.Pacer.pauses l.initial.kit.pacer) (g.P.Pacer.pauses l.kit.pacer)
