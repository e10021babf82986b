use Rattle.std.proofs.Common.{◌≡◌}
use Rattle.satip_worker.specs.DoorPauses.{PausesAtDoors}
use Rattle.satip_tunnel.specs.Seats.{seated}
use Rattle.satip_tunnel.proofs.WorkerLemmas.{ServesOn}
use Rattle.satip_tunnel.proofs.worker.run_tunnel_worker.Given as goal

-- the connections so far were served and handed back, with the pauses that the contract says
abbrev pub invariant-loop : goal.invariant-loop
invariant-loop g l =
    (l.kit.key ≡ l.initial.kit.key)
    × (l.kit.outlet ≡ l.initial.kit.outlet)
    × ServesOn g.D.Conn.Conn.tells l.initial.kit.key l.number
    (record { seat = seated l.initial.caller.server.now l.initial.caller.pass; hall = g.D.Doors.hall l.initial.kit.doors })
    (record { seat = seated l.caller.server.now l.caller.pass; hall = g.D.Doors.hall l.kit.doors }) l.draws
    × PausesAtDoors 1 (g.D.Doors.hall l.initial.kit.doors) (g.D.Doors.hall l.kit.doors) (g.P.Pacer.pauses l.initial.kit.pacer) (g.P.Pacer.pauses l.kit.pacer)
