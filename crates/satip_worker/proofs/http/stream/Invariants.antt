use Rattle.std.proofs.Common.{◌≡◌, false, length}
use Rattle.satip_worker.specs.Pauses.{PausesWhenIdle}
use Rattle.satip_worker.specs.Progress.{staged}
use Rattle.satip_worker.proofs.StreamLemmas.{StreamsOn}
use Rattle.satip_worker.proofs.http.stream.Given as goal

-- the session was pulled so far, and a pause followed each receive that found nothing
abbrev pub invariant-loop : goal.invariant-loop
invariant-loop g l =
    (length l.buf ≡ 4096)
    × ((g.C.Conn.line l.conn).ended ≡ false)
    × g.S.Service.same l.initial.service l.service
    × StreamsOn g.C.Conn.tells g.O.Outlet.tells l.session
    (staged g.S.Service.may_want g.S.Service.known g.O.Outlet.outbox l.initial.service l.initial.outlet)
    (staged g.S.Service.may_want g.S.Service.known g.O.Outlet.outbox l.service l.outlet)
    (g.C.Conn.line l.initial.conn) (g.C.Conn.line l.conn)
    × ((g.O.Outlet.outbox l.outlet).held ≡ false)
    × PausesWhenIdle (g.C.Conn.line l.initial.conn) (g.C.Conn.line l.conn) (g.P.Pacer.pauses l.initial.pacer) (g.P.Pacer.pauses l.pacer)
