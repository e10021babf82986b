use Rattle.std.proofs.Common.{◌≡◌, ℕ, List, None, false, length}
use Rattle.satip_worker.specs.Progress.{conn_state}
use Rattle.satip_worker.specs.Drawing.{before_draw}
use Rattle.satip_worker.specs.Hearing.{Listens}
use Rattle.satip_worker.specs.Pauses.{PausesWhenIdle}
use Rattle.satip_worker.proofs.rtsp.serve_rtsp.Given as goal

-- all that came in was answered, and a pause followed each receive that found nothing
abbrev pub invariant-loop : goal.invariant-loop
invariant-loop g l =
    (l.room.framer.ended ≡ None)
    × (length l.buf ≡ 4096)
    × g.S.Service.same l.initial.service l.service
    × ((key : List ℕ) (stream from : ℕ) → l.initial.draws ≡ before_draw key stream from
    → (text : List ℕ) × Listens g.C.Conn.tells g.O.Outlet.tells (record {
      peer = l.peer;
      key = key;
      stream = stream;
      from = from;
      start = conn_state g.S.Service.may_want g.S.Service.known g.O.Outlet.outbox g.C.Conn.line l.initial.service l.initial.outlet l.initial.conn;
    })
    (conn_state g.S.Service.may_want g.S.Service.known g.O.Outlet.outbox g.C.Conn.line l.service l.outlet l.conn)
    l.draws text l.room.framer.bytes)
    × ((g.O.Outlet.outbox l.outlet).held ≡ false)
    × PausesWhenIdle (g.C.Conn.line l.initial.conn) (g.C.Conn.line l.conn) (g.P.Pacer.pauses l.initial.pacer) (g.P.Pacer.pauses l.pacer)
