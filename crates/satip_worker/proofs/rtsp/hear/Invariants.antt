use Rattle.std.proofs.Common.{◌≡◌, ℕ, List, ◌++◌, None, false, length}
use Rattle.satip_frame.specs.Stream.{skip_newlines}
use Rattle.satip_worker.specs.Progress.{conn_state}
use Rattle.satip_worker.specs.Hearing.{Course, Stands}
use Rattle.satip_worker.proofs.rtsp.hear.Given as goal

-- what the text asked so far was answered
abbrev pub invariant-requests : goal.invariant-requests
invariant-requests g l =
    (l.room.framer.ended ≡ None)
    × g.S.Service.same l.initial.service l.service
    × ((g.C.Conn.line l.conn).ended ≡ (g.C.Conn.line l.initial.conn).ended)
    × ((course : Course) (text : List ℕ)
    → course.peer ≡ l.peer
    → Stands g.C.Conn.tells g.O.Outlet.tells course
    (conn_state g.S.Service.may_want g.S.Service.known g.O.Outlet.outbox g.C.Conn.line l.initial.service l.initial.outlet l.initial.conn)
    l.initial.draws text (l.initial.room.framer.bytes ++ l.piece)
    → Stands g.C.Conn.tells g.O.Outlet.tells course
    (conn_state g.S.Service.may_want g.S.Service.known g.O.Outlet.outbox g.C.Conn.line l.service l.outlet l.conn)
    l.draws text (l.room.framer.bytes ++ l.rest))
    × ((g.O.Outlet.outbox l.outlet).held ≡ false)
    × ((g.C.Conn.line l.conn).idles ≡ (g.C.Conn.line l.initial.conn).idles)

-- each message takes some of the bytes
abbrev pub decreases-requests : goal.decreases-requests
decreases-requests g l = length (skip_newlines (l.room.framer.bytes ++ l.rest))
