use Rattle.std.proofs.Common.{◌≡◌, ℕ, List, [], None, length}
use Rattle.satip_http.specs.Gets.{asked_get}
use Rattle.satip_frame.specs.Asking.{AsksSoFar}
use Rattle.satip_worker.specs.Pauses.{PausesWhenIdle}
use Rattle.satip_worker.specs.Progress.{Carries, SameFaults}
use Rattle.satip_worker.proofs.first.read_first.Given as goal

-- all that came in asks nothing, nothing failed, and a pause followed each receive that found nothing
abbrev pub invariant-loop : goal.invariant-loop
invariant-loop g l =
    (l.framer.ended ≡ None)
    × (length l.buf ≡ 4096)
    × ((text : List ℕ) × AsksSoFar asked_get text [] l.framer.bytes
    × Carries g.C.Conn.tells (g.C.Conn.line l.initial.conn) (g.C.Conn.line l.conn) text [])
    × SameFaults (g.C.Conn.line l.initial.conn) (g.C.Conn.line l.conn)
    × PausesWhenIdle (g.C.Conn.line l.initial.conn) (g.C.Conn.line l.conn) (g.P.Pacer.pauses l.initial.pacer) (g.P.Pacer.pauses l.pacer)
