use Rattle.std.proofs.Common.{◌≡◌, ℕ, List, length}
use Rattle.satip_frame.specs.Said.{Said}
use Rattle.satip_rtsp_interleaved.specs.Frames.{inside, behind}
use Rattle.satip_tunnel.specs.Hearing.{Course, Stands, talk_at}
use Rattle.satip_tunnel.specs.Seats.{seated}
use Rattle.satip_tunnel.proofs.hearing.answer.Given as goal

-- the messages so far were answered
abbrev pub invariant-messages : goal.invariant-messages
invariant-messages g l =
    ((course : Course) (received text : List ℕ) (messages : List Said)
    → course.lane ≡ l.lane
    → Stands g.C.Conn.tells course (talk_at (seated l.initial.caller.server.now l.initial.caller.pass)
    (g.C.Conn.line l.initial.conn) l.initial.draws) received text messages l.initial.room.parter
    → (answered : List Said)
    × Stands g.C.Conn.tells course (talk_at (seated l.caller.server.now l.caller.pass)
    (g.C.Conn.line l.conn) l.draws) received text answered l.room.parter)
    × ((g.C.Conn.line l.conn).ended ≡ (g.C.Conn.line l.initial.conn).ended)

-- each message takes some of the bytes
abbrev pub decreases-messages : goal.decreases-messages
decreases-messages g l = length (behind (inside l.room.parter.to_come) l.room.parter.bytes)
