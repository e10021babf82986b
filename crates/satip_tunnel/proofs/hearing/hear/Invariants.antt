use Rattle.std.proofs.Common.{◌≡◌, ℕ, List, ◌++◌, ◌<◌, None, length}
use Rattle.satip_frame.specs.Held.{capacity}
use Rattle.satip_tunnel.specs.Hearing.{Course, Listens, talk_at}
use Rattle.satip_tunnel.specs.Seats.{seated}
use Rattle.satip_tunnel.proofs.hearing.hear.Given as goal

-- what stands before the rest of the piece was answered
abbrev pub invariant-piece : goal.invariant-piece
invariant-piece g l =
    ((course : Course) (received text : List ℕ)
    → course.lane ≡ l.lane
    → Listens g.C.Conn.tells course (talk_at (seated l.initial.caller.server.now l.initial.caller.pass)
    (g.C.Conn.line l.initial.conn) l.initial.draws) received text l.initial.room.parter
    → (heard : List ℕ) × (l.piece ≡ heard ++ l.rest)
    × Listens g.C.Conn.tells course (talk_at (seated l.caller.server.now l.caller.pass)
    (g.C.Conn.line l.conn) l.draws) received (text ++ heard) l.room.parter)
    × ((g.C.Conn.line l.conn).ended ≡ (g.C.Conn.line l.initial.conn).ended)
    × (l.room.parter.ended ≡ None)
    × (length l.room.parter.bytes < capacity)

-- each turn takes some of the piece
abbrev pub decreases-piece : goal.decreases-piece
decreases-piece g l = length l.rest
