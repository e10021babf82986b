use Rattle.std.proofs.Common.{◌+◌, ◌-◌, ◌*◌, ◌<◌, length}
use Rattle.satip_client.specs.Waits.{IsUpToPiece, StaysOpen, TookIn, WasIdleFor}
use Rattle.satip_client.proofs.asking.await_reply.Given as goal

-- what was received is held, up to one piece, nothing came in this many times, and the text stays open before so many bytes
abbrev pub invariant-turns : goal.invariant-turns
invariant-turns g l =
    (took : TookIn g.W.Conn.tells (g.W.Conn.line l.initial.wire) (g.W.Conn.line l.wire) l.initial.heard l.heard)
    × IsUpToPiece l.initial.heard took.got
    × WasIdleFor l.idles (g.W.Conn.line l.initial.wire) (g.W.Conn.line l.wire)
    × (l.idles < 10000)
    × StaysOpen l.heard l.needed

-- bytes come in, or nothing does
abbrev pub decreases-turns : goal.decreases-turns
decreases-turns g l = (12288 - length l.heard) * 10000 + (10000 - l.idles)
