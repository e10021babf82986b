use Rattle.std.proofs.Common.{◌≡◌, ◌<◌, ℕ, List, None, length}
use Rattle.satip_frame.specs.Held.{capacity}
use Rattle.satip_world.specs.Pausing.{RisesBy}
use Rattle.satip_tunnel.specs.Hearing.{Listens, talk_at}
use Rattle.satip_tunnel.specs.Seats.{seated}
use Rattle.satip_tunnel.proofs.connection.talk.Given as goal

-- all that came in was answered, and a pause followed each receive that found nothing
abbrev pub invariant-loop : goal.invariant-loop
invariant-loop g l =
    ((pieces : ℕ) × (idles : ℕ) × RisesBy idles (g.P.Pacer.pauses l.initial.pacer) (g.P.Pacer.pauses l.pacer) × (text : List ℕ) × Listens g.C.Conn.tells (record {
      lane = l.lane;
      draws = l.initial.draws;
      seat = seated l.initial.caller.server.now l.initial.caller.pass;
      line = g.C.Conn.line l.initial.conn;
      pieces = pieces;
      idles = idles;
      paused = idles;
    })
    (talk_at (seated l.caller.server.now l.caller.pass) (g.C.Conn.line l.conn) l.draws) text text l.room.parter)
    × (length l.buf ≡ 4096)
    × (l.room.parter.ended ≡ None)
    × (length l.room.parter.bytes < capacity)
