use Rattle.std.proofs.Common.{◌≡◌}
use Rattle.satip_tunnel.specs.Pauses.{dry_in}
use Rattle.satip_tunnel.specs.Walk.{Stance, MayDrain}
use Rattle.satip_tunnel.specs.Exchanges.{Drains}
use Rattle.satip_tunnel.specs.Seats.{conn_at, seated}
use Rattle.satip_tunnel.proofs.exchanges.drain_all.Given as goal

-- the frames so far were sent
abbrev pub invariant-loop : goal.invariant-loop
invariant-loop g l =
    (from : Stance) → MayDrain from → (to : Stance) × MayDrain to
    × (drains : Drains g.C.Conn.tells l.lane (conn_at (seated l.initial.caller.server.now l.initial.caller.pass) (g.C.Conn.line l.initial.conn))
    (conn_at (seated l.caller.server.now l.caller.pass) (g.C.Conn.line l.conn)) from to)
    × (dry_in drains.entries ≡ 0)
