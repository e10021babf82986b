use Rattle.std.proofs.Common.{◌≡◌, true, take}
use Rattle.satip_world.specs.Deliveries.{Delivers}
use Rattle.satip_world.proofs.outlets.post_all.Given as goal

-- the datagrams so far were sent, and the lock is held
abbrev pub invariant-loop-place : goal.invariant-loop-place
invariant-loop-place g l =
    Delivers g.O.Outlet.tells (g.O.Outlet.outbox l.initial.outlet) (g.O.Outlet.outbox l.outlet) (take l.place l.out.datagrams)
    × ((g.O.Outlet.outbox l.outlet).held ≡ true)
