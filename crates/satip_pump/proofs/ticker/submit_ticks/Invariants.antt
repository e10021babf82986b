-- The ticks so far, after each of which the service goes on.
use Rattle.std.proofs.Common.{◌≡◌, false}
use Rattle.satip_pump.proofs.PauseLemmas.{TicksPaced}
use Rattle.satip_pump.proofs.TickLemmas.{Ticks}
use Rattle.satip_pump.proofs.ticker.submit_ticks.Given as goal

abbrev pub invariant-loop : goal.invariant-loop
invariant-loop g l =
    (goal.iterator-loop g).can_next l.iterator' × (goal.iterator-loop g).is_finite l.iterator'
    × g.S.Service.same l.initial.service l.service
    × Ticks (g.S.Service.known l.initial.service) (g.S.Service.known l.service) (g.C.Clock.dial l.initial.clock) (g.C.Clock.dial l.clock)
    g.O.Outlet.tells (g.O.Outlet.outbox l.initial.outlet) (g.O.Outlet.outbox l.outlet)
    × TicksPaced (g.S.Service.known l.initial.service).own (g.S.Service.known l.service).own (g.P.Pacer.pauses l.initial.pacer)
    (g.P.Pacer.pauses l.pacer)
    × ((g.O.Outlet.outbox l.outlet).held ≡ false)
