-- It is still the same service.
use Rattle.satip_tunnel_tests.proofs.callers.threads.tick_often.Given as goal

abbrev pub invariant-loop-now : goal.invariant-loop-now
invariant-loop-now g l = g.S.Service.same l.initial.service l.service
