-- The caller still has its tunnel.
use Rattle.std.proofs.Common.{subst}
use Rattle.satip_plain.specs.declared.setting.Setting.{Setting}
use Rattle.satip_turn.specs.Shown.{Cell, IsOf}
use Rattle.satip_tunnel_tests.proofs.callers.threads.tick_as_caller.Goals as goal

pub returns : goal.returns
returns g c =
    let caller = c.tick_often.new.service in
    let P : Cell Setting → Type 0 = λ k. IsOf caller.pass k in
    record { of = subst P c.tick_often.ensures.server caller.of }
