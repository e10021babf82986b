use Rattle.std.proofs.Common.{◌≡◌, None, replicate, subst, sym, rules}
use Rattle.satip_timer.specs.Placed.{Sound}
use Rattle.satip_timer.proofs.timer.Timer.make.Goals as goal

pub invariant_of-result : goal.invariant_of-result
invariant_of-result c =
    let items : c.resize.new.self.items ≡ replicate 64 None = search rules in
    subst (λ ds. Sound ds c.new.result) (sym items) c.new.ensures.sound
