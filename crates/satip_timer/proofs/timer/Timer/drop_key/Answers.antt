use Rattle.std.proofs.Common.{◌≡◌, None, true, is_some, set, rules, arith}
use Rattle.satip_timer.proofs.NextDue.{was_some}
use Rattle.satip_timer.proofs.timer.Timer.drop_key.Goals as goal

pub remove-requires-clause-before : goal.remove-requires-clause-before
remove-requires-clause-before c =
    let now : c.deref.result.now ≡ set c.self.inside.dues.items c.args.key None = search rules in
    let some : is_some c.index.result.now ≡ true = search rules in
    was_some c.self.inside.dues.items c.args.key c.index.result.now c.index.ensures (omega (arith, c.requires.key, c.self.invariant.placed.whole))
    c.self.inside.heap _ _ now c.self.invariant some
