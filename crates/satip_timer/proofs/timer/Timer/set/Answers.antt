use Rattle.std.proofs.Common.{◌≡◌, Some, true, false, is_some, set, rules, arith}
use Rattle.satip_timer.proofs.NextDue.{set_due, was_none, was_some}
use Rattle.satip_timer.proofs.timer.Timer.set.Goals as goal

pub add-requires-clause-due : goal.add-requires-clause-due
add-requires-clause-due c =
    let now : c.deref.result.now ≡ set c.self.inside.dues.items c.args.key (Some c.args.due) = search rules in
    set_due _ _ _ _ now (omega (arith, c.requires.key, c.self.invariant.placed.whole))

pub add-requires-clause-before : goal.add-requires-clause-before
add-requires-clause-before c =
    let now : c.deref.result.now ≡ set c.self.inside.dues.items c.args.key (Some c.args.due) = search rules in
    let none : is_some c.index.result.now ≡ false = search rules in
    was_none c.self.inside.dues.items c.args.key c.index.result.now c.index.ensures (omega (arith, c.requires.key, c.self.invariant.placed.whole))
    c.self.inside.heap _ _ now c.self.invariant none

pub replace-requires-clause-due : goal.replace-requires-clause-due
replace-requires-clause-due c =
    let now : c.deref-else-is_none.result.now ≡ set c.self.inside.dues.items c.args.key (Some c.args.due) = search rules in
    set_due _ _ _ _ now (omega (arith, c.requires.key, c.self.invariant.placed.whole))

pub replace-requires-clause-before : goal.replace-requires-clause-before
replace-requires-clause-before c =
    let now : c.deref-else-is_none.result.now ≡ set c.self.inside.dues.items c.args.key (Some c.args.due) = search rules in
    let some : is_some c.index.result.now ≡ true = search rules in
    was_some c.self.inside.dues.items c.args.key c.index.result.now c.index.ensures (omega (arith, c.requires.key, c.self.invariant.placed.whole))
    c.self.inside.heap _ _ now c.self.invariant some
