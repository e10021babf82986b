use Rattle.std.proofs.Common.{◌≡◌, length, sym, ap, ◌∙◌, subst, arith}
use Rattle.satip_base.specs.Printed.{Printed}
use Rattle.satip_pids.specs.Pids.{Every, IsPidSet}
use Rattle.satip_pids.specs.Bits.{members}
use Rattle.satip_pids.proofs.SetViews.{every_view, every_text, only_text, was_listed, is_set_view}
use Rattle.satip_pids.proofs.pid_set.PidSet.print.Goals as goal

pub returns-then-self-eq-EVERY-clause-printed : goal.returns-then-self-eq-EVERY-clause-printed
returns-then-self-eq-EVERY-clause-printed c =
    let every : c.args.self.now ≡ Every = sym c.self.view_is ∙ every_view c.self.inside.words c.self.inside.count c.if-self-eq-EVERY.true in
    subst (λ bs. Printed c.args.strip.now bs c.write.new.self) (sym (every_text c.args.self.now every)) c.write.ensures.printed

pub returns-then-self-eq-EVERY-clause-bound : goal.returns-then-self-eq-EVERY-clause-bound
returns-then-self-eq-EVERY-clause-bound c =
    let every : c.args.self.now ≡ Every = sym c.self.view_is ∙ every_view c.self.inside.words c.self.inside.count c.if-self-eq-EVERY.true in
    omega (arith, ap length (every_text c.args.self.now every))

pub returns-then-self-eq-EVERY-clause-limits : goal.returns-then-self-eq-EVERY-clause-limits
returns-then-self-eq-EVERY-clause-limits c = subst IsPidSet c.self.view_is (is_set_view c.self.inside.words c.self.inside.count c.self.invariant)

pub returns-clause-printed : goal.returns-clause-printed
returns-clause-printed c =
    let s = c.self.inside in
    let was = was_listed c.args.self.now s.words s.count c.self.view_is c.self.invariant c.if-self-eq-EVERY.false in
    subst (λ bs. Printed c.args.strip.now bs c.print_listed.new.strip) (sym (only_text c.args.self.now (members s.words) was)) c.print_listed.ensures.printed

pub returns-clause-bound : goal.returns-clause-bound
returns-clause-bound c =
    let s = c.self.inside in
    let was = was_listed c.args.self.now s.words s.count c.self.view_is c.self.invariant c.if-self-eq-EVERY.false in
    omega (arith, c.print_listed.ensures.bound, ap length (only_text c.args.self.now (members s.words) was))

pub returns-clause-limits : goal.returns-clause-limits
returns-clause-limits c = subst IsPidSet c.self.view_is (is_set_view c.self.inside.words c.self.inside.count c.self.invariant)
