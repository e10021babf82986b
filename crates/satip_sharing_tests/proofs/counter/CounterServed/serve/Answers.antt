-- The answer is the sum after one more number.
use Rattle.std.proofs.Common.{◌∙◌, ap, sym}
use Rattle.satip_base.specs.History.{entry}
use Rattle.satip_sharing_tests.specs.Counted.{more}
use Rattle.satip_sharing_tests.proofs.Counting.{counted_more, sum_after-push}
use Rattle.satip_sharing_tests.proofs.counter.CounterServed.serve.Goals as goal

pub returns-clause-stands : goal.returns-clause-stands
returns-clause-stands c h n s =
    let e = entry n c.args.event.now c.saturating_add-self.result c.args._out.now in
    let is = c.saturating_add-self.ensures ∙ ap (λ a. more a c.args.event.now) s.1 in
    (counted_more 0 h e s.0 is, is ∙ sym (sum_after-push 0 h e))
