use Rattle.std.proofs.Common.{sym, ap, ◌∙◌}
use Rattle.std.proofs.lemmas.List.{take_all}
use Rattle.std.specs.List.{list_any}
use Rattle.satip_interleave.specs.Lanes.{has_number}
use Rattle.satip_interleave.proofs.LaneLemmas.{nowhere, stands_at}
use Rattle.satip_interleave.proofs.lanes.place_of.Goals as goal

pub returns-then-number-clause-found : goal.returns-then-number-clause-found
returns-then-number-clause-found c =
    stands_at c.args.number c.args.lanes.now c.loop-at.at c.index-lanes-at.result c.loop-at-test.true c.loop-at.invariant
    c.index-lanes-at.is (sym c.number.ensures.number ∙ c.if-number.true)

pub returns-clause-none : goal.returns-clause-none
returns-clause-none c =
    nowhere c.args.number c.args.lanes.now
    (ap (λ lanes. list_any (has_number c.args.number) lanes) (sym (take_all c.loop-at.at c.args.lanes.now c.loop-at-test.false)) ∙ c.loop-at.invariant)
