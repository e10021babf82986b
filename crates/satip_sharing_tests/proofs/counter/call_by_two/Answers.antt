-- The second pass is the row that the first one keeps.
use Rattle.std.proofs.Common.{◌∙◌, ◌+◌, ap, length}
use Rattle.satip_sharing_tests.proofs.Counting.{keeps_one}
use Rattle.satip_sharing_tests.proofs.counter.call_by_two.Goals as goal

pub returns-clause-kept : goal.returns-clause-kept
returns-clause-kept g c =
    let made = c.split-second.ensures.made in
    let new = c.split-second.ensures.new in
    keeps_one _ c.add-one.new.pass c.add-seven.new.pass _ _ (c.add-one.ensures.keeps.kept ∙ c.add-five.ensures.keeps.kept ∙ ap (λ p. p.kept) made)
    (c.add-one.ensures.keeps.made ∙ c.add-five.ensures.keeps.made ∙ ap (λ p. p.made) made) (c.add-seven.ensures.keeps.number ∙ ap (λ p. p.number) new)
    (c.add-seven.ensures.own ∙ ap (λ p. length p.own + 1) new) (c.add-seven.ensures.keeps.kept ∙ ap (λ p. p.kept) new)
    (c.add-seven.ensures.keeps.made ∙ ap (λ p. p.made) new) c.join.ensures.joined
