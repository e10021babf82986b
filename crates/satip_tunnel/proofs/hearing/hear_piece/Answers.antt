use Rattle.std.proofs.Common.{◌∙◌, refl}
use Rattle.satip_tunnel.specs.declared.ends.Heard.TheVariants.{Closed, Broken, Lost, Spent}
use Rattle.satip_tunnel.proofs.RunLemmas.{piece_heard}
use Rattle.satip_tunnel.proofs.hearing.hear_piece.Goals as goal

pub returns-in-All-clause-hears : goal.returns-in-All-clause-hears
returns-in-All-clause-hears g c = λ course received text same more listens.
    c.drain_unanswered.ensures.hears course _ received _ _ same more (c.in-All.ensures.hears course received text same listens)

pub returns-in-All-clause-input : goal.returns-in-All-clause-input
returns-in-All-clause-input g c = c.drain_unanswered.ensures.input ∙ c.hear.ensures.input

pub returns-in-All-clause-goes_on : goal.returns-in-All-clause-goes_on
returns-in-All-clause-goes_on g c = λ _. c.in-All.ensures.goes_on refl

pub returns-in-All-clause-space : goal.returns-in-All-clause-space
returns-in-All-clause-space g c = λ _. c.in-All.ensures.space refl

pub returns-in-Closed-clause-hears : goal.returns-in-Closed-clause-hears
returns-in-Closed-clause-hears g c = λ course received text same more listens.
    piece_heard _ course _ received _ _ Closed (c.in-Closed.ensures.hears course received text same listens)

pub returns-in-Broken-clause-hears : goal.returns-in-Broken-clause-hears
returns-in-Broken-clause-hears g c = λ course received text same more listens.
    piece_heard _ course _ received _ _ Broken (c.in-Broken.ensures.hears course received text same listens)

pub returns-in-Lost-clause-hears : goal.returns-in-Lost-clause-hears
returns-in-Lost-clause-hears g c = λ course received text same more listens.
    piece_heard _ course _ received _ _ Lost (c.in-Lost.ensures.hears course received text same listens)

pub returns-in-Spent-clause-hears : goal.returns-in-Spent-clause-hears
returns-in-Spent-clause-hears g c = λ course received text same more listens.
    piece_heard _ course _ received _ _ Spent (c.in-Spent.ensures.hears course received text same listens)
