use Rattle.satip_tunnel.specs.declared.ends.Heard.TheVariants.{All}
use Rattle.satip_tunnel.specs.Walk.{Free}
use Rattle.satip_tunnel.proofs.RunLemmas.{piece_heard, piece_on, piece_broken, piece_lost, piece_stopped}
use Rattle.satip_tunnel.proofs.hearing.drain_unanswered.Goals as goal

pub returns-then-seen-before-clause-hears : goal.returns-then-seen-before-clause-hears
returns-then-seen-before-clause-hears g c = λ course draws received text parter same more listens. piece_heard _ course _ received text parter All listens

pub returns-in-On-clause-hears : goal.returns-in-On-clause-hears
returns-in-On-clause-hears g c = λ course draws received text parter same more listens.
    piece_on _ course _ _ _ _ draws received text parter _ same listens more (c.in-On.ensures.drains Free tt)

pub returns-in-Broken-clause-hears : goal.returns-in-Broken-clause-hears
returns-in-Broken-clause-hears g c = λ course draws received text parter same more listens.
    piece_broken _ course _ _ _ _ draws received text parter _ same listens (c.in-Broken.ensures.drains Free tt)

pub returns-in-Lost-clause-hears : goal.returns-in-Lost-clause-hears
returns-in-Lost-clause-hears g c = λ course draws received text parter same more listens.
    piece_lost _ course _ _ _ _ draws received text parter _ same listens (c.in-Lost.ensures.drains Free tt)

pub returns-in-Spent-clause-hears : goal.returns-in-Spent-clause-hears
returns-in-Spent-clause-hears g c = λ course draws received text parter same more listens.
    piece_stopped _ course _ _ _ _ draws received text parter _ same listens (c.in-Spent.ensures.drains Free tt)

pub returns-in-On-clause-input : goal.returns-in-On-clause-input
returns-in-On-clause-input g c = (c.in-On.ensures.drains Free tt).talks.input

pub returns-in-Broken-clause-input : goal.returns-in-Broken-clause-input
returns-in-Broken-clause-input g c = (c.in-Broken.ensures.drains Free tt).talks.input

pub returns-in-Lost-clause-input : goal.returns-in-Lost-clause-input
returns-in-Lost-clause-input g c = (c.in-Lost.ensures.drains Free tt).talks.input

pub returns-in-Spent-clause-input : goal.returns-in-Spent-clause-input
returns-in-Spent-clause-input g c = (c.in-Spent.ensures.drains Free tt).drains.talks.input
