use Rattle.satip_tunnel.proofs.AskLemmas.{exchange_input}
use Rattle.satip_tunnel.proofs.TurnLemmas.{closing_on, closing_broken, closing_lost, closing_stopped}
use Rattle.satip_tunnel.proofs.hearing.close.Goals as goal

pub returns-in-On-clause-hears : goal.returns-in-On-clause-hears
returns-in-On-clause-hears g c = λ course received text messages parter same stands read.
    closing_on _ course _ _ _ _ _ _ received text messages parter _ _ same stands _ c.broken.ensures.broken read c.in-On.ensures.exchanges

pub returns-in-Broken-clause-hears : goal.returns-in-Broken-clause-hears
returns-in-Broken-clause-hears g c = λ course received text messages parter same stands read.
    closing_broken _ course _ _ _ _ _ _ received text messages parter _ _ same stands _ c.broken.ensures.broken read c.in-Broken.ensures.exchanges

pub returns-in-Lost-clause-hears : goal.returns-in-Lost-clause-hears
returns-in-Lost-clause-hears g c = λ course received text messages parter same stands read.
    closing_lost _ course _ _ _ _ _ _ received text messages parter _ _ same stands _ c.broken.ensures.broken read c.in-Lost.ensures.exchanges

pub returns-in-Spent-clause-hears : goal.returns-in-Spent-clause-hears
returns-in-Spent-clause-hears g c = λ course received text messages parter same stands read.
    closing_stopped _ course _ _ _ _ _ _ received text messages parter _ _ same stands _ c.broken.ensures.broken read c.in-Spent.ensures.exchanges

pub returns-in-On-clause-input : goal.returns-in-On-clause-input
returns-in-On-clause-input g c = exchange_input _ _ _ _ _ _ _ _ _ _ c.in-On.ensures.exchanges

pub returns-in-Broken-clause-input : goal.returns-in-Broken-clause-input
returns-in-Broken-clause-input g c = exchange_input _ _ _ _ _ _ _ _ _ _ c.in-Broken.ensures.exchanges

pub returns-in-Lost-clause-input : goal.returns-in-Lost-clause-input
returns-in-Lost-clause-input g c = exchange_input _ _ _ _ _ _ _ _ _ _ c.in-Lost.ensures.exchanges

pub returns-in-Spent-clause-input : goal.returns-in-Spent-clause-input
returns-in-Spent-clause-input g c = exchange_input _ _ _ _ _ _ _ _ _ _ c.in-Spent.ensures.exchanges
