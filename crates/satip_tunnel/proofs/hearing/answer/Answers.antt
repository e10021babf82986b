use Rattle.std.proofs.Common.{refl, ◌∙◌}
use Rattle.satip_tunnel.proofs.AskLemmas.{exchange_input}
use Rattle.satip_tunnel.proofs.HearingLemmas.{stands_at}
use Rattle.satip_tunnel.proofs.TurnLemmas.{message_on, message_broken, message_lost, message_stopped, message_takes}
use Rattle.satip_tunnel.proofs.hearing.answer.Goals as goal

pub messages-init : goal.messages-init
messages-init g c = (λ course received text messages same stands. (messages, stands), refl)

pub messages-smaller : goal.messages-smaller
messages-smaller g c = message_takes c.messages.room.parter c.next.new.self c.in-Message.ensures.told

pub messages-preserved : goal.messages-preserved
messages-preserved g c = (
  λ course received text messages same stands.
      let before = c.messages.invariant.0 course received text messages same stands in
      message_on _ course _ _ _ _ _ _ received text before.0 _ _ _ same before.1 c.next.new.self
      (c.in-Message.ensures.told text before.0 before.1.leads) c.found_request-request.ensures.asked c.found_request-request.ensures.whole
      c.in-On.ensures.exchanges,
  exchange_input _ _ _ _ _ _ _ _ _ _ c.in-On.ensures.exchanges ∙ c.messages.invariant.1,
)

pub returns-in-Broken-clause-hears : goal.returns-in-Broken-clause-hears
returns-in-Broken-clause-hears g c = λ course received text messages same stands.
    let before = c.messages.invariant.0 course received text messages same stands in
    message_broken _ course _ _ _ _ _ _ received text before.0 _ _ _ same before.1 c.next.new.self
    (c.in-Message.ensures.told text before.0 before.1.leads) c.found_request-request.ensures.asked c.in-Broken.ensures.exchanges

pub returns-in-Lost-clause-hears : goal.returns-in-Lost-clause-hears
returns-in-Lost-clause-hears g c = λ course received text messages same stands.
    let before = c.messages.invariant.0 course received text messages same stands in
    message_lost _ course _ _ _ _ _ _ received text before.0 _ _ _ same before.1 c.next.new.self
    (c.in-Message.ensures.told text before.0 before.1.leads) c.found_request-request.ensures.asked c.in-Lost.ensures.exchanges

pub returns-in-Spent-clause-hears : goal.returns-in-Spent-clause-hears
returns-in-Spent-clause-hears g c = λ course received text messages same stands.
    let before = c.messages.invariant.0 course received text messages same stands in
    message_stopped _ course _ _ _ _ _ _ received text before.0 _ _ _ same before.1 c.next.new.self
    (c.in-Message.ensures.told text before.0 before.1.leads) c.found_request-request.ensures.asked c.in-Spent.ensures.exchanges

pub returns-in-Broken-clause-input : goal.returns-in-Broken-clause-input
returns-in-Broken-clause-input g c = exchange_input _ _ _ _ _ _ _ _ _ _ c.in-Broken.ensures.exchanges ∙ c.messages.invariant.1

pub returns-in-Lost-clause-input : goal.returns-in-Lost-clause-input
returns-in-Lost-clause-input g c = exchange_input _ _ _ _ _ _ _ _ _ _ c.in-Lost.ensures.exchanges ∙ c.messages.invariant.1

pub returns-in-Spent-clause-input : goal.returns-in-Spent-clause-input
returns-in-Spent-clause-input g c = exchange_input _ _ _ _ _ _ _ _ _ _ c.in-Spent.ensures.exchanges ∙ c.messages.invariant.1

pub returns-in-More-clause-hears : goal.returns-in-More-clause-hears
returns-in-More-clause-hears g c = λ course received text messages same stands.
    let before = c.messages.invariant.0 course received text messages same stands in
    let told = c.in-More.ensures.told text before.0 before.1.leads in
    record {
      messages = before.0;
      read = told.0;
      stands = stands_at _ course _ _ _ received text before.0 _ _ before.1 told.1;
    }

pub returns-in-Bad-clause-hears : goal.returns-in-Bad-clause-hears
returns-in-Bad-clause-hears g c = λ course received text messages same stands.
    let before = c.messages.invariant.0 course received text messages same stands in
    let told = c.in-Bad.ensures.told text before.0 before.1.leads in
    c.close.ensures.hears course received text before.0 _ same (stands_at _ course _ _ _ received text before.0 _ _ before.1 told.1) told.0

pub returns-in-TooLong-clause-hears : goal.returns-in-TooLong-clause-hears
returns-in-TooLong-clause-hears g c = λ course received text messages same stands.
    let before = c.messages.invariant.0 course received text messages same stands in
    let told = c.in-TooLong.ensures.told text before.0 before.1.leads in
    c.close-in-TooLong.ensures.hears course received text before.0 _ same (stands_at _ course _ _ _ received text before.0 _ _ before.1 told.1) told.0
