use Rattle.std.proofs.Common.{Some, refl}
use Rattle.satip_plain.specs.declared.events.Event.TheVariants.{Tick, Ended, Ask, Pull, Close, Stop}
use Rattle.satip_plain.specs.declared.answers.Answer.TheVariants.{Beat, Work, Pulled, Closed}
use Rattle.satip_script.specs.Forms.{Other}
use Rattle.satip_replay.proofs.RunLemmas.{form_answered}
use Rattle.satip_replay.proofs.running.answer_parts.Goals as goal

pub returns-in-Tick-clause-steps : goal.returns-in-Tick-clause-steps
returns-in-Tick-clause-steps c =
    rw c.in-Tick.is (form_answered (Some (Other (Tick c.in-Tick.now))) (Tick c.in-Tick.now) c.args.server.now c.tick.new.self (Beat c.tick.result)
    c.tick.new.out refl c.tick.ensures.steps)

pub returns-in-Ended-clause-steps : goal.returns-in-Ended-clause-steps
returns-in-Ended-clause-steps c =
    rw c.in-Ended.is (form_answered (Some (Other (Ended c.in-Ended.front c.in-Ended.tune))) (Ended c.in-Ended.front c.in-Ended.tune) c.args.server.now
    c.ended.new.self (Work c.ended.result) c.ended.new.out refl c.ended.ensures.steps)

pub returns-in-Ask-clause-steps : goal.returns-in-Ask-clause-steps
returns-in-Ask-clause-steps c =
    rw c.in-Ask.is (form_answered (Some (Other (Ask c.in-Ask.front))) (Ask c.in-Ask.front) c.args.server.now c.ask.new.self (Work c.ask.result) c.ask.new.out
    refl c.ask.ensures.steps)

pub returns-in-Pull-clause-steps : goal.returns-in-Pull-clause-steps
returns-in-Pull-clause-steps c =
    rw c.in-Pull.is (form_answered (Some (Other (Pull c.in-Pull.session))) (Pull c.in-Pull.session) c.args.server.now c.pull.new.self (Pulled c.pull.result)
    c.pull.new.out refl c.pull.ensures.steps)

pub returns-in-Close-clause-steps : goal.returns-in-Close-clause-steps
returns-in-Close-clause-steps c =
    rw c.in-Close.is (form_answered (Some (Other (Close c.in-Close.session))) (Close c.in-Close.session) c.args.server.now c.close.new.self
    (Closed c.close.result) c.close.new.out refl c.close.ensures.steps)

pub returns-in-Stop-clause-steps : goal.returns-in-Stop-clause-steps
returns-in-Stop-clause-steps c =
    rw c.in-Stop.is (form_answered (Some (Other Stop)) Stop c.args.server.now c.stop.new.self (Beat c.stop.result) c.stop.new.out refl c.stop.ensures.steps)
