use Rattle.std.proofs.Common.{◌≡◌, ◌+◌, ◌-◌, [], length, arith, refl}
use Rattle.satip_pump.proofs.PauseLemmas.{gave_paces, paced_full, works_pace}
use Rattle.satip_pump.proofs.RunLemmas.{finished, given, of_itself, turned}
use Rattle.satip_pump.proofs.WorkLemmas.{none_waits}
use Rattle.satip_pump.proofs.pump.tune.Goals as goal

pub returns-then-before-eq0-clause-answered : goal.returns-then-before-eq0-clause-answered
returns-then-before-eq0-clause-answered g c = λ o runs.
    let empty : c.fill.new.reading.buffer.packets ≡ [] = none_waits c.fill.new.reading.buffer.packets (omega arith) in
    finished _ _ _ _ _ o _ _ _ _ _ _ _ _ _ _
    (turned _ _ _ _ o _ _ (g.M.MuxStore.shelf c.args.store.now) _ _ _ _ _ _ _ runs c.turn_to.ensures.goes c.turn_to.ensures.recordings c.fill.ensures.reads_on)
    (of_itself c.args.tuning.0 c.args.tuning.1)
    empty (c.fill.ensures.empty empty) c.tell_end.ensures.works

pub returns-then-pump-eq-PLACES-clause-answered : goal.returns-then-pump-eq-PLACES-clause-answered
returns-then-pump-eq-PLACES-clause-answered g c = λ o runs.
    given _ _ _ _ _ o _ _ _ _ _ _ _ _ c.fill.new.reading c.give-answer.new.buffer _
    (turned _ _ _ _ o _ _ (g.M.MuxStore.shelf c.args.store.now) _ _ _ _ _ _ _ runs c.turn_to.ensures.goes c.turn_to.ensures.recordings c.fill.ensures.reads_on)
    (of_itself c.args.tuning.0 c.args.tuning.1)
    c.give-answer.ensures.gave

pub returns-else-pump-eq-PLACES-clause-answered : goal.returns-else-pump-eq-PLACES-clause-answered
returns-else-pump-eq-PLACES-clause-answered g c = λ o runs.
    given _ _ _ _ _ o _ _ _ _ _ _ _ _ c.fill.new.reading c.give-answer.new.buffer _
    (turned _ _ _ _ o _ _ (g.M.MuxStore.shelf c.args.store.now) _ _ _ _ _ _ _ runs c.turn_to.ensures.goes c.turn_to.ensures.recordings c.fill.ensures.reads_on)
    (of_itself c.args.tuning.0 c.args.tuning.1)
    c.give-answer.ensures.gave

pub returns-then-before-eq0-clause-paces : goal.returns-then-before-eq0-clause-paces
returns-then-before-eq0-clause-paces g c = λ own first paced. works_pace _ _ _ _ _ _ _ _ own first _ _ c.tell_end.ensures.works refl paced

pub returns-then-pump-eq-PLACES-clause-paces : goal.returns-then-pump-eq-PLACES-clause-paces
returns-then-pump-eq-PLACES-clause-paces g c = λ own first paced.
    let size : length c.fill.new.reading.buffer.packets ≡ (c.count-before.result - c.count.result) + length c.give-answer.new.buffer.packets =
    omega (arith, c.count-before.ensures.count, c.count.ensures.count, c.give-answer.ensures.fewer) in
    paced_full _ _ _ _ _ _ _ c.if-pump-eq-PLACES.true
    (gave_paces _ _ _ _ _ _ _ _ _ _ _ _ own first _ _ _ c.give-answer.ensures.gave (of_itself c.args.tuning.0 c.args.tuning.1) size paced)
    c.pause.ensures.pauses c.pause.ensures.once

pub returns-else-pump-eq-PLACES-clause-paces : goal.returns-else-pump-eq-PLACES-clause-paces
returns-else-pump-eq-PLACES-clause-paces g c = λ own first paced.
    let size : length c.fill.new.reading.buffer.packets ≡ (c.count-before.result - c.count.result) + length c.give-answer.new.buffer.packets =
    omega (arith, c.count-before.ensures.count, c.count.ensures.count, c.give-answer.ensures.fewer) in
    gave_paces _ _ _ _ _ _ _ _ _ _ _ _ own first _ _ _ c.give-answer.ensures.gave (of_itself c.args.tuning.0 c.args.tuning.1) size paced
