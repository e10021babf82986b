use Rattle.std.proofs.Common.{◌+◌, ◌%◌, ◌≤◌, arith, subst}
use Rattle.satip_stress.specs.declared.clients.Client.{Client}
use Rattle.satip_plain.specs.declared.events.Event.TheVariants.{Request as Asked}
use Rattle.satip_stress.specs.Making.{draw_of, options}
use Rattle.satip_stress.specs.Running.{Goes}
use Rattle.satip_stress.proofs.RunLemmas.{goes_as, event_ticks, event_first, event_second, event_adds, event_removes, event_packet, moment_ticks, moment_rests, cseq_ticks, cseq_asks, cseq_rests}
use Rattle.satip_stress.proofs.running.Run.answer.Goals as goal

pub returns-in-0-clause-goes : goal.returns-in-0-clause-goes
returns-in-0-clause-goes c =
    let is = c.in-0.is in
    goes_as _ _ _ _ _ _ _ _ (event_ticks _ _ _ is) (moment_ticks _ _ is) (cseq_ticks _ _ is) c.tick.ensures.goes

pub returns-in-1-clause-goes : goal.returns-in-1-clause-goes
returns-in-1-clause-goes c =
    let is = c.in-1.is in
    let P : Client → Type 0 = λ x. Goes c.args.self.now (Asked x.peer (draw_of 0) (options c.args.self.now.cseq x)) c.args.self.now.moment
    (c.args.self.now.cseq + 1) c.options.new.self in
    goes_as _ _ _ _ _ _ _ _ (event_first _ _ _ is) (moment_rests _ _ (omega (arith, is))) (cseq_asks _ _ (omega (arith, is)) (omega (arith, is)))
    (subst P c.first_client.ensures.first c.options.ensures.goes)

pub returns-in-2-clause-goes : goal.returns-in-2-clause-goes
returns-in-2-clause-goes c =
    let is = c.in-2.is in
    let P : Client → Type 0 = λ x. Goes c.args.self.now (Asked x.peer (draw_of 0) (options c.args.self.now.cseq x)) c.args.self.now.moment
    (c.args.self.now.cseq + 1) c.options-in-2.new.self in
    goes_as _ _ _ _ _ _ _ _ (event_second _ _ _ is) (moment_rests _ _ (omega (arith, is))) (cseq_asks _ _ (omega (arith, is)) (omega (arith, is)))
    (subst P c.second_client.ensures.second c.options-in-2.ensures.goes)

pub returns-in-3-clause-goes : goal.returns-in-3-clause-goes
returns-in-3-clause-goes c =
    let is = c.in-3.is in
    goes_as _ _ _ _ _ _ _ _ (event_adds _ _ _ is) (moment_rests _ _ (omega (arith, is))) (cseq_asks _ _ (omega (arith, is)) (omega (arith, is)))
    c.add.ensures.goes

pub returns-in-4-clause-goes : goal.returns-in-4-clause-goes
returns-in-4-clause-goes c =
    let is = c.in-4.is in
    goes_as _ _ _ _ _ _ _ _ (event_removes _ _ _ is) (moment_rests _ _ (omega (arith, is))) (cseq_asks _ _ (omega (arith, is)) (omega (arith, is)))
    c.remove.ensures.goes

pub returns-in_default-clause-goes : goal.returns-in_default-clause-goes
returns-in_default-clause-goes c =
    let past : 5 ≤ c.args.word % 64 = omega arith in
    goes_as _ _ _ _ _ _ _ _ (event_packet _ _ _ past) (moment_rests _ _ (omega (arith, past))) (cseq_rests _ _ past) c.packet.ensures.goes
