use Rattle.std.proofs.Common.{◌∙◌, ap, arith}
use Rattle.rand_chacha.specs.ChaCha.{of_seed}
use Rattle.satip_stress.specs.Making.{events_of, words_from}
use Rattle.satip_stress.proofs.RunLemmas.{comes_done, comes_on, comes_opened}
use Rattle.satip_stress.proofs.running.count_events.Goals as goal

pub loop-place-init : goal.loop-place-init
loop-place-init c = record {
  words = c.from_seed-words.ensures ∙ ap of_seed c.make_seed.ensures.seed;
  events = c.in_ok-run.ensures.events;
  moment = omega (arith, c.in_ok-run.ensures.moment);
  cseq = omega (arith, c.in_ok-run.ensures.cseq);
  bounded = c.in_ok-run.ensures.ready.room.bounded;
  kept = c.in_ok-run.ensures.ready.kept;
  comes = comes_opened _ _ c.args.seed c.args.count _ _ _ (omega arith) c.in_ok-run.ensures.moment c.in_ok-run.ensures.cseq
      (c.in_ok-run.ensures.opens (events_of (words_from c.args.seed 0 c.args.count) 1000 5));
}

pub loop-place-preserved : goal.loop-place-preserved
loop-place-preserved c =
    let inv = c.loop-place.invariant in
    let goes = c.answer.ensures.goes in
    record {
      words = c.next_word.ensures.next c.args.seed c.loop-place.place inv.words;
      events = omega (arith, goes.events, inv.events);
      moment = omega (arith, c.answer.ensures.moment, inv.moment);
      cseq = omega (arith, c.answer.ensures.cseq, inv.cseq);
      bounded = goes.bounded;
      kept = goes.kept;
      comes = comes_on _ _ _ c.args.seed c.loop-place.place c.args.count c.next_word.result (omega (arith, c.loop-place-test.true))
          (c.next_word.ensures.word c.args.seed c.loop-place.place inv.words) inv.comes goes;
    }

pub returns : goal.returns
returns c = record {
  counted = comes_done _ _ c.args.seed c.loop-place.place c.args.count _ _ (omega (arith, c.loop-place-test.false)) c.loop-place.invariant.comes;
}
