use Rattle.std.proofs.Common.{◌≡◌, None, refl, arith, rules, lit<}
use Rattle.satip_plain.specs.declared.answers.Work.TheVariants.{Nothing}
use Rattle.satip_pump.proofs.PauseLemmas.{paced_idle, paced_none, paced_owed, works_pace}
use Rattle.satip_pump.proofs.RunLemmas.{asked_after, asked_first}
use Rattle.satip_pump.proofs.pump.play_recordings.Goals as goal

pub loop-init : goal.loop-init
loop-init g c =
    let begun : c.new.result.tune ≡ None = rw c.new.ensures.begun refl in (
      tt,
      tt,
      c.make_work-answer.ensures.same,
      refl,
      refl,
      lit< tt,
      rw c.new.ensures.begun (omega arith),
      asked_first _ _ _ _ _ _ _ _ _ _ _ _ _ begun c.make_work-answer.ensures.works,
      works_pace _ _ _ _ _ _ _ _ _ _ _ _ c.make_work-answer.ensures.works refl (paced_none _ _),
      rw c.new.ensures.begun (omega arith),
      omega arith,
      c.make_work-answer.ensures.free,
    )

pub loop-preserved : goal.loop-preserved
loop-preserved g c =
    let i = c.loop.invariant in
    let runs = rw c.in-Ok-Nothing.is at i.7 in
    let paced = rw c.in-Ok-Nothing.is at i.8 in
    let nothing : c.in-Ok-Nothing.field-0 ≡ Nothing = search rules in
    let works = rw (g.met.S.Service.same_want _ _ i.2) at c.make_work-answer-in-Ok-Nothing.ensures.works in (
      tt,
      tt,
      g.met.S.Service.same_then _ _ _ i.2 c.make_work-answer-in-Ok-Nothing.ensures.same,
      i.3,
      i.4,
      i.5,
      i.6,
      asked_after _ _ _ _ _ _ _ _ _ _ _ _ c.in-Ok-Nothing.field-0 _ _ nothing runs works,
      works_pace _ _ _ _ _ _ _ _ _ _ _ _ works refl (paced_idle _ _ _ _ _ _ (paced_owed _ _ _ _ _ _ nothing paced) c.pause.ensures.pauses c.pause.ensures.once),
      i.9,
      i.10,
      c.make_work-answer-in-Ok-Nothing.ensures.free,
    )
