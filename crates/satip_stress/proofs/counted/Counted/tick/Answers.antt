use Rattle.satip_plain.specs.declared.answers.Answer.TheVariants.{Beat}
use Rattle.satip_plain.specs.declared.events.Event.TheVariants.{Tick}
use Rattle.satip_stress.proofs.RunLemmas.{makes_step}
use Rattle.satip_stress.proofs.counted.Counted.tick.Goals as goal

pub returns-clause-made : goal.returns-clause-made
returns-clause-made c =
    makes_step _ _ (Tick c.args.now) (Beat c.tick-beat.result) c.tick-beat.new.out c.tick-beat.ensures.steps c.tick-beat.ensures.setting c.add.ensures.counted
