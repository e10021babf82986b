use Rattle.satip_plain.specs.declared.answers.Answer.TheVariants.{Replied}
use Rattle.satip_plain.specs.declared.events.Event.TheVariants.{Request}
use Rattle.satip_stress.proofs.RunLemmas.{makes_step}
use Rattle.satip_stress.proofs.counted.Counted.request.Goals as goal

pub returns-clause-made : goal.returns-clause-made
returns-clause-made c =
    makes_step _ _ (Request c.args.peer c.args.draw c.args.request.now) (Replied c.request-replied.result) c.request-replied.new.out
    c.request-replied.ensures.steps c.request-replied.ensures.setting c.add.ensures.counted
