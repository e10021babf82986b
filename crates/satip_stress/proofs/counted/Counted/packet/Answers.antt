use Rattle.satip_plain.specs.declared.answers.Answer.TheVariants.{Work}
use Rattle.satip_plain.specs.declared.events.Event.TheVariants.{Packet}
use Rattle.satip_stress.proofs.RunLemmas.{makes_step}
use Rattle.satip_stress.proofs.counted.Counted.packet.Goals as goal

pub returns-clause-made : goal.returns-clause-made
returns-clause-made c =
    makes_step _ _ (Packet 1 1 c.args.packet.now) (Work c.packet-work.result) c.packet-work.new.out c.packet-work.ensures.steps c.packet-work.ensures.setting
    c.add.ensures.counted
