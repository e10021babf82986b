use Rattle.std.proofs.Common.{refl}
use Rattle.satip_talk_command.proofs.TalkerLemmas.{answered_next}
use Rattle.satip_talk_command.proofs.talker.Talker.reply.Goals as goal

pub returns-clause-next : goal.returns-clause-next
returns-clause-next g c = λ requests answered.
    answered_next c.args.self.now _ requests c.args.request.now _ _ answered c.request.ensures.setting refl c.request.ensures.steps
