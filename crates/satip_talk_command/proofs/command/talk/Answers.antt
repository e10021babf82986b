use Rattle.satip_talk_command.proofs.EndLemmas.{talk_ends, input_fault_of, output_fault_of, too_long_of, limit_of}
use Rattle.satip_talk_command.proofs.command.talk.Goals as goal

pub returns-clause-ends : goal.returns-clause-ends
returns-clause-ends g c = talk_ends _ _ _ _ _ _ _ c.answer-outcome.ensures.ends

pub returns-clause-input_fault : goal.returns-clause-input_fault
returns-clause-input_fault g c = input_fault_of _ _ _ _ _ _ _ c.answer-outcome.ensures.ends

pub returns-clause-output_fault : goal.returns-clause-output_fault
returns-clause-output_fault g c = output_fault_of _ _ _ _ _ _ _ c.answer-outcome.ensures.ends

pub returns-clause-too_long : goal.returns-clause-too_long
returns-clause-too_long g c = too_long_of _ _ _ _ _ _ _ c.answer-outcome.ensures.ends

pub returns-clause-limit : goal.returns-clause-limit
returns-clause-limit g c = limit_of _ _ _ _ _ _ _ c.answer-outcome.ensures.ends
