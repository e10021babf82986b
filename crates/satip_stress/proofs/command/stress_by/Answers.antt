use Rattle.satip_stress.proofs.EndLemmas.{output_fault_of, stress_ends}
use Rattle.satip_stress.proofs.command.stress_by.Goals as goal

pub returns-clause-ends : goal.returns-clause-ends
returns-clause-ends g c = λ i. stress_ends _ i _ _ _ _ _ c.stress-outcome.ensures.ends

pub returns-clause-output_fault : goal.returns-clause-output_fault
returns-clause-output_fault g c = output_fault_of _ _ _ _ _ _ c.stress-outcome.ensures.ends
