use Rattle.std.proofs.Common.{refl}
use Rattle.satip_replay.proofs.BatchLemmas.{input_fault_of, opened_ends, output_fault_of, unopened_ends}
use Rattle.satip_replay.proofs.command.run_batch.Goals as goal

pub returns-in-Ok-clause-ends : goal.returns-in-Ok-clause-ends
returns-in-Ok-clause-ends g c =
    opened_ends _ _ _ _ _ _ _ _ c.run-outcome.result c.run-outcome.ensures.runs c.in-Ok.ensures.no_fault c.in-Ok.ensures.started
    c.in-Ok.ensures.untaken c.run-outcome.ensures.ends c.run-outcome.ensures.configuration_taken c.run-outcome.ensures.settled c.tell.ensures.says

pub returns-in-Ok-clause-input_fault : goal.returns-in-Ok-clause-input_fault
returns-in-Ok-clause-input_fault g c = λ is.
    input_fault_of _ _ _ _ _ c.run-outcome.result c.in-Ok.ensures.started c.run-outcome.ensures.runs is

pub returns-in-Ok-clause-output_fault : goal.returns-in-Ok-clause-output_fault
returns-in-Ok-clause-output_fault g c = λ is. output_fault_of _ _ _ c.run-outcome.result c.run-outcome.ensures.runs is

pub returns-in-Err-clause-ends : goal.returns-in-Err-clause-ends
returns-in-Err-clause-ends g c = unopened_ends _ _ _ _ _ _ c.in-Err.ensures.failed refl refl c.tell-in-Err.ensures.says
