use Rattle.satip_core_tests.proofs.Runs.{runs_are_legal}
use Rattle.satip_core_tests.proofs.readings.runs_are_legal.Goals as goal

pub returns : goal.returns
returns c = record { law = runs_are_legal }
