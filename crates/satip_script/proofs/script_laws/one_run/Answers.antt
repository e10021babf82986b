use Rattle.satip_script.proofs.LawProofs.{run_is_run, run_is_only}
use Rattle.satip_script.proofs.script_laws.one_run.Goals as goal

pub returns : goal.returns
returns c = record { law = record { is_run = run_is_run; only = run_is_only } }
