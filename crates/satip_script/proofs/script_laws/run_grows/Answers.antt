use Rattle.satip_script.proofs.LawProofs.{run_grows, printed_grows}
use Rattle.satip_script.proofs.script_laws.run_grows.Goals as goal

pub returns : goal.returns
returns c = record { law = record { entries = run_grows; lines = printed_grows } }
