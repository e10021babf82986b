use Rattle.satip_script.proofs.LawProofs.{script_is_one, script_is_some}
use Rattle.satip_script.proofs.script_laws.one_script.Goals as goal

pub returns : goal.returns
returns c = record { law = record { one = script_is_one; some = script_is_some } }
