use Rattle.satip_script.proofs.LawProofs.{line_is_one, line_is_some}
use Rattle.satip_script.proofs.script_laws.one_line.Goals as goal

pub returns : goal.returns
returns c = record { law = record { one = line_is_one; some = line_is_some } }
