use Rattle.satip_plain.proofs.LawProofs.{empty_heard}
use Rattle.satip_plain.proofs.consequences.empty_only_hears.Goals as goal

pub returns : goal.returns
returns c = record { law = empty_heard }
