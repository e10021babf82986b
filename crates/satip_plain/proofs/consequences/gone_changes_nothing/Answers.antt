use Rattle.satip_plain.proofs.LawProofs.{gone_same}
use Rattle.satip_plain.proofs.consequences.gone_changes_nothing.Goals as goal

pub returns : goal.returns
returns c = record { law = gone_same }
