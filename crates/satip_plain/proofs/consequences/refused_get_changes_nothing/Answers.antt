use Rattle.satip_plain.proofs.LawProofs.{refused_get_same}
use Rattle.satip_plain.proofs.consequences.refused_get_changes_nothing.Goals as goal

pub returns : goal.returns
returns c = record { law = refused_get_same }
