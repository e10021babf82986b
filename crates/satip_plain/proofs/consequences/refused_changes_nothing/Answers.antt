use Rattle.satip_plain.proofs.LawProofs.{refused_same}
use Rattle.satip_plain.proofs.consequences.refused_changes_nothing.Goals as goal

pub returns : goal.returns
returns c = record { law = refused_same }
