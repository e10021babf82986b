use Rattle.satip_plain.proofs.LawProofs.{prefix_legal}
use Rattle.satip_plain.proofs.consequences.prefix_is_legal.Goals as goal

pub returns : goal.returns
returns c = record { law = prefix_legal }
