use Rattle.satip_plain.proofs.LawProofs.{stale_same}
use Rattle.satip_plain.proofs.consequences.stale_changes_nothing.Goals as goal

pub returns : goal.returns
returns c = record { law = stale_same }
