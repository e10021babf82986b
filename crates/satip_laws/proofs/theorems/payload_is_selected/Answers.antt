use Rattle.satip_laws.proofs.ReadLaws.{payload_is_selected}
use Rattle.satip_laws.proofs.theorems.payload_is_selected.Goals as goal

pub returns : goal.returns
returns c = record { law = payload_is_selected }
