use Rattle.satip_laws.proofs.PayloadLaws.{payload_is_given}
use Rattle.satip_laws.proofs.history_laws.payload_is_given.Goals as goal

pub returns : goal.returns
returns c = record { law = payload_is_given }
