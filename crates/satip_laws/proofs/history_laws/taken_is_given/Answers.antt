use Rattle.satip_laws.proofs.PayloadLaws.{taken_is_given}
use Rattle.satip_laws.proofs.history_laws.taken_is_given.Goals as goal

pub returns : goal.returns
returns c = record { law = taken_is_given }
