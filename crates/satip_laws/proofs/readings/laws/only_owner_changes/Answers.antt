use Rattle.satip_laws.proofs.OwnerLaw.{only_owner_changes}
use Rattle.satip_laws.proofs.readings.laws.only_owner_changes.Goals as goal

pub returns : goal.returns
returns c = record { law = only_owner_changes }
