use Rattle.satip_laws.proofs.EndLaw.{ends_by_its_causes}
use Rattle.satip_laws.proofs.readings.laws.ends_by_its_causes.Goals as goal

pub returns : goal.returns
returns c = record { law = ends_by_its_causes }
