use Rattle.satip_laws.proofs.PayloadLaws.{living_are_made}
use Rattle.satip_laws.proofs.history_laws.living_are_made.Goals as goal

pub returns : goal.returns
returns c = record { law = living_are_made }
