use Rattle.satip_laws.proofs.PayloadLaws.{living_picked}
use Rattle.satip_laws.proofs.history_laws.living_picked.Goals as goal

pub returns : goal.returns
returns c = record { law = living_picked }
