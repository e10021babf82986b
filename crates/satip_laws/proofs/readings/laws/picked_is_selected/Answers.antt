use Rattle.satip_laws.proofs.Law.{picked_is_selected}
use Rattle.satip_laws.proofs.readings.laws.picked_is_selected.Goals as goal

pub returns : goal.returns
returns c = record { law = picked_is_selected }
