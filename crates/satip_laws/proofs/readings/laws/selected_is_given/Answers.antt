use Rattle.satip_laws.proofs.Law.{selected_is_given}
use Rattle.satip_laws.proofs.readings.laws.selected_is_given.Goals as goal

pub returns : goal.returns
returns c = record { law = selected_is_given }
