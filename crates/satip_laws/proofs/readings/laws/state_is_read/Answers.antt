use Rattle.satip_laws.proofs.Law.{state_is_read}
use Rattle.satip_laws.proofs.readings.laws.state_is_read.Goals as goal

pub returns : goal.returns
returns c = record { law = state_is_read }
