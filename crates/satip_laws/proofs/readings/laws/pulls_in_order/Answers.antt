use Rattle.satip_laws.proofs.PullLaw.{pulls_in_order}
use Rattle.satip_laws.proofs.readings.laws.pulls_in_order.Goals as goal

pub returns : goal.returns
returns c = record { law = pulls_in_order }
