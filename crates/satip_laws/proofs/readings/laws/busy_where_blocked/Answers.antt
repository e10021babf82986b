use Rattle.satip_laws.proofs.BusyLaw.{busy_where_blocked}
use Rattle.satip_laws.proofs.readings.laws.busy_where_blocked.Goals as goal

pub returns : goal.returns
returns c = record { law = busy_where_blocked }
