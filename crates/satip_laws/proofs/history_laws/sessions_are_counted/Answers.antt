use Rattle.satip_laws.proofs.Over.{sessions_counted}
use Rattle.satip_laws.proofs.history_laws.sessions_are_counted.Goals as goal

pub returns : goal.returns
returns c = record { law = sessions_counted }
