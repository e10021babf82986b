use Rattle.satip_laws.proofs.Recording.{packets_recorded}
use Rattle.satip_laws.proofs.history_laws.packets_are_recorded.Goals as goal

pub returns : goal.returns
returns c = record { law = packets_recorded }
