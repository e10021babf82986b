use Rattle.satip_laws.proofs.Flushing.{tick_flushes}
use Rattle.satip_laws.proofs.history_laws.tick_flushes.Goals as goal

pub returns : goal.returns
returns c = record { law = tick_flushes }
