use Rattle.satip_laws.proofs.ReadLaws.{retuning_flushes}
use Rattle.satip_laws.proofs.history_laws.retuning_flushes.Goals as goal

pub returns : goal.returns
returns c = record { law = retuning_flushes }
