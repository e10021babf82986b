use Rattle.satip_laws.proofs.ReadRecording.{packets_of_recordings}
use Rattle.satip_laws.proofs.theorems.packets_are_of_recordings.Goals as goal

pub returns : goal.returns
returns c = record { law = packets_of_recordings }
