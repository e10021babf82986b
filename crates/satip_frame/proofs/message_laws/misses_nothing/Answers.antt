use Rattle.satip_frame.proofs.CallLemmas as calls
use Rattle.satip_frame.proofs.message_laws.misses_nothing.Goals as goal

pub returns : goal.returns
returns c = record { complete = calls.misses_nothing }
