use Rattle.satip_frame.proofs.CallLemmas as calls
use Rattle.satip_frame.proofs.message_laws.hands_out_first.Goals as goal

pub returns : goal.returns
returns c = record { first = calls.hands_out_first }
