use Rattle.satip_flow.proofs.SessionLemmas as lemmas
use Rattle.satip_flow.proofs.other_subscribers.each_call_keeps_rest.Goals as goal

pub returns : goal.returns
returns c = record { keeps_rest = lemmas.each_call_keeps_rest }
