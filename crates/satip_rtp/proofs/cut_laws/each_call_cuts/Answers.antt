use Rattle.satip_rtp.proofs.PickedLemmas as lemmas
use Rattle.satip_rtp.proofs.cut_laws.each_call_cuts.Goals as goal

pub returns : goal.returns
returns c = record { keeps_and_cuts = lemmas.each_call_cuts }
