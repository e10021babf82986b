use Rattle.satip_rtp.proofs.PickedLemmas as lemmas
use Rattle.satip_rtp.proofs.cut_laws.all_calls_cut.Goals as goal

pub returns : goal.returns
returns c = record { cut = lemmas.all_calls_cut }
