use Rattle.satip_rtp.proofs.CutLemmas as lemmas
use Rattle.satip_rtp.proofs.cut_laws.cut_loses_nothing.Goals as goal

pub returns : goal.returns
returns c = record { nothing_lost = lemmas.cut_loses_nothing }
