use Rattle.satip_interleave.proofs.LaneLawLemmas as lemmas
use Rattle.satip_interleave.proofs.lane_laws.numbers_rise.Goals as goal

pub returns : goal.returns
returns c = record { law = lemmas.numbers_rise }
