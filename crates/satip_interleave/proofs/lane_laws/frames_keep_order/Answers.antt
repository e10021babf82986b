use Rattle.satip_interleave.proofs.LaneLawLemmas as lemmas
use Rattle.satip_interleave.proofs.lane_laws.frames_keep_order.Goals as goal

pub returns : goal.returns
returns c = record { law = lemmas.frames_keep_order }
