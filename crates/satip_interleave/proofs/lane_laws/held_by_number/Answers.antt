use Rattle.satip_interleave.proofs.LaneLawLemmas as lemmas
use Rattle.satip_interleave.proofs.lane_laws.held_by_number.Goals as goal

pub returns : goal.returns
returns c = record { law = lemmas.held_by_number }
