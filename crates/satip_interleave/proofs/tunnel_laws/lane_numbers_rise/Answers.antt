use Rattle.satip_interleave.proofs.LawLemmas.{numbers_rise_in}
use Rattle.satip_interleave.proofs.tunnel_laws.lane_numbers_rise.Goals as goal

pub returns : goal.returns
returns c = record { law = numbers_rise_in c.numbers_rise.ensures.law }
