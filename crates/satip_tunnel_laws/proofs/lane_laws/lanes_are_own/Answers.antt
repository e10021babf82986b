use Rattle.satip_tunnel_laws.proofs.Owning as lemmas
use Rattle.satip_tunnel_laws.proofs.lane_laws.lanes_are_own.Goals as goal

pub returns : goal.returns
returns c = record { law = lemmas.lanes_are_own c.lane_numbers_rise.ensures.law c.frames_are_lanes.ensures.law }
