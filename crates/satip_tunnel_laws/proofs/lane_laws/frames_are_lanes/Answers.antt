use Rattle.satip_tunnel_laws.proofs.Taking as lemmas
use Rattle.satip_tunnel_laws.proofs.lane_laws.frames_are_lanes.Goals as goal

pub returns : goal.returns
returns c = record { law = lemmas.frames_are_lanes c.frames_keep_order.ensures.law }
