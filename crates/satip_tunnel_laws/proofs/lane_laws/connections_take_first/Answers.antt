use Rattle.satip_tunnel_laws.proofs.Connecting as lemmas
use Rattle.satip_tunnel_laws.proofs.lane_laws.connections_take_first.Goals as goal

pub returns : goal.returns
returns c = record { law = lemmas.connections_take_first c.lane_numbers_rise.ensures.law c.lanes_are_own.ensures.law }
