use Rattle.satip_tunnel_serve.proofs.Wiring as lemmas
use Rattle.satip_tunnel_serve.proofs.wire_laws.wires_have_lanes.Goals as goal

pub returns : goal.returns
returns c = record { law = lemmas.wires_have_lanes c.connections_take_first.ensures.law }
