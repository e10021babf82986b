use Rattle.satip_tunnel_serve.proofs.Parting as lemmas
use Rattle.satip_tunnel_serve.proofs.wire_laws.wires_split_one_way.Goals as goal

pub returns : goal.returns
returns c = record { law = lemmas.wires_split_one_way c.parts_law.ensures.one_way c.wires_have_lanes.ensures.law c.runs_reply.ensures.law }
