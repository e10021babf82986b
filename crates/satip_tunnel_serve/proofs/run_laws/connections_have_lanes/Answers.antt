use Rattle.satip_tunnel_serve.proofs.RunOwning as lemmas
use Rattle.satip_tunnel_serve.proofs.run_laws.connections_have_lanes.Goals as goal

pub returns : goal.returns
returns g c = record {
  law = lemmas.connections_have_lanes c.connections_drain_own.ensures.parts c.runs_drain_own.ensures.law g.D.Conn.Conn.tells c.jobs_drain_own.ensures.law
      c.wires_have_lanes.ensures.law c.wires_split_one_way.ensures.law;
}
