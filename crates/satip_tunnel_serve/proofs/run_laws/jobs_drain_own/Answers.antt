use Rattle.satip_tunnel_serve.proofs.RunOwning as lemmas
use Rattle.satip_tunnel_serve.proofs.run_laws.jobs_drain_own.Goals as goal

pub returns : goal.returns
returns g c = record { law = lemmas.jobs_drain_own c.connections_drain_own.ensures.parts c.runs_drain_own.ensures.law g.D.Conn.Conn.tells }
