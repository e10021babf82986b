use Rattle.satip_tunnel_serve.proofs.Wiring as lemmas
use Rattle.satip_tunnel_serve.proofs.wire_laws.runs_drain_own.Goals as goal

pub returns : goal.returns
returns c = record { law = lemmas.runs_drain_own c.connections_drain_own.ensures.enters }
