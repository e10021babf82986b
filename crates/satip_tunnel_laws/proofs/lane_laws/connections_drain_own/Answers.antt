use Rattle.satip_tunnel_laws.proofs.Connecting as lemmas
use Rattle.satip_tunnel_laws.proofs.lane_laws.connections_drain_own.Goals as goal

pub returns : goal.returns
returns c = record { parts = lemmas.parts_drain_own; enters = lemmas.enters_drain_own }
