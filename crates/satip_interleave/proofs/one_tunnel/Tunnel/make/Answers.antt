use Rattle.satip_interleave.proofs.one_tunnel.Tunnel.make.Goals as goal

pub returns-clause-history : goal.returns-clause-history
returns-clause-history c = record { server = c.in_ok-server.ensures.history; lanes = c.in_ok-lanes.ensures.none; answered = tt }
