use Rattle.satip_interleave.proofs.WritingLemmas.{written_nothing}
use Rattle.satip_interleave.proofs.one_tunnel.Tunnel.leave.Goals as goal

pub returns-clause-writes : goal.returns-clause-writes
returns-clause-writes c = written_nothing _ c.clear.ensures.empty
