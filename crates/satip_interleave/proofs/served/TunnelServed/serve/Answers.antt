-- The history has one more entry.
use Rattle.satip_interleave.proofs.HistoryLemmas.{stands_more}
use Rattle.satip_interleave.proofs.served.TunnelServed.serve.Goals as goal

pub returns-clause-stands : goal.returns-clause-stands
returns-clause-stands c h n stands =
    stands_more c.args.self.now c.event.new.self h n c.args.event.now c.event.result c.event.new.out c.event.ensures.answered c.event.ensures.lanes
    c.event.ensures.server stands
