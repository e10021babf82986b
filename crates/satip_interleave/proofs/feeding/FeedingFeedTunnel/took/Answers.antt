-- The lot has taken what the burst has.
use Rattle.satip_interleave.proofs.Takings.{fed_more}
use Rattle.satip_interleave.proofs.feeding.FeedingFeedTunnel.took.Goals as goal

pub returns-clause-taken : goal.returns-clause-taken
returns-clause-taken g c first ts e is has =
    fed_more _ (g.L.Lot.has_taken first.lot.now c.args.self.now.lot.now) (g.L.Lot.has_taken first.lot.now c.took.new.self)
    (g.L.Lot.given c.args.self.now.lot.now)
    c.args.answer.now c.server_answer.result c.args.out.now c.server_answer.ensures.told
    (λ us event some had. c.took.ensures.taken first.lot.now us event some had) ts e is has
