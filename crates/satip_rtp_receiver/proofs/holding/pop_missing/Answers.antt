use Rattle.std.proofs.Common.{sym, ◌∙◌, arith}
use Rattle.satip_rtp_receiver.proofs.MissingLemmas.{missing-stops, missing-whole}
use Rattle.satip_rtp_receiver.proofs.holding.pop_missing.Goals as goal

pub returns-then-not-is_first_missing-clause-missing :
    goal.returns-then-not-is_first_missing-clause-missing
returns-then-not-is_first_missing-clause-missing c =
    let so_far = c.loop-count.invariant in
    missing-stops c.args.most c.loop-count.count c.args.ring.now.items c.loop-count.ring.items so_far.popped so_far.within
    (sym c.is_first_missing.ensures.test ∙ c.if-not-is_first_missing.true)

pub returns-clause-missing : goal.returns-clause-missing
returns-clause-missing c =
    let so_far = c.loop-count.invariant in
    missing-whole c.args.most c.loop-count.count c.args.ring.now.items c.loop-count.ring.items so_far.popped
    (omega (arith, so_far.within, c.loop-count-test.false))
