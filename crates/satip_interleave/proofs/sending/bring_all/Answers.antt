use Rattle.satip_interleave.proofs.SendingLemmas.{brought_more}
use Rattle.satip_interleave.proofs.sending.bring_all.Goals as goal

pub loop-place-preserved : goal.loop-place-preserved
loop-place-preserved c = brought_more c.args.lanes.now c.loop-place.lanes c.bring_one.new.lanes c.args.out.now.datagrams c.loop-place.place
    c.loop-place.invariant c.bring_one.ensures.brought
