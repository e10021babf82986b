use Rattle.satip_world.proofs.DeliveryLemmas.{delivers_none, delivers_more}
use Rattle.satip_world.proofs.outlets.post_all.Goals as goal

pub loop-place-init : goal.loop-place-init
loop-place-init g c = (delivers_none _ _, c.requires.held)

pub loop-place-preserved : goal.loop-place-preserved
loop-place-preserved g c =
    (delivers_more _ _ _ _ _ _ c.loop-place.invariant.0 c.post_one.ensures.delivers, c.post_one.ensures.held)
