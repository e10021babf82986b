use Rattle.satip_real_desk.specs.Unused.{IsUnusedWorker}
use Rattle.satip_real_desk.proofs.KitLemmas.{one_more}
use Rattle.satip_real_desk.proofs.kits.worker_kits.Goals as goal

pub loop-place-preserved : goal.loop-place-preserved
loop-place-preserved g c =
    one_more (IsUnusedWorker c.args.accepts) _ _ _ _ c.in_ok-push.ensures.items c.loop-place.invariant c.in_ok-worker_kit.ensures.unused
