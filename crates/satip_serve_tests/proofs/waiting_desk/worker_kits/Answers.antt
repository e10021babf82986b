use Rattle.std.proofs.Common.{false}
use Rattle.satip_desk.specs.Fresh.{FreshWorker}
use Rattle.satip_desk.specs.Views.{worker_view}
use Rattle.satip_world.specs.Halls.{Hall}
use Rattle.satip_world.specs.Outboxes.{Outbox}
use Rattle.satip_serve_tests.proofs.KitLemmas.{one_more}
use Rattle.satip_serve_tests.proofs.waiting_desk.worker_kits.Goals as goal

pub loop-count-preserved : goal.loop-count-preserved
loop-count-preserved c =
    one_more (worker_view (λ (h : Hall). h) (λ (o : Outbox). o)) (FreshWorker c.args.accepts) _ _ _ _ c.in-Ok.ensures.items c.loop-count.invariant
    (record { told = false; hall = c.in_ok-kit.ensures.hall; outbox = c.in_ok-kit.ensures.outbox })
