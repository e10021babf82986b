use Rattle.std.proofs.Common.{◌≡◌, length, map}
use Rattle.satip_base.specs.Lists.{Each}
use Rattle.satip_desk.specs.Fresh.{FreshWorker}
use Rattle.satip_desk.specs.Views.{worker_view}
use Rattle.satip_world.specs.Halls.{Hall}
use Rattle.satip_world.specs.Outboxes.{Outbox}
use Rattle.satip_serve_tests.proofs.waiting_desk.worker_kits.Given as goal

-- this number of kits was made, and all of them are fresh
abbrev pub invariant-loop-count : goal.invariant-loop-count
invariant-loop-count l =
    (length l.kits.items ≡ l.count)
    × Each (FreshWorker l.accepts) (map (worker_view (λ (h : Hall). h) (λ (o : Outbox). o)) l.kits.items)
