-- The contract's view of the kits at the posts of jobs.
use Rattle.std.specs.Prelude.{map}
use Rattle.satip_world.specs.Recordings.{StoreView}
use Rattle.satip_world.specs.Dials.{Dial}
use Rattle.satip_world.specs.Halls.{Hall}
use Rattle.satip_world.specs.Outboxes.{Outbox}
use Rattle.satip_desk.specs.declared.kits.PumpKit.{PumpKit}
use Rattle.satip_desk.specs.declared.kits.TickKit.{TickKit}
use Rattle.satip_desk.specs.declared.kits.WorkerKit.{WorkerKit}
use Rattle.satip_desk.specs.Views.{JobsView, worker_view, pump_view, tick_view}
use Rattle.satip_jobs.specs.declared.posts.Posts.{Posts}

-- the view of the kits at these posts
abbrev pub posts_view : {D O P M C G : Type 0} → (D → Hall) → (O → Outbox) → (M → StoreView) → (C → Dial)
    → Posts (WorkerKit D O P) (PumpKit M O P) (TickKit C O P) G → JobsView
posts_view hall outbox shelf dial posts = record {
  workers = map (worker_view hall outbox) posts.workers.items;
  pumps = map (pump_view shelf outbox) posts.pumps.items;
  ticker = tick_view dial outbox posts.ticker;
}
