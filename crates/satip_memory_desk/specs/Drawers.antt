-- The texts and the kits that a desk over memory keeps.
use Rattle.std.specs.Prelude.{ℕ, List, map}
use Rattle.satip_desk.specs.declared.kits.JobKits.{JobKits}
use Rattle.satip_desk.specs.Fresh.{AreFresh}
use Rattle.satip_desk.specs.Views.{PumpView, JobsView, jobs_view, worker_view, tick_view}
use Rattle.satip_desk.specs.declared.kits.PumpKit.{PumpKit}
use Rattle.satip_world.specs.Dials.{Dial}
use Rattle.satip_world.specs.Halls.{Hall}
use Rattle.satip_world.specs.Outboxes.{Outbox}
use Rattle.satip_memory.specs.Shelves.{Shelf, recording_in, store_view}
use Rattle.satip_memory_desk.specs.Cabinets.{ShelfKit, GivenKits}
use Rattle.satip_memory_desk.specs.declared.desk.Drawer.{Drawer}

-- the name of a drawer, and its text
abbrev pub row_of : Drawer → List ℕ × List ℕ
row_of drawer = (drawer.name.items, drawer.text.items)

-- the view of kits over memory
abbrev pub memory_view : {P : Type 0} → JobKits Hall Outbox P Shelf Dial → JobsView
memory_view jobs = jobs_view (λ (h : Hall). h) (λ (o : Outbox). o) store_view (λ (d : Dial). d) jobs

-- nothing was done with these kits, and their doors end after `accepts` connections
abbrev pub AreNewKits : {P : Type 0} → ℕ → JobKits Hall Outbox P Shelf Dial → Type 0
AreNewKits accepts jobs = AreFresh accepts (memory_view jobs)

-- the kept part of a pump's kit that is given
abbrev pub shelf_kit : {P : Type 0} → PumpKit Shelf Outbox P → ShelfKit
shelf_kit kit = record { store = kit.store; outbox = kit.outlet }

-- the kept part of kits that are given
abbrev pub given_kits : {P : Type 0} → JobKits Hall Outbox P Shelf Dial → GivenKits
given_kits jobs = record {
  workers = map (worker_view (λ (h : Hall). h) (λ (o : Outbox). o)) jobs.workers.items;
  pumps = map shelf_kit jobs.pumps.items;
  ticker = tick_view (λ (d : Dial). d) (λ (o : Outbox). o) jobs.tick;
}

-- the view of a kept kit
abbrev pub shelf_view : ShelfKit → PumpView
shelf_view kit = record {
  recording = λ mux. recording_in kit.store.recordings mux;
  faults = kit.store.faults;
  lent = kit.store.lent;
  peak = kit.store.peak;
  outbox = kit.outbox;
}

-- the view of kits that were given
abbrev pub given_view : GivenKits → JobsView
given_view kits = record { workers = kits.workers; pumps = map shelf_view kits.pumps; ticker = kits.ticker }
