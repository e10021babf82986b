-- A desk and the kits of jobs, as contracts see them.
use Rattle.std.specs.Prelude.{ℕ, List, Option, map}
use Rattle.satip_world.specs.Recordings.{StoreView}
use Rattle.satip_world.specs.Dials.{Dial}
use Rattle.satip_world.specs.Halls.{Hall}
use Rattle.satip_world.specs.Outboxes.{Outbox}
use Rattle.satip_desk.specs.declared.kits.PumpKit.{PumpKit}
use Rattle.satip_desk.specs.declared.kits.TickKit.{TickKit}
use Rattle.satip_desk.specs.declared.kits.WorkerKit.{WorkerKit}
use Rattle.satip_desk.specs.declared.kits.JobKits.{JobKits}
use Rattle.satip_desk.specs.Handed.{Handed}

-- a worker's kit: its doors, its outlet, and the key of its draws
pub record WorkerView : Type 0 where
  pub hall : Hall
  pub outbox : Outbox
  pub key : List ℕ

abbrev pub worker_view : {D O P : Type 0} → (D → Hall) → (O → Outbox) → WorkerKit D O P → WorkerView
worker_view hall outbox kit = record { hall = hall kit.doors; outbox = outbox kit.outlet; key = kit.key }

-- a pump's kit: the recordings of its store, if they are exposed; the counts of the store's faults and lent sources, and the most lent at once;
-- and its outlet
pub record PumpView : Type 0 where
  pub recording : ℕ → Option (List ℕ)
  pub faults : ℕ
  pub lent : ℕ
  pub peak : ℕ
  pub outbox : Outbox

abbrev pub pump_view : {M O P : Type 0} → (M → StoreView) → (O → Outbox) → PumpKit M O P → PumpView
pump_view shelf outbox kit = record {
  recording = (shelf kit.store).recording;
  faults = (shelf kit.store).faults;
  lent = (shelf kit.store).lent;
  peak = (shelf kit.store).peak;
  outbox = outbox kit.outlet;
}

-- the ticker's kit: its clock and its outlet
pub record TickView : Type 0 where
  pub dial : Dial
  pub outbox : Outbox

abbrev pub tick_view : {C O P : Type 0} → (C → Dial) → (O → Outbox) → TickKit C O P → TickView
tick_view dial outbox kit = record { dial = dial kit.clock; outbox = outbox kit.outlet }

-- the kits of all jobs: of the workers, of the pumps, and of the ticker
pub record JobsView : Type 0 where
  pub workers : List WorkerView
  pub pumps : List PumpView
  pub ticker : TickView

abbrev pub jobs_view : {D O P M C : Type 0} → (D → Hall) → (O → Outbox) → (M → StoreView) → (C → Dial) → JobKits D O P M C → JobsView
jobs_view hall outbox shelf dial jobs = record {
  workers = map (worker_view hall outbox) jobs.workers.items;
  pumps = map (pump_view shelf outbox) jobs.pumps.items;
  ticker = tick_view dial outbox jobs.tick;
}

-- a desk: the text of the configuration of each name, if it exposes it; the count of its failed calls; the kits that it gave, if it gave them, as they were at
-- that time; the devices that it gave a client; and the jobs to which it gave a journal, in order
pub record DeskView : Type 0 where
  pub text : List ℕ → Option (List ℕ)
  pub faults : ℕ
  pub given : Option JobsView
  pub handed : Handed
  pub journaled : List ℕ
