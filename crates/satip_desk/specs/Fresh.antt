-- Kits with which no job has begun.
use Rattle.std.specs.Prelude.{◌≡◌, ℕ, Bool}
use Rattle.satip_base.specs.Lists.{Each}
use Rattle.satip_world.specs.Dials.{Dial, Reads, fresh_dial}
use Rattle.satip_world.specs.Halls.{fresh_hall}
use Rattle.satip_world.specs.Outboxes.{fresh_outbox}
use Rattle.satip_desk.specs.declared.kits.JobKits.{JobKits}
use Rattle.satip_desk.specs.Views.{WorkerView, PumpView, TickView, JobsView}

-- doors with this limit and without a connection yet, and an outlet that has sent nothing
pub record FreshWorker (accepts : ℕ) (worker : WorkerView) : Type 0 where
  pub told : Bool
  pub hall : worker.hall ≡ fresh_hall accepts told
  pub outbox : worker.outbox ≡ fresh_outbox

-- a store that never failed and never lent a source, and an outlet that has sent nothing
pub record FreshPump (pump : PumpView) : Type 0 where
  pub faults : pump.faults ≡ 0
  pub lent : pump.lent ≡ 0
  pub peak : pump.peak ≡ 0
  pub outbox : pump.outbox ≡ fresh_outbox

-- a clock without a reading, and an outlet that has sent nothing
pub record FreshTicker (ticker : TickView) : Type 0 where
  pub told : Bool
  pub dial : ticker.dial ≡ fresh_dial told
  pub outbox : ticker.outbox ≡ fresh_outbox

-- a clock with one reading, and an outlet that has sent nothing
pub record ReadOnce (start : ℕ) (ticker : TickView) : Type 0 where
  pub told : Bool
  pub reads : Reads (fresh_dial told) ticker.dial start
  pub outbox : ticker.outbox ≡ fresh_outbox

-- all kits are fresh
pub record AreFresh (accepts : ℕ) (kits : JobsView) : Type 0 where
  pub workers_are : Each (FreshWorker accepts) kits.workers
  pub pumps_are : Each FreshPump kits.pumps
  pub ticker_is : FreshTicker kits.ticker

-- the kits are the same, except for one reading of the ticker's clock
pub record Unused {D O P M C : Type 0} (dial : C → Dial) (given left : JobKits D O P M C) : Type 0 where
  pub workers_same : left.workers.items ≡ given.workers.items
  pub pumps_same : left.pumps.items ≡ given.pumps.items
  pub moment : ℕ
  pub read : Reads (dial given.tick.clock) (dial left.tick.clock) moment
  pub outlet : left.tick.outlet ≡ given.tick.outlet
  pub pacer : left.tick.pacer ≡ given.tick.pacer

-- all kits are fresh, except for one reading of the ticker's clock, which is the start
pub record FreshJobs (start accepts : ℕ) (kits : JobsView) : Type 0 where
  pub workers_are : Each (FreshWorker accepts) kits.workers
  pub pumps_are : Each FreshPump kits.pumps
  pub ticker_is : ReadOnce start kits.ticker

-- no job has begun with these kits: they are fresh, except for one reading of the ticker's clock
pub record AreUnused (accepts : ℕ) (kits : JobsView) : Type 0 where
  pub start : ℕ
  pub fresh : FreshJobs start accepts kits
