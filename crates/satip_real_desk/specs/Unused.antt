-- Kits with which nothing was done.
use Rattle.std.specs.Prelude.{◌≡◌, ℕ, false}
use Rattle.satip_desk.specs.declared.kits.PumpKit.{PumpKit}
use Rattle.satip_desk.specs.declared.kits.TickKit.{TickKit}
use Rattle.satip_playout.specs.StoreCounts.{StoreCounts, fresh_counts}
use Rattle.satip_desk.specs.declared.kits.WorkerKit.{WorkerKit}
use Rattle.satip_world.specs.Dials.{Dial, fresh_dial}
use Rattle.satip_world.specs.Halls.{Hall, fresh_hall}
use Rattle.satip_world.specs.Outboxes.{Outbox, fresh_outbox}

-- no connection came by a worker's doors, which end after `accepts`; nothing was sent and no pause was made
pub record IsUnusedWorker (accepts : ℕ) (kit : WorkerKit Hall Outbox ℕ) : Type 0 where
  pub doors : kit.doors ≡ fresh_hall accepts false
  pub outlet : kit.outlet ≡ fresh_outbox
  pub pacer : kit.pacer ≡ 0

-- a pump's store never failed and lent nothing; nothing was sent and no pause was made
pub record IsUnusedPump (kit : PumpKit StoreCounts Outbox ℕ) : Type 0 where
  pub store : kit.store ≡ fresh_counts
  pub outlet : kit.outlet ≡ fresh_outbox
  pub pacer : kit.pacer ≡ 0

-- the ticker's clock wasn't read; nothing was sent and no pause was made
pub record IsUnusedTick (kit : TickKit Dial Outbox ℕ) : Type 0 where
  pub clock : kit.clock ≡ fresh_dial false
  pub outlet : kit.outlet ≡ fresh_outbox
  pub pacer : kit.pacer ≡ 0
