-- The outlets of kits that jobs left.
use Rattle.std.specs.Prelude.{◌≡◌, List, map}
use Rattle.satip_world.specs.Outboxes.{Outbox}
use Rattle.satip_desk.specs.Views.{JobsView}

-- the outlets of kits, in order
pub record Outboxes : Type 0 where
  pub workers : List Outbox
  pub pumps : List Outbox
  pub ticker : Outbox

abbrev pub outboxes : JobsView → Outboxes
outboxes jobs = record { workers = map (λ w. w.outbox) jobs.workers; pumps = map (λ p. p.outbox) jobs.pumps; ticker = jobs.ticker.outbox }

-- the outlets of kits show what those of the given kits showed, in order: nothing more was sent
abbrev pub OutletsStay : (given left : JobsView) → Type 0
OutletsStay given left = outboxes left ≡ outboxes given
