-- The kits that a desk gave, as contracts see them, and how they come back unused.
use Rattle.std.specs.Prelude.{◌≡◌, ℕ}
use Rattle.satip_world.specs.Dials.{Reads}
use Rattle.satip_desk.specs.Views.{JobsView}

-- the kits left show the same as those given, in the same order, except for one reading of the ticker's clock
pub record ComeUnused (given left : JobsView) : Type 0 where
  pub workers : left.workers ≡ given.workers
  pub pumps : left.pumps ≡ given.pumps
  pub moment : ℕ
  pub clock : Reads given.ticker.dial left.ticker.dial moment
  pub outbox : left.ticker.outbox ≡ given.ticker.outbox
