-- The contract's view of a tunnel.
use Rattle.satip_core.specs.Held.{Held as HeldServer}
use Rattle.satip_interleave.specs.Lanes.{PlainLanes}

-- the server, and the lanes
pub record Held : Type 0 where
  pub server : HeldServer
  pub lanes : PlainLanes
