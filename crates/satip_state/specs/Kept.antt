-- The parts that keep the server's state, as contracts see them.
use Rattle.std.specs.Prelude.{ℕ, Bool, List, Option}
use Rattle.satip_table.specs.Living.{Living}
use Rattle.satip_fronts.specs.FrontEnds.{FrontEnds}
use Rattle.satip_flow.specs.Subscription.{Subscription}

-- the time of the clock; whether the server was stopped; the timeout in seconds; the sessions and streams; the end of each slot's session;
-- the front ends; the subscribers to packets
pub record Kept : Type 0 where
  pub clock : ℕ
  pub stopped : Bool
  pub timeout : ℕ
  pub table : Living
  pub dues : List (Option ℕ)
  pub fronts : FrontEnds
  pub flow : List Subscription
