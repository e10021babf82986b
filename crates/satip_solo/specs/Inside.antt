-- The invariants of a service of one thread.
use Rattle.std.specs.Prelude.{◌≡◌, ℕ, ◌++◌, Bool, List, Option, IfSome}
use Rattle.satip_base.specs.History.{own_of}
use Rattle.satip_plain.specs.Histories.{Item}
use Rattle.satip_core.specs.Held.{Held}
use Rattle.satip_core.specs.Serving.{StandsAfter}
use Rattle.satip_solo.specs.Log.{Before}

-- the server holds the state after the entries, which are all of caller 0 as long as the Stop is to come
pub record IsSound (server : Held) (entries : List Item) (stop : Option ℕ) : Type 0 where
  pub stands : StandsAfter server entries
  pub unstopped : IfSome stop (λ _. own_of 0 entries ≡ entries)

-- if the Stop was due it was executed
pub record Stopped (due : Bool) (server : Held) (entries : List Item) (server' : Held) (entries' : List Item) : Type 0 where
  pub before : List Item
  pub stops : Before due before
  pub grows : entries' ≡ entries ++ before
  pub stands : (h : List Item) → StandsAfter server h → StandsAfter server' (h ++ before)
  pub same_setting : server'.setting ≡ server.setting
