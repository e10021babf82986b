-- The devices that a desk gave a client.
use Rattle.std.specs.Prelude.{Bool, false, Option, None}
use Rattle.satip_base.specs.declared.network.Address.{Address}

-- the address of the connection that it gave, if it gave one; whether it gave an inlet and a clock
pub record Handed : Type 0 where
  pub wire : Option Address
  pub inlet : Bool
  pub moment : Bool

-- it gave nothing
abbrev pub nothing_handed : Handed
nothing_handed = record { wire = None; inlet = false; moment = false }
