-- An outlet as contracts see it, and the effect of one call.
use Rattle.std.specs.Prelude.{◌≡◌, ℕ, Bool, true, false, List, [], ◌∷◌, ◌++◌}
use Rattle.satip_base.specs.Output.{Datagram}
use Rattle.satip_base.specs.declared.network.Address.{Address}
use Rattle.satip_base.specs.declared.streams.Put.{Put}
use Rattle.satip_base.specs.declared.streams.Put.TheVariants.{Whole, Failed}
use Rattle.satip_world.specs.Counts.{Rises}

-- an outlet: the datagrams sent, the count of failed sends, and whether it holds the lock of its socket
pub record Outbox : Type 0 where
  pub sent : List Datagram
  pub faults : ℕ
  pub held : Bool

-- an outlet that has sent nothing yet
abbrev pub fresh_outbox : Outbox
fresh_outbox = record { sent = []; faults = 0; held = false }

-- the outlet after it took the lock; nothing else changes
abbrev pub locked : Outbox → Outbox
locked o = record o { held = true }

-- the outlet after it gave the lock back, if it held it; nothing else changes
abbrev pub unlocked : Outbox → Outbox
unlocked o = record o { held = false }

-- a datagram was sent
pub record Posted (tells : Type 0) (o n : Outbox) (to : Address) (bytes : List ℕ) : Type 0 where
  pub held : n.held ≡ o.held
  pub faults : n.faults ≡ o.faults
  pub content : tells → n.sent ≡ o.sent ++ record { to = to; bytes = bytes } ∷ []

-- a send failed, and no datagram was sent
pub record FailedToPost (tells : Type 0) (o n : Outbox) : Type 0 where
  pub held : n.held ≡ o.held
  pub faults : Rises o.faults n.faults
  pub content : tells → n.sent ≡ o.sent

-- the effect of one call of `send`
abbrev pub Posts : (tells : Type 0) (o n : Outbox) (to : Address) (bytes : List ℕ) → Put → Type 0
Posts tells o n to bytes Whole = Posted tells o n to bytes
Posts tells o n to bytes Failed = FailedToPost tells o n
