-- An inlet of datagrams as contracts see it, and the effect of one call.
use Rattle.std.specs.Prelude.{◌≡◌, ℕ, suc, ◌≤◌, List, [], ◌∷◌, ◌++◌, length, take}
use Rattle.satip_world.specs.declared.connections.Received.{Received}
use Rattle.satip_world.specs.declared.connections.Received.TheVariants.{Got, Idle, End, Failed}
use Rattle.satip_world.specs.Counts.{Rises, RisesByOne}

-- an inlet: its port, the count of datagrams received, those datagrams if they are exposed, and the counts of idles and faults
pub record Inbox : Type 0 where
  pub port : ℕ
  pub count : ℕ
  pub given : List (List ℕ)
  pub idles : ℕ
  pub faults : ℕ

-- an inlet without a datagram yet
abbrev pub fresh_inbox : ℕ → Inbox
fresh_inbox port = record { port = port; count = 0; given = []; idles = 0; faults = 0 }

-- a datagram was received and is at the front of the buffer, cut to it; it may be empty
pub record GotDatagram (tells : Type 0) (o n : Inbox) (buf : List ℕ) (size : ℕ) : Type 0 where
  pub within : size ≤ length buf
  pub port : n.port ≡ o.port
  pub count : RisesByOne o.count n.count
  pub idles : n.idles ≡ o.idles
  pub faults : n.faults ≡ o.faults
  pub content : tells → n.given ≡ o.given ++ take size buf ∷ []

-- no datagram was received
pub record GotNone (tells : Type 0) (o n : Inbox) : Type 0 where
  pub port : n.port ≡ o.port
  pub count : n.count ≡ o.count
  pub idles : Rises o.idles n.idles
  pub one_idle : n.idles ≤ suc o.idles
  pub faults : n.faults ≡ o.faults
  pub content : tells → n.given ≡ o.given

-- the inlet failed
pub record FailedToGet (tells : Type 0) (o n : Inbox) : Type 0 where
  pub port : n.port ≡ o.port
  pub count : n.count ≡ o.count
  pub idles : n.idles ≡ o.idles
  pub faults : Rises o.faults n.faults
  pub content : tells → n.given ≡ o.given

-- the effect of one call of `receive`, with the buffer as the call leaves it; an inlet has no end
abbrev pub Gets : (tells : Type 0) (o n : Inbox) (buf : List ℕ) → Received → Type 0
Gets tells o n buf (Got size) = GotDatagram tells o n buf size
Gets tells o n buf Idle = GotNone tells o n
Gets tells o n buf End = ⊥
Gets tells o n buf Failed = FailedToGet tells o n
