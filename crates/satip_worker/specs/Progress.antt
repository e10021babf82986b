-- The progress of a service, an outlet and a connection while entries are made.
use Rattle.std.specs.Prelude.{◌≡◌, ℕ, ◌≤◌, Bool, List}
use Rattle.satip_plain.specs.Histories.{Item}
use Rattle.satip_world.specs.Lines.{Line, Grew}
use Rattle.satip_world.specs.Outboxes.{Outbox}
use Rattle.satip_world.specs.Deliveries.{Delivers}
use Rattle.satip_plain.specs.Known.{Known, AddsAll}
use Rattle.satip_worker.specs.Answers.{datagrams_of}

-- a service and an outlet: whether the service may return out of memory, what it knows of the history, and what the outlet was sent
pub record Stage : Type 0 where
  pub may_want : Bool
  pub known : Known
  pub outbox : Outbox

-- the contract's view of a service and an outlet
abbrev pub staged : {S O : Type 0} → (S → Bool) → (S → Known) → (O → Outbox) → S → O → Stage
staged may_want known outbox service outlet = record { may_want = may_want service; known = known service; outbox = outbox outlet }

-- a service, an outlet and a connection
pub record ConnState : Type 0 where
  pub stage : Stage
  pub line : Line

-- the contract's view of a service, an outlet and a connection
abbrev pub conn_state : {S O C : Type 0} → (S → Bool) → (S → Known) → (O → Outbox) → (C → Line) → S → O → C → ConnState
conn_state may_want known outbox line service outlet conn = record { stage = staged may_want known outbox service outlet; line = line conn }

-- these entries were made, and their datagrams sent
pub record Makes (tells : Type 0) (o n : Stage) (entries : List Item) : Type 0 where
  pub may_want : n.may_want ≡ o.may_want
  pub adds : AddsAll o.known n.known entries
  pub delivers : Delivers tells o.outbox n.outbox (datagrams_of entries)

-- no receive and no send failed
pub record SameFaults (o n : Line) : Type 0 where
  pub receive_faults : n.receive_faults ≡ o.receive_faults
  pub send_faults : n.send_faults ≡ o.send_faults

-- these bytes were received and sent, and no count fell
pub record Carries (tells : Type 0) (o n : Line) (received sent : List ℕ) : Type 0 where
  pub content : Grew tells o n received sent
  pub idles : o.idles ≤ n.idles
  pub receive_faults : o.receive_faults ≤ n.receive_faults
  pub send_faults : o.send_faults ≤ n.send_faults
