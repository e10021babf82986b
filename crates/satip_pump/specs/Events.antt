-- One event of a job, and the datagrams that its outlet was given.
use Rattle.std.specs.Prelude.{◌≡◌, ℕ, Bool, List, flat_map, Result, Ok, Err}
use Rattle.satip_base.specs.Output.{Datagram, Output}
use Rattle.satip_base.specs.History.{entry}
use Rattle.satip_plain.specs.declared.answers.Answer.{Answer}
use Rattle.satip_plain.specs.declared.events.Event.{Event}
use Rattle.satip_plain.specs.Histories.{Item}
use Rattle.satip_plain.specs.declared.fault.ServiceFault.{ServiceFault}
use Rattle.satip_plain.specs.Known.{Known, Adds}
use Rattle.satip_plain.specs.Calls.{Unmade}
use Rattle.satip_plain.specs.Suits.{Suits}
use Rattle.satip_world.specs.Deliveries.{Delivers}
use Rattle.satip_world.specs.Outboxes.{Outbox}

-- the datagrams of entries, in order
abbrev pub datagrams_of : List Item → List Datagram
datagrams_of es = flat_map (λ e. e.out.datagrams) es

-- the event was executed, and the outlet was given its datagrams
pub record MakesOne (k l : Known) (tells : Type 0) (o n : Outbox) (event : Event) (answer : Answer) : Type 0 where
  pub caller : ℕ
  pub out : Output
  pub adds : Adds k l (entry caller event answer out)
  pub suits : Suits event answer
  pub delivers : Delivers tells o n out.datagrams

-- the event has no entry, and the outlet was given nothing
pub record MakesNone (may_want : Bool) (k l : Known) (o n : Outbox) (fault : ServiceFault) : Type 0 where
  pub unmade : Unmade may_want k l fault
  pub unsent : n ≡ o

-- the outcome of an event: it was executed, or it has no entry
abbrev pub Makes : Bool → Known → Known → (tells : Type 0) → Outbox → Outbox → Event → Result Answer ServiceFault → Type 0
Makes may_want k l tells o n event (Ok answer) = MakesOne k l tells o n event answer
Makes may_want k l tells o n event (Err fault) = MakesNone may_want k l o n fault
