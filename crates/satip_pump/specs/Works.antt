-- Events that ask for work, one or a burst of them.
use Rattle.std.specs.Prelude.{◌≡◌, ℕ, Bool, true, List, flat_map, Result, Ok, Err}
use Rattle.satip_base.specs.Output.{Output}
use Rattle.satip_base.specs.declared.entry.Taken.{Taken}
use Rattle.satip_base.specs.History.{entries}
use Rattle.satip_base.specs.Lists.{Each}
use Rattle.satip_plain.specs.declared.answers.Answer.{Answer}
use Rattle.satip_plain.specs.declared.answers.Answer.TheVariants.{Work as WorkIs}
use Rattle.satip_plain.specs.declared.answers.Work.{Work}
use Rattle.satip_plain.specs.declared.events.Event.{Event}
use Rattle.satip_plain.specs.declared.events.Event.TheVariants.{Packet, Ended, Ask}
use Rattle.satip_plain.specs.declared.fault.ServiceFault.{ServiceFault}
use Rattle.satip_plain.specs.Calls.{Cause}
use Rattle.satip_plain.specs.Known.{Known, AddsAll}
use Rattle.satip_plain.specs.Suits.{Suits}
use Rattle.satip_world.specs.Deliveries.{Delivers}
use Rattle.satip_world.specs.Outboxes.{Outbox}
use Rattle.satip_pump.specs.Buffers.{Buffered}
use Rattle.satip_pump.specs.Events.{MakesOne, MakesNone}
use Rattle.satip_pump.specs.Loads.{Gives, is_of}

-- the answer to this event names the next work: a packet, the end of a recording, or a question
abbrev pub AsksWork : Event → Type 0
AsksWork (Packet front tune packet) = Unit {0}
AsksWork (Ended front tune) = Unit {0}
AsksWork (Ask front) = Unit {0}
AsksWork _ = ⊥

-- such an event was executed and answered with this work, or it has no entry
abbrev pub Works : Bool → Known → Known → (tells : Type 0) → Outbox → Outbox → Event → Result Work ServiceFault → Type 0
Works may_want k l tells o n event (Ok work) = MakesOne k l tells o n event (WorkIs work)
Works may_want k l tells o n event (Err fault) = MakesNone may_want k l o n fault

-- the work is that of the last answer; or the service failed while the last answer still named this tune number
abbrev pub GaveEnds : Bool → Known → ℕ → Work → Result Work ServiceFault → Type 0
GaveEnds may_want l tune last (Ok work) = work ≡ last
GaveEnds may_want l tune last (Err fault) = (is_of tune last ≡ true) × Cause may_want l fault

-- the state of a pump's service, outlet and buffer
pub record GiveState : Type 0 where
  pub known : Known
  pub outbox : Outbox
  pub buffered : Buffered

-- the contract's view of a service, an outlet and a buffer
abbrev pub give_state : {S O : Type 0} → (S → Known) → (O → Outbox) → S → O → Buffered → GiveState
give_state known outbox service outlet buffered = record { known = known service; outbox = outbox outlet; buffered = buffered }

-- waiting packets were given in order, one entry each, and the outlet was given their datagrams
pub record Gave (may_want : Bool) (tells : Type 0) (front tune : ℕ) (work : Work) (o n : GiveState) (result : Result Work ServiceFault) : Type 0 where
  pub caller : ℕ
  pub taken : List (Taken Event Answer Output)
  pub last : Work
  pub gives : Gives front tune o.buffered.packets work taken n.buffered.packets last
  pub rest : n.buffered.rest ≡ o.buffered.rest
  pub suit : Each (λ t. Suits t.event t.answer) taken
  pub adds : AddsAll o.known n.known (entries caller taken)
  pub delivers : Delivers tells o.outbox n.outbox (flat_map (λ t. t.out.datagrams) taken)
  pub ends : GaveEnds may_want n.known tune last result
