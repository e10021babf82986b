-- The execution of one event.
use Rattle.std.specs.Prelude.{[], ◌∷◌, Result, Ok, Err}
use Rattle.satip_base.specs.Output.{Output}
use Rattle.satip_base.specs.History.{entry}
use Rattle.satip_plain.specs.declared.answers.Answer.{Answer}
use Rattle.satip_plain.specs.declared.events.Event.{Event}
use Rattle.satip_plain.specs.declared.fault.ServiceFault.{ServiceFault}
use Rattle.satip_plain.specs.Calls.{Cause}
use Rattle.satip_plain.specs.Suits.{Suits}
use Rattle.std.specs.Prelude.{ℕ}
use Rattle.satip_worker.specs.Progress.{Stage, Makes}

-- the event has an entry, whose datagrams were sent
pub record MadeEvent (tells : Type 0) (o n : Stage) (event : Event) (answer : Answer) (out : Output) : Type 0 where
  pub caller : ℕ
  pub suits : Suits event answer
  pub makes : Makes tells o n (entry caller event answer out ∷ [])

-- the event has no entry
pub record UnmadeEvent (tells : Type 0) (o n : Stage) (fault : ServiceFault) : Type 0 where
  pub makes : Makes tells o n []
  pub cause : Cause o.may_want n.known fault

-- the outcome of an event
abbrev pub MakesEvent : (tells : Type 0) (o n : Stage) → Event → Output → Result Answer ServiceFault → Type 0
MakesEvent tells o n event out (Ok answer) = MadeEvent tells o n event answer out
MakesEvent tells o n event out (Err fault) = UnmadeEvent tells o n fault
