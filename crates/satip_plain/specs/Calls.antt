-- How one call of a service changes what its caller knows of the history.
use Rattle.std.specs.Prelude.{◌≡◌, ℕ, ◌≤◌, ◌⊎◌, Bool, true, List, length, Option, None, IsSome, Result, Ok, Err}
use Rattle.satip_base.specs.declared.limits.TheConstants.{LONGEST_HISTORY}
use Rattle.satip_base.specs.Output.{Output}
use Rattle.satip_base.specs.declared.entry.Taken.{Taken}
use Rattle.satip_base.specs.History.{entry, entries}
use Rattle.satip_base.specs.Lists.{Each}
use Rattle.satip_plain.specs.declared.answers.Answer.{Answer}
use Rattle.satip_plain.specs.declared.events.Event.{Event}
use Rattle.satip_plain.specs.declared.fault.ServiceFault.{ServiceFault}
use Rattle.satip_plain.specs.declared.fault.ServiceFault.TheVariants.{Spent, Want}
use Rattle.satip_plain.specs.Known.{Known, Adds, AddsNone, AddsAll}
use Rattle.satip_plain.specs.Suits.{Suits}

-- why an event has no entry: the history is full, or a service that can run out of memory did
abbrev pub Cause : Bool → Known → ServiceFault → Type 0
Cause may_want l Spent = l.length ≡ LONGEST_HISTORY
Cause may_want l Want = may_want ≡ true

-- the event was executed, and its entry is the last one seen
pub record Made (k l : Known) (event : Event) (answer : Answer) (out : Output) : Type 0 where
  pub caller : ℕ
  pub adds : Adds k l (entry caller event answer out)
  pub suits : Suits event answer

-- the event has no entry
pub record Unmade (may_want : Bool) (k l : Known) (fault : ServiceFault) : Type 0 where
  pub adds : AddsNone k l
  pub cause : Cause may_want l fault

-- the outcome of a call: the event has an entry with this answer and output, or it has none for this fault
abbrev pub Called : Bool → Known → Known → Event → Output → Result Answer ServiceFault → Type 0
Called may_want k l event out (Ok answer) = Made k l event answer out
Called may_want k l event out (Err fault) = Unmade may_want k l fault

-- how a burst ended: the lot had no further event, or 64 were executed; or the event that it gave has no entry
abbrev pub BurstEnds : Bool → Known → Bool → Option Event → ℕ → Result (Unit {0}) ServiceFault → Type 0
BurstEnds may_want l ended given count (Ok _) = (given ≡ None) × ((ended ≡ true) ⊎ (count ≡ 64))
BurstEnds may_want l ended given count (Err fault) = IsSome given × Cause may_want l fault

-- each event that the lot took was executed
pub record Bursts (may_want : Bool) (k l : Known) (ended : Bool) (given : Option Event) (has_taken : List (Taken Event Answer Output) → Type 0)
    (result : Result (Unit {0}) ServiceFault) : Type 0 where
  pub caller : ℕ
  pub taken : List (Taken Event Answer Output)
  pub has : has_taken taken
  pub most : length taken ≤ 64
  pub suit : Each (λ t. Suits t.event t.answer) taken
  pub adds : AddsAll k l (entries caller taken)
  pub ends : BurstEnds may_want l ended given (length taken) result
