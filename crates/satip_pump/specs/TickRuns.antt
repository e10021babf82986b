-- The run of the ticker.
use Rattle.std.specs.Prelude.{◌≡◌, ℕ, Bool, true, List, [], ◌∷◌, ◌++◌, map, Option, Some, None}
use Rattle.satip_base.specs.Lists.{Each}
use Rattle.satip_plain.specs.declared.answers.Answer.TheVariants.{Beat}
use Rattle.satip_plain.specs.declared.answers.Beat.TheVariants.{Going, Stopping}
use Rattle.satip_plain.specs.declared.events.Event.TheVariants.{Tick}
use Rattle.satip_plain.specs.Histories.{Item}
use Rattle.satip_plain.specs.declared.fault.ServiceFault.TheVariants.{Spent as ServiceSpent, Want as ServiceWant}
use Rattle.satip_plain.specs.Known.{Known, AddsAll}
use Rattle.satip_world.specs.Deliveries.{Delivers}
use Rattle.satip_world.specs.Dials.{Dial}
use Rattle.satip_world.specs.Outboxes.{Outbox}
use Rattle.satip_pump.specs.declared.ends.JobEnd.{JobEnd}
use Rattle.satip_pump.specs.declared.ends.JobEnd.TheVariants.{Stopped, Spent, Want}
use Rattle.satip_pump.specs.Events.{MakesOne, MakesNone, datagrams_of}

-- the answer says that the service goes on
abbrev pub IsGoing : Item → Type 0
IsGoing e = e.answer ≡ Beat Going

-- the last answer says that the service stops, and each answer before says that it goes on
pub record StopsLast (entries : List Item) : Type 0 where
  pub before : List Item
  pub last : Item
  pub are : entries ≡ before ++ last ∷ []
  pub going : Each IsGoing before
  pub stopping : last.answer ≡ Beat Stopping

-- how a ticker's entries end, and the clock readings whose ticks have no entry: none, or the last one
abbrev pub TicksEnd : JobEnd → List Item → List ℕ → Type 0
TicksEnd Stopped entries unmade = StopsLast entries × (unmade ≡ [])
TicksEnd _ entries unmade = Each IsGoing entries × ((moment : ℕ) × (unmade ≡ moment ∷ []))

-- a ticker's entries are ticks at the moments that it read of its clock, in order. The outlet was given their datagrams
pub record TickRun (k l : Known) (c d : Dial) (tells : Type 0) (o n : Outbox) (end : JobEnd) : Type 0 where
  pub entries : List Item
  pub moments : List ℕ
  pub unmade : List ℕ
  pub adds : AddsAll k l entries
  pub events : map (λ e. e.event) entries ≡ map Tick moments
  pub told : d.told ≡ true → c.told ≡ true
  pub readings : d.told ≡ true → d.readings ≡ c.readings ++ (moments ++ unmade)
  pub ends : TicksEnd end entries unmade
  pub delivers : Delivers tells o n (datagrams_of entries)

-- one tick: the service goes on, or the job ends
abbrev pub Ticked : Bool → Known → Known → (tells : Type 0) → Outbox → Outbox → ℕ → Option JobEnd → Type 0
Ticked may_want k l tells o n now None = MakesOne k l tells o n (Tick now) (Beat Going)
Ticked may_want k l tells o n now (Some Stopped) = MakesOne k l tells o n (Tick now) (Beat Stopping)
Ticked may_want k l tells o n now (Some Spent) = MakesNone may_want k l o n ServiceSpent
Ticked may_want k l tells o n now (Some Want) = MakesNone may_want k l o n ServiceWant
