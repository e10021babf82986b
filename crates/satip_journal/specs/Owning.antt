-- A pass knows its own entries among those that it has seen.
use Rattle.std.specs.Prelude.{◌≡◌}
use Rattle.std.proofs.Props.{props}
use mathlib.Core.Sum.{⊎_set}
use Rattle.satip_base.specs.History.{own_of}
use Rattle.satip_plain.specs.declared.answers.Answer.{Answer}
use Rattle.satip_plain.specs.declared.events.Event.{Event}
use Rattle.satip_plain.specs.Histories.{Item}
use Rattle.satip_shared.specs.Calling.{ServerPass}

-- the pass's own entries are those of its caller among the entries seen
abbrev pub KnowsOwn : ServerPass → Type 0
KnowsOwn p = own_of p.number p.seen ≡ p.own

Event-set : IsSet Event
Event-set = hlevel (props, ⊎_set)

Answer-set : IsSet Answer
Answer-set = hlevel (props, ⊎_set)

Item-set : IsSet Item
Item-set = hlevel (props, Event-set, Answer-set)

pub knows_own_prop : (p : ServerPass) → IsProp (KnowsOwn p)
knows_own_prop p = hlevel (props, Item-set)
