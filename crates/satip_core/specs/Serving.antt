-- The server's step at an event, compared with the plain server's.
use Rattle.std.specs.Prelude.{◌≡◌, [], List}
use Rattle.satip_base.specs.Output.{Output}
use Rattle.satip_plain.specs.declared.answers.Answer.{Answer}
use Rattle.satip_plain.specs.declared.events.Event.{Event}
use Rattle.satip_plain.specs.State.{State}
use Rattle.satip_plain.specs.Steps.{step}
use Rattle.satip_plain.specs.Histories.{Item, Legal, after}
use Rattle.satip_state.specs.Standing.{StandsFor}
use Rattle.satip_core.specs.Held.{Held}
use Rattle.satip_core.specs.Doing.{Did}

-- the server represents this state of the plain server
abbrev pub Stands : Held → State → Type 0
Stands s st = StandsFor s.setting.config s.kept st

-- from any state that the server represented, it did the plain server's step
abbrev pub Steps : Held → Event → Held → Answer → Output → Type 0
Steps old event new answer out = (st : State) → Stands old st → Did old.setting.config new.kept answer out (step old.setting.config st event)

-- the server represents this state, and sent nothing
pub record Rests (new : Held) (out : Output) (st : State) : Type 0 where
  pub stands : Stands new st
  pub sent : out.datagrams ≡ []

-- the history is legal in the server's setting, and the server represents the state after it
pub record StandsAfter (s : Held) (h : List Item) : Type 0 where
  pub lawful : Legal s.setting h
  pub stands : Stands s (after s.setting h)
