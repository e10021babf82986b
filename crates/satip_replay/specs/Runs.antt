-- The state in the middle of a run.
use Rattle.std.specs.Prelude.{◌≡◌, ℕ, List, [], ◌++◌, Option, None, Some, IsSomeAnd}
use Rattle.satip_base.specs.Output.{Output}
use Rattle.satip_base.specs.Streams.{Drain, FailedToPut}
use Rattle.satip_base.specs.declared.streams.Put.{Put}
use Rattle.satip_base.specs.declared.streams.Put.TheVariants.{Whole, Failed}
use Rattle.satip_plain.specs.declared.answers.Answer.{Answer}
use Rattle.satip_plain.specs.declared.events.Event.{Event}
use Rattle.satip_plain.specs.declared.setting.Setting.{Setting}
use Rattle.satip_plain.specs.Histories.{after}
use Rattle.satip_script.specs.declared.lines.Line.TheVariants.{Event as EventLine}
use Rattle.satip_script.specs.Forms.{Form}
use Rattle.satip_script.specs.Reading.{IsFormed}
use Rattle.satip_script.specs.Scripts.{Gives, GivenAfter}
use Rattle.satip_script.specs.Runs.{run}
use Rattle.satip_script.specs.Printed.{printed}
use Rattle.satip_core.specs.Held.{Held}
use Rattle.satip_core.specs.Serving.{Stands, Steps}

-- a prefix of a text was sent, and this is left of it
pub record Moved (before now text left : List ℕ) : Type 0 where
  pub part : List ℕ
  pub whole : text ≡ part ++ left
  pub sent : now ≡ before ++ part

-- a prefix of a text was passed on, and this is left of it
pub record Passed (tells : Type 0) (o n : Drain) (text left : List ℕ) : Type 0 where
  pub faults : n.faults ≡ o.faults
  pub content : tells → Moved o.sent n.sent text left

-- a text is passed on, or a prefix of it if the sink fails
abbrev pub Passes : (tells : Type 0) (o n : Drain) (text left : List ℕ) → Put → Type 0
Passes tells o n text left Whole = Passed tells o n text left
Passes tells o n text left Failed = FailedToPut tells o n text

-- if the form is an event, it is answered by a step of the server
abbrev pub AnswersForm : Option Form → Held → Held → Output → Option Answer → Type 0
AnswersForm form old new out said = (e : Event) → IsFormed form (EventLine e) → IsSomeAnd said (λ answer. Steps old e new answer out)

-- the first of these events was answered by a step of the server, and the others are left
pub record Answered (events : List Event) (left : List (List ℕ)) (old new : Held) (answer : Answer) (out : Output) : Type 0 where
  pub event : Event
  pub given : GivenAfter events left (Some event)
  pub steps : Steps old event new answer out

-- the next of these events is answered, if there is one
abbrev pub AnswersNext : List Event → List (List ℕ) → Held → Held → Output → Option Answer → Type 0
AnswersNext events left old new out None = events ≡ []
AnswersNext events left old new out (Some answer) = Answered events left old new answer out

-- the first of the events were run and printed, and this text of theirs is still to be written
pub record Midway (tells : Type 0) (o n : Drain) (s : Setting) (events : List Event) (server : Held) (text : List ℕ) (lines : List (List ℕ)) : Type 0 where
  pub first : List Event
  pub others : List Event
  pub whole : events ≡ first ++ others
  pub gives : Gives lines others
  pub stands : Stands server (after s (run s first))
  pub passed : Passed tells o n (printed (run s first)) text
