-- The events that a burst takes from a lot of the server's events.
use Rattle.std.specs.Prelude.{List, [], ◌∷◌, ◌++◌}
use Rattle.satip_base.specs.Output.{Output}
use Rattle.satip_base.specs.declared.entry.Taken.{Taken}
use Rattle.satip_base.specs.History.{taken}
use Rattle.satip_base.specs.Lists.{Each}
use Rattle.satip_plain.specs.declared.answers.Answer.{Answer}
use Rattle.satip_plain.specs.declared.events.Event.{Event}
use Rattle.satip_interleave.specs.declared.events.TunnelEvent.{TunnelEvent}
use Rattle.satip_interleave.specs.declared.events.TunnelEvent.TheVariants.{Inner}
use Rattle.satip_interleave.specs.declared.events.TunnelAnswer.{TunnelAnswer}
use Rattle.satip_interleave.specs.declared.events.TunnelAnswer.TheVariants.{Inner as InnerAnswer}
use Rattle.satip_interleave.specs.Answers.{IsInner}

-- an event that was taken, with its answer and output
abbrev pub TunnelTaken : Type 0
TunnelTaken = Taken TunnelEvent TunnelAnswer Output

-- an event of the server
abbrev pub IsInnerEvent : TunnelEvent → Type 0
IsInnerEvent (Inner event) = Unit {0}
IsInnerEvent _ = ⊥

-- the server answered each of these
abbrev pub AreAnswered : List TunnelTaken → Type 0
AreAnswered ts = Each (λ t. IsInner t.answer) ts

-- the server's event, answer and output of one taken, if the server answered it
abbrev pub inner_taken : TunnelEvent → TunnelAnswer → Output → List (Taken Event Answer Output)
inner_taken (Inner event) (InnerAnswer answer) out = taken event answer out ∷ []
inner_taken event answer out = []

abbrev pub inners_taken : List TunnelTaken → List (Taken Event Answer Output)
inners_taken [] = []
inners_taken (t ∷ ts) = inner_taken t.event t.answer t.out ++ inners_taken ts
