-- The step of a tunnel at an event, and the histories that a tunnel stands for.
use Rattle.std.specs.Prelude.{◌≡◌, ℕ, List, [], ◌∷◌, ◌++◌}
use Rattle.satip_base.specs.Output.{Output}
use Rattle.satip_base.specs.History.{entry}
use Rattle.satip_core.specs.Held.{Held as HeldServer}
use Rattle.satip_core.specs.Serving.{StandsAfter, Steps}
use Rattle.satip_interleave.specs.Lanes.{no_lanes}
use Rattle.satip_plain.specs.declared.answers.Answer.{Answer}
use Rattle.satip_plain.specs.declared.events.Event.{Event}
use Rattle.satip_plain.specs.Histories.{Item}
use Rattle.satip_interleave.specs.declared.events.TunnelEvent.{TunnelEvent}
use Rattle.satip_interleave.specs.declared.events.TunnelEvent.TheVariants.{Inner}
use Rattle.satip_interleave.specs.declared.events.TunnelAnswer.{TunnelAnswer}
use Rattle.satip_interleave.specs.declared.events.TunnelAnswer.TheVariants.{Inner as InnerAnswer}
use Rattle.satip_interleave.specs.Held.{Held}
use Rattle.satip_interleave.specs.Histories.{LanesFrom, TunnelItem, TunnelLegal, inners, lanes_after}

-- the server did the plain server's step, and stands for one more entry
pub record InnerDone (old : HeldServer) (event : Event) (answer : Answer) (out : Output) (new : HeldServer) : Type 0 where
  pub setting : new.setting ≡ old.setting
  pub steps : Steps old event new answer out
  pub stands : (h : List Item) (n : ℕ) → StandsAfter old h → StandsAfter new (h ++ entry n event answer out ∷ [])

-- the server executed its own event; any other event left it as it was
abbrev pub MatchInner : HeldServer → TunnelEvent → TunnelAnswer → Output → HeldServer → Type 0
MatchInner old (Inner event) (InnerAnswer answer) out new = InnerDone old event answer out new
MatchInner old (Inner event) answer out new = ⊥
MatchInner old event answer out new = new ≡ old

-- the server stands for its own entries, the lanes are those after the history, and all entries are answered
pub record Stands (t : Held) (h : List TunnelItem) : Type 0 where
  pub server : StandsAfter t.server (inners h)
  pub lanes : t.lanes ≡ lanes_after h
  pub answered : LanesFrom no_lanes h

-- a history that a tunnel stands for is legal
pub stands_legal : (t : Held) (h : List TunnelItem) → Stands t h → TunnelLegal t.server.setting h
stands_legal t h stands = record { inner = stands.server.lawful; lanes = stands.answered }
