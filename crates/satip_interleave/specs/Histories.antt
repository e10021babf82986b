-- Histories of a tunnel: the server's entries, with those of the connections' lanes between them.
use Rattle.std.specs.Prelude.{ℕ, List, [], ◌∷◌, ◌++◌}
use Rattle.satip_base.specs.Output.{Output}
use Rattle.satip_base.specs.declared.entry.Entry.{Entry}
use Rattle.satip_base.specs.History.{entry}
use Rattle.satip_interleave.specs.Lanes.{PlainLanes, no_lanes}
use Rattle.satip_plain.specs.Histories.{Item, Legal}
use Rattle.satip_plain.specs.declared.setting.Setting.{Setting}
use Rattle.satip_interleave.specs.declared.events.TunnelEvent.{TunnelEvent}
use Rattle.satip_interleave.specs.declared.events.TunnelEvent.TheVariants.{Inner}
use Rattle.satip_interleave.specs.declared.events.TunnelAnswer.{TunnelAnswer}
use Rattle.satip_interleave.specs.declared.events.TunnelAnswer.TheVariants.{Inner as InnerAnswer}
use Rattle.satip_interleave.specs.Tunnels.{moved_by}
use Rattle.satip_interleave.specs.Answers.{IsAnswered}

-- an entry: its caller's number, the event, the answer, and the reply and datagrams written
abbrev pub TunnelItem : Type 0
TunnelItem = Entry TunnelEvent TunnelAnswer Output

-- the server's entry in one of a tunnel, if there is one
abbrev pub inner_by : ℕ → TunnelEvent → TunnelAnswer → Output → List Item
inner_by caller (Inner event) (InnerAnswer answer) out = entry caller event answer out ∷ []
inner_by caller event answer out = []

-- the server's entries, in order
abbrev pub inners : List TunnelItem → List Item
inners [] = []
inners (t ∷ ts) = inner_by t.caller t.event t.answer t.out ++ inners ts

-- the lanes after one entry, and after a list of entries
abbrev pub moved : PlainLanes → TunnelItem → PlainLanes
moved lanes t = moved_by t.event t.out.datagrams lanes

abbrev pub lanes_from : PlainLanes → List TunnelItem → PlainLanes
lanes_from lanes [] = lanes
lanes_from lanes (t ∷ ts) = lanes_from (moved lanes t) ts

-- the lanes after a whole history
abbrev pub lanes_after : List TunnelItem → PlainLanes
lanes_after h = lanes_from no_lanes h

-- each entry is answered over the lanes that the entries before it left
abbrev pub LanesFrom : PlainLanes → List TunnelItem → Type 0
LanesFrom lanes [] = Unit {0}
LanesFrom lanes (t ∷ ts) = IsAnswered lanes t.event t.answer t.out × LanesFrom (moved lanes t) ts

-- a legal history: the server's entries are a legal history of the plain server, and the lanes answer all others
pub record TunnelLegal (c : Setting) (h : List TunnelItem) : Type 0 where
  pub inner : Legal c (inners h)
  pub lanes : LanesFrom no_lanes h
