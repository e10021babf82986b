-- A caller of the shared tunnel, and its progress while its connection makes entries.
use Rattle.std.specs.Prelude.{◌≡◌, List, ◌++◌, drop, length, map}
use Rattle.satip_base.specs.declared.limits.TheConstants.{LONGEST_HISTORY}
use Rattle.satip_base.specs.Lists.{Begins, Has}
use Rattle.satip_plain.specs.declared.setting.Setting.{Setting}
use Rattle.satip_turn.specs.Shown.{Cell, Keeps}
use Rattle.satip_interleave.specs.Calling.{ShownPass}
use Rattle.satip_interleave.specs.declared.events.TunnelAnswer.{TunnelAnswer}
use Rattle.satip_interleave.specs.Histories.{TunnelItem}
use Rattle.satip_world.specs.Lines.{Line}

-- a caller: the cell of its tunnel, and its pass
pub record Seat : Type 0 where
  pub cell : Cell Setting
  pub pass : ShownPass

abbrev pub seated : Cell Setting → ShownPass → Seat
seated cell pass = record { cell = cell; pass = pass }

-- a caller and the line of the connection that it serves
pub record ConnState : Type 0 where
  pub seat : Seat
  pub line : Line

abbrev pub conn_at : Seat → Line → ConnState
conn_at seat line = record { seat = seat; line = line }

-- the history that the caller has seen is full
abbrev pub SeesFull : Seat → Type 0
SeesFull n = length n.pass.seen ≡ LONGEST_HISTORY

-- the caller made these entries. Its tunnel, its number, its kept rows and the numbers of the passes made are the same. The entries that it had seen are a
-- prefix of those seen now
pub record Grows (o n : Seat) (entries : List TunnelItem) : Type 0 where
  pub cell : n.cell ≡ o.cell
  pub keeps : Keeps o.pass n.pass
  pub seen : Begins o.pass.seen n.pass.seen
  pub own : n.pass.own ≡ o.pass.own ++ entries

-- the entries that the pass made since
abbrev pub made_since : ShownPass → ShownPass → List TunnelItem
made_since o n = drop (length o.own) n.own

-- an entry has this answer
abbrev pub IsAnsweredBy : TunnelAnswer → List TunnelItem → Type 0
IsAnsweredBy answer entries = Has answer (map (λ t. t.answer) entries)
