-- Entries of journals, executed again by the server.
use Rattle.std.specs.Prelude.{◌≡◌, ℕ, ◌+◌, ◌<◌, ◌≤◌, List, length, take, drop, slice_get, slice_index_or, Option, None, Some, Ok}
use Rattle.satip_plain.specs.Types.{Config}
use Rattle.satip_plain.specs.declared.setting.Setting.{Setting}
use Rattle.satip_plain.specs.State.{State}
use Rattle.satip_plain.specs.Steps.{step}
use Rattle.satip_plain.specs.Histories.{Fits, Item, LegalFrom, opening}
use Rattle.satip_core.specs.Standing.{StandsFor}
use Rattle.satip_core.specs.Held.{Held}
use Rattle.satip_core.specs.Serving.{Stands}
use Rattle.satip_audit.specs.declared.index.Spot.{Spot}
use Rattle.satip_audit.specs.declared.verdicts.Verdict.{Verdict}
use Rattle.satip_base.specs.Output.{Output}
use Rattle.satip_entry_reader.specs.ReadingEntries.{IsEntry, entry_text}
use Rattle.satip_audit.specs.Journals.{IsJournal, Note, Placed}
use Rattle.satip_audit.specs.Verdicts.{DiffersAt, IsVerdict, item}

-- a spot is within some bytes
abbrev pub IsInside : List ℕ → Spot → Type 0
IsInside records spot = spot.at + spot.len ≤ length records

-- a spot has the record of the entry at this place of a history
pub record Leads (records : List ℕ) (h : List Item) (place : ℕ) (spot : Spot) : Type 0 where
  pub entry : Placed
  pub within : IsEntry entry.entry
  pub record_is : take spot.len (drop spot.at records) ≡ entry_text entry.entry
  pub stands : slice_get h place ≡ Some (item entry)

-- spots have the records of a history's entries, in order
pub record AreLed (records : List ℕ) (h : List Item) (spots : List Spot) : Type 0 where
  pub long : length h ≡ length spots
  pub leads : (place : ℕ) (d : Spot) → place < length spots → Leads records h place (slice_index_or spots place d)

-- two outputs have the same reply and the same datagrams
pub record SaysSame (a b : Output) : Type 0 where
  pub reply : a.reply ≡ b.reply
  pub datagrams : a.datagrams ≡ b.datagrams

-- the server executed an entry's event, and its answer and output are those of the entry
pub record DidSo (old : Held) (p : Placed) (new : Held) (st : State) : Type 0 where
  pub stands : StandsFor old.setting.config new.kept (step old.setting.config st p.entry.event).state
  pub fits : Fits (step old.setting.config st p.entry.event) (item p)

-- from whatever state the server held, it did what the entry says
abbrev pub DoesSo : Held → Placed → Held → Type 0
DoesSo old p new = (st : State) → Stands old st → DidSo old p new st

-- an entry differs from the result of its event at the server
abbrev pub DoesOther : Held → Placed → Type 0
DoesOther old p = (st : State) → Stands old st → Fits (step old.setting.config st p.entry.event) (item p) → ⊥

-- a history is legal, or this is the place of its first entry that differs
abbrev pub Finds : Setting → List Item → Option ℕ → Type 0
Finds c h None = LegalFrom c.config (opening c) h
Finds c h (Some place) = DiffersAt c h place

-- no line of a text is wrong, and this is the verdict on its notes
pub record IsJudged (config : Config) (text : List ℕ) (verdict : Verdict) : Type 0 where
  pub notes : List Note
  pub journal : IsJournal text (Ok notes)
  pub verdict_is : IsVerdict config notes verdict
