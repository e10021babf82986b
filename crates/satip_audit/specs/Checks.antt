-- Lines that are right or wrong.
use Rattle.std.specs.Prelude.{◌≡◌, ℕ, ◌<◌, ◌≤◌, ◌^◌, List, length, take}
use Rattle.satip_audit.specs.Journals.{IsNote, IsPlaced, Note, Placed, note_text, placed_line}
use Rattle.satip_entry_writer.specs.Lines.{start_line}
use Rattle.satip_entry_reader.specs.ReadingEntries.{entry_text}
use Rattle.satip_audit.specs.declared.indexing.Said.{Said}
use Rattle.satip_audit.specs.declared.indexing.Said.TheVariants.{Start as StartSaid, Entry as EntrySaid}

-- a line is no note's
abbrev pub IsWrong : List ℕ → Type 0
IsWrong line = (note : Note) → IsNote note → line ≡ note_text note → ⊥

-- a line is that of an entry at this place; the line after it was read begins with the entry's record, which has this length
pub record HasPlace (line after : List ℕ) (place len : ℕ) : Type 0 where
  pub entry : Placed
  pub within : IsPlaced entry
  pub is : line ≡ placed_line entry
  pub place_is : place ≡ entry.place
  pub fits : len ≤ length after
  pub record_is : take len after ≡ entry_text entry.entry

-- a line is right, and this is its content; `after` is the line after it was read
abbrev pub Says : List ℕ → List ℕ → Said → Type 0
Says line after (StartSaid now) = (now < 2 ^ 64) × (line ≡ start_line now)
Says line after (EntrySaid place len) = HasPlace line after place len
