-- Indexes of journals: their start lines, and the positions of their entries' records.
use Rattle.std.specs.Prelude.{◌≡◌, ℕ, ◌+◌, ◌≤◌, List, [], ◌∷◌, ◌++◌, length, take, drop, Ok, Err}
use Rattle.std.specs.List.{All}
use Rattle.satip_base.specs.Lists.{Has}
use Rattle.satip_audit.specs.declared.index.Spot.{Spot}
use Rattle.satip_audit.specs.Spots.{places_of}
use Rattle.satip_entry_reader.specs.ReadingEntries.{entry_text}
use Rattle.satip_audit.specs.Journals.{IsJournal, Note, Placed}
use Rattle.satip_audit.specs.Verdicts.{entered, places_in, starts}
use Rattle.satip_audit.specs.declared.journals.JournalFault.{JournalFault}
use Rattle.satip_audit.specs.declared.journals.JournalFault.TheVariants.{WrongLine, OutOfMemory}
use Rattle.satip_audit.specs.declared.journals.Starts.{Starts}
use Rattle.satip_audit.specs.declared.journals.Starts.TheVariants.{Missing, One, Several}
use Rattle.satip_audit.specs.declared.indexing.Said.{Said}
use Rattle.satip_audit.specs.declared.indexing.Said.TheVariants.{Start as StartSaid, Entry as EntrySaid}

-- the start lines name these moments
abbrev pub AreStarts : List ℕ → Starts → Type 0
AreStarts moments Missing = moments ≡ []
AreStarts moments (One now) = moments ≡ now ∷ []
AreStarts moments Several = 2 ≤ length moments

-- a spot has the place of an entry, and its position among some bytes is that of the entry's record
pub record Names (records : List ℕ) (entries : List Placed) (spot : Spot) : Type 0 where
  pub entry : Placed
  pub has : Has entry entries
  pub place : spot.place ≡ entry.place
  pub within : spot.at + spot.len ≤ length records
  pub record_is : take spot.len (drop spot.at records) ≡ entry_text entry.entry

-- an index has the content of these lines, with their records among some bytes
pub record Indexes (records : List ℕ) (notes : List Note) (moments : Starts) (spots : List Spot) : Type 0 where
  pub starts_are : AreStarts (starts notes) moments
  pub places_are : places_of spots ≡ places_in (entered notes)
  pub names : All (Names records (entered notes)) spots

-- no line of a text is wrong, and this is its index, with the records among some bytes
pub record IsIndex (text records : List ℕ) (moments : Starts) (spots : List Spot) : Type 0 where
  pub notes : List Note
  pub journal : IsJournal text (Ok notes)
  pub indexes : Indexes records notes moments spots

-- the first wrong line of a text has this number; out of memory says nothing of the text
abbrev pub IsFaultOf : List ℕ → JournalFault → Type 0
IsFaultOf text (WrongLine number) = IsJournal text (Err number)
IsFaultOf text OutOfMemory = Unit {0}

-- the spot of an entry: its place in the history, and its record's position and length
abbrev pub spot_at : ℕ → ℕ → ℕ → Spot
spot_at place at len = record { place = place; at = at; len = len }

-- an index with one line more
abbrev pub AddsLine : Said → ℕ → Starts → List Spot → Starts → List Spot → Type 0
AddsLine (StartSaid now) at s spots t more =
    ((moments : List ℕ) → AreStarts moments s → AreStarts (moments ++ now ∷ []) t) × (more ≡ spots)
AddsLine (EntrySaid place len) at s spots t more = (t ≡ s) × (more ≡ spots ++ spot_at place at len ∷ [])
