-- A text of journals has one content.
use Rattle.std.specs.Prelude.{◌≡◌, ℕ, List, Result}
use Rattle.satip_audit.specs.Journals.{IsJournal, Note}

-- a text has the same notes, or the same first wrong line, however it is read
abbrev pub SaysOneThing : Type 0
SaysOneThing = (text : List ℕ) (a b : Result (List Note) ℕ) → IsJournal text a → IsJournal text b → a ≡ b
