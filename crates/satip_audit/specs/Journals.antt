-- The text of journals: the notes of its lines, or the number of its first wrong line.
use Rattle.std.specs.Prelude.{◌≡◌, ◌≢◌, ℕ, ◌+◌, ◌<◌, ◌^◌, List, [], ◌++◌, length, flat_map, Result, Ok, Err}
use Rattle.satip_base.specs.Output.{Output}
use Rattle.satip_base.specs.Lists.{Each}
use Rattle.satip_plain.specs.Values.{AreBytes}
use Rattle.satip_plain.specs.declared.events.Event.{Event}
use Rattle.satip_plain.specs.declared.answers.Answer.{Answer}
use Rattle.satip_entry_writer.specs.Lines.{entry_line, start_line}
use Rattle.satip_entry_reader.specs.ReadingEntries.{Entry, IsEntry, entry_text}

-- an entry, its place in a history, and the number of its caller
pub record Placed : Type 0 where
  pub place : ℕ
  pub caller : ℕ
  pub entry : Entry

-- the content of a line: the moment of the start, or an entry
pub data Note : Type 0 where
  Start : ℕ → Note
  Entered : Placed → Note

-- the line of an entry
abbrev pub placed_line : Placed → List ℕ
placed_line p = entry_line p.place p.caller p.entry.event p.entry.answer p.entry.reply p.entry.datagrams

-- a line, with the LF that ends it
abbrev pub note_text : Note → List ℕ
note_text (Start now) = start_line now
note_text (Entered p) = placed_line p

-- its numbers are within their types, and its record is one of an entry, in bytes
pub record IsPlaced (p : Placed) : Type 0 where
  pub place : p.place < 2 ^ 64
  pub caller : p.caller < 2 ^ 64
  pub entry : IsEntry p.entry
  pub bytes : AreBytes (entry_text p.entry)

-- the values of a line are within their types
abbrev pub IsNote : Note → Type 0
IsNote (Start now) = now < 2 ^ 64
IsNote (Entered p) = IsPlaced p

-- no line begins a text
abbrev pub BeginsWithNone : List ℕ → Type 0
BeginsWithNone text = (note : Note) (more : List ℕ) → IsNote note → text ≡ note_text note ++ more → ⊥

-- lines, and then a rest that begins with none: its first line is wrong, and has this number, from 1
pub record HasWrongLine (text : List ℕ) (number : ℕ) : Type 0 where
  pub before : List Note
  pub right : Each IsNote before
  pub rest : List ℕ
  pub whole : text ≡ flat_map note_text before ++ rest
  pub more : rest ≢ []
  pub wrong : BeginsWithNone rest
  pub number_is : number ≡ length before + 1

-- these lines and nothing else
pub record IsText (text : List ℕ) (notes : List Note) : Type 0 where
  pub right : Each IsNote notes
  pub whole : text ≡ flat_map note_text notes

-- a text is journals with these notes, or its first wrong line has this number
abbrev pub IsJournal : List ℕ → Result (List Note) ℕ → Type 0
IsJournal text (Ok notes) = IsText text notes
IsJournal text (Err number) = HasWrongLine text number

-- the entry of a line's values and of the output after reading it
abbrev pub placed : ℕ → ℕ → Event → Answer → Output → Placed
placed place caller event answer out = record {
  place = place;
  caller = caller;
  entry = record { event = event; answer = answer; reply = out.reply; datagrams = out.datagrams };
}
