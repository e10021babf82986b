-- Laws of all texts.
use Rattle.std.specs.Prelude.{◌≡◌, ℕ, ◌≤◌, List, ◌++◌, length}
use Rattle.satip_frame.specs.declared.framing.Break.{Break}
use Rattle.satip_frame.specs.Said.{Said}
use Rattle.satip_frame.specs.Stream.{Tail, Broken, Messages, AreFirst}

-- a text has one list of messages and one tail
abbrev pub OneReading : Type 0
OneReading =
    (text : List ℕ) (ms ns : List Said) (s t : Tail) → Messages text ms s → Messages text ns t → (ms ≡ ns) × (s ≡ t)

-- the messages read before stay when more bytes follow, and a broken text stays broken
pub record KeptByMoreBytes : Type 0 where
  pub messages : (text more : List ℕ) (ms ns : List Said) (s t : Tail) → Messages text ms s → Messages (text ++ more) ns t
      → (others : List Said) × (ns ≡ ms ++ others)
  pub broken : (text more : List ℕ) (ms : List Said) (cause : Break) → Messages text ms (Broken cause) → Messages (text ++ more) ms (Broken cause)

-- if a text begins with some messages, they are the first of its messages
abbrev pub FirstIsFirst : Type 0
FirstIsFirst =
    (text : List ℕ) (ms ns : List Said) (t : Tail) → AreFirst ms text → Messages text ns t → (others : List Said) × (ns ≡ ms ++ others)

-- all the messages of a text are its first ones
abbrev pub AllAreFirst : Type 0
AllAreFirst = (text : List ℕ) (ms : List Said) (t : Tail) → Messages text ms t → AreFirst ms text

-- the first messages of a text stay its first ones when more bytes follow
abbrev pub FirstByMoreBytes : Type 0
FirstByMoreBytes = (text more : List ℕ) (ms : List Said) → AreFirst ms text → AreFirst ms (text ++ more)

-- no text has more messages than bytes
abbrev pub NoMoreThanBytes : Type 0
NoMoreThanBytes = (text : List ℕ) (ms : List Said) → AreFirst ms text → length ms ≤ length text

-- each text has messages and a tail
abbrev pub HasReading : Type 0
HasReading = (text : List ℕ) → (ms : List Said) × (t : Tail) × Messages text ms t
