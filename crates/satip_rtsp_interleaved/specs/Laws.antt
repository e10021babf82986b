-- Laws of all texts.
use Rattle.std.specs.Prelude.{◌≡◌, ℕ, ◌≤◌, List, [], ◌∷◌, ◌++◌, length}
use Rattle.satip_frame.specs.declared.framing.Break.{Break}
use Rattle.satip_frame.specs.Said.{Said}
use Rattle.satip_frame.specs.Stream.{Tail, Unfinished, Broken, Begins}
use Rattle.satip_rtsp_interleaved.specs.Frames.{frame, IsStart}
use Rattle.satip_rtsp_interleaved.specs.Parts.{Parts, AreFirst}

-- a text has one list of messages and one tail
abbrev pub OneReading : Type 0
OneReading =
    (text : List ℕ) (ms ns : List Said) (s t : Tail) → Parts text ms s → Parts text ns t → (ms ≡ ns) × (s ≡ t)

-- each text has messages and a tail
abbrev pub HasReading : Type 0
HasReading = (text : List ℕ) → (ms : List Said) × (t : Tail) × Parts text ms t

-- the messages read before stay when more bytes follow, and a broken text stays broken
pub record KeptByMoreBytes : Type 0 where
  pub messages : (text more : List ℕ) (ms ns : List Said) (s t : Tail) → Parts text ms s → Parts (text ++ more) ns t
      → (others : List Said) × (ns ≡ ms ++ others)
  pub broken : (text more : List ℕ) (ms : List Said) (cause : Break) → Parts text ms (Broken cause) → Parts (text ++ more) ms (Broken cause)

-- if a text begins with some messages, they are the first of its messages
abbrev pub FirstIsFirst : Type 0
FirstIsFirst =
    (text : List ℕ) (ms ns : List Said) (t : Tail) → AreFirst ms text → Parts text ns t → (others : List Said) × (ns ≡ ms ++ others)

-- a whole frame before a text changes neither its messages nor its tail, whatever its channel and its bytes
abbrev pub FramesCountNowhere : Type 0
FramesCountNowhere =
    (channel : ℕ) (bytes text : List ℕ) (ms : List Said) (t : Tail) → length bytes ≤ 65535 → Parts text ms t → Parts (frame channel bytes ++ text) ms t

-- a frame with its channel and content, or a message with its bytes and its content
pub data Part : Type 0 where
  Frame : ℕ → List ℕ → Part
  Message : List ℕ → Said → Part

-- the bytes of parts, one after another
abbrev pub joined : List Part → List ℕ
joined [] = []
joined (Frame channel bytes ∷ parts) = frame channel bytes ++ joined parts
joined (Message bytes m ∷ parts) = bytes ++ joined parts

-- their messages
abbrev pub messages_in : List Part → List Said
messages_in [] = []
messages_in (Frame channel bytes ∷ parts) = messages_in parts
messages_in (Message bytes m ∷ parts) = m ∷ messages_in parts

-- each frame fits 16 bits of length; each message takes all of its bytes, and its first byte is not of a line end or frame
abbrev pub AreWhole : List Part → Type 0
AreWhole [] = Unit {0}
AreWhole (Frame channel bytes ∷ parts) = (length bytes ≤ 65535) × AreWhole parts
AreWhole (Message bytes m ∷ parts) = IsStart bytes × Begins bytes m [] × AreWhole parts

-- frames and messages one after another, in any order, are read as these messages, and nothing follows them
abbrev pub WholePartsAreRead : Type 0
WholePartsAreRead = (parts : List Part) → AreWhole parts → Parts (joined parts) (messages_in parts) Unfinished
