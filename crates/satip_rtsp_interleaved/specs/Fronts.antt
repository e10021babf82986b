-- The start of bytes, as the code finds it.
use Rattle.std.specs.Prelude.{◌≡◌, ℕ, ◌<◌, ◌≤◌, Bool, List, [], ◌++◌, length, drop, Option, Some, None, is_some}
use Rattle.satip_frame.specs.declared.framing.Break.{Break}
use Rattle.satip_frame.specs.Stream.{Broken, skip_newlines, Ends}
use Rattle.satip_frame.specs.Held.{Held as Framed}
use Rattle.satip_rtsp_interleaved.specs.Frames.{Between, inside, behind, IsStart}
use Rattle.satip_rtsp_interleaved.specs.Held.{Held}
use Rattle.satip_rtsp_interleaved.specs.declared.passing.Front.{Front}
use Rattle.satip_rtsp_interleaved.specs.declared.passing.Front.TheVariants.{Passed, Open, Start}

-- after the first `count` bytes, `left` bytes of a frame are to follow, whatever the later bytes are
pub record IsPassed (bytes : List ℕ) (to_come count left : ℕ) : Type 0 where
  pub within : count ≤ length bytes
  pub same : (more : List ℕ) → behind (inside to_come) (bytes ++ more) ≡ behind (inside left) (drop count bytes ++ more)

-- the bytes have no byte of a message; more bytes are needed
pub record IsOpen (bytes : List ℕ) (to_come : ℕ) : Type 0 where
  pub none : behind (inside to_come) bytes ≡ []
  pub short : length bytes < 4

-- the bytes begin with a message
pub record IsAtMessage (bytes : List ℕ) (to_come : ℕ) : Type 0 where
  pub between : to_come ≡ 0
  pub start : IsStart bytes

-- the bytes begin as this answer says, if `to_come` bytes of a frame are to follow
abbrev pub IsFront : List ℕ → ℕ → Front → Type 0
IsFront bytes to_come (Passed count left) = IsPassed bytes to_come count left × (0 < count)
IsFront bytes to_come Open = IsOpen bytes to_come
IsFront bytes to_come Start = IsAtMessage bytes to_come

-- a broken text is broken at the parter's place, which is that of its framer: only line ends are before it
abbrev pub IsEnd : List ℕ → ℕ → Option Break → Type 0
IsEnd bytes to_come None = Unit {0}
IsEnd bytes to_come (Some cause) =
    (to_come ≡ 0) × (behind Between bytes ≡ skip_newlines bytes) × Ends (skip_newlines bytes) (Broken cause)

-- the parter of a framer, if `to_come` bytes of a frame are to follow
abbrev pub parter_of : ℕ → Framed → Held
parter_of to_come framer = record { to_come = to_come; bytes = framer.bytes; found = framer.found; ended = framer.ended }

-- the invariant of each parter
pub record IsParter (framer : Framed) (to_come : ℕ) (ended : Bool) : Type 0 where
  pub known : ended ≡ is_some framer.ended
  pub rests : IsEnd framer.bytes to_come framer.ended
