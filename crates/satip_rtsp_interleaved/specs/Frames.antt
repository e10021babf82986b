-- Interleaved frames (RFC 2326, 10.12), and the text after those at its start.
use Rattle.std.specs.Prelude.{◌≡◌, ℕ, zero, suc, ◌+◌, ◌*◌, ◌/◌, ◌%◌, ◌==◌, ◌||◌, if◌then◌else◌, Bool, List, [], ◌∷◌, length, Option, Some, None}

-- a frame: `$`, the channel, the number of bytes in 16 bits, the high byte first, and these bytes
abbrev pub frame : ℕ → List ℕ → List ℕ
frame channel bytes = 36 ∷ channel ∷ (length bytes / 256) ∷ (length bytes % 256) ∷ bytes

-- a place in a text: between messages and frames, after a frame's first byte, after its channel, after the high byte of its length, or inside its bytes;
-- `Low` has the high byte, and at `Inside n` n + 1 bytes are still to follow
pub data Spot : Type 0 where
  Between : Spot
  Channel : Spot
  High : Spot
  Low : ℕ → Spot
  Inside : ℕ → Spot

-- the place at which n bytes of a frame are still to follow
abbrev pub inside : ℕ → Spot
inside zero = Between
inside (suc n) = Inside n

-- CR or LF
abbrev pub is_line_end : ℕ → Bool
is_line_end b = b == 13 || b == 10

-- the place after a byte that belongs to no message; none for the first byte of a message
abbrev pub move : Spot → ℕ → Option Spot
move Between b = if is_line_end b then Some Between else if b == 36 then Some Channel else None
move Channel b = Some High
move High b = Some (Low b)
move (Low high) b = Some (inside (high * 256 + b))
move (Inside n) b = Some (inside n)

-- `on` at the next place if there is one, else `here`
abbrev pub passed : Option Spot → (Spot → List ℕ) → List ℕ → List ℕ
passed None on here = here
passed (Some next) on here = on next

-- the text from the first byte of its first message on: after the CR, LF and frames before it
abbrev pub behind : Spot → List ℕ → List ℕ
behind spot [] = []
behind spot (b ∷ text) = passed (move spot b) (λ next. behind next text) (b ∷ text)

-- the bytes begin with the first byte of a message
abbrev pub IsStart : List ℕ → Type 0
IsStart [] = ⊥
IsStart (b ∷ bytes) = move Between b ≡ None
