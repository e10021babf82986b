-- Interleaved frames (RFC 2326, 10.12), and the ones that leave at once.
use Rattle.std.specs.Prelude.{ℕ, ◌+◌, ◌-◌, ◌/◌, ◌%◌, nat_le, ◌&&◌, Bool, List, [], ◌∷◌, length, if◌then◌else◌}
use Rattle.std.specs.List.{concat}

-- a frame: `$`, the channel, the number of the bytes that follow in 16 bits, high byte first, and these bytes
abbrev pub frame : ℕ → List ℕ → List ℕ
frame channel bytes = 36 ∷ channel ∷ (length bytes / 256) ∷ (length bytes % 256) ∷ bytes

-- a frame with these bytes fits after others: at most 65535 bytes, as 16 bits give their number, and at most 524288 bytes for all frames together
abbrev pub fits_behind : List (List ℕ) → List ℕ → Bool
fits_behind frames bytes = nat_le (length bytes) 65535 && nat_le (length (concat frames) + 4 + length bytes) 524288

-- the first frames, as many as fit in `room` bytes
abbrev pub first_frames : ℕ → List (List ℕ) → List (List ℕ)
first_frames room [] = []
first_frames room (f ∷ fs) = if nat_le (length f) room then f ∷ first_frames (room - length f) fs else []

-- the frames after those
abbrev pub later_frames : ℕ → List (List ℕ) → List (List ℕ)
later_frames room [] = []
later_frames room (f ∷ fs) = if nat_le (length f) room then later_frames (room - length f) fs else f ∷ fs
