-- Consecutive frames in a list of bytes, told apart by their lengths.
use Rattle.std.specs.Prelude.{◌≡◌, ℕ, zero, suc, ◌+◌, ◌-◌, ◌*◌, ◌≤◌, List, [], ◌∷◌, length, slice_index, take, drop}
use Rattle.std.specs.List.{concat}
use Rattle.satip_interleave.specs.Frames.{first_frames}

-- the size of the first frame in bytes, by its length field
abbrev pub frame_size : List ℕ → ℕ
frame_size bytes = 4 + slice_index bytes 2 * 256 + slice_index bytes 3

-- the frames of a list of bytes, at most `most` of them
unfoldable pub cut_frames : ℕ → List ℕ → List (List ℕ)
cut_frames zero bytes = []
cut_frames (suc most) [] = []
cut_frames (suc most) (b ∷ bytes) =
    take (frame_size (b ∷ bytes)) (b ∷ bytes) ∷ cut_frames most (drop (frame_size (b ∷ bytes)) (b ∷ bytes))

-- all frames of a list of bytes
abbrev pub frames_of : List ℕ → List (List ℕ)
frames_of bytes = cut_frames (length bytes) bytes

-- the bytes are one frame
pub record IsFrame (bytes : List ℕ) : Type 0 where
  pub head : 4 ≤ length bytes
  pub whole : length bytes ≡ frame_size bytes

-- each of these is one frame
abbrev pub AllFrames : List (List ℕ) → Type 0
AllFrames [] = Unit {0}
AllFrames (f ∷ fs) = IsFrame f × AllFrames fs

-- the bytes are whole frames, one after another
pub record IsFramed (bytes : List ℕ) : Type 0 where
  pub frames : List (List ℕ)
  pub each : AllFrames frames
  pub joined : concat frames ≡ bytes

-- the bytes of the first frames, as many as fit in `room` bytes
abbrev pub first_size : ℕ → List ℕ → ℕ
first_size room bytes = length (concat (first_frames room (frames_of bytes)))

-- a walk over the first frames has passed `count` bytes
pub record IsPast (bytes : List ℕ) (count : ℕ) : Type 0 where
  pub framed : IsFramed (drop count bytes)
  pub rest : count + first_size (65536 - count) (drop count bytes) ≡ first_size 65536 bytes
  pub within : count ≤ length bytes
  pub limit : count ≤ 65536
