-- Transport packets (ISO 13818-1, 2.4.3), as lists of bytes.
use Rattle.std.specs.Prelude.{ℕ, ◌≡◌, ◌+◌, ◌*◌, ◌%◌, List, length, slice_index}

-- a transport packet has 188 bytes, and begins with the sync byte 0x47
pub record IsPacket (bytes : List ℕ) : Type 0 where
  pub whole : length bytes ≡ 188
  pub synchronized : slice_index bytes 0 ≡ 71

-- the packet identifier: the low five bits of the second byte, followed by the third
abbrev pub pid_of : List ℕ → ℕ
pid_of bytes = slice_index bytes 1 % 32 * 256 + slice_index bytes 2
