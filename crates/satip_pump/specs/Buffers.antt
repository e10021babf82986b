-- The part of a recording that was read and not yet given.
use Rattle.std.specs.Prelude.{◌≡◌, ◌≢◌, ℕ, ◌+◌, ◌<◌, List, [], ◌∷◌, ◌++◌, length, Option, Some, None}
use Rattle.satip_base.specs.declared.streams.Taken.{Taken}
use Rattle.satip_base.specs.declared.streams.Taken.TheVariants.{Got, End, Failed}
use Rattle.satip_ts.specs.Recording.{cut_packets}
use Rattle.satip_plain.specs.Pumping.{rest_of}

-- a buffer: the waiting packets in order, and the bytes after them that were not searched yet. `room` is the number of packets that may still be added, and
-- `space` the number of bytes
pub record Buffered : Type 0 where
  pub packets : List (List ℕ)
  pub rest : List ℕ
  pub room : ℕ
  pub space : ℕ

-- a buffer into which nothing was read
abbrev pub nothing_read : Buffered
nothing_read = record { packets = []; rest = []; room = 64; space = 12220 }

-- the packet is the first of the list, or the list is empty
abbrev pub IsAtFront : List (List ℕ) → Option (List ℕ) → Type 0
IsAtFront packets None = packets ≡ []
IsAtFront packets (Some packet) = packets ≡ packet ∷ rest_of packets

-- the first packet of the rest moves to the waiting packets; bytes that come later don't change it
pub record CutsOne (b c : Buffered) : Type 0 where
  pub packet : List ℕ
  pub packets : c.packets ≡ b.packets ++ packet ∷ []
  pub first : (more : List ℕ) → cut_packets (b.rest ++ more) ≡ packet ∷ cut_packets (c.rest ++ more)
  pub room : c.room + 1 ≡ b.room

-- the rest has no whole packet; bytes before the next sync byte were dropped
pub record CutsNone (b c : Buffered) : Type 0 where
  pub packets : c.packets ≡ b.packets
  pub same : (more : List ℕ) → cut_packets (b.rest ++ more) ≡ cut_packets (c.rest ++ more)
  pub none : cut_packets c.rest ≡ []
  pub few : length c.rest < 188
  pub room : c.room ≡ b.room

-- the number of bytes taken
abbrev pub bytes_in : Taken → ℕ
bytes_in (Got count) = count
bytes_in End = 0
bytes_in Failed = 0

-- a read moves bytes from the source to the rest, and changes none of them. Or the source is at its end, or it failed
abbrev pub Reads : (tells : Type 0) → List ℕ → List ℕ → ℕ → List ℕ → List ℕ → Taken → Type 0
Reads tells left left' faults' rest rest' (Got count) = tells → rest' ++ left' ≡ rest ++ left
Reads tells left left' faults' rest rest' End = (rest' ≡ rest) × (tells → left ≡ [])
Reads tells left left' faults' rest rest' Failed = (rest' ≡ rest) × (faults' ≢ 0) × (tells → left' ≡ left)
