-- The packets of a datagram, as bytes.
use Rattle.std.specs.Prelude.{ℕ, ◌≡◌, ◌*◌, ◌%◌, ◌<◌, ◌≤◌, List, length, slice_index}

-- 1 to 7 transport packets: each has 188 bytes, and begins with the sync byte
pub record ArePackets (bytes : List ℕ) : Type 0 where
  pub whole : length bytes % 188 ≡ 0
  pub some : 188 ≤ length bytes
  pub few : length bytes ≤ 1316
  pub synchronized : (k : ℕ) → 188 * k < length bytes → slice_index bytes (188 * k) ≡ 71
