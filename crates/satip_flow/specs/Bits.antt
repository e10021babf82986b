-- Bits of a word of 64 bits.
use Rattle.std.specs.Prelude.{◌≡◌, ℕ, ◌<◌, ◌≤◌}
use Rattle.std.specs.Int.{bit_at}

-- the least bit from `from` on that is set, or 64
pub record IsNextBit (word from next : ℕ) : Type 0 where
  pub behind : from ≤ next
  pub within : next ≤ 64
  pub is_set : next < 64 → bit_at word next ≡ 1
  pub clear : (n : ℕ) → from ≤ n → n < next → bit_at word n ≡ 0
