-- Sets of numbers below 8192 as bits: bit `n % 64` of word `n / 64` is 1 if `n` is in the set.
use Rattle.std.specs.Prelude.{◌≡◌, ℕ, zero, suc, ◌-◌, ◌/◌, ◌%◌, ◌<◌, ◌≤◌, ◌==◌, ◌⊎◌, Bool, true, false, List, [], ◌∷◌, length, slice_index_or, if◌then◌else◌}
use Rattle.std.specs.Int.{bit_at}
use Rattle.satip_pids.specs.Pids.{Pids, Every, Only}

-- whether the bit of a number is set
abbrev pub has_bit : List ℕ → ℕ → Bool
has_bit words n = bit_at (slice_index_or words (n / 64) 0) (n % 64) == 1

-- of the `count` numbers from `low` on, those whose bit is set
unfoldable pub members_from : List ℕ → ℕ → ℕ → List ℕ
members_from words low zero = []
members_from words low (suc count) =
    if has_bit words low then low ∷ members_from words (suc low) count else members_from words (suc low) count

-- of the numbers from `low` on, those whose bit is set
unfoldable pub members_above : List ℕ → ℕ → List ℕ
members_above words low = members_from words low (8192 - low)

-- the numbers whose bit is set
unfoldable pub members : List ℕ → List ℕ
members words = members_from words 0 8192

-- the set of words with `count` bits set
unfoldable pub pids_of : List ℕ → ℕ → Pids
pids_of words count = if count == 8192 then Every else Only (members words)

-- at most 256 bits are set, and count is their number
pub record IsListed (words : List ℕ) (count : ℕ) : Type 0 where
  pub few : count ≤ 256
  pub counted : length (members words) ≡ count

-- every bit is set, and count is their number
pub record IsWhole (words : List ℕ) (count : ℕ) : Type 0 where
  pub counted : count ≡ 8192
  pub full : (n : ℕ) → n < 8192 → has_bit words n ≡ true

-- the words and the count of a set, which lists PIDs or is that of all
pub record IsBits (words : List ℕ) (count : ℕ) : Type 0 where
  pub size : length words ≡ 128
  pub kept : IsListed words count ⊎ IsWhole words count

-- no bit is set from `low` on
pub record HasNoneFrom (words : List ℕ) (low : ℕ) : Type 0 where
  pub clear : (n : ℕ) → low ≤ n → n < 8192 → has_bit words n ≡ false

-- the least number from `low` on whose bit is set
pub record IsNextFrom (words : List ℕ) (low next : ℕ) : Type 0 where
  pub from : low ≤ next
  pub below : next < 8192
  pub is_set : has_bit words next ≡ true
  pub clear : (n : ℕ) → low ≤ n → n < next → has_bit words n ≡ false
