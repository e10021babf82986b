-- Where a sequence number lies, by how far it is ahead of the greatest and of the next one.
use Rattle.std.proofs.Common.{◌≡◌, ℕ, ◌+◌, ◌-◌, ◌%◌, ◌<◌, ◌≤◌, None, Some, arith}
use Rattle.std.proofs.lemmas.Bool.Decides.{nat_tests}
use Rattle.satip_rtp_receiver.specs.Caught.{index_ahead}
use Rattle.satip_rtp_receiver.specs.Catching.{ahead}

pub index-near : (m far : ℕ) → far < 32768 → index_ahead m far ≡ Some (m + far)
index-near m far h = grind (arith, nat_tests)

pub index-back : (m far : ℕ) → 32768 ≤ far → 65536 ≤ m + far → far < 65536 → index_ahead m far ≡ Some (m + far - 65536)
index-back m far h g l = grind (arith, nat_tests)

pub index-none : (m far : ℕ) → 32768 ≤ far → m + far < 65536 → index_ahead m far ≡ None
index-none m far h g = grind (arith, nat_tests)

-- the place of a number that is so far ahead of the greatest index
pub place-near : (first m p number far : ℕ) → number < 65536 → p ≤ m + 1 → m + 1 ≤ p + 64 → far ≡ ahead number ((first + m) % 65536)
    → far < 32768 → p ≤ m + far → ahead number ((first + p) % 65536) ≡ m + far - p
place-near first m p number far h a b e f g = omega arith

pub place-back : (first m p number far : ℕ) → number < 65536 → p ≤ m + 1 → m + 1 ≤ p + 64 → far ≡ ahead number ((first + m) % 65536)
    → p + 65536 ≤ m + far → ahead number ((first + p) % 65536) ≡ m + far - 65536 - p
place-back first m p number far h a b e g = omega arith

pub place-before : (first m p number far : ℕ) → number < 65536 → p ≤ m + 1 → m + 1 ≤ p + 64 → far ≡ ahead number ((first + m) % 65536)
    → far < 32768 → m + far < p → m + 1 - p + 32767 ≤ ahead number ((first + p) % 65536)
place-before first m p number far h a b e f g = omega arith

pub place-behind : (first m p number far : ℕ) → number < 65536 → p ≤ m + 1 → m + 1 ≤ p + 64 → far ≡ ahead number ((first + m) % 65536)
    → 32768 ≤ far → m + far < p + 65536 → m + 1 - p + 32767 ≤ ahead number ((first + p) % 65536)
place-behind first m p number far h a b e f g = omega arith
