-- Pauses, one after another.
use Rattle.std.proofs.Common.{◌≡◌, ℕ, suc, ◌+◌, ◌<◌, ◌≤◌, ◌⊎◌, subst, arith, inl, inr}
use Rattle.satip_world.specs.Counts.{Rises}
use Rattle.satip_world.specs.Pausing.{RisesBy}

pub rises_none : (a : ℕ) → RisesBy 0 a a
rises_none a = record { rose = inl (omega arith); most = omega arith; kept = omega arith }

-- one pause more
pub rises_once : (n a b c : ℕ) → RisesBy n a b → Rises b c → c ≤ suc b → RisesBy (n + 1) a c
rises_once n a b c r more once = record {
  rose = one r.rose more.rose;
  most = omega (arith, r.most, once);
  kept = omega (arith, r.kept, more.kept);
}
  where
    one : (a + n ≤ b) ⊎ (18446744073709551615 ≤ b) → (b < c) ⊎ (18446744073709551615 ≤ c) → (a + (n + 1) ≤ c) ⊎ (18446744073709551615 ≤ c)
    one (inl x) (inl y) = inl (omega arith)
    one (inr x) (inl y) = inr (omega arith)
    one x (inr y) = inr y

-- more pauses
pub rises_then : (m n a b c : ℕ) → RisesBy m a b → RisesBy n b c → RisesBy (m + n) a c
rises_then m n a b c r s = record {
  rose = both r.rose s.rose;
  most = omega (arith, r.most, s.most);
  kept = omega (arith, r.kept, s.kept);
}
  where
    kept : b ≤ c
    kept = s.kept

    both : (a + m ≤ b) ⊎ (18446744073709551615 ≤ b) → (b + n ≤ c) ⊎ (18446744073709551615 ≤ c) → (a + (m + n) ≤ c) ⊎ (18446744073709551615 ≤ c)
    both (inl x) (inl y) = inl (omega arith)
    both (inr x) (inl y) = inr (omega arith)
    both x (inr y) = inr y

pub rises_same : (m n a b : ℕ) → m ≡ n → RisesBy m a b → RisesBy n a b
rises_same m n a b is r = let P : ℕ → Type 0 = λ k. RisesBy k a b in subst P is r
