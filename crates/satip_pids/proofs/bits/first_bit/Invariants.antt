use Rattle.std.proofs.Common.{◌≡◌, ℕ, ◌*◌, ◌<◌, ◌≤◌, false}
use Rattle.satip_pids.specs.Bits.{has_bit}
use Rattle.satip_pids.proofs.bits.first_bit.Given as goal

abbrev pub invariant-loop-at : goal.invariant-loop-at
invariant-loop-at l = (n : ℕ) → 64 * l.place ≤ n → n < 64 * l.at → has_bit l.words n ≡ false
