use Rattle.std.proofs.Common.{◌≡◌, ℕ, ◌<◌, length, get_or}
use Rattle.satip_timer.proofs.heap.Heap.new.Given as goal

abbrev pub invariant-loop-key : goal.invariant-loop-key
invariant-loop-key l = (length l.keys ≡ 64) × ((i : ℕ) → i < l.key → get_or l.keys i 0 ≡ i)
