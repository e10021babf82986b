use Rattle.std.proofs.Common.{◌≡◌, ◌<◌, ◌≤◌, ℕ, length, get_or, vec_len, vec_capacity}
use Rattle.satip_table.specs.Seated.{no_seat}
use Rattle.satip_table.proofs.seats.Seats.make.Given as goal

abbrev pub invariant-loop-slot : goal.invariant-loop-slot
invariant-loop-slot l = record {
  long : length l.seats.items ≡ l.slot;
  len : vec_len l.seats ≡ l.slot;
  room : 64 ≤ vec_capacity l.seats;
  slots : (k : ℕ) → k < l.slot → (get_or l.seats.items k no_seat).slot ≡ k;
}
