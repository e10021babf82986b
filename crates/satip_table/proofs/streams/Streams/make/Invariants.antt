use Rattle.std.proofs.Common.{◌≡◌, ◌+◌, ◌<◌, ◌≤◌, ℕ, length, get_or, vec_len, vec_capacity}
use Rattle.satip_table.specs.Numbered.{no_stream}
use Rattle.satip_table.proofs.streams.Streams.make.Given as goal

abbrev pub invariant-loop-place : goal.invariant-loop-place
invariant-loop-place l = record {
  long : length l.streams.items ≡ l.place;
  len : vec_len l.streams ≡ l.place;
  room : 64 ≤ vec_capacity l.streams;
  numbers : (k : ℕ) → k < l.place → (get_or l.streams.items k no_stream).number ≡ k + 1;
}
