use Rattle.std.proofs.Common.{◌≡◌, length, vec_len, vec_capacity, ◌≤◌}
use Rattle.satip_rtcp.proofs.kept.KeptTexts.make.Given as goal

abbrev pub invariant-loop-made : goal.invariant-loop-made
invariant-loop-made l = record {
  long : length l.texts.items ≡ l._made;
  count : vec_len l.texts ≡ l._made;
  room : 64 ≤ vec_capacity l.texts;
}
