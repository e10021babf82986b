use Rattle.std.proofs.Common.{◌≡◌, ◌≤◌, [], All, vec_len, vec_capacity}
use Rattle.satip_interleave.proofs.lanes.make_queues.Given as goal

abbrev pub invariant-loop-made : goal.invariant-loop-made
invariant-loop-made l = record {
  queues : All (λ queue. queue ≡ []) l.queues.items;
  count : vec_len l.queues ≡ l._made;
  room : 64 ≤ vec_capacity l.queues;
}
