use Rattle.std.proofs.Common.{◌≡◌, [], vec_len, vec_capacity}
use Rattle.std.specs.List.{All}
use Rattle.circular_buffer.specs.Buffer.{buffer}
use Rattle.satip_flow.proofs.flow.make_queues.Given as goal

abbrev pub invariant-loop-made : goal.invariant-loop-made
invariant-loop-made l = record {
  queues : All (λ queue. queue ≡ buffer [] 4096) l.queues.items;
  count : vec_len l.queues ≡ l._made;
  room : vec_capacity l.queues ≡ vec_capacity l.initial.queues;
}
