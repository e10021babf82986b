use Rattle.std.proofs.Common.{◌≡◌, ◌+◌, ◌*◌, length, take, drop}
use Rattle.std.specs.List.{concat}
use Rattle.circular_buffer.specs.Buffer.{buffer}
use Rattle.satip_base.specs.Output.{Wrote}
use Rattle.satip_flow.proofs.sink.pull_queue.Given as goal

-- the first packets have been moved
abbrev pub invariant-loop-pulled : goal.invariant-loop-pulled
invariant-loop-pulled l = record {
  left : l.queue ≡ buffer (drop l._pulled l.initial.queue.items) l.initial.queue.capacity;
  wrote : Wrote l.initial.out (concat (take l._pulled l.initial.queue.items)) l.out;
  bytes : l.bytes ≡ 188 * length (take l._pulled l.initial.queue.items);
  spare : l.out.reply_spare + l.bytes ≡ l.initial.out.reply_spare;
}
