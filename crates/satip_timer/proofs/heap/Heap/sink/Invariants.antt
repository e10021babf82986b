use Rattle.std.proofs.Common.{◌<◌, ◌-◌}
use Rattle.satip_timer.specs.Heaps.{IsHeapUnder}
use Rattle.satip_timer.specs.Placed.{ranks, Placed}
use Rattle.satip_timer.proofs.heap.Heap.sink.Given as goal

abbrev pub invariant-loop-child : goal.invariant-loop-child
invariant-loop-child l = record {
  within : l.at < l.self.count;
  placed : Placed l.dues l.self;
  heap : IsHeapUnder (ranks l.dues l.self) l.self.count l.at;
}

abbrev pub decreases-loop-child : goal.decreases-loop-child
decreases-loop-child l = l.self.count - l.at
