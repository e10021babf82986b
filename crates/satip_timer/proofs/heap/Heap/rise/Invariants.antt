use Rattle.std.proofs.Common.{◌<◌}
use Rattle.satip_timer.specs.Heaps.{IsHeapBut}
use Rattle.satip_timer.specs.Placed.{ranks, Placed}
use Rattle.satip_timer.proofs.heap.Heap.rise.Given as goal

abbrev pub invariant-loop-parent : goal.invariant-loop-parent
invariant-loop-parent l = record {
  within : l.at < l.self.count;
  placed : Placed l.dues l.self;
  heap : IsHeapBut (ranks l.dues l.self) l.self.count l.at;
}

abbrev pub decreases-loop-parent : goal.decreases-loop-parent
decreases-loop-parent l = l.at
