use Rattle.std.proofs.Common.{◌<◌, ◌-◌, ◌/◌, arith, subst, sym}
use Rattle.satip_timer.specs.Heaps.{IsHeapBut}
use Rattle.satip_timer.specs.Placed.{ranks}
use Rattle.satip_timer.proofs.HeapLaws.{risen, risen_enough}
use Rattle.satip_timer.proofs.HeapSteps.{moved_ranks, moved_within}
use Rattle.satip_timer.proofs.heap.Heap.rise.Goals as goal

pub loop-parent-preserved : goal.loop-parent-preserved
loop-parent-preserved c =
    let dues = c.args.dues.now in
    let before = c.loop-parent.self in
    let after = c.swap.new.self in
    let up : 0 < c.loop-parent.at = c.loop-parent-test.ensures.rises.0 in
    let less : ranks dues before c.loop-parent.at < ranks dues before ((c.loop-parent.at - 1) / 2) = c.loop-parent-test.ensures.rises.1 in
    let in_parent : (c.loop-parent.at - 1) / 2 < before.count = omega (arith, c.loop-parent.invariant.within) in
    record {
      within = omega (arith, in_parent, c.swap.ensures.count);
      placed = moved_within dues before after c.loop-parent.at ((c.loop-parent.at - 1) / 2) c.loop-parent.invariant.within in_parent c.swap.ensures.count
          c.swap.ensures.moved c.loop-parent.invariant.placed;
      heap = subst (λ n. IsHeapBut (ranks dues after) n ((c.loop-parent.at - 1) / 2)) (sym c.swap.ensures.count)
          (risen (ranks dues before) (ranks dues after) before.count c.loop-parent.at up c.loop-parent.invariant.within c.loop-parent.invariant.heap less
          (moved_ranks dues before after _ _ c.swap.ensures.moved));
    }

pub returns : goal.returns
returns c = record {
  sound = record {
    placed = c.loop-parent.invariant.placed;
    heap = risen_enough _ _ _ c.loop-parent.invariant.heap c.loop-parent-test.ensures.rises;
  };
}
