use Rattle.std.proofs.Common.{◌<◌, arith, subst, sym}
use Rattle.satip_timer.specs.Heaps.{IsHeapUnder, IsFirstChild}
use Rattle.satip_timer.specs.Placed.{ranks}
use Rattle.satip_timer.proofs.HeapLaws.{sunk}
use Rattle.satip_timer.proofs.HeapSteps.{moved_ranks, moved_within}
use Rattle.satip_timer.proofs.heap.Heap.sink.Goals as goal

pub loop-child-preserved : goal.loop-child-preserved
loop-child-preserved c =
    let dues = c.args.dues.now in
    let before = c.loop-child.self in
    let after = c.swap.new.self in
    let first : IsFirstChild (ranks dues before) before.count c.loop-child.at c.in-Some.child = c.in-Some.ensures.child in
    let less : ranks dues before c.in-Some.child < ranks dues before c.loop-child.at = c.if-not-is_before.ensures.before in
    record {
      within = omega (arith, first.within, c.swap.ensures.count);
      placed = moved_within dues before after c.loop-child.at c.in-Some.child c.loop-child.invariant.within first.within c.swap.ensures.count
          c.swap.ensures.moved c.loop-child.invariant.placed;
      heap = subst (λ n. IsHeapUnder (ranks dues after) n c.in-Some.child) (sym c.swap.ensures.count)
          (sunk (ranks dues before) (ranks dues after) before.count c.loop-child.at c.in-Some.child c.loop-child.invariant.heap first less
          (moved_ranks dues before after _ _ c.swap.ensures.moved));
    }
