use Rattle.std.proofs.Common.{◌-◌, refl}
use Rattle.satip_timer.specs.declared.heap.Heap.{Heap}
use Rattle.satip_timer.specs.Placed.{Moved}
use Rattle.satip_timer.proofs.HeapLaws.{at_end}
use Rattle.satip_timer.proofs.HeapSteps.{drop_heap, drop_placed}
use Rattle.satip_timer.proofs.heap.Heap.remove.Goals as goal

pub settle-requires-clause-placed : goal.settle-requires-clause-placed
settle-requires-clause-placed c =
    let n : Heap = record { keys = c.swap.new.self.keys; places = c.swap.new.self.places; count = c.args.self.now.count - 1 } in
    drop_placed c.args.dues.now c.args.self.now n c.args.key c.requires.before.0 c.requires.before.1 c.requires.due
    record { keys = c.swap.ensures.moved.keys; places = c.swap.ensures.moved.places; pairs = c.swap.ensures.moved.pairs } refl

pub settle-requires-clause-heap : goal.settle-requires-clause-heap
settle-requires-clause-heap c =
    let n : Heap = record { keys = c.swap.new.self.keys; places = c.swap.new.self.places; count = c.args.self.now.count - 1 } in
    drop_heap c.args.dues.now c.args.self.now n c.args.key c.requires.before.0 c.requires.before.1 c.requires.due
    record { keys = c.swap.ensures.moved.keys; places = c.swap.ensures.moved.places; pairs = c.swap.ensures.moved.pairs } refl

pub returns-else-at-last : goal.returns-else-at-last
returns-else-at-last c =
    let n : Heap = record { keys = c.swap.new.self.keys; places = c.swap.new.self.places; count = c.args.self.now.count - 1 } in
    let move : Moved c.args.self.now n _ _ =
    record { keys = c.swap.ensures.moved.keys; places = c.swap.ensures.moved.places; pairs = c.swap.ensures.moved.pairs } in
    record {
      sound = record {
        placed = drop_placed c.args.dues.now c.args.self.now n c.args.key c.requires.before.0 c.requires.before.1 c.requires.due move refl;
        heap = at_end _ _ _ c.if-at-last.false
            (drop_heap c.args.dues.now c.args.self.now n c.args.key c.requires.before.0 c.requires.before.1 c.requires.due move refl);
      };
    }
