use Rattle.std.proofs.Common.{◌+◌, arith, refl}
use Rattle.satip_timer.specs.declared.heap.Heap.{Heap}
use Rattle.satip_timer.proofs.HeapSteps.{add_heap, add_place, add_placed}
use Rattle.satip_timer.proofs.heap.Heap.add.Goals as goal

pub swap-requires-clause-second : goal.swap-requires-clause-second
swap-requires-clause-second c = omega (arith, add_place c.args.dues.now c.args.self.now c.args.self.now c.args.key c.requires.before c.requires.due)

pub rise-requires-clause-placed : goal.rise-requires-clause-placed
rise-requires-clause-placed c =
    let n : Heap = record { keys = c.swap.new.self.keys; places = c.swap.new.self.places; count = c.args.self.now.count + 1 } in
    add_placed c.args.dues.now c.args.self.now n c.args.key c.requires.before c.requires.due
    record { keys = c.swap.ensures.moved.keys; places = c.swap.ensures.moved.places; pairs = c.swap.ensures.moved.pairs } refl

pub rise-requires-clause-heap : goal.rise-requires-clause-heap
rise-requires-clause-heap c =
    let n : Heap = record { keys = c.swap.new.self.keys; places = c.swap.new.self.places; count = c.args.self.now.count + 1 } in
    add_heap c.args.dues.now c.args.self.now n c.args.key c.requires.before c.requires.due
    record { keys = c.swap.ensures.moved.keys; places = c.swap.ensures.moved.places; pairs = c.swap.ensures.moved.pairs } refl
