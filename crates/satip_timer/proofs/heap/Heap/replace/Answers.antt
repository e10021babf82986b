use Rattle.satip_timer.proofs.HeapSteps.{change_heap, change_placed}
use Rattle.satip_timer.proofs.heap.Heap.replace.Goals as goal

pub settle-requires-clause-placed : goal.settle-requires-clause-placed
settle-requires-clause-placed c = change_placed c.args.dues.now c.args.self.now c.args.key c.requires.before.0 c.requires.before.1 c.requires.due

pub settle-requires-clause-heap : goal.settle-requires-clause-heap
settle-requires-clause-heap c = change_heap c.args.dues.now c.args.self.now c.args.key c.requires.before.0 c.requires.before.1 c.requires.due
