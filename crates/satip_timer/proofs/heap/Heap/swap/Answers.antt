use Rattle.std.proofs.Common.{◌≡◌, length, rules}
use Rattle.satip_timer.proofs.HeapSteps.{moved}
use Rattle.satip_timer.proofs.heap.Heap.swap.Goals as goal

pub put-requires-clause-key : goal.put-requires-clause-key
put-requires-clause-key c = c.requires.pairs.key c.args.second c.requires.second

pub put-requires-2-clause-key : goal.put-requires-2-clause-key
put-requires-2-clause-key c = c.requires.pairs.key c.args.first c.requires.first

pub returns-clause-moved : goal.returns-clause-moved
returns-clause-moved c =
    let keys : length c.args.self.now.keys ≡ 64 = search rules in
    let places : length c.args.self.now.places ≡ 64 = search rules in
    moved c.args.self.now c.put.new.self c.put-2.new.self c.args.first c.args.second c.requires.first c.requires.second keys places c.requires.pairs
    c.put.ensures.keys c.put.ensures.places c.put-2.ensures.keys c.put-2.ensures.places
