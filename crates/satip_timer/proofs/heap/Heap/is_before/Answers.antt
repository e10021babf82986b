use Rattle.std.proofs.Common.{◌<◌, arith}
use Rattle.std.specs.Prelude.{slice_index}
use Rattle.satip_timer.proofs.HeapSteps.{earlier}
use Rattle.satip_timer.proofs.heap.Heap.is_before.Goals as goal

pub bounds-dues-key : goal.bounds-dues-key
bounds-dues-key c = omega (arith, c.requires.placed.whole, c.requires.placed.pairs.key c.args.first (omega (arith, c.requires.placed.room, c.requires.first)))

pub bounds-dues-other : goal.bounds-dues-other
bounds-dues-other c = omega (
  arith,
  c.requires.placed.whole,
  c.requires.placed.pairs.key c.args.second (omega (arith, c.requires.placed.room, c.requires.second)),
)

pub returns : goal.returns
returns c =
    let first : slice_index c.args.self.now.keys c.args.first < 64 =
    c.requires.placed.pairs.key c.args.first (omega (arith, c.requires.placed.room, c.requires.first)) in
    let second : slice_index c.args.self.now.keys c.args.second < 64 =
    c.requires.placed.pairs.key c.args.second (omega (arith, c.requires.placed.room, c.requires.second)) in
    record {
      before = earlier c.unwrap_or-moment.result c.unwrap_or-later.result _ _ _ _ c.unwrap_or-moment.ensures c.unwrap_or-later.ensures
          c.if-moment-later.false first second;
    }
