use Rattle.std.proofs.Common.{◌<◌, length, get_or, set, ap, ◌∙◌, arith}
use Rattle.satip_flow.specs.Subscription.{changed}
use Rattle.satip_flow.proofs.Sweep.{sweep, sweep-next, sweep-more}
use Rattle.satip_flow.proofs.RoomLemmas.{someone}
use Rattle.satip_flow.proofs.flow.change_all.Goals as goal

pub loop-at-preserved : goal.loop-at-preserved
loop-at-preserved c =
    let f = changed c.args.stream c.args.front c.args.pids.now in
    let xs = c.args.subscribers.now.items in
    let i = c.loop-at.at in
    let so_far = c.loop-at.invariant.swept in
    let inside : i < length xs = omega arith in
    record {
      swept = c.change_at.ensures.changed someone
          ∙ ap (λ ys. set ys i (f (get_or ys i someone))) so_far
          ∙ ap (λ y. set (sweep f i xs) i (f y)) (sweep-next f i xs someone)
          ∙ sweep-more f i xs someone inside;
      capacity = c.change_at.ensures.capacity ∙ c.loop-at.invariant.capacity;
    }
