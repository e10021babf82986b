use Rattle.std.proofs.Common.{◌≡◌, vec_capacity}
use Rattle.satip_flow.specs.Subscription.{changed}
use Rattle.satip_flow.proofs.Sweep.{sweep}
use Rattle.satip_flow.proofs.flow.change_all.Given as goal

abbrev pub invariant-loop-at : goal.invariant-loop-at
invariant-loop-at l = record {
  swept : l.subscribers.items ≡ sweep (changed l.stream l.front l.pids) l.at l.initial.subscribers.items;
  capacity : vec_capacity l.subscribers ≡ vec_capacity l.initial.subscribers;
}
