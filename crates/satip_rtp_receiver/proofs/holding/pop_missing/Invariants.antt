use Rattle.std.proofs.Common.{◌≡◌, ◌++◌, ◌-◌, ◌≤◌, replicate, None}
use Rattle.satip_rtp_receiver.proofs.holding.pop_missing.Given as goal

-- all that was popped was missing
abbrev pub invariant-loop-count : goal.invariant-loop-count
invariant-loop-count l = record {
  popped : l.initial.ring.items ≡ replicate l.count None ++ l.ring.items;
  capacity : l.ring.capacity ≡ l.initial.ring.capacity;
  within : l.count ≤ l.most;
}

abbrev pub decreases-loop-count : goal.decreases-loop-count
decreases-loop-count l = l.most - l.count
