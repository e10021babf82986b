use Rattle.std.proofs.Common.{◌≡◌, ◌-◌, ◌<◌, ◌≤◌, vec_len, vec_capacity}
use Rattle.std.specs.Int.{bit_at}
use Rattle.satip_flow.proofs.Passing.{IsGivenTo}
use Rattle.satip_flow.proofs.flow.give_all.Given as goal

abbrev pub invariant-loop-at : goal.invariant-loop-at
invariant-loop-at l = record {
  given_to : IsGivenTo l.front l.packet l.clock l.initial.subscribers.items l.initial.out l.at l.subscribers.items l.out l.overrun;
  within : l.at ≤ 64;
  is_set : l.at < 64 → bit_at l.places l.at ≡ 1;
  few : vec_len l.subscribers ≤ 64;
  capacity : vec_capacity l.subscribers ≡ vec_capacity l.initial.subscribers;
}

abbrev pub decreases-loop-at : goal.decreases-loop-at
decreases-loop-at l = 64 - l.at
