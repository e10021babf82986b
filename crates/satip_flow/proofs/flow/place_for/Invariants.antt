use Rattle.std.proofs.Common.{◌≡◌, ◌++◌, take, drop}
use Rattle.satip_flow.specs.Subscription.{Subscription}
use Rattle.satip_flow.specs.Subscriptions.{put}
use Rattle.satip_flow.proofs.flow.place_for.Given as goal

-- those so far stand before it
abbrev pub invariant-loop-at : goal.invariant-loop-at
invariant-loop-at l = (s : Subscription) → s.place ≡ l.place → put s l.subscribers ≡ take l.at l.subscribers ++ put s (drop l.at l.subscribers)
