-- The subscribers that have a queue.
use Rattle.std.specs.Prelude.{Bool, true, false}
use Rattle.satip_flow.specs.Subscription.{Subscription, Feed, ToAddress, ToQueue}

-- whether packets go into a queue
abbrev pub is_queued : Feed → Bool
is_queued (ToAddress to p) = false
is_queued (ToQueue packets) = true

-- whether a subscriber has a queue
abbrev pub has_queue : Subscription → Bool
has_queue s = is_queued s.feed
