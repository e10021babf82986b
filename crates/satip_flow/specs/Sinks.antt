-- The sinks of subscribers.
use Rattle.std.specs.Prelude.{◌≡◌, ◌≤◌, length}
use Rattle.satip_flow.specs.declared.sink.Sink.{Sink}
use Rattle.satip_flow.specs.declared.sink.Sink.TheVariants.{Packed, Queued}
use Rattle.satip_flow.specs.Subscription.{Feed, ToAddress, ToQueue}

-- the feed of a sink, as contracts see it
abbrev pub feed_of : Sink → Feed
feed_of (Packed to packer) = ToAddress to packer
feed_of (Queued queue) = ToQueue queue.items

-- a queue has 4096 places
abbrev pub IsSink : Sink → Type 0
IsSink (Packed to packer) = Unit {0}
IsSink (Queued queue) = (queue.capacity ≡ 4096) × (length queue.items ≤ 4096)
