-- The subscribers of a flow, in order of stream and then of count.
use Rattle.std.specs.Prelude.{ℕ, ◌≡◌, ◌<◌, ◌≤◌, ◌==◌, ◌&&◌, ◌||◌, nat_lt, not, Bool, false, List, [], ◌∷◌, map, filter, find, Option, Some, None, if◌then◌else◌}
use Rattle.std.specs.List.{list_any}
use Rattle.std.specs.Option.{option_map, option_and_then}
use Rattle.satip_base.specs.Output.{Datagram}
use Rattle.satip_rtp.specs.Packing.{Packing}
use Rattle.satip_flow.specs.declared.place.Place.{Place}
use Rattle.satip_flow.specs.Subscription.{Subscription, Feed, has_slot, packing_of, queue_of, holds, flush_datagrams, meets_full}

-- whether a is before b: by rising stream number, those of one stream by count
abbrev pub comes_before : Place → Place → Bool
comes_before a b = nat_lt a.stream b.stream || (a.stream == b.stream && nat_lt a.count b.count)

-- the subscribers with one more, inserted in order
abbrev pub put : Subscription → List Subscription → List Subscription
put s [] = s ∷ []
put s (x ∷ xs) = if comes_before s.place x.place then s ∷ x ∷ xs else x ∷ put s xs

-- the subscriber of a slot
abbrev pub of_slot : ℕ → List Subscription → Option Subscription
of_slot slot subscribers = find (has_slot slot) subscribers

-- the subscribers after that of a slot was changed
abbrev pub change_slot : ℕ → (Subscription → Subscription) → List Subscription → List Subscription
change_slot slot change subscribers = map (λ s. if has_slot slot s then change s else s) subscribers

-- the subscribers of the other slots
abbrev pub without : ℕ → List Subscription → List Subscription
without slot subscribers = filter (λ s. not (has_slot slot s)) subscribers

-- the feed of a slot's subscriber
abbrev pub feed_of_slot : ℕ → List Subscription → Option Feed
feed_of_slot slot subscribers = option_map (λ s. s.feed) (of_slot slot subscribers)

-- the packer of a slot's subscriber
abbrev pub packing_of_slot : ℕ → List Subscription → Option Packing
packing_of_slot slot subscribers = option_and_then packing_of (feed_of_slot slot subscribers)

-- the queue of a slot's subscriber
abbrev pub queue_of_slot : ℕ → List Subscription → Option (List (List ℕ))
queue_of_slot slot subscribers = option_and_then queue_of (feed_of_slot slot subscribers)

-- whether the packer of a slot's subscriber holds packets
abbrev pub holds_any : Option Feed → Bool
holds_any None = false
holds_any (Some feed) = holds feed

-- the datagrams that a flush of it sends
abbrev pub flushed_datagrams : ℕ → Option Feed → List Datagram
flushed_datagrams clock None = []
flushed_datagrams clock (Some feed) = flush_datagrams clock feed

-- whether a packet of a front end meets the full queue of a slot
abbrev pub is_overrun : ℕ → List ℕ → List Subscription → ℕ → Bool
is_overrun front packet subscribers slot = list_any (meets_full front packet slot) subscribers

-- none, or the number of a front end
abbrev pub IsFrontOrNone : Option ℕ → Type 0
IsFrontOrNone None = Unit {0}
IsFrontOrNone (Some front) = (1 ≤ front) × (front ≤ 16)

-- the slots are below 64, and no two are the same
abbrev pub SlotsApart : List Subscription → Type 0
SlotsApart [] = Unit {0}
SlotsApart (s ∷ ss) = (s.place.slot < 64) × (list_any (has_slot s.place.slot) ss ≡ false) × SlotsApart ss
