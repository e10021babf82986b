-- The fields of a flow: its subscribers, the spare queues, and the words and places that find subscribers.
use Rattle.std.specs.Prelude.{◌≡◌, ◌+◌, ◌≤◌, [], length, vec_len, vec_capacity, count_by, All}
use Rattle.circular_buffer.specs.Buffer.{buffer}
use Rattle.satip_flow.specs.declared.flow.Flow.TheInside.{Inside}
use Rattle.satip_flow.specs.Queues.{has_queue}
use Rattle.satip_flow.specs.Rows.{IsMarked, IsPlaced}
use Rattle.satip_flow.specs.Subscriptions.{SlotsApart}

-- the memory for 64 subscribers is allocated; there are 64 queues, and the spare ones are empty; each subscriber is marked exactly where it selects, and its
-- place is at its slot
pub record IsSound (f : Inside) : Type 0 where
  pub apart : SlotsApart f.subscribers.items
  pub room : 64 ≤ vec_capacity f.subscribers
  pub queue_room : 64 ≤ vec_capacity f.spare_queues
  pub queues : All (λ queue. queue ≡ buffer [] 4096) f.spare_queues.items
  pub all_queues : vec_len f.spare_queues + count_by has_queue f.subscribers.items ≡ 64
  pub row_count : vec_len f.rows ≡ 131072
  pub place_count : length f.places ≡ 64
  pub marked : IsMarked f.rows.items f.alike f.subscribers.items
  pub placed : IsPlaced f.places f.subscribers.items
