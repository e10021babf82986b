-- The memory of the lanes, and their spare queues.
use Rattle.std.specs.Prelude.{◌≡◌, ◌+◌, ◌≤◌, [], vec_len, vec_capacity, All}
use Rattle.satip_interleave.specs.declared.lanes.Lanes.TheInside.{Inside}

-- there is memory for 64 lanes, and each of 64 queues belongs to a lane or is spare and empty
pub record IsSound (l : Inside) : Type 0 where
  pub room : 64 ≤ vec_capacity l.held
  pub queue_room : 64 ≤ vec_capacity l.spare
  pub queues : All (λ queue. queue ≡ []) l.spare.items
  pub all_queues : vec_len l.spare + vec_len l.held ≡ 64
