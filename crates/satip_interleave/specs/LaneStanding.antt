-- The place of the lane with a number.
use Rattle.std.specs.Prelude.{ℕ, ◌≡◌, ◌<◌, List, length, slice_index_or, slice_set, remove, Some, None}
use Rattle.satip_interleave.specs.declared.lane.Lane.{Lane}
use Rattle.satip_interleave.specs.Lanes.{lane_of, change_lane, without_lane}

-- no lane has the number
pub record IsNowhere (number : ℕ) (lanes : List Lane) : Type 0 where
  pub found : lane_of number lanes ≡ None
  pub changed : (change : Lane → Lane) → change_lane number change lanes ≡ lanes
  pub others : without_lane number lanes ≡ lanes

-- the lane at this place is the first that has the number
pub record StandsAt (number : ℕ) (lanes : List Lane) (at : ℕ) : Type 0 where
  pub within : at < length lanes
  pub found : (d : Lane) → lane_of number lanes ≡ Some (slice_index_or lanes at d)
  pub changed : (change : Lane → Lane) (d : Lane)
      → change_lane number change lanes ≡ slice_set lanes at (change (slice_index_or lanes at d))
  pub others : without_lane number lanes ≡ remove lanes at

-- a fact about the lane at this place
abbrev pub HoldsOfAt : List Lane → ℕ → (Lane → Type 0) → Type 0
HoldsOfAt lanes at P = (d : Lane) → P (slice_index_or lanes at d)

-- the lane at this place was changed, and no other
abbrev pub ChangesAt : List Lane → ℕ → (Lane → Lane) → List Lane → Type 0
ChangesAt old at change new = HoldsOfAt old at (λ lane. new ≡ slice_set old at (change lane))
