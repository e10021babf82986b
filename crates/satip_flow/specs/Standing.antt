-- The place of a slot's subscriber in the list.
use Rattle.std.specs.Prelude.{ℕ, ◌≡◌, ◌<◌, true, false, List, length, slice_index_or, slice_set, remove, Some, None}
use Rattle.std.specs.List.{list_any}
use Rattle.satip_flow.specs.Subscription.{Subscription, has_slot}
use Rattle.satip_flow.specs.Subscriptions.{of_slot, change_slot, without}

-- no subscriber has the slot
pub record IsNowhere (slot : ℕ) (subscribers : List Subscription) : Type 0 where
  pub absent : list_any (has_slot slot) subscribers ≡ false
  pub found : of_slot slot subscribers ≡ None
  pub changed : (change : Subscription → Subscription) → change_slot slot change subscribers ≡ subscribers
  pub others : without slot subscribers ≡ subscribers

-- the subscriber at a place has the slot, and no other
pub record StandsAt (slot : ℕ) (subscribers : List Subscription) (at : ℕ) : Type 0 where
  pub within : at < length subscribers
  pub present : list_any (has_slot slot) subscribers ≡ true
  pub found : (d : Subscription) → of_slot slot subscribers ≡ Some (slice_index_or subscribers at d)
  pub changed : (change : Subscription → Subscription) (d : Subscription)
      → change_slot slot change subscribers ≡ slice_set subscribers at (change (slice_index_or subscribers at d))
  pub others : without slot subscribers ≡ remove subscribers at

-- a fact about the subscriber at a place
abbrev pub HoldsOfAt : List Subscription → ℕ → (Subscription → Type 0) → Type 0
HoldsOfAt subscribers at P = (d : Subscription) → P (slice_index_or subscribers at d)

-- the subscriber at a place was changed, and no other
abbrev pub ChangesAt : List Subscription → ℕ → (Subscription → Subscription) → List Subscription → Type 0
ChangesAt old at change new = HoldsOfAt old at (λ s. new ≡ slice_set old at (change s))
