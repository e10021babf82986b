-- Keys as a heap by their deadlines, and the place of each key.
use Rattle.std.specs.Prelude.{◌≡◌, ◌<◌, ◌≤◌, ◌+◌, ◌*◌, ℕ, List, Option, None, length, unwrap_or}
use Rattle.std.specs.Prelude.{slice_index, slice_index_or}
use Rattle.satip_timer.specs.declared.heap.Heap.{Heap}
use Rattle.satip_timer.specs.Deadlines.{HasDeadline}
use Rattle.satip_timer.specs.Heaps.{IsHeap, Swaps}

-- the rank of a key: keys are ordered by their deadlines, those of equal deadlines by themselves
abbrev pub rank : List (Option ℕ) → ℕ → ℕ
rank dues key = unwrap_or (slice_index_or dues key None) 0 * 64 + key

-- the rank of the key at each place
abbrev pub ranks : List (Option ℕ) → Heap → ℕ → ℕ
ranks dues h place = rank dues (slice_index h.keys place)

-- the key has a deadline
abbrev pub IsDue : List (Option ℕ) → ℕ → Type 0
IsDue dues key = (moment : ℕ) × HasDeadline dues key moment

-- each of 64 keys is at one of 64 places, and `places` has the place of each key
pub record Paired (keys places : ℕ → ℕ) : Type 0 where
  pub key : (i : ℕ) → i < 64 → keys i < 64
  pub place : (key : ℕ) → key < 64 → places key < 64
  pub own : (i : ℕ) → i < 64 → places (keys i) ≡ i
  pub found : (key : ℕ) → key < 64 → keys (places key) ≡ key

-- the keys of two places are exchanged, and their places with them
pub record Moved (h n : Heap) (a b : ℕ) : Type 0 where
  pub keys : Swaps (slice_index h.keys) (slice_index n.keys) a b
  pub places : Swaps (slice_index h.places) (slice_index n.places)
      (slice_index h.keys b) (slice_index h.keys a)
  pub pairs : Paired (slice_index n.keys) (slice_index n.places)

-- the keys with a deadline are at the places below the count
pub record Placed (dues : List (Option ℕ)) (h : Heap) : Type 0 where
  pub whole : length dues ≡ 64
  pub room : h.count ≤ 64
  pub pairs : Paired (slice_index h.keys) (slice_index h.places)
  pub due : (i : ℕ) → i < h.count → IsDue dues (slice_index h.keys i)
  pub within : (key : ℕ) → IsDue dues key → slice_index h.places key < h.count

-- the keys with a deadline are a heap by their ranks
pub record Sound (dues : List (Option ℕ)) (h : Heap) : Type 0 where
  pub placed : Placed dues h
  pub heap : IsHeap (ranks dues h) h.count
