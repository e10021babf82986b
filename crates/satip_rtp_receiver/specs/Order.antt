-- Datagrams of one sender that arrive out of order.
use Rattle.std.specs.Prelude.{ℕ, ◌≡◌, ◌+◌, ◌%◌, ◌<◌, max, true, false, List, [], ◌∷◌, ◌++◌, map}
use Rattle.satip_rtp_receiver.specs.Caught.{Datagram, caught}
use Rattle.satip_rtp_receiver.specs.Runs.{all_handed_up}
use Rattle.satip_rtp_receiver.specs.declared.item.Item.{Item}
use Rattle.satip_rtp_receiver.specs.declared.item.Item.TheVariants.{Data, Gap}

-- the sender's datagram of index j; `start` is the first one's number
abbrev pub sent : ℕ → ℕ → (ℕ → List ℕ) → ℕ → Datagram
sent start ssrc packets j = record { number = (start + j) % 65536; ssrc = ssrc; packets = packets j }

-- each index is at most 1023 below the greatest one before it, which is m at first, and at most 32767 above it
abbrev pub AreNear : ℕ → List ℕ → Type 0
AreNear m [] = Unit {0}
AreNear m (j ∷ js) = (m < j + 1024) × (j < m + 32768) × AreNear (max m j) js

-- the greatest index
abbrev pub newest : List ℕ → ℕ
newest [] = 0
newest (j ∷ js) = max (newest js) j

-- each index from j on, below `end`, is in exactly one item, in the sender's order, and packets are unchanged
abbrev pub StandFor : ℕ → (ℕ → List ℕ) → ℕ → ℕ → List Item → Type 0
StandFor start packets j end [] = j ≡ end
StandFor start packets j end (Data number bytes ∷ items) =
    (number ≡ (start + j) % 65536) × (bytes ≡ packets j) × StandFor start packets (j + 1) end items
StandFor start packets j end (Gap from count ∷ items) =
    (from ≡ (start + j) % 65536) × (0 < count) × StandFor start packets (j + count) end items

-- near indices in any order, each any number of times: with the end known, the items are those of all indices from the first arrival's up to the newest
abbrev pub AlwaysCatchesInOrder : Type 0
AlwaysCatchesInOrder =
    (start ssrc : ℕ) (packets : ℕ → List ℕ) (j : ℕ) (js : List ℕ) → AreNear j js
    → StandFor start packets j (newest (j ∷ js) + 1) (all_handed_up (map (sent start ssrc packets) (j ∷ js)))

-- the items caught of a sender's datagrams: with the end known, those of all indices from the first arrival's up to the newest; without it, the first of these
pub record CatchesSent (start ssrc : ℕ) (packets : ℕ → List ℕ) (j : ℕ) (js : List ℕ) : Type 0 where
  pub with_end : StandFor start packets j (newest (j ∷ js) + 1) (caught true (map (sent start ssrc packets) (j ∷ js)))
  pub later : List Item
  pub before_end : caught true (map (sent start ssrc packets) (j ∷ js)) ≡ caught false (map (sent start ssrc packets) (j ∷ js)) ++ later

-- the same for near indices in any order, each any number of times
abbrev pub AlwaysCatchesSent : Type 0
AlwaysCatchesSent = (start ssrc : ℕ) (packets : ℕ → List ℕ) (j : ℕ) (js : List ℕ) → AreNear j js → CatchesSent start ssrc packets j js
