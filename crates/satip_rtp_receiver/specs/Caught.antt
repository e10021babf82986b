-- The items that are caught of datagrams in any order, over the whole list of datagrams.
use Rattle.std.specs.Prelude.{ℕ, ◌+◌, ◌-◌, ◌%◌, ◌==◌, nat_le, nat_lt, max, zero, suc, Bool, false, if◌then◌else◌, List, [], ◌∷◌, ◌++◌, filter, Option, None, Some}
use Rattle.std.specs.List.{list_any}
use Rattle.satip_rtp_receiver.specs.declared.item.Item.{Item}
use Rattle.satip_rtp_receiver.specs.declared.item.Item.TheVariants.{Data, Gap}

-- a datagram: its sequence number, its source, and the bytes of its packets
pub record Datagram : Type 0 where
  pub number : ℕ
  pub ssrc : ℕ
  pub packets : List ℕ

-- the arrivals: the datagrams whose source is that of the first one
abbrev pub arrivals : List Datagram → List Datagram
arrivals [] = []
arrivals (d ∷ ds) = d ∷ filter (λ x. d.ssrc == x.ssrc) ds

-- an arrival with its index: None if that is before the first arrival's
pub record Placed : Type 0 where
  pub index : Option ℕ
  pub packets : List ℕ

-- the index from m - 32768 to m + 32767 that is `ahead` of m, modulo 65536; None below 0
abbrev pub index_ahead : ℕ → ℕ → Option ℕ
index_ahead m ahead =
    if nat_lt ahead 32768 then Some (m + ahead)
    else if nat_le (65536 - ahead) m then Some (m + ahead - 65536) else None

-- the index of a sequence number, if m is the greatest index so far
unfoldable pub index_of : ℕ → ℕ → ℕ → Option ℕ
index_of first m number = index_ahead m ((number + 65536 - (first + m) % 65536) % 65536)

-- the greater of m and an index, if there is one
abbrev pub greater : ℕ → Option ℕ → ℕ
greater m None = m
greater m (Some i) = max m i

-- the arrivals with their indices, if `first` is the first number and m the greatest index so far
abbrev pub place_from : ℕ → ℕ → List Datagram → List Placed
place_from first m [] = []
place_from first m (d ∷ ds) =
    record { index = index_of first m d.number; packets = d.packets }
    ∷ place_from first (greater m (index_of first m d.number)) ds

-- the arrivals with their indices; the first has index 0
abbrev pub placed : List Datagram → List Placed
placed [] = []
placed (d ∷ ds) = record { index = Some 0; packets = d.packets } ∷ place_from d.number 0 ds

-- the greatest index
abbrev pub greatest : List Placed → ℕ
greatest [] = 0
greatest (p ∷ ps) = greater (greatest ps) p.index

-- whether an arrival has this index
abbrev pub is_index : ℕ → Option ℕ → Bool
is_index i None = false
is_index i (Some j) = i == j

-- whether some arrival has this index
abbrev pub has_arrived : ℕ → List Placed → Bool
has_arrived i ps = list_any (λ p. is_index i p.index) ps

-- the first of n indices from i on that no arrival has, or i + n if there is none
abbrev pub first_missing : ℕ → ℕ → List Placed → ℕ
first_missing zero i ps = i
first_missing (suc n) i ps = if has_arrived i ps then first_missing n (i + 1) ps else i

-- the first of the last 64 indices, up to the greatest, that no arrival has, or the index after the greatest. Every index below it is settled
abbrev pub passed : List Placed → ℕ
passed [] = 0
passed (p ∷ ps) = first_missing 64 (greatest (p ∷ ps) - 63) (p ∷ ps)

-- the packets of an index whose first arrival is in time: the index wasn't passed before it
abbrev pub packets_of : List Placed → List Placed → ℕ → Option (List ℕ)
packets_of before [] i = None
packets_of before (p ∷ ps) i =
    if is_index i p.index
    then (if nat_le (passed before) i then Some p.packets else None)
    else packets_of (before ++ p ∷ []) ps i

-- an item for one index before other items; without packets it joins the gap that these begin with
abbrev pub with_item : ℕ → Option (List ℕ) → List Item → List Item
with_item number (Some packets) items = Data number packets ∷ items
with_item number None (Gap from count ∷ items) = Gap number (count + 1) ∷ items
with_item number None items = Gap number 1 ∷ items

-- the items of n indices, from i on
abbrev pub items_from : ℕ → List Placed → ℕ → ℕ → List Item
items_from first ps i zero = []
items_from first ps i (suc n) =
    with_item ((first + i) % 65536) (packets_of [] ps i) (items_from first ps (i + 1) n)

-- the items by arrivals: each arrival hands up the indices that it passes
abbrev pub items_by : ℕ → List Placed → List Placed → List Item
items_by first before [] = []
items_by first before (p ∷ ps) =
    items_from first (before ++ p ∷ []) (passed before) (passed (before ++ p ∷ []) - passed before)
    ++ items_by first (before ++ p ∷ []) ps

-- the items of the indices that are left at the end, up to the greatest
abbrev pub last_items : ℕ → List Placed → List Item
last_items first [] = []
last_items first (p ∷ ps) =
    items_from first (p ∷ ps) (passed (p ∷ ps)) (greatest (p ∷ ps) + 1 - passed (p ∷ ps))

-- the items of these arrivals, without the end or with it
abbrev pub caught_from : Bool → List Datagram → List Item
caught_from finished [] = []
caught_from finished (d ∷ ds) =
    items_by d.number [] (placed (d ∷ ds)) ++ (if finished then last_items d.number (placed (d ∷ ds)) else [])

-- the items of these datagrams, without the end or with it
abbrev pub caught : Bool → List Datagram → List Item
caught finished ds = caught_from finished (arrivals ds)
