-- Datagrams of one source, each with its number as its only byte, for the worked examples.
use Rattle.std.specs.Prelude.{ℕ, List, [], ◌∷◌, map}
use Rattle.satip_rtp_receiver.specs.Caught.{Datagram}
use Rattle.satip_rtp_receiver.specs.declared.item.Item.{Item}
use Rattle.satip_rtp_receiver.specs.declared.item.Item.TheVariants.{Data, Gap}

-- datagrams with these numbers
abbrev pub datagrams : List ℕ → List Datagram
datagrams numbers = map (λ number. record { number = number; ssrc = 7; packets = number ∷ [] }) numbers

-- the item of the datagram with this number
abbrev pub data_of : ℕ → Item
data_of number = Data number (number ∷ [])

-- the item of a gap
abbrev pub gap_of : ℕ → ℕ → Item
gap_of from count = Gap from count
