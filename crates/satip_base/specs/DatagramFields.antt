-- The fields of a list of datagrams: all bytes are in one list, one datagram after another.
use Rattle.std.specs.Prelude.{◌≡◌, ℕ, ◌-◌, ◌≤◌, List, [], ◌∷◌, map, slice_range, vec_len, vec_capacity}
use Rattle.satip_base.specs.declared.datagrams.Head.{Head}
use Rattle.satip_base.specs.declared.datagrams.Datagrams.TheInside.{Inside}
use Rattle.satip_base.specs.Output.{Datagram}
use Rattle.satip_base.specs.Bundles.{Bundle}

-- the datagram of a head: its range of the bytes
abbrev pub cut_of : List ℕ → Head → Datagram
cut_of bytes head = record { to = head.to; bytes = slice_range bytes head.start head.end }

-- the ranges of the heads follow one another without a gap, from one place to another
abbrev pub Tiles : ℕ → ℕ → List Head → Type 0
Tiles from to [] = from ≡ to
Tiles from to (head ∷ heads) = (head.start ≡ from) × (from ≤ head.end) × Tiles head.end to heads

-- the value of a list of datagrams in contracts
abbrev pub bundle_of : Inside → Bundle
bundle_of d = record {
  datagrams = map (cut_of d.bytes.items) d.heads.items;
  byte_room = d.byte_room;
  count_room = d.count_room;
  byte_spare = d.byte_room - vec_len d.bytes;
  count_spare = d.count_room - vec_len d.heads;
}

-- the memory for the whole room is allocated, and the heads' ranges make up the bytes
pub record IsSound (d : Inside) : Type 0 where
  pub bytes : vec_len d.bytes ≤ d.byte_room
  pub bytes_reserved : d.byte_room ≤ vec_capacity d.bytes
  pub heads : vec_len d.heads ≤ d.count_room
  pub heads_reserved : d.count_room ≤ vec_capacity d.heads
  pub tiles : Tiles 0 (vec_len d.bytes) d.heads.items
