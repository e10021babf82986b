-- Lists of datagrams, and the calls that change them.
use Rattle.std.specs.Prelude.{◌≡◌, ℕ, ◌+◌, List, [], ◌++◌, length}
use Rattle.satip_base.specs.Output.{Datagram, datagram_bytes, extended}

-- datagrams, the room for bytes and for datagrams, and the part of each that is left
pub record Bundle : Type 0 where
  pub datagrams : List Datagram
  pub byte_room : ℕ
  pub count_room : ℕ
  pub byte_spare : ℕ
  pub count_spare : ℕ

-- a list without datagrams
abbrev pub no_datagrams : ℕ → ℕ → Bundle
no_datagrams bytes count = record { datagrams = []; byte_room = bytes; count_room = count; byte_spare = bytes; count_spare = count }

-- the room is what the datagrams use and what is left
pub record FillsRoom (b : Bundle) : Type 0 where
  pub bytes : b.byte_spare + datagram_bytes b.datagrams ≡ b.byte_room
  pub count : b.count_spare + length b.datagrams ≡ b.count_room

-- the list after datagrams were appended
pub record Bundled (b : Bundle) (datagrams : List Datagram) (c : Bundle) : Type 0 where
  pub datagrams_are : c.datagrams ≡ b.datagrams ++ datagrams
  pub byte_room : c.byte_room ≡ b.byte_room
  pub count_room : c.count_room ≡ b.count_room
  pub byte_spare : c.byte_spare + datagram_bytes datagrams ≡ b.byte_spare
  pub count_spare : c.count_spare + length datagrams ≡ b.count_spare

-- the list after bytes were appended to the last datagram
pub record Lengthened (b : Bundle) (bytes : List ℕ) (c : Bundle) : Type 0 where
  pub datagrams_are : c.datagrams ≡ extended b.datagrams bytes
  pub count : length c.datagrams ≡ length b.datagrams
  pub byte_room : c.byte_room ≡ b.byte_room
  pub count_room : c.count_room ≡ b.count_room
  pub byte_spare : c.byte_spare + length bytes ≡ b.byte_spare
  pub count_spare : c.count_spare ≡ b.count_spare
