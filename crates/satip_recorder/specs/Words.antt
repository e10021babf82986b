-- The words of a recording: an address, a query and a count.
use Rattle.std.specs.Prelude.{ℕ, ◌==◌, ◌&&◌, nat_le, Bool, true, false, if◌then◌else◌, List, [], ◌∷◌, Option, Some, None, is_ok}
use Rattle.std.specs.List.{list_all, slice_split}
use Rattle.satip_base.specs.Numbers.{ip_of, number_of}
use Rattle.satip_base.specs.declared.network.Address.{Address}
use Rattle.satip_query.specs.Reading.{query_of}
use Rattle.satip_tune.specs.Pieces.{is_byte}
use Rattle.satip_recorder.specs.declared.words.Recording.{Recording}

-- the server's address as a text and as a value, the query of the stream, and the number of packets
pub record Wanted : Type 0 where
  pub address : List ℕ
  pub to : Address
  pub query : List ℕ
  pub count : ℕ

-- the words of a recording as lists
abbrev pub wanted : Recording → Wanted
wanted r = record { address = r.address.now; to = r.to; query = r.query.now; count = r.count }

-- a number, unless it is 0
abbrev pub positive : Option ℕ → Option ℕ
positive None = None
positive (Some n) = if n == 0 then None else Some n

-- the port of the pieces after the first `:`; 554 if there is none
abbrev pub port_in : List (List ℕ) → Option ℕ
port_in [] = Some 554
port_in (port ∷ []) = positive (number_of 65535 port)
port_in (port ∷ another ∷ others) = None

-- the address of this host and port, if both are there
abbrev pub at_port : Option ℕ → Option ℕ → Option Address
at_port (Some ip) (Some port) = Some (record { ip = ip; port = port })
at_port (Some ip) None = None
at_port None port = None

-- the address of the pieces between the `:`
abbrev pub address_in : List (List ℕ) → Option Address
address_in [] = None
address_in (host ∷ rest) = at_port (ip_of host) (port_in rest)

-- the address of a text: a host, and after a `:` a port, or else port 554
abbrev pub address_of : List ℕ → Option Address
address_of text = address_in (slice_split (is_byte 58) text)

-- whether a byte is a visible character
abbrev pub is_seen : ℕ → Bool
is_seen byte = nat_le 33 byte && nat_le byte 126

-- whether a text is a query that may be part of a request
abbrev pub is_query : List ℕ → Bool
is_query [] = false
is_query (byte ∷ bytes) = list_all is_seen (byte ∷ bytes) && is_ok (query_of (byte ∷ bytes))

-- the words of a recording, by whether each is well-formed
abbrev pub wanted_by : List ℕ → Option Address → List ℕ → Bool → Option ℕ → Option Wanted
wanted_by address (Some to) query true (Some count) = Some (record { address = address; to = to; query = query; count = count })
wanted_by address (Some to) query true None = None
wanted_by address (Some to) query false count = None
wanted_by address None query is count = None

-- the words of a recording, if each is well-formed
abbrev pub wanted_of : (address query count : List ℕ) → Option Wanted
wanted_of address query count = wanted_by address (address_of address) query (is_query query) (positive (number_of 1000000 count))
