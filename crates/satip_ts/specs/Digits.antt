-- The values of texts of hexadecimal digits of either case.
use Rattle.std.specs.Prelude.{ℕ, ◌==◌, List, slice_index, Option, None, Some, if◌then◌else◌}
use Rattle.std.specs.Result.{result_ok}
use Rattle.hex.specs.Hex.{decode_of, decode_sized}

-- the bytes of a text of digits
abbrev pub bytes_of : List ℕ → Option (List ℕ)
bytes_of digits = result_ok (decode_of digits)

-- the n bytes of a text of 2 * n digits
abbrev pub sized_bytes : ℕ → List ℕ → Option (List ℕ)
sized_bytes n digits = result_ok (decode_sized digits n)

-- the bytes, if the first is the sync byte 0x47
abbrev pub synchronized : List ℕ → Option (List ℕ)
synchronized bytes = if slice_index bytes 0 == 71 then Some bytes else None

-- the packet of decoded bytes, if there are any
abbrev pub packet_from : Option (List ℕ) → Option (List ℕ)
packet_from None = None
packet_from (Some bytes) = synchronized bytes

-- the packet of 376 digits that begin with 47
unfoldable pub packet_of : List ℕ → Option (List ℕ)
packet_of digits = packet_from (sized_bytes 188 digits)
