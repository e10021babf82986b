-- Addresses and session ids as they are printed, and session ids as they are read.
use Rattle.std.specs.Prelude.{ℕ, ◌/◌, ◌%◌, ◌==◌, ◌&&◌, ◌||◌, nat_le, Bool, if◌then◌else◌, List, ◌++◌, length, take, drop, decimal, codes, Option, Some, None}
use Rattle.std.specs.List.{list_all}
use Rattle.std.specs.Int.{to_be_bytes, w32}
use Rattle.std.specs.Str.Parse.{digits_value}
use Rattle.hex.specs.Hex.{encode_lower}
use Rattle.satip_base.specs.declared.identity.SessionId.{SessionId}

-- the text of an IPv4 address in dotted decimal
unfoldable pub address_text : ℕ → List ℕ
address_text ip =
    decimal (ip / 16777216) ++ codes "." ++ decimal (ip / 65536 % 256) ++ codes "." ++ decimal (ip / 256 % 256) ++ codes "." ++ decimal (ip % 256)

-- the text of half a session's id: 8 lower-case hexadecimal digits
abbrev pub half_text : ℕ → List ℕ
half_text half = encode_lower (to_be_bytes w32 half)

-- the text of a session's id: 16 digits, the count first
unfoldable pub id_text : SessionId → List ℕ
id_text id = half_text id.count ++ half_text id.word

-- whether a byte is a digit of a session's id
abbrev pub is_id_digit : ℕ → Bool
is_id_digit byte = (nat_le 48 byte && nat_le byte 57) || (nat_le 97 byte && nat_le byte 102)

-- the value of lower-case hexadecimal digits
abbrev pub half_of : List ℕ → Option ℕ
half_of digits = if list_all is_id_digit digits then Some (digits_value 16 digits) else None

-- the id of two halves, if both are numbers
abbrev pub id_from : Option ℕ → Option ℕ → Option SessionId
id_from (Some count) (Some word) = Some (record { count = count; word = word })
id_from count word = None

-- the id of 16 lower-case hexadecimal digits
unfoldable pub id_of : List ℕ → Option SessionId
id_of bytes = if length bytes == 16 then id_from (half_of (take 8 bytes)) (half_of (drop 8 bytes)) else None
