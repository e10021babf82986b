-- Numbers and IPv4 addresses as they are read from texts.
use Rattle.std.specs.Prelude.{ℕ, ◌+◌, ◌*◌, ◌==◌, ◌&&◌, nat_le, Bool, if◌then◌else◌, List, [], ◌∷◌, length, Option, Some, None}
use Rattle.std.specs.Char.{is_ascii_digit}
use Rattle.std.specs.List.{list_all, slice_split}
use Rattle.std.specs.Str.Parse.{digits_value}

-- whether a text is 1 to `most` decimal digits
abbrev pub are_digits : ℕ → List ℕ → Bool
are_digits most bytes = nat_le 1 (length bytes) && nat_le (length bytes) most && list_all is_ascii_digit bytes

-- the value of 1 to `most` digits, if it is at most `max`
abbrev pub number_within : ℕ → ℕ → List ℕ → Option ℕ
number_within most max bytes =
    if are_digits most bytes && nat_le (digits_value 10 bytes) max then Some (digits_value 10 bytes) else None

-- the value of 1 to 20 digits, if it is at most `max`
unfoldable pub number_of : ℕ → List ℕ → Option ℕ
number_of max bytes = number_within 20 max bytes

-- one of the four numbers of an address: 1 to 3 digits, at most 255
abbrev pub octet_of : List ℕ → Option ℕ
octet_of bytes = number_within 3 255 bytes

-- the dot between the numbers of an address
abbrev pub is_dot : ℕ → Bool
is_dot byte = byte == 46

-- the parts between the dots of the text after a dot, if there is one
abbrev pub parts_after : Option (List ℕ) → List (List ℕ)
parts_after None = []
parts_after (Some bytes) = slice_split is_dot bytes

-- the address of four numbers, the first one in the highest byte
abbrev pub ip_from : Option ℕ → Option ℕ → Option ℕ → Option ℕ → Option ℕ
ip_from (Some a) (Some b) (Some c) (Some d) = Some (a * 16777216 + b * 65536 + c * 256 + d)
ip_from a b c d = None

-- the address of the parts of a text
abbrev pub ip_of_parts : List (List ℕ) → Option ℕ
ip_of_parts (a ∷ b ∷ c ∷ d ∷ []) = ip_from (octet_of a) (octet_of b) (octet_of c) (octet_of d)
ip_of_parts parts = None

-- the address of a text of four numbers with a dot between them
unfoldable pub ip_of : List ℕ → Option ℕ
ip_of bytes = ip_of_parts (slice_split is_dot bytes)
