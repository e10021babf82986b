-- Program clock references (ISO 13818-1, 2.4.2.2, 2.4.3.4 and 2.4.3.5), in the bytes of a packet.
use Rattle.std.specs.Prelude.{ℕ, ◌+◌, ◌*◌, ◌/◌, ◌%◌, ◌==◌, ◌&&◌, nat_le, Bool, List, slice_index, Option, Some, None, if◌then◌else◌}

-- there is an adaptation field of at least this many bytes, and at most 183
abbrev pub has_field : ℕ → List ℕ → Bool
has_field least bytes =
    (slice_index bytes 3 / 32 % 2 == 1) && (nat_le least (slice_index bytes 4) && nat_le (slice_index bytes 4) 183)

-- its flags say that a reference follows
abbrev pub has_reference : List ℕ → Bool
has_reference bytes = has_field 7 bytes && (slice_index bytes 5 / 16 % 2 == 1)

-- its flags say that the clock has a break here
abbrev pub has_break : List ℕ → Bool
has_break bytes = has_field 1 bytes && (slice_index bytes 5 / 128 == 1)

-- the 33 bits of the base, which counts at 90 kHz
abbrev pub base_of : List ℕ → ℕ
base_of bytes =
    slice_index bytes 6 * 33554432 + slice_index bytes 7 * 131072 + slice_index bytes 8 * 512 + slice_index bytes 9 * 2
    + slice_index bytes 10 / 128

-- the 9 bits of the extension, after six that are reserved
abbrev pub extension_of : List ℕ → ℕ
extension_of bytes = slice_index bytes 10 % 2 * 256 + slice_index bytes 11

-- the reference, in ticks of 27 MHz; the clock starts at 0 again after 300 times 2 to the 33rd ticks
abbrev pub ticks_of : List ℕ → ℕ
ticks_of bytes = (base_of bytes * 300 + extension_of bytes) % 2576980377600

-- the reference of a packet that has one
abbrev pub reference_in : List ℕ → Option ℕ
reference_in bytes = if has_reference bytes then Some (ticks_of bytes) else None
