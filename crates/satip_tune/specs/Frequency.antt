-- Frequencies in kHz, which texts write in MHz.
use Rattle.std.specs.Prelude.{ℕ, ◌+◌, ◌-◌, ◌*◌, ◌/◌, ◌%◌, ◌==◌, ◌&&◌, nat_le, if◌then◌else◌, List, [], ◌∷◌, ◌++◌, length, take, decimal, codes, Option, None, Some, Result, Ok, Err}
use Rattle.std.specs.List.{slice_split, suffix_len}
use Rattle.std.specs.Str.Parse.{digits_value}
use Rattle.satip_base.specs.Numbers.{are_digits, number_of}
use Rattle.satip_tune.specs.Pieces.{is_byte}
use Rattle.satip_tune.specs.declared.faults.ValueFault.{ValueFault}
use Rattle.satip_tune.specs.declared.faults.ValueFault.TheVariants.{Malformed, NotAllowed}

-- the kHz of 1 to 6 digits after the dot: their first three, with zeros for missing ones
abbrev pub thousandths_of : List ℕ → Option ℕ
thousandths_of digits =
    if are_digits 6 digits then Some (digits_value 10 (take 3 (digits ++ codes "00"))) else None

-- the frequency, if it is from 1 MHz to 99999.999 MHz
abbrev pub allowed_frequency : ℕ → Result ℕ ValueFault
allowed_frequency khz = if nat_le 1000 khz && nat_le khz 99999999 then Ok khz else Err NotAllowed

-- the frequency of its MHz and the kHz beyond them, if both are numbers
abbrev pub frequency_from : Option ℕ → Option ℕ → Result ℕ ValueFault
frequency_from (Some mhz) (Some khz) = allowed_frequency (mhz * 1000 + khz)
frequency_from mhz khz = Err Malformed

-- the frequency of the texts around the dot
abbrev pub frequency_of_parts : List (List ℕ) → Result ℕ ValueFault
frequency_of_parts (mhz ∷ []) = frequency_from (number_of 18446744073709551615 mhz) (Some 0)
frequency_of_parts (mhz ∷ digits ∷ []) = frequency_from (number_of 18446744073709551615 mhz) (thousandths_of digits)
frequency_of_parts parts = Err Malformed

-- the frequency of a text
unfoldable pub frequency_of : List ℕ → Result ℕ ValueFault
frequency_of text = frequency_of_parts (slice_split (is_byte 46) text)

-- the three digits of a number below 1000
abbrev pub three_digits : ℕ → List ℕ
three_digits n = (48 + n / 100) ∷ (48 + n / 10 % 10) ∷ (48 + n % 10) ∷ []

-- digits without the zeros at their end
abbrev pub without_end_zeros : List ℕ → List ℕ
without_end_zeros digits = take (length digits - suffix_len (is_byte 48) digits) digits

-- the text after the MHz of a frequency
abbrev pub fraction_text : ℕ → List ℕ
fraction_text khz = if khz == 0 then [] else 46 ∷ without_end_zeros (three_digits khz)

-- a frequency in kHz as a query prints it
unfoldable pub frequency_text : ℕ → List ℕ
frequency_text khz = decimal (khz / 1000) ++ fraction_text (khz % 1000)
