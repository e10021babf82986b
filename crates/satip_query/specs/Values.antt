-- The values of a query: the forms of their texts, and which values are allowed.
use Rattle.std.specs.Prelude.{◌≡◌, ℕ, ◌&&◌, nat_le, Bool, true, false, if◌then◌else◌, List, [], ◌∷◌, length, Option, None, Some, Result, Ok, Err, is_some}
use Rattle.std.specs.Char.{is_ascii_alphanumeric}
use Rattle.std.specs.List.{list_all, slice_split}
use Rattle.satip_base.specs.Numbers.{are_digits, number_of}
use Rattle.satip_tune.specs.Pieces.{is_byte}
use Rattle.satip_tune.specs.Words.{roll_off_named}
use Rattle.satip_tune.specs.declared.faults.ValueFault.{ValueFault}
use Rattle.satip_tune.specs.declared.faults.ValueFault.TheVariants.{Malformed, NotAllowed}
use Rattle.satip_tune.specs.declared.signal.RollOff.{RollOff}

-- the number, if it is one from `low` to `high`
abbrev pub within : ℕ → ℕ → Option ℕ → Result ℕ ValueFault
within low high None = Err Malformed
within low high (Some n) = if nat_le low n && nat_le n high then Ok n else Err NotAllowed

-- the value of a number from `low` to `high`
abbrev pub number_in : ℕ → ℕ → List ℕ → Result ℕ ValueFault
number_in low high text = within low high (number_of 18446744073709551615 text)

-- the value that a text names; else the fault, which depends on whether the text has the form of a value
abbrev pub named_or : {A : Type 0} → Option A → Bool → Result A ValueFault
named_or (Some value) formed = Ok value
named_or None true = Err NotAllowed
named_or None false = Err Malformed

-- whether a text is a word: 1 to 16 letters and digits
abbrev pub is_word_text : List ℕ → Bool
is_word_text text = nat_le 1 (length text) && nat_le (length text) 16 && list_all is_ascii_alphanumeric text

-- whether the texts before and after a dot are a number and 1 to 6 digits
abbrev pub are_decimal : List (List ℕ) → Bool
are_decimal (whole ∷ digits ∷ []) = is_some (number_of 18446744073709551615 whole) && are_digits 6 digits
are_decimal parts = false

-- the value of a roll-off
abbrev pub roll_off_of : List ℕ → Result RollOff ValueFault
roll_off_of text = named_or (roll_off_named text) (are_decimal (slice_split (is_byte 46) text))

-- a number before a list of numbers, if both are numbers
abbrev pub onto_numbers : Option ℕ → Option (List ℕ) → Option (List ℕ)
onto_numbers (Some n) (Some ns) = Some (n ∷ ns)
onto_numbers n ns = None

-- the numbers of texts, if each is a number
abbrev pub numbers_of : List (List ℕ) → Option (List ℕ)
numbers_of [] = Some []
numbers_of (part ∷ parts) = onto_numbers (number_of 18446744073709551615 part) (numbers_of parts)

-- the numbers as PIDs, if each is one
abbrev pub pids_within : Option (List ℕ) → Result (List ℕ) ValueFault
pids_within None = Err Malformed
pids_within (Some pids) = if list_all (λ pid. nat_le pid 8191) pids then Ok pids else Err NotAllowed

-- the answer of a call that leaves the list in place: success with the list, or the fault
abbrev pub ListAnswers : {U : Type 0} → Result U ValueFault → Result (List ℕ) ValueFault → List ℕ → Type 0
ListAnswers (Ok done) found left = found ≡ Ok left
ListAnswers (Err fault) found left = found ≡ Err fault

-- the value of a list of 1 to 512 PIDs with commas between them
unfoldable pub pid_list_of : List ℕ → Result (List ℕ) ValueFault
pid_list_of text =
    let parts = slice_split (is_byte 44) text in
    if nat_le (length parts) 512 then pids_within (numbers_of parts) else Err Malformed
