-- The headers of a reply that a client reads.
use Rattle.std.specs.Prelude.{ℕ, ◌==◌, List, [], ◌∷◌, drop, reverse, Option, Some, None, if◌then◌else◌, codes, nat_eq}
use Rattle.std.specs.List.{before_first, slice_split, starts_with}
use Rattle.std.specs.Option.{option_and_then}
use Rattle.satip_base.specs.Numbers.{number_of}
use Rattle.satip_frame.specs.Said.{first_value}
use Rattle.satip_tune.specs.Pieces.{is_byte}

abbrev pub semicolon : ℕ
semicolon = 59

abbrev pub without_first_spaces : List ℕ → List ℕ
without_first_spaces [] = []
without_first_spaces (b ∷ text) = if b == 32 then without_first_spaces text else (b ∷ text)

abbrev pub without_last_spaces : List ℕ → List ℕ
without_last_spaces text = reverse (without_first_spaces (reverse text))

-- the text without the spaces at its ends
unfoldable pub text_without_spaces : List ℕ → List ℕ
text_without_spaces text = without_last_spaces (without_first_spaces text)

abbrev pub unless_empty : List ℕ → Option (List ℕ)
unless_empty [] = None
unless_empty (b ∷ text) = Some (b ∷ text)

-- the session that the value of a Session header names, before its parameters
abbrev pub session_named : List ℕ → Option (List ℕ)
session_named value = unless_empty (text_without_spaces (before_first (is_byte semicolon) value))

-- the text after `timeout=`, if the parameter begins so
abbrev pub text_of_timeout : List ℕ → Option (List ℕ)
text_of_timeout parameter =
    if starts_with nat_eq (text_without_spaces parameter) (codes "timeout=") then Some (drop 8 (text_without_spaces parameter)) else None

-- the timeout in seconds if the header gives none
abbrev pub usual_timeout : ℕ
usual_timeout = 60

abbrev pub unless_zero : Option ℕ → ℕ
unless_zero None = usual_timeout
unless_zero (Some n) = if n == 0 then usual_timeout else n

-- the timeout of a parameter's text, or another if it is no timeout; 60 for 0 and for what is no number
abbrev pub timeout_or : Option (List ℕ) → ℕ → ℕ
timeout_or None other = other
timeout_or (Some text) other = unless_zero (number_of 4294967295 text)

-- the timeout of the first parameter that is a timeout
abbrev pub first_timeout : List (List ℕ) → ℕ
first_timeout [] = usual_timeout
first_timeout (parameter ∷ parameters) = timeout_or (text_of_timeout parameter) (first_timeout parameters)

-- the parts after the first
abbrev pub behind_first : List (List ℕ) → List (List ℕ)
behind_first [] = []
behind_first (part ∷ parts) = parts

-- the timeout that the value of a Session header gives
abbrev pub timeout_of_text : List ℕ → ℕ
timeout_of_text value = first_timeout (behind_first (slice_split (is_byte semicolon) value))

-- the timeout of a Session header, or 60 without one
abbrev pub timeout_of_value : Option (List ℕ) → ℕ
timeout_of_value None = usual_timeout
timeout_of_value (Some value) = timeout_of_text value

-- the number in the first CSeq header, of up to 32 bits
abbrev pub cseq_in : List (List ℕ × List ℕ) → Option ℕ
cseq_in headers = option_and_then (number_of 4294967295) (first_value (codes "CSeq") headers)

-- the session in the first Session header
abbrev pub session_in : List (List ℕ × List ℕ) → Option (List ℕ)
session_in headers = option_and_then session_named (first_value (codes "Session") headers)

-- the timeout in the first Session header
abbrev pub timeout_in : List (List ℕ × List ℕ) → ℕ
timeout_in headers = timeout_of_value (first_value (codes "Session") headers)

-- the stream in the first com.ses.streamID header, of up to 16 bits
abbrev pub stream_in : List (List ℕ × List ℕ) → Option ℕ
stream_in headers = option_and_then (number_of 65535) (first_value (codes "com.ses.streamID") headers)
