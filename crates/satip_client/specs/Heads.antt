-- The head of a reply (RFC 2326, section 7): a status line and a header block.
use Rattle.std.specs.Prelude.{◌≡◌, ℕ, ◌+◌, ◌≤◌, Bool, ◌||◌, ◌==◌, not, List, [], ◌∷◌, ◌++◌, length, map, All, Some, codes}
use Rattle.std.specs.Char.{is_ascii_digit}
use Rattle.std.specs.Str.Parse.{digits_value}
use Rattle.httparse.specs.Ascii.{line_feed, carriage_return, space}
use Rattle.httparse.specs.Grammar.{AllPass, LineEnd, print_end, Field, IsField, print_section}
use Rattle.httparse.specs.Spans.{name_and_value}
use Rattle.satip_frame.specs.Said.{body_length}

-- the parts of a head; the reason is the bytes between the digits and the end of their line
pub record Head : Type 0 where
  pub digits : List ℕ
  pub reason : List ℕ
  pub line_end : LineEnd
  pub fields : List Field
  pub last : LineEnd

-- the bytes of a head
abbrev pub print_head : Head → List ℕ
print_head h = codes "RTSP/1.0 " ++ (h.digits ++ (h.reason ++ (print_end h.line_end ++ print_section h.fields h.last)))

abbrev pub is_byte_of_phrase : ℕ → Bool
is_byte_of_phrase b = not (b == carriage_return || b == line_feed)

-- nothing, or a space and a phrase without CR and LF
abbrev pub IsReason : List ℕ → Type 0
IsReason [] = Unit {0}
IsReason (b ∷ phrase) = (b ≡ space) × AllPass is_byte_of_phrase phrase

-- the name and the value of each header, in order
abbrev pub headers_of : Head → List (List ℕ × List ℕ)
headers_of h = map name_and_value h.fields

-- the status as a number
abbrev pub status_of : Head → ℕ
status_of h = digits_value 10 h.digits

-- each part is of its class and within its limit; a body of `size` bytes follows
pub record IsHead (h : Head) (size : ℕ) : Type 0 where
  pub three : length h.digits ≡ 3
  pub digits : AllPass is_ascii_digit h.digits
  pub reason : IsReason h.reason
  pub fields : All IsField h.fields
  pub few : length h.fields ≤ 64
  pub short : length (print_head h) ≤ 8192
  pub body : body_length (headers_of h) ≡ Some size
  pub body_short : size ≤ 4096

-- the text begins with this head
pub record HasHead (text : List ℕ) (h : Head) (body : ℕ) : Type 0 where
  pub is_head : IsHead h body
  pub rest : List ℕ
  pub text_is : text ≡ print_head h ++ rest

-- the text begins with the whole reply, its body included
pub record HasReply (text : List ℕ) (h : Head) (body : ℕ) : Type 0 where
  pub has_head : HasHead text h body
  pub whole : length (print_head h) + body ≤ length text
