-- The head of a message: its first line and its header block, up to the first empty line.
use Rattle.std.specs.Prelude.{◌≡◌, ℕ, ◌<◌, ◌≤◌, Bool, ◌||◌, List, [], ◌∷◌, ◌++◌, length, take, map, nat_eq, IsTrue, Some}
use Rattle.std.specs.Char.{is_ascii_graphic}
use Rattle.std.specs.List.{ends_with}
use Rattle.httparse.specs.Ascii.{line_feed, carriage_return, space}
use Rattle.httparse.specs.Grammar.{AllPass, IsToken, LineEnd, print_end, Field, ReadsSection}
use Rattle.httparse.specs.Spans.{name_and_value}
use Rattle.satip_frame.specs.Said.{Said, body_length}

-- whether the text ends in an empty line, whose end is LF or CR LF
abbrev pub ends_in_empty_line : List ℕ → Bool
ends_in_empty_line text =
    ends_with nat_eq text (line_feed ∷ line_feed ∷ []) || ends_with nat_eq text (line_feed ∷ carriage_return ∷ line_feed ∷ [])

-- none of the first n bytes of the text ends an empty line
abbrev pub HasNoEmptyLine : ℕ → List ℕ → Type 0
HasNoEmptyLine n text = (k : ℕ) → k ≤ n → IsTrue (ends_in_empty_line (take k text)) → ⊥

-- the most bytes of a head
abbrev pub head_limit : ℕ
head_limit = 8192

-- the text begins with a head of n bytes: its first empty line ends there
pub record IsHeadEnd (text : List ℕ) (n : ℕ) : Type 0 where
  pub in_range : n ≤ length text
  pub within : n ≤ head_limit
  pub ends : IsTrue (ends_in_empty_line (take n text))
  pub first : (k : ℕ) → k < n → IsTrue (ends_in_empty_line (take k text)) → ⊥

-- a word of one or more visible ASCII bytes
abbrev pub IsVisible : List ℕ → Type 0
IsVisible word = (0 < length word) × AllPass is_ascii_graphic word

-- the bytes of the first line without its end: method SP target SP version
abbrev pub print_first_line : Said → List ℕ
print_first_line m = m.method ++ space ∷ m.target ++ space ∷ m.version

-- the whole head is read as this message: its first line, and a header block of at most 64 headers
pub record ReadsHead (head : List ℕ) (m : Said) : Type 0 where
  pub method : IsToken m.method
  pub target : IsVisible m.target
  pub version : IsVisible m.version
  pub version_short : length m.version ≤ 16
  pub line_end : LineEnd
  pub block : List ℕ
  pub text : head ≡ print_first_line m ++ (print_end line_end ++ block)
  pub fields : List Field
  pub last : LineEnd
  pub section : ReadsSection block fields last []
  pub few : length fields ≤ 64
  pub headers : m.headers ≡ map name_and_value fields

-- the head is read as this message, and a body of n bytes follows it
pub record IsGoodHead (head : List ℕ) (m : Said) (n : ℕ) : Type 0 where
  pub reads : ReadsHead head m
  pub body : body_length m.headers ≡ Some n
