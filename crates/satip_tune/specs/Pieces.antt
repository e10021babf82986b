-- Texts split at the places of one byte.
use Rattle.std.specs.Prelude.{ℕ, ◌==◌, Bool, List, [], Option, None, Some}
use Rattle.std.specs.List.{slice_split}
use Rattle.std.specs.Borrow.{Bor}

-- whether a byte is `at`
abbrev pub is_byte : ℕ → ℕ → Bool
is_byte at byte = byte == at

-- the pieces of the rest, if there is one
abbrev pub pieces_left : ℕ → Option (Bor (List ℕ)) → List (List ℕ)
pieces_left at None = []
pieces_left at (Some rest) = slice_split (is_byte at) rest.now

-- the rest as a text
abbrev pub text_left : Option (Bor (List ℕ)) → List ℕ
text_left None = []
text_left (Some rest) = rest.now
