-- The lines of a text, and the words of a line.
use Rattle.std.specs.Prelude.{ℕ, ◌==◌, Bool, true, List, [], ◌∷◌, Option, None, Some}
use Rattle.std.specs.List.{slice_split}
use Rattle.satip_tune.specs.Pieces.{is_byte}

-- the pieces of a text between its LFs; a text that ends with LF has one more line after it, an empty one
abbrev pub lines_of : List ℕ → List (List ℕ)
lines_of text = slice_split (is_byte 10) text

-- the pieces of a line between its spaces; a space too many makes an empty word
abbrev pub words_of : List ℕ → List (List ℕ)
words_of line = slice_split (is_byte 32) line

-- an empty line and one that begins with `#` are skipped
abbrev pub is_skipped_text : List ℕ → Bool
is_skipped_text [] = true
is_skipped_text (byte ∷ line) = byte == 35

-- the only word
unfoldable pub one_word_of : List (List ℕ) → Option (List ℕ)
one_word_of (a ∷ []) = Some a
one_word_of words = None

-- the only two words
unfoldable pub two_words_of : List (List ℕ) → Option (List ℕ × List ℕ)
two_words_of (a ∷ b ∷ []) = Some (a, b)
two_words_of words = None

-- the only three words
unfoldable pub three_words_of : List (List ℕ) → Option (List ℕ × List ℕ × List ℕ)
three_words_of (a ∷ b ∷ c ∷ []) = Some (a, b, c)
three_words_of words = None
