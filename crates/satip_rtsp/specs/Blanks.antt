-- Spaces and tabs at the ends of a text.
use Rattle.std.specs.Prelude.{ℕ, ◌==◌, ◌||◌, Bool, List, [], ◌∷◌, reverse, if◌then◌else◌}

-- whether a byte is a space or a tab
abbrev pub is_space_or_tab : ℕ → Bool
is_space_or_tab byte = byte == 32 || byte == 9

-- the text without the blanks at its beginning
abbrev pub start_trimmed : List ℕ → List ℕ
start_trimmed [] = []
start_trimmed (b ∷ text) = if is_space_or_tab b then start_trimmed text else (b ∷ text)

-- the text without the blanks at its end
abbrev pub end_trimmed : List ℕ → List ℕ
end_trimmed text = reverse (start_trimmed (reverse text))

-- the text without the blanks at its ends
unfoldable pub text_trimmed : List ℕ → List ℕ
text_trimmed text = end_trimmed (start_trimmed text)
