-- Texts that are cut at a byte.
use Rattle.std.specs.Prelude.{◌≡◌, ℕ, ◌==◌, Bool, List, ◌++◌, Option, IsSomeAnd, codes, decimal}
use Rattle.std.specs.Borrow.{Bor}

-- whether a byte is this one
abbrev pub is_byte : ℕ → ℕ → Bool
is_byte at byte = byte == at

-- these are the two parts
abbrev pub IsCut : Option (Bor (List ℕ) × Bor (List ℕ)) → List ℕ → List ℕ → Type 0
IsCut result piece rest = IsSomeAnd result (λ r. (r.0.now ≡ piece) × (r.1.now ≡ rest))

-- a line of two numbers and some digits after a word
abbrev pub words_line : ℕ → ℕ → List ℕ → List ℕ
words_line place caller digits =
    codes "entry " ++ (decimal place ++ (codes " " ++ (decimal caller ++ (codes " " ++ (digits ++ codes "\n")))))
