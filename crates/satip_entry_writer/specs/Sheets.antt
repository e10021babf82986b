-- The content of a room for a line.
use Rattle.std.specs.Prelude.{◌≡◌, ℕ, ◌+◌, ◌*◌, List, ◌++◌, length}
use Rattle.hex.specs.Hex.{encode_lower}

-- a text, and the count of bytes that still fit
pub record Sheet : Type 0 where
  pub text : List ℕ
  pub spare : ℕ

-- bytes were appended
pub record WroteText (o : Sheet) (bs : List ℕ) (n : Sheet) : Type 0 where
  pub text : n.text ≡ o.text ++ bs
  pub spare : n.spare + length bs ≡ o.spare

-- bytes were appended in lower-case hexadecimal digits
pub record WroteHex (o : Sheet) (bs : List ℕ) (n : Sheet) : Type 0 where
  pub text : n.text ≡ o.text ++ encode_lower bs
  pub spare : n.spare + 2 * length bs ≡ o.spare
