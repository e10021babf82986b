-- Writes to a strip.
use Rattle.std.specs.Prelude.{◌≡◌, ℕ, ◌+◌, List, ◌++◌, length}

-- the strip after bytes were appended
pub record Printed (o : List ℕ) (bs : List ℕ) (n : List ℕ) : Type 0 where
  pub bytes : n ≡ o ++ bs
  pub count : length n ≡ length o + length bs
