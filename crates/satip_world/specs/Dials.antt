-- A clock as contracts see it, and the effect of one call.
use Rattle.std.specs.Prelude.{◌≡◌, ℕ, Bool, true, List, [], ◌∷◌, ◌++◌}

-- a clock: its readings, and whether they are exposed
pub record Dial : Type 0 where
  pub readings : List ℕ
  pub told : Bool

-- a clock without a reading
abbrev pub fresh_dial : Bool → Dial
fresh_dial told = record { readings = []; told = told }

-- one reading; a clock that stops exposing its readings never exposes them again
pub record Reads (o n : Dial) (moment : ℕ) : Type 0 where
  pub told : n.told ≡ true → o.told ≡ true
  pub readings : n.told ≡ true → n.readings ≡ o.readings ++ moment ∷ []
