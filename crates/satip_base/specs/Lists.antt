-- Predicates on lists, by recursion on the list.
use Rattle.std.specs.Prelude.{◌≡◌, ◌⊎◌, List, [], ◌∷◌, ◌++◌}

-- P holds of each element
abbrev pub Each : {T : Type 0} → (T → Type 0) → List T → Type 0
Each P [] = Unit {0}
Each P (x ∷ xs) = P x × Each P xs

-- x is one of the elements
abbrev pub Has : {T : Type 0} → T → List T → Type 0
Has x [] = ⊥
Has x (y ∷ ys) = (x ≡ y) ⊎ Has x ys

-- h is a prefix of k
pub record Begins {T : Type 0} (h k : List T) : Type 0 where
  pub rest : List T
  pub whole : k ≡ h ++ rest
