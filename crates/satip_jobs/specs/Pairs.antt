-- Two lists in parallel.
use Rattle.std.specs.Prelude.{List, [], ◌∷◌}

-- P holds of the elements at each place of two lists, which have the same length
abbrev pub Both : {S T : Type 0} → (S → T → Type 0) → List S → List T → Type 0
Both P [] [] = Unit {0}
Both P [] (y ∷ ys) = ⊥
Both P (x ∷ xs) [] = ⊥
Both P (x ∷ xs) (y ∷ ys) = P x y × Both P xs ys
