-- Records that are stored by place, and read in an order of places.
use Rattle.std.specs.Prelude.{ℕ, ◌==◌, Bool, List, map, slice_index_or}
use Rattle.std.specs.List.{list_any}

-- whether the number is in the list
abbrev pub is_there : ℕ → List ℕ → Bool
is_there number numbers = list_any (λ other. number == other) numbers

-- the records at these places, in this order; d for a place without one
abbrev pub in_order : {X : Type 0} → X → List X → List ℕ → List X
in_order d records order = map (λ place. slice_index_or records place d) order
