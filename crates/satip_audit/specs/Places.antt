-- Places in a history: the number of times each is named, and which are named twice or missing.
use Rattle.std.specs.Prelude.{◌≡◌, ℕ, suc, ◌<◌, ◌≤◌, ◌==◌, List, [], ◌∷◌}
use Rattle.std.specs.List.{count_by}

-- the number of times a place is named
abbrev pub times : List ℕ → ℕ → ℕ
times places place = count_by (λ p. p == place) places

-- a place is named twice or more
abbrev pub HasTwice : List ℕ → ℕ → Type 0
HasTwice places place = 2 ≤ times places place

-- the place isn't named, but a later one is
pub record IsMissing (places : List ℕ) (place : ℕ) : Type 0 where
  pub none : times places place ≡ 0
  pub later : ℕ
  pub behind : place < later
  pub named : 1 ≤ times places later

-- P holds of this place and of none below it
pub record IsLeast (P : ℕ → Type 0) (place : ℕ) : Type 0 where
  pub holds : P place
  pub least : (q : ℕ) → q < place → P q → ⊥

-- the places don't fall, and the first isn't less than a bound
abbrev pub Climbs : ℕ → List ℕ → Type 0
Climbs low [] = Unit {0}
Climbs low (place ∷ places) = (low ≤ place) × Climbs place places

-- each is more than the one before it, and the first isn't less than a bound
abbrev pub Rises : ℕ → List ℕ → Type 0
Rises low [] = Unit {0}
Rises low (place ∷ places) = (low ≤ place) × Rises (suc place) places

-- each is one more than the one before it, and the first is this
abbrev pub Counts : ℕ → List ℕ → Type 0
Counts first [] = Unit {0}
Counts first (place ∷ places) = (place ≡ first) × Counts (suc first) places
