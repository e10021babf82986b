-- The places that spots name.
use Rattle.std.specs.Prelude.{ℕ, List, map}
use Rattle.satip_audit.specs.declared.index.Spot.{Spot}

-- the places of spots
abbrev pub places_of : List Spot → List ℕ
places_of spots = map (λ s. s.place) spots
