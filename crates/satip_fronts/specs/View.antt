-- The fields of the front ends.
use Rattle.satip_fronts.specs.FrontEnds.{FrontEnds, Sound}
use Rattle.satip_fronts.specs.Rows.{AreCounted}
use Rattle.satip_fronts.specs.declared.fronts.Fronts.TheInside.{Inside}

-- the front ends of the fields, as contracts see them
abbrev pub front_ends : Inside → FrontEnds
front_ends a = record { fronts = a.fronts.items; muxes = a.muxes.items; rows = a.rows.items; places = a.places }

-- the invariant of the fields
pub record Stored (a : Inside) : Type 0 where
  pub sound : Sound (front_ends a)
  pub counted : AreCounted a.places a.counts
