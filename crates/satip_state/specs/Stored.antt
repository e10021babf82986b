-- The parts as they are stored.
use Rattle.satip_table.specs.Living.{Sound}
use Rattle.satip_fronts.specs.FrontEnds.{Sound as FrontsSound}
use Rattle.satip_state.specs.declared.parts.Parts.TheInside.{Inside}

-- the invariant of the parts
pub record Stored (a : Inside) : Type 0 where
  pub table : Sound a.table
  pub fronts : FrontsSound a.fronts
