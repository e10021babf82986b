-- The fields of a table.
use Rattle.satip_table.specs.Living.{Living, Sound}
use Rattle.satip_table.specs.declared.table.Table.TheInside.{Inside}

-- the table of the fields, as contracts see it
abbrev pub living : Inside → Living
living a = record { seats = a.seats; streams = a.streams; made = a.made }

-- the invariant of the fields
pub record Stored (a : Inside) : Type 0 where
  pub sound : Sound (living a)
