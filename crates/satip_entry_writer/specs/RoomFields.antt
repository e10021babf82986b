-- A room keeps its line in a prefix of its bytes.
use Rattle.std.specs.Prelude.{◌≡◌, ◌-◌, ◌≤◌, take, vec_len}
use Rattle.satip_entry_writer.specs.declared.room.LineRoom.TheInside.{Inside}
use Rattle.satip_entry_writer.specs.Sheets.{Sheet}

-- the value of a room
abbrev pub sheet_of : Inside → Sheet
sheet_of r = record { text = take r.count r.bytes.items; spare = 1048576 - r.count }

pub record IsSound (r : Inside) : Type 0 where
  pub bytes : vec_len r.bytes ≡ 1048576
  pub count : r.count ≤ 1048576
