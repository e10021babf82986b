-- The connections that doors over memory keep.
use Rattle.std.specs.Prelude.{◌≡◌}
use Rattle.satip_memory.specs.declared.doors.Coming.{Coming}
use Rattle.satip_memory.specs.declared.doors.Given.{Given}
use Rattle.satip_memory.specs.declared.doors.Handed.{Handed}
use Rattle.satip_world.specs.Halls.{Arrival, Return}
use Rattle.satip_world.specs.Lines.{fresh_line}

-- a connection that came
abbrev pub arrival_of : Given → Arrival
arrival_of given = record { kind = given.kind; peer = given.peer }

-- a connection that was handed back
abbrev pub return_of : Handed → Return
return_of handed = record { kind = handed.kind; peer = handed.peer; line = handed.conn; end = handed.end }

-- a connection that wasn't used
abbrev pub IsUnused : Coming → Type 0
IsUnused coming = coming.conn ≡ fresh_line
