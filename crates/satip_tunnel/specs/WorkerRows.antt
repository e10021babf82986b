-- Connections for the worked examples.
use Rattle.std.specs.Prelude.{ℕ, true}
use Rattle.satip_base.specs.declared.identity.Draw.{Draw}
use Rattle.satip_world.specs.declared.doors.ConnEnd.{ConnEnd}
use Rattle.satip_world.specs.declared.doors.DoorKind.{DoorKind}
use Rattle.satip_world.specs.Halls.{Return}
use Rattle.satip_world.specs.Lines.{fresh_line}

-- a connection whose input ended with no byte received
abbrev pub silent : DoorKind → ConnEnd → Return
silent kind end = record { kind = kind; peer = record { ip = 9 }; line = record fresh_line { ended = true }; end = end }

-- draws by their numbers
abbrev pub drawn : ℕ → Draw
drawn number = record { word = number; ssrc = number; first = 0 }
