-- The clock that a desk over memory gives a client.
use Rattle.std.specs.Prelude.{false, Option, Some, None}
use Rattle.satip_world.specs.Dials.{Dial, fresh_dial}

-- the clock that was put in, or one that exposes nothing
abbrev pub dial_in : Option Dial → Dial
dial_in (Some dial) = dial
dial_in None = fresh_dial false
