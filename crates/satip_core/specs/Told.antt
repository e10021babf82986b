-- A refusal, in the plain server's types.
use Rattle.std.specs.Prelude.{Option, option_map}
use Rattle.satip_plain.specs.Refusals.{Refused as PlainRefused}
use Rattle.satip_core.specs.declared.refusals.Refused.{Refused}

abbrev pub told : Refused → PlainRefused
told refused = record { status = refused.status; body = refused.body }

-- the same, if there is a refusal
abbrev pub told_if : Option Refused → Option PlainRefused
told_if refused = option_map told refused
