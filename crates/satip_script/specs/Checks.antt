-- The kind of a line, without its event.
use Rattle.std.specs.Prelude.{ℕ, List}
use Rattle.satip_plain.specs.declared.events.Event.{Event}
use Rattle.satip_script.specs.declared.lines.Line.TheVariants.{Skip, Event as EventLine, Wrong}
use Rattle.satip_script.specs.declared.scripts.Check.{Check}
use Rattle.satip_script.specs.declared.scripts.Check.TheVariants.{Skip as CheckSkip, Right, Wrong as CheckWrong}
use Rattle.satip_script.specs.declared.parts.EventParts.{EventParts}
use Rattle.satip_script.specs.Reading.{IsLine}
use Rattle.satip_script.specs.InParts.{AreParts}

-- the parts are those of some event
abbrev pub IsOfEvent : EventParts → Type 0
IsOfEvent parts = (e : Event) × AreParts parts e

-- the line is skipped, has some event, or is wrong
abbrev pub IsChecked : List ℕ → Check → Type 0
IsChecked line CheckSkip = IsLine line Skip
IsChecked line Right = (e : Event) × IsLine line (EventLine e)
IsChecked line CheckWrong = IsLine line Wrong
