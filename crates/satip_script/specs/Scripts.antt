-- A script: the events of its lines, or the number of its first wrong line.
use Rattle.std.specs.Prelude.{◌≡◌, ℕ, ◌+◌, ◌⊎◌, List, [], ◌∷◌, Option, None, Some, Result, Ok, Err}
use Rattle.satip_plain.specs.declared.events.Event.{Event}
use Rattle.satip_script.specs.declared.lines.Line.TheVariants.{Skip, Event as EventLine, Wrong}
use Rattle.satip_script.specs.Lines.{lines_of}
use Rattle.satip_script.specs.Reading.{IsLine}

-- the list with this event before it, or the same error
abbrev pub with_event : Event → Result (List Event) ℕ → Result (List Event) ℕ
with_event e (Ok events) = Ok (e ∷ events)
with_event e (Err number) = Err number

-- lines, numbered from this number on, give these events or this first wrong line
abbrev pub ComesTo : ℕ → List (List ℕ) → Result (List Event) ℕ → Type 0
ComesTo number [] result = result ≡ Ok []
ComesTo number (line ∷ lines) result =
    (IsLine line Wrong × (result ≡ Err number))
    ⊎ (IsLine line Skip × ComesTo (number + 1) lines result)
    ⊎ ((e : Event) × (others : Result (List Event) ℕ) × IsLine line (EventLine e) × ComesTo (number + 1) lines others
    × (result ≡ with_event e others))

-- a whole text, with lines numbered from 1, is the script of these events, or has this first wrong line
abbrev pub IsScript : List ℕ → Result (List Event) ℕ → Type 0
IsScript text result = ComesTo 1 (lines_of text) result

-- no line is wrong, and these are the events
abbrev pub Gives : List (List ℕ) → List Event → Type 0
Gives lines events = (number : ℕ) × ComesTo number lines (Ok events)

-- there is no further event before the end or a wrong line
abbrev pub IsOver : List (List ℕ) → Type 0
IsOver [] = Unit {0}
IsOver (line ∷ lines) = IsLine line Wrong ⊎ (IsLine line Skip × IsOver lines)

-- the next event, and the lines after its line
abbrev pub HasNext : List (List ℕ) → Event → List (List ℕ) → Type 0
HasNext [] e left = ⊥
HasNext (line ∷ lines) e left = (IsLine line (EventLine e) × (left ≡ lines)) ⊎ (IsLine line Skip × HasNext lines e left)

-- this is the first of the events, and the other lines give the others; None if there are no events
abbrev pub GivenAfter : List Event → List (List ℕ) → Option Event → Type 0
GivenAfter events left None = events ≡ []
GivenAfter events left (Some e) = (others : List Event) × (events ≡ e ∷ others) × Gives left others
