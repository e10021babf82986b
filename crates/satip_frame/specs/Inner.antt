-- A framer's fields: the place of the last message in the buffer, and the invariant of the fields.
use Rattle.std.specs.Prelude.{ℕ, ◌+◌, ◌≤◌, List, length, take, drop, All, Option, Some, None, slice_range, vec_len, vec_capacity}
use Rattle.std.specs.Global.{Vec}
use Rattle.httparse.specs.Spans.{IsHeaderWithin}
use Rattle.httparse.specs.declared.spans.HeaderSpan.{HeaderSpan}
use Rattle.satip_frame.specs.declared.framing.Break.{Break}
use Rattle.satip_frame.specs.declared.framing.Place.{Place}
use Rattle.satip_frame.specs.declared.framing.State.{State}
use Rattle.satip_frame.specs.declared.framing.State.TheVariants.{Reading, Holding, Ended}
use Rattle.satip_frame.specs.Said.{Said}
use Rattle.satip_frame.specs.Places.{IsLineWithin, said_at}
use Rattle.satip_frame.specs.Stream.{Broken, skip_newlines, Ends}
use Rattle.satip_frame.specs.Held.{capacity}
use Rattle.satip_frame.specs.Fronts.{IsSeen}
use Rattle.satip_frame.specs.declared.looking.Seen.{Seen}

-- the message at a place of the buffer
abbrev pub said_in : List ℕ → List HeaderSpan → Place → Said
said_in items headers place =
    said_at (slice_range items place.at (place.at + place.found.head)) place.found.line (take place.found.headers headers)

-- the message that was found last
abbrev pub found_in : List ℕ → List HeaderSpan → State → Option Said
found_in items headers Reading = None
found_in items headers (Holding place) = Some (said_in items headers place)
found_in items headers (Ended cause) = None

-- the break of the text, if it is broken
abbrev pub ended_in : State → Option Break
ended_in Reading = None
ended_in (Holding place) = None
ended_in (Ended cause) = Some cause

-- the parts of the message at the place lie in the buffer
pub record IsPlace (items : List ℕ) (headers : List HeaderSpan) (place : Place) : Type 0 where
  pub within : place.at + place.found.head ≤ length items
  pub line : IsLineWithin place.found.head place.found.line
  pub counted : place.found.headers ≤ 64
  pub headers_within : All (IsHeaderWithin place.found.head) (take place.found.headers headers)

-- the last message lies in the buffer, and a broken text is broken at the framer's place
abbrev pub IsState : List ℕ → ℕ → List HeaderSpan → State → Type 0
IsState items start headers Reading = Unit {0}
IsState items start headers (Holding place) = IsPlace items headers place
IsState items start headers (Ended cause) = Ends (skip_newlines (drop start items)) (Broken cause)

-- the invariant of each framer
pub record IsFramer (buffer : Vec ℕ) (start : ℕ) (headers : List HeaderSpan) (state : State) (seen : Seen) : Type 0 where
  pub start_within : start ≤ vec_len buffer
  pub held : vec_len buffer ≤ capacity
  pub room : capacity ≤ vec_capacity buffer
  pub rests : IsState buffer.items start headers state
  pub known : IsSeen (drop start buffer.items) seen
