-- The form of a line, by its parts.
use Rattle.std.specs.Prelude.{◌≡◌, ℕ, false, List, [], Option, None, Some, option_map}
use Rattle.satip_plain.specs.Types.{Draw, Peer}
use Rattle.satip_plain.specs.declared.events.Event.{Event}
use Rattle.satip_plain.specs.declared.events.Event.TheVariants.{Tick, Ended, Ask, Pull, Close, Stop}
use Rattle.satip_script.specs.declared.lines.Line.TheVariants.{Skip, Event as EventLine, Wrong}
use Rattle.satip_script.specs.declared.parts.EventParts.{EventParts}
use Rattle.satip_script.specs.declared.parts.EventParts.TheVariants.{Rtsp as RtspParts, Http as HttpParts, Tick as TickParts, Packet as PacketParts, Ended as EndedParts, Ask as AskParts, Pull as PullParts, Close as CloseParts, Stop as StopParts, Wrong as WrongParts}
use Rattle.satip_script.specs.Lines.{words_of, is_skipped_text}
use Rattle.satip_script.specs.Forms.{Call, Form, Rtsp, Http, Other, call_from, form_of, packet_event}
use Rattle.satip_ts.specs.Digits.{bytes_of, packet_of}
use Rattle.satip_script.specs.Reading.{IsFormed, IsLine}
use Rattle.satip_script.specs.Scripts.{GivenAfter}
use Rattle.satip_script.specs.Texts.{Told, Tells, TellsNothing}

-- the call of a sender, a draw and a text in these digits
abbrev pub call_in : Peer → Draw → List ℕ → Option Call
call_in peer draw digits = call_from (Some peer.ip) (Some draw) (bytes_of digits)

-- the event of a packet in these digits, for a front end and a tune number
abbrev pub packet_in : ℕ → ℕ → List ℕ → Option Event
packet_in front tune digits = packet_event (Some front) (Some tune) (packet_of digits)

-- the form of the parts
abbrev pub form_in : EventParts → Option Form
form_in (RtspParts peer draw digits) = option_map Rtsp (call_in peer draw digits.now)
form_in (HttpParts peer draw digits) = option_map Http (call_in peer draw digits.now)
form_in (TickParts now) = Some (Other (Tick now))
form_in (PacketParts front tune digits) = option_map Other (packet_in front tune digits.now)
form_in (EndedParts front tune) = Some (Other (Ended front tune))
form_in (AskParts front) = Some (Other (Ask front))
form_in (PullParts session) = Some (Other (Pull session))
form_in (CloseParts session) = Some (Other (Close session))
form_in StopParts = Some (Other Stop)
form_in WrongParts = None

-- these are the parts of the event
abbrev pub AreParts : EventParts → Event → Type 0
AreParts parts e = IsFormed (form_in parts) (EventLine e)

-- the line turns out to be wrong
abbrev pub AreWrong : EventParts → Type 0
AreWrong parts = IsFormed (form_in parts) Wrong

-- the line isn't skipped, and has the same form as the parts
pub record IsInParts (line : List ℕ) (parts : EventParts) : Type 0 where
  pub kept : is_skipped_text line ≡ false
  pub form : form_of (words_of line) ≡ form_in parts

-- the line has these parts, or none if it is skipped
abbrev pub HasParts : List ℕ → Option EventParts → Type 0
HasParts line None = IsLine line Skip
HasParts line (Some parts) = IsInParts line parts

-- the parts are those of the first of these events, or None if there is none
abbrev pub PartsGivenAfter : List Event → List (List ℕ) → Option EventParts → Type 0
PartsGivenAfter events left None = events ≡ []
PartsGivenAfter events left (Some parts) = (e : Event) × AreParts parts e × GivenAfter events left (Some e)

-- the digits are those of a text that is one message or broken, and this is its request
abbrev pub Asks : {R : Type 0} → (Told → R) → Option (List ℕ) → R → Type 0
Asks of None request = ⊥
Asks of (Some text) request = (told : Told) × Tells text told × (request ≡ of told)

-- the digits are those of a text that is neither, or there are no digits
abbrev pub AsksNothing : Option (List ℕ) → Type 0
AsksNothing None = Unit {0}
AsksNothing (Some text) = TellsNothing text
