-- The meaning of a script's line.
use Rattle.std.specs.Prelude.{◌≡◌, ℕ, List, Option, None, Some, MatchBool}
use Rattle.satip_plain.specs.declared.events.Event.{Event}
use Rattle.satip_plain.specs.declared.events.Event.TheVariants.{Request, Get}
use Rattle.satip_script.specs.declared.lines.Line.{Line}
use Rattle.satip_script.specs.declared.lines.Line.TheVariants.{Skip, Event as EventLine, Wrong}
use Rattle.satip_script.specs.Lines.{words_of, is_skipped_text}
use Rattle.satip_script.specs.Forms.{Call, Form, Rtsp, Http, Other, form_of}
use Rattle.satip_script.specs.Texts.{Told, Tells, TellsNothing, request_of, get_of}

-- the RTSP request of a call and its text
abbrev pub rtsp_event : Call → Told → Event
rtsp_event call told = Request call.peer call.draw (request_of told)

-- the GET of a call and its text
abbrev pub http_event : Call → Told → Event
http_event call told = Get call.peer call.draw (get_of told)

-- the line is the event of its text, and is wrong if the text is neither one message nor broken
abbrev pub IsTold : List ℕ → (Told → Event) → Line → Type 0
IsTold text event Skip = ⊥
IsTold text event (EventLine e) = (told : Told) × Tells text told × (e ≡ event told)
IsTold text event Wrong = TellsNothing text

-- the line is the event of this form, and is wrong if there is none
abbrev pub IsFormed : Option Form → Line → Type 0
IsFormed None l = l ≡ Wrong
IsFormed (Some (Rtsp call)) l = IsTold call.text (rtsp_event call) l
IsFormed (Some (Http call)) l = IsTold call.text (http_event call) l
IsFormed (Some (Other e)) l = l ≡ EventLine e

-- a line of these bytes is skipped, has this event, or is wrong
abbrev pub IsLine : List ℕ → Line → Type 0
IsLine line l = MatchBool (is_skipped_text line) (l ≡ Skip) (IsFormed (form_of (words_of line)) l)
