-- The answers that an event may have.
use Rattle.std.specs.Prelude.{◌≡◌, Bool, true, false, Option, Some}
use Rattle.satip_rtsp.specs.declared.requests.Refusal.{Refusal}
use Rattle.satip_rtsp.specs.declared.requests.Refusal.TheVariants.{Broken, TooLong}
use Rattle.satip_plain.specs.declared.answers.Answer.{Answer}
use Rattle.satip_plain.specs.declared.answers.Answer.TheVariants.{Replied, Get as GetAnswered, Beat, Work, Pulled, Closed}
use Rattle.satip_plain.specs.declared.answers.Beat.TheVariants.{Stopping}
use Rattle.satip_plain.specs.declared.events.Event.{Event}
use Rattle.satip_plain.specs.declared.events.Event.TheVariants.{Request, Get, Tick, Packet, Ended, Ask, Pull, Close, Stop}

-- whether the connection is closed after the reply, by the fault of the message
abbrev pub closes : Option Refusal → Bool
closes (Some Broken) = true
closes (Some TooLong) = true
closes _ = false

-- the answer is of the event's kind, and a reply closes exactly if the request is broken or too long
abbrev pub Suits : Event → Answer → Type 0
Suits (Request peer draw request) (Replied replied) = replied.closing ≡ closes request.refusal
Suits (Get peer draw request) (GetAnswered answer) = Unit {0}
Suits (Tick now) (Beat beat) = Unit {0}
Suits (Packet front tune packet) (Work work) = Unit {0}
Suits (Ended front tune) (Work work) = Unit {0}
Suits (Ask front) (Work work) = Unit {0}
Suits (Pull session) (Pulled pulled) = Unit {0}
Suits (Close session) (Closed closed) = Unit {0}
Suits Stop (Beat beat) = beat ≡ Stopping
Suits _ _ = ⊥
