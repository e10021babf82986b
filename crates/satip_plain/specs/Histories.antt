-- Histories: the events of the server with their answers and outputs, one entry after another.
use Rattle.std.specs.Prelude.{◌≡◌, false, List, [], ◌∷◌, map, None}
use Rattle.satip_base.specs.declared.entry.Entry.{Entry}
use Rattle.satip_base.specs.Output.{Datagram, Output}
use Rattle.satip_rtp.specs.Bytes.{rtp_datagram}
use Rattle.satip_sdp.specs.Rtcp.Reports.{report}
use Rattle.satip_plain.specs.declared.answers.Answer.{Answer}
use Rattle.satip_plain.specs.declared.events.Event.{Event}
use Rattle.satip_plain.specs.Types.{Config, Front}
use Rattle.satip_plain.specs.declared.setting.Setting.{Setting}
use Rattle.satip_plain.specs.State.{State, Row}
use Rattle.satip_plain.specs.Sending.{Sent, Rtp, Report}
use Rattle.satip_plain.specs.Steps.{Outcome, step, capped}
use Rattle.satip_plain.specs.Values.{IsServable, IsSetting, IsEvent}
use Rattle.satip_base.specs.Lists.{Each}

-- an entry: its caller's number, the event, the answer, and the reply and datagrams written
abbrev pub Item : Type 0
Item = Entry Event Answer Output

-- the address and bytes of what leaves
abbrev pub datagram : Sent → Datagram
datagram (Rtp id to number clock ssrc packets) = record { to = to; bytes = rtp_datagram number clock ssrc packets }
datagram (Report id view sender) = record { to = sender.to; bytes = report view sender }

-- a front end before its first tuning
abbrev pub untuned : Front → Row
untuned front = record { number = front.number; mux = None; tune = 0; ended = false }

-- the server before its first event
abbrev pub opening : Setting → State
opening c = record {
  clock = capped c.start;
  made = 0;
  stopped = false;
  sessions = [];
  streams = [];
  rows = map untuned c.config.fronts;
}

-- the state after these entries, from this state on
abbrev pub after_from : Config → State → List Item → State
after_from c st [] = st
after_from c st (e ∷ es) = after_from c (step c st e.event).state es

-- the state after a history
abbrev pub after : Setting → List Item → State
after c h = after_from c.config (opening c) h

-- the entry has the answer, the reply and the datagrams of this outcome
pub record Fits (o : Outcome) (e : Item) : Type 0 where
  pub answer : e.answer ≡ o.answer
  pub reply : e.out.reply ≡ o.reply
  pub datagrams : e.out.datagrams ≡ map datagram o.sent

-- each entry is the outcome of its event, from this state on
abbrev pub LegalFrom : Config → State → List Item → Type 0
LegalFrom c st [] = Unit {0}
LegalFrom c st (e ∷ es) = Fits (step c st e.event) e × LegalFrom c (step c st e.event).state es

-- a legal history: its configuration is servable, its values are within their types, and each entry is the outcome of its event
pub record Legal (c : Setting) (h : List Item) : Type 0 where
  pub servable : IsServable c.config
  pub setting : IsSetting c
  pub events : Each (λ e. IsEvent e.event) h
  pub entries : LegalFrom c.config (opening c) h
