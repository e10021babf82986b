-- The service of the tests: what it keeps of its calls, and what its caller knows.
use Rattle.std.specs.Prelude.{ℕ, ◌-◌, ◌==◌, if◌then◌else◌, Bool, true, false, List, [], ◌∷◌, length, map, ◌<◌, ◌≤◌, ◌+◌, ◌^◌, codes, Option, Some, None}
use Rattle.satip_base.specs.declared.limits.TheConstants.{REPLY_BYTES}
use Rattle.std.proofs.Common.{arith}
use Rattle.satip_base.specs.declared.identity.Draw.{Draw}
use Rattle.satip_base.specs.declared.identity.SessionId.{SessionId}
use Rattle.satip_base.specs.declared.network.Peer.{Peer}
use Rattle.satip_base.specs.Output.{Output, Datagram, empty}
use Rattle.satip_http.specs.declared.requests.HttpRequest.{HttpRequest}
use Rattle.satip_rtsp.specs.declared.requests.Request.{Request}
use Rattle.satip_plain.specs.declared.events.Event.{Event}
use Rattle.satip_plain.specs.declared.events.Event.TheVariants.{Request as Asks, Get, Pull, Close}
use Rattle.satip_plain.specs.declared.setting.Setting.{Setting}
use Rattle.satip_plain.specs.Histories.{Item}
use Rattle.satip_plain.specs.Known.{Known}

abbrev pub test_setting : Setting
test_setting = record {
  config = record { address = 0; rtsp_port = 0; http_port = 0; timeout = 0; workers = 0; fronts = []; muxes = []; files = [] };
  start = 0;
}

-- the reply of a code: none, that to a request, a closing one, or the head of a stream
unfoldable pub reply_text : ℕ → List ℕ
reply_text code =
    if code == 1 then codes "RTSP/1.0 200 OK\r\n\r\n"
    else if code == 2 then codes "RTSP/1.0 400 Bad Request\r\n\r\n"
    else if code == 3 then codes "HTTP/1.1 200 OK\r\n"
    else []

-- one datagram without bytes, or none
abbrev pub sent_out : Bool → List Datagram
sent_out false = []
sent_out true = record { to = record { ip = 2130706433; port = 1400 }; bytes = [] } ∷ []

-- an event of a connection: a request or a GET where one is there, else a pull or a close
abbrev pub event_of : Option Request → Option HttpRequest → Bool → Peer → Draw → SessionId → Event
event_of (Some request) get closes peer draw session = Asks peer draw request
event_of None (Some request) closes peer draw session = Get peer draw request
event_of None None false peer draw session = Pull session
event_of None None true peer draw session = Close session

-- what the caller of all entries knows
abbrev pub known_of : List Item → Known
known_of h = record { seen = h; own = h; length = length h }

-- nothing is written but datagrams
abbrev pub begun : Bool → Output
begun false = empty
begun true = record empty { datagrams = sent_out true; count_spare = 255 }

-- what a call writes
abbrev pub out_of : ℕ → Bool → Output
out_of code sends = record (begun sends) { reply = reply_text code; reply_spare = REPLY_BYTES - length (reply_text code) }

-- what a place holds, before the others
abbrev pub noted : {T : Type 0} → Option T → List T → List T
noted None others = others
noted (Some note) others = note ∷ others

-- what four places hold
abbrev pub all_noted : {T : Type 0} → (first second third fourth : Option T) → List T
all_noted first second third fourth = noted first (noted second (noted third (noted fourth [])))

-- they are few
pub short_notes : {T : Type 0} (item : T → Item) (first second third fourth : Option T)
    → length (map item (all_noted first second third fourth)) < 2 ^ 64
short_notes item first second third fourth =
    let most = noted_most item first (noted second (noted third (noted fourth []))) in
    let more = noted_most item second (noted third (noted fourth [])) in
    let some = noted_most item third (noted fourth []) in
    let few = noted_most item fourth [] in
    omega (arith, most, more, some, few)
  where
    noted_most : {T : Type 0} (item : T → Item) (note : Option T) (others : List T)
        → length (map item (noted note others)) ≤ length (map item others) + 1
    noted_most item None others = omega arith
    noted_most item (Some note) others = omega arith
