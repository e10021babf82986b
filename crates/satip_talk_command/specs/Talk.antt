-- One RTSP connection over a whole text: its requests, and the plain server's replies.
use Rattle.std.specs.Prelude.{◌≡◌, ℕ, ◌+◌, ◌%◌, List, [], ◌∷◌, ◌++◌, map}
use Rattle.satip_base.specs.declared.identity.Draw.{Draw}
use Rattle.satip_base.specs.Streams.{Began}
use Rattle.satip_frame.specs.Said.{Said}
use Rattle.satip_frame.specs.Stream.{Tail, Messages}
use Rattle.satip_rtsp.specs.declared.requests.Request.{Request}
use Rattle.satip_rtsp.specs.Asked.{asked, broken_request}
use Rattle.satip_frame.specs.Asking.{asked_by_tail}
use Rattle.satip_plain.specs.Types.{Config as Configuration}
use Rattle.satip_plain.specs.declared.events.Event.{Event}
use Rattle.satip_plain.specs.declared.events.Event.TheVariants.{Request as Asked}
use Rattle.satip_plain.specs.declared.setting.Setting.{Setting}
use Rattle.satip_plain.specs.State.{State}
use Rattle.satip_plain.specs.Steps.{step}
use Rattle.satip_plain.specs.Histories.{opening}

-- the address 127.0.0.1, of the server and of its peer
abbrev pub localhost : ℕ
localhost = 2130706433

-- the server of a talk has no front ends
abbrev pub talk_config : Configuration
talk_config = record {
  address = localhost;
  rtsp_port = 554;
  http_port = 8875;
  timeout = 60;
  workers = 8;
  fronts = [];
  muxes = [];
  files = [];
}

-- its clock begins at 0 and stays there
abbrev pub talk_setting : Setting
talk_setting = record { config = talk_config; start = 0 }

-- the server of a connection before any event
abbrev pub start : State
start = opening talk_setting

-- the draw of message k; no input has enough messages for the numbers to repeat
abbrev pub draw_of : ℕ → Draw
draw_of k = record { word = k % 4294967296; ssrc = k % 4294967296; first = 0 }

-- the event of message k
abbrev pub event_of : ℕ → Request → Event
event_of k request = Asked (record { ip = localhost }) (draw_of k) request

-- the events of requests, of which the first is that of message k
abbrev pub events_from : ℕ → List Request → List Event
events_from k [] = []
events_from k (request ∷ requests) = event_of k request ∷ events_from (k + 1) requests

-- messages are numbered from 1
abbrev pub events_of : List Request → List Event
events_of requests = events_from 1 requests

-- the requests of a tail: one if the text ends with something that is no message
abbrev pub tail_requests : Tail → List Request
tail_requests = asked_by_tail broken_request

-- one request for each message in order, and one more for something that is no message; the reply to that is a closing one, and the last
abbrev pub requests_of : List Said → Tail → List Request
requests_of messages tail = map asked messages ++ tail_requests tail

-- the replies to events, each by a step of the plain server
abbrev pub replies : State → List Event → List ℕ
replies state [] = []
replies state (event ∷ events) = (step talk_config state event).reply ++ replies (step talk_config state event).state events

-- the state after events
abbrev pub after : State → List Event → State
after state [] = state
after state (event ∷ events) = after (step talk_config state event).state events

-- the replies to the requests of a connection
abbrev pub replies_to : List Request → List ℕ
replies_to requests = replies start (events_of requests)

-- the replies on a connection that received these messages and this tail
abbrev pub talk_replies : List Said → Tail → List ℕ
talk_replies messages tail = replies_to (requests_of messages tail)

-- the replies to the whole text were sent
pub record Answered (tells : Type 0) (before now text : List ℕ) : Type 0 where
  pub messages : List Said
  pub tail : Tail
  pub read : Messages text messages tail
  pub sent : tells → now ≡ before ++ talk_replies messages tail

-- a prefix of the replies to the whole text was sent
pub record PartlyAnswered (tells : Type 0) (before now text : List ℕ) : Type 0 where
  pub messages : List Said
  pub tail : Tail
  pub read : Messages text messages tail
  pub sent : tells → Began before now (talk_replies messages tail)
