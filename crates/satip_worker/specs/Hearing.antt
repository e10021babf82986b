-- An RTSP connection in the middle of its text.
use Rattle.std.specs.Prelude.{◌≡◌, ◌≢◌, ℕ, ◌+◌, Bool, false, true, List, [], ◌++◌, length}
use Rattle.rand_chacha.specs.ChaCha.{ChaCha}
use Rattle.satip_base.specs.declared.network.Peer.{Peer}
use Rattle.satip_rtsp.specs.declared.requests.Request.{Request}
use Rattle.satip_rtsp.specs.Asked.{asked}
use Rattle.satip_frame.specs.Asking.{AsksFirst, AsksSoFar}
use Rattle.satip_plain.specs.declared.events.Event.{Event}
use Rattle.satip_plain.specs.Histories.{Item}
use Rattle.satip_world.specs.Counts.{Rises}
use Rattle.satip_plain.specs.Calls.{Cause}
use Rattle.satip_plain.specs.declared.fault.ServiceFault.{ServiceFault}
use Rattle.satip_worker.specs.declared.turns.Heard.{Heard}
use Rattle.satip_worker.specs.declared.turns.Heard.TheVariants.{All, Closed, Lost, Unmade}
use Rattle.satip_worker.specs.Drawing.{draw_at, before_draw}
use Rattle.satip_worker.specs.Answers.{events_of, ends_with_last}
use Rattle.satip_worker.specs.Progress.{ConnState, Makes, Carries, SameFaults}
use Rattle.satip_worker.specs.Requests.{AsksAll, request_events}
use Rattle.satip_worker.specs.RtspRun.{replies, SentInPart}

-- the start of a connection: its peer, the stream of its draws and the first number, and the state of the service, the outlet and the connection then
pub record Course : Type 0 where
  pub peer : Peer
  pub key : List ℕ
  pub stream : ℕ
  pub from : ℕ
  pub start : ConnState

-- the events of requests on this course
abbrev pub course_events : Course → List Request → List Event
course_events course requests = request_events course.peer (draw_at course.key course.stream) course.from requests

-- the generator after `count` draws of this course
abbrev pub drawn : Course → ℕ → ChaCha
drawn course count = before_draw course.key course.stream (course.from + count)

-- these requests of the text were answered, and no receive and no send failed; `over` says whether the connection ends with the last answer
pub record Answered (conn_tells outlet_tells : Type 0) (course : Course) (n : ConnState) (draws : ChaCha) (text : List ℕ)
    (requests : List Request) (over : Bool) : Type 0 where
  pub entries : List Item
  pub events : events_of entries ≡ course_events course requests
  pub ends : ends_with_last entries ≡ over
  pub draws_are : draws ≡ drawn course (length entries)
  pub makes : Makes outlet_tells course.start.stage n.stage entries
  pub carries : Carries conn_tells course.start.line n.line text (replies entries)
  pub calm : SameFaults course.start.line n.line

-- the first requests of the text were answered, and these bytes wait
pub record Stands (conn_tells outlet_tells : Type 0) (course : Course) (n : ConnState) (draws : ChaCha) (text waiting : List ℕ) : Type 0 where
  pub requests : List Request
  pub first : AsksFirst asked text requests waiting
  pub answered : Answered conn_tells outlet_tells course n draws text requests false

-- all requests of the text so far were answered, and the framer holds these bytes
pub record Listens (conn_tells outlet_tells : Type 0) (course : Course) (n : ConnState) (draws : ChaCha) (text held : List ℕ) : Type 0 where
  pub requests : List Request
  pub heard : AsksSoFar asked text requests held
  pub answered : Answered conn_tells outlet_tells course n draws text requests false

-- the text is broken, and all its requests were answered; the connection ends with the last answer
pub record HasClosed (conn_tells outlet_tells : Type 0) (course : Course) (n : ConnState) (draws : ChaCha) (text : List ℕ) : Type 0 where
  pub requests : List Request
  pub asks : AsksAll text requests
  pub answered : Answered conn_tells outlet_tells course n draws text requests true

-- the events of entries are the first ones of the text
pub record AreFirstOf (course : Course) (text : List ℕ) (entries : List Item) : Type 0 where
  pub requests : List Request
  pub asks : AsksAll text requests
  pub rest : List Event
  pub events : course_events course requests ≡ events_of entries ++ rest

-- a send failed in the middle of the text, and no receive did
pub record HasLost (conn_tells outlet_tells : Type 0) (course : Course) (n : ConnState) (draws : ChaCha) (text : List ℕ) : Type 0 where
  pub entries : List Item
  pub first : AreFirstOf course text entries
  pub sent : List ℕ
  pub in_part : SentInPart entries sent
  pub draws_are : draws ≡ drawn course (length entries)
  pub makes : Makes outlet_tells course.start.stage n.stage entries
  pub carries : Carries conn_tells course.start.line n.line text sent
  pub faults : Rises course.start.line.send_faults n.line.send_faults
  pub receives : n.line.receive_faults ≡ course.start.line.receive_faults

-- the service made no entry of the text's next event
pub record HasStopped (conn_tells outlet_tells : Type 0) (course : Course) (n : ConnState) (draws : ChaCha) (text : List ℕ)
    (fault : ServiceFault) : Type 0 where
  pub entries : List Item
  pub first : AreFirstOf course text entries
  pub more : first.rest ≢ []
  pub draws_are : draws ≡ drawn course (length entries + 1)
  pub makes : Makes outlet_tells course.start.stage n.stage entries
  pub carries : Carries conn_tells course.start.line n.line text (replies entries)
  pub cause : Cause course.start.stage.may_want n.stage.known fault

-- the outcome of hearing a text; the framer then holds `held`
abbrev pub Hears : (conn_tells outlet_tells : Type 0) (course : Course) (n : ConnState) (draws : ChaCha)
    (text held : List ℕ) → Heard → Type 0
Hears conn_tells outlet_tells course n draws text held All = Listens conn_tells outlet_tells course n draws text held
Hears conn_tells outlet_tells course n draws text held Closed = HasClosed conn_tells outlet_tells course n draws text
Hears conn_tells outlet_tells course n draws text held Lost = HasLost conn_tells outlet_tells course n draws text
Hears conn_tells outlet_tells course n draws text held (Unmade fault) = HasStopped conn_tells outlet_tells course n draws text fault
