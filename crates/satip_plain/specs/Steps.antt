-- The step of the plain server: the outcome of each event. Cases that a refusal or the order of creation rules out have any value.
use Rattle.std.specs.Prelude.{ℕ, ◌==◌, ◌&&◌, ◌+◌, ◌*◌, ◌%◌, ◌^◌, not, nat_le, min, max, Bool, true, false, List, [], ◌∷◌, ◌++◌, map, filter, flat_map, length, sum, take, find, Option, None, Some, option_map, option_and_then, is_some, is_none, unwrap_or, if◌then◌else◌}
use Rattle.satip_base.specs.declared.limits.TheConstants.{PULLED, QUEUED, REPORT_MS}
use Rattle.std.specs.List.{list_any, concat, range_with_len}
use Rattle.std.specs.Option.{option_map_or}
use Rattle.satip_pids.specs.Pids.{Only, has_pid}
use Rattle.satip_ts.specs.Packet.{pid_of}
use Rattle.satip_sdp.specs.Rtcp.declared.views.StreamView.{StreamView}
use Rattle.satip_sdp.specs.Rtcp.declared.views.Sender.{Sender}
use Rattle.satip_sdp.specs.Sdp.{sdp}
use Rattle.satip_rtsp.specs.Replies.{options_reply, closing_reply, plain_reply, describe_head, setup_reply, play_reply, unsupported_reply, text_reply}
use Rattle.satip_rtsp.specs.Frame.declared.framing.Break.{Break}
use Rattle.satip_rtsp.specs.Frame.declared.framing.Break.TheVariants.{Bad, TooLong as too_long}
use Rattle.satip_http.specs.Heads.{start_head, http_refusal}
use Rattle.satip_rtsp.specs.declared.requests.Refusal.{Refusal}
use Rattle.satip_rtsp.specs.declared.requests.Refusal.TheVariants.{Broken, TooLong, Require}
use Rattle.satip_rtsp.specs.declared.requests.Method.{Method}
use Rattle.satip_rtsp.specs.declared.requests.Method.TheVariants.{Options, Describe, Setup, Play, Teardown}
use Rattle.satip_plain.specs.declared.answers.Answer.{Answer}
use Rattle.satip_plain.specs.declared.answers.Answer.TheVariants.{Replied, Get, Beat, Work as WorkIs, Pulled, Closed}
use Rattle.satip_plain.specs.declared.answers.Beat.TheVariants.{Going, Stopping as BeatStopping}
use Rattle.satip_plain.specs.declared.answers.Work.{Work}
use Rattle.satip_plain.specs.declared.answers.Work.TheVariants.{Tune, Nothing, Stopping as WorkStopping}
use Rattle.satip_plain.specs.declared.answers.GetAnswer.TheVariants.{Started, Refused as GetRefused}
use Rattle.satip_plain.specs.declared.answers.Pulled.TheVariants.{Bytes, Empty, Gone as PulledGone}
use Rattle.satip_plain.specs.declared.answers.Closed.TheVariants.{Yes, Gone as ClosedGone}
use Rattle.satip_plain.specs.declared.events.Event.{Event}
use Rattle.satip_plain.specs.declared.events.Event.TheVariants.{Request as Asked, Get as Got, Tick, Packet, Ended, Ask, Pull, Close, Stop}
use Rattle.satip_plain.specs.Types.{SessionId, Draw, Peer, Ports, Config, Request, HttpRequest}
use Rattle.satip_plain.specs.State.{Session, Stream, Row, State, same_id, http_session, stream_of, row_of, members, served_by, held, change_where, last_moment}
use Rattle.satip_plain.specs.Sending.{Sent, Report, Move, Turn, settle, then_move, each_of, let_go}
use Rattle.satip_plain.specs.Streams.{sweep, change_by}
use Rattle.satip_plain.specs.Refusals.{Refused, session_named, decide, decide_get}

-- the outcome of an event: the next state, the answer, the bytes of the reply and the datagrams sent
pub record Outcome : Type 0 where
  pub state : State
  pub answer : Answer
  pub reply : List ℕ
  pub sent : List Sent

-- the outcome of a move with this answer and this reply
abbrev pub outcome : Move → Answer → List ℕ → Outcome
outcome m answer reply = record { state = m.state; answer = answer; reply = reply; sent = m.sent }

-- sessions

abbrev pub is_session : SessionId → Session → Bool
is_session id s = same_id s.id id

-- applies f to the session of this id
abbrev pub change_session : SessionId → (Session → Session) → State → State
change_session id f st = record st { sessions = change_where (is_session id) f st.sessions }

-- sets the session's last activity to this moment
abbrev pub hear : SessionId → State → State
hear id st = change_session id (λ s. record s { heard = st.clock }) st

-- the held packets of an RTSP session leave as it ends; the queue of an HTTP session is dropped
abbrev pub part : ℕ → Session → Turn
part clock s = record { sends = (if s.http then [] else (let_go true clock s).sends); after = None }

-- ends each session for which p holds, and each stream that is left without sessions
abbrev pub end_where : (Session → Bool) → State → Move
end_where p st =
    let gone = each_of p (part st.clock) st in
    record { state = sweep gone.state; sent = gone.sent }

-- the sequence number of the session's next datagram
abbrev pub next_number : Session → ℕ
next_number s = (s.first + length s.sizes) % 65536

-- creating and joining

-- the least number from 1 that no stream has
abbrev pub least_free : List Stream → ℕ
least_free streams = unwrap_or (find (λ n. not (list_any (λ t. t.number == n) streams)) (range_with_len 1 (length streams + 1))) 0

-- the id of the next session
abbrev pub next_id : State → Draw → SessionId
next_id st draw = record { count = st.made + 1; word = draw.word }

-- a session as it is created: an HTTP session plays from the start
abbrev pub new_session : State → Bool → Peer → Draw → Ports → ℕ → Session
new_session st http peer draw ports number = record {
  id = next_id st draw;
  http = http;
  peer = peer;
  ports = ports;
  stream = number;
  playing = http;
  heard = st.clock;
  reported = None;
  ssrc = draw.ssrc;
  first = draw.first;
  picked = [];
  sizes = [];
}

-- adds a new session to the stream of this number, last of all
abbrev pub join : Bool → Peer → Draw → Ports → ℕ → State → State
join http peer draw ports number st = record st {
  made = st.made + 1;
  sessions = st.sessions ++ new_session st http peer draw ports number ∷ [];
}

-- adds a stream; streams are in rising number
abbrev pub put_stream : Stream → List Stream → List Stream
put_stream new streams = filter (λ t. nat_le t.number new.number) streams ++ new ∷ filter (λ t. not (nat_le t.number new.number)) streams

-- creates a session that owns a new stream
abbrev pub found : Bool → Peer → Draw → Ports → State → State
found http peer draw ports st =
    let number = least_free st.streams in
    join http peer draw ports number
    (record st { streams = put_stream (record { number = number; tuning = None; front = None; pids = Only [] }) st.streams })

-- replies

-- the view of a stream, as DESCRIBE and reports show it
abbrev pub view_of : State → Stream → StreamView
view_of st t = record {
  number = t.number;
  tuning = t.tuning;
  front = unwrap_or t.front 0;
  locked = is_some (option_and_then (λ r. r.mux) (option_and_then (row_of st) t.front));
  pids = t.pids;
  playing = list_any (λ s. s.playing) (members st t.number);
}

-- the SDP of the named stream, or of all
abbrev pub description : Config → State → Option ℕ → List ℕ
description c st named =
    sdp c.address (length c.fronts) (map (view_of st) (filter (λ t. option_map_or (λ n. t.number == n) named true) st.streams))

-- the cause for which a connection is closed, if it is
abbrev pub break_of : Refusal → Option Break
break_of Broken = Some Bad
break_of TooLong = Some too_long
break_of _ = None

-- whether the connection is closed for this fault of the message
abbrev pub closes : Refusal → Bool
closes refusal = is_some (break_of refusal)

-- the reply to a refused request that is a whole message
abbrev pub refused_reply : Option ℕ → Refused → List ℕ
refused_reply cseq refused = option_map_or (text_reply cseq refused.status) refused.body (plain_reply cseq refused.status)

-- the reply for a fault of the message itself: a closing one has no CSeq, and a required option is named
abbrev pub message_reply : Option ℕ → Refused → Refusal → List ℕ
message_reply cseq refused (Require kept) = unsupported_reply cseq kept
message_reply cseq refused refusal = option_map_or closing_reply (break_of refusal) (refused_reply cseq refused)

-- the reply to a refused request
abbrev pub reply_to_refused : Request → Refused → List ℕ
reply_to_refused r refused = option_map_or (message_reply r.cseq refused) r.refusal (refused_reply r.cseq refused)

-- whether the connection is closed after the reply to this request
abbrev pub is_closing : Request → Bool
is_closing r = option_map_or closes r.refusal false

-- requests

-- the outcome of an accepted request
abbrev pub accepted : Move → List ℕ → Outcome
accepted m reply = outcome m (Replied (record { status = 200; closing = false })) reply

-- sets the last activity of the named session if the message itself is well-formed, even if the request is refused
abbrev pub heard_by : Request → State → State
heard_by r st = option_map_or (λ s. if is_none r.refusal then hear s.id st else st) (session_named st r.session) st

-- the state before a SETUP's query is looked at: its session is moved, joined or created
abbrev pub set_up : Peer → Draw → Ports → Request → State → State
set_up peer draw ports r st = option_map_or
    (λ s. change_session s.id (λ x. record x { peer = peer; ports = ports }) st)
    (session_named st r.session)
    (option_map_or (λ number. join false peer draw ports number st) r.stream (found false peer draw ports st))

-- the id and the stream of a SETUP's session
abbrev pub setup_session : Draw → Request → State → SessionId
setup_session draw r st = option_map_or (λ s. s.id) (session_named st r.session) (next_id st draw)

-- the number of the stream of a SETUP's session
abbrev pub setup_number : Request → State → ℕ
setup_number r st = unwrap_or r.stream (least_free st.streams)

-- the ports of a session that has none
abbrev pub no_ports : Ports
no_ports = record { rtp = 0; rtcp = 0 }

-- SETUP: the session is moved or created, then the query changes its stream
abbrev pub setup : Config → Peer → Draw → Request → State → Outcome
setup c peer draw r st =
    let ports = unwrap_or r.ports no_ports in
    let number = setup_number r st in
    accepted (change_by c number r.query (set_up peer draw ports r st))
    (setup_reply r.cseq (setup_session draw r st) c.timeout ports number)

-- the session plays from this request on
abbrev pub play_of : Config → Request → State → Session → Outcome
play_of c r st s =
    let m = then_move (change_by c s.stream r.query st) (λ now. settle (change_session s.id (λ x. record x { playing = true }) now)) in
    accepted m (play_reply r.cseq s.id c.address s.stream
    (option_map_or next_number (find (is_session s.id) m.state.sessions) 0))

-- TEARDOWN: the session ends
abbrev pub teardown_of : Request → State → Session → Outcome
teardown_of r st s = accepted (end_where (is_session s.id) st) (plain_reply r.cseq 200)

-- the outcome of an accepted request, by its method
abbrev pub done_by : Method → Config → Peer → Draw → Request → State → Outcome
done_by Options c peer draw r st = accepted (settle st) (options_reply r.cseq (option_map (λ s. s.id) (session_named st r.session)))
done_by Describe c peer draw r st = let body = description c st r.stream in accepted (settle st) (describe_head r.cseq c.address (length body) ++ body)
done_by Setup c peer draw r st = setup c peer draw r st
done_by Play c peer draw r st = option_map_or (play_of c r st) (session_named st r.session) (accepted (settle st) [])
done_by Teardown c peer draw r st = option_map_or (teardown_of r st) (session_named st r.session) (accepted (settle st) [])

-- the outcome of a refused request
abbrev pub refuse : Request → State → Refused → Outcome
refuse r st refused = outcome (settle st) (Replied (record { status = refused.status; closing = is_closing r })) (reply_to_refused r refused)

-- an RTSP request: refused or executed, after its session's activity was set
abbrev pub on_request : Config → Peer → Draw → Request → State → Outcome
on_request c peer draw r st =
    let heard = heard_by r st in
    option_map_or (refuse r heard) (decide c st r) (done_by r.method c peer draw r heard)

-- HTTP sessions

-- the limit of packets in an HTTP session's queue, and of packets in a pull
abbrev pub most_queued : ℕ
most_queued = QUEUED

abbrev pub most_pulled : ℕ
most_pulled = PULLED

-- a GET that is accepted: it creates a session with a stream, and tunes it
abbrev pub start : Config → Peer → Draw → HttpRequest → State → Outcome
start c peer draw r st =
    outcome (change_by c (least_free st.streams) r.query (found true peer draw no_ports st)) (Get (Started (next_id st draw))) start_head

-- an HTTP request: refused or executed
abbrev pub on_get : Config → Peer → Draw → HttpRequest → State → Outcome
on_get c peer draw r st = option_map_or
    (λ refused. outcome (settle st) (Get (GetRefused refused.status)) (http_refusal refused.status refused.body))
    (decide_get c st r)
    (start c peer draw r st)

-- moves the first packets of the queue into the reply
abbrev pub pull_some : State → Session → List (List ℕ) → Outcome
pull_some st s [] = outcome (settle (hear s.id st)) (Pulled Empty) []
pull_some st s (p ∷ ps) =
    let packets = take most_pulled (p ∷ ps) in
    outcome (settle (change_session s.id (λ x. record x { heard = st.clock; sizes = x.sizes ++ length packets ∷ [] }) st))
    (Pulled (Bytes (length (concat packets)))) (concat packets)

-- a pull of an HTTP session
abbrev pub on_pull : SessionId → State → Outcome
on_pull id st = option_map_or (λ s. pull_some st s (held s)) (http_session st id) (outcome (settle st) (Pulled PulledGone) [])

-- a close of an HTTP session
abbrev pub on_close : SessionId → State → Outcome
on_close id st = option_map_or
    (λ s. outcome (end_where (is_session id) st) (Closed Yes) [])
    (http_session st id)
    (outcome (settle st) (Closed ClosedGone) [])

-- the tick

-- a moment in milliseconds, capped to the last one
abbrev pub capped : ℕ → ℕ
capped moment = min moment last_moment

-- whether the session had no activity for the timeout, which is in seconds
abbrev pub is_expired : Config → ℕ → Session → Bool
is_expired c clock s = nat_le (s.heard + c.timeout * 1000) clock

-- the sessions without activity for the timeout
abbrev pub expired : Config → State → List Session
expired c st = filter (is_expired c st.clock) st.sessions

-- whether the session is due for a report: it plays over RTSP, and had none for 200 milliseconds
abbrev pub is_due : ℕ → Session → Bool
is_due clock s = s.playing && not s.http && option_map_or (λ at. nat_le (at + REPORT_MS) clock) s.reported true

-- the sender of a session's report: its addresses, its clock and its counts
abbrev pub sender_of : Config → State → Session → Sender
sender_of c st s = record {
  to = record { ip = s.peer.ip; port = s.ports.rtcp };
  ssrc = s.ssrc;
  clock = st.clock;
  datagrams = length s.sizes % 2 ^ 32;
  octets = 188 * sum s.sizes % 2 ^ 32;
  address = c.address;
}

-- the report of a session, if its stream lives
abbrev pub report_of : Config → State → Session → List Sent
report_of c st s = option_map_or
    (λ t. Report s.id (view_of st t) (sender_of c st s) ∷ [])
    (stream_of st s.stream) []

-- each session that is due gets a report
abbrev pub send_reports : Config → State → Move
send_reports c st = each_of (is_due st.clock) (λ s. record { sends = report_of c st s; after = Some (record s { reported = Some st.clock }) }) st

-- in this order: the clock advances, held packets leave, sessions without activity end, reports leave
abbrev pub tick : Config → ℕ → State → Move
tick c now st =
    let clock = max st.clock (capped now) in
    then_move (each_of (λ s. not s.http) (let_go true clock) (record st { clock = clock })) (λ flushed.
    then_move (end_where (is_expired c flushed.clock) flushed) (λ left.
    send_reports c left))

-- the answer to a tick
abbrev pub beat_of : State → Answer
beat_of st = Beat (if st.stopped then BeatStopping else Going)

abbrev pub on_tick : Config → ℕ → State → Outcome
on_tick c now st = outcome (tick c now st) (beat_of st) []

-- packets

-- whether the front end serves a stream and has this tune number; if not, the packet is stale
abbrev pub is_current : State → ℕ → ℕ → Bool
is_current st front tune =
    option_map_or (λ r. r.tune == tune) (row_of st front) false && list_any (λ t. true) (served_by st front)

-- whether a session of the stream gets the packet
abbrev pub picks : Stream → List ℕ → Session → Bool
picks t packet s = s.stream == t.number && s.playing && has_pid t.pids (pid_of packet)

-- whether it is an HTTP session with a full queue
abbrev pub is_overrun : Session → Bool
is_overrun s = s.http && length (held s) == most_queued

-- a session's turn when it is given a packet: a full queue stays as it is
abbrev pub given : ℕ → List ℕ → Session → Turn
given clock packet s =
    let more = record s { picked = s.picked ++ packet ∷ [] } in
    if s.http then record { sends = []; after = Some (if is_overrun s then s else more) } else let_go false clock more

-- gives the packet to each playing session of the stream, if the stream has the packet's PID
abbrev pub give : List ℕ → Stream → State → Move
give packet t st = each_of (picks t packet) (given st.clock packet) st

-- gives the packet to the sessions of these streams, stream by stream
abbrev pub give_all : List ℕ → List Stream → State → Move
give_all packet [] st = settle st
give_all packet (t ∷ ts) st = then_move (give packet t st) (give_all packet ts)

-- the sessions whose queue is full when the packet arrives
abbrev pub overrun : List ℕ → State → List Stream → List Session
overrun packet st streams = flat_map (λ t. filter (λ s. picks t packet s && is_overrun s) st.sessions) streams

-- a packet that isn't stale: sessions get it, and those with a full queue end
abbrev pub deliver : ℕ → List ℕ → State → Move
deliver front packet st =
    let streams = served_by st front in
    let full = overrun packet st streams in
    then_move (give_all packet streams st) (end_where (λ s. list_any (λ x. same_id x.id s.id) full))

-- the work for a front end: its multiplex, until its recording ends
abbrev pub work_of_row : Row → Work
work_of_row r = option_map_or (λ mux. if r.ended then Nothing else Tune mux r.tune) r.mux Nothing

-- the next work of a front end's pump
abbrev pub work : State → ℕ → Work
work st front =
    if st.stopped then WorkStopping
    else (if list_any (λ t. true) (served_by st front) then option_map_or work_of_row (row_of st front) Nothing else Nothing)

-- the outcome of a pump's event: its answer is the pump's next work
abbrev pub worked : ℕ → Move → Outcome
worked front m = outcome m (WorkIs (work m.state front)) []

-- a stale packet is dropped
abbrev pub on_packet : ℕ → ℕ → List ℕ → State → Outcome
on_packet front tune packet st = worked front (if is_current st front tune then deliver front packet st else settle st)

-- the end of a recording; a stale one changes nothing
abbrev pub on_ended : ℕ → ℕ → State → Outcome
on_ended front tune st =
    let ending = is_current st front tune in
    worked front (settle (record st { rows = change_where (λ r. ending && r.number == front) (λ r. record r { ended = true }) st.rows }))

-- the step

-- the outcome of an event
abbrev pub step : Config → State → Event → Outcome
step c st (Asked peer draw request) = on_request c peer draw request st
step c st (Got peer draw request) = on_get c peer draw request st
step c st (Tick now) = on_tick c now st
step c st (Packet front tune packet) = on_packet front tune packet st
step c st (Ended front tune) = on_ended front tune st
step c st (Ask front) = worked front (settle st)
step c st (Pull session) = on_pull session st
step c st (Close session) = on_close session st
step c st Stop = outcome (settle (record st { stopped = true })) (Beat BeatStopping) []
