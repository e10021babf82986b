-- A small server, its clients and their requests, for worked examples.
use Rattle.std.specs.Prelude.{codes, ℕ, ◌+◌, ◌/◌, ◌%◌, ◌==◌, if◌then◌else◌, flat_map, true, false, List, [], ◌∷◌, map, length, replicate, option_and_then, Option, None, Some, Bool}
use Rattle.satip_query.specs.declared.queries.PidsGiven.TheVariants.{All as AllPids, List as ThesePids}
use Rattle.satip_rtsp.specs.declared.requests.Method.TheVariants.{Options, Setup, Play, Teardown}
use Rattle.satip_rtsp.specs.declared.requests.SessionName.TheVariants.{Absent, Named}
use Rattle.satip_tune.specs.declared.signal.Pol.{Pol}
use Rattle.satip_tune.specs.declared.signal.Pol.TheVariants.{H, V}
use Rattle.satip_tune.specs.declared.signal.System.TheVariants.{Dvbs, Dvbs2}
use Rattle.satip_tune.specs.declared.signal.Modulation.TheVariants.{Psk8}
use Rattle.satip_tune.specs.declared.signal.RollOff.TheVariants.{R35}
use Rattle.satip_tune.specs.declared.signal.Fec.TheVariants.{F23}
use Rattle.satip_rtsp.specs.declared.requests.Refusal.TheVariants.{Query as QueryAt}
use Rattle.satip_query.specs.declared.faults.QueryFault.TheVariants.{Range}
use Rattle.satip_tune.specs.declared.keys.Key.TheVariants.{Pids}
use Rattle.satip_query.specs.Queries.{new_query}
use Rattle.satip_plain.specs.declared.events.Event.{Event}
use Rattle.satip_plain.specs.declared.events.Event.TheVariants.{Request as Asked, Get as Got, Packet, Pull}
use Rattle.satip_plain.specs.declared.answers.Answer.{Answer}
use Rattle.satip_plain.specs.declared.answers.Answer.TheVariants.{Replied, Get, Beat as BeatIs, Work as WorkIs, Pulled}
use Rattle.satip_plain.specs.declared.answers.Work.TheVariants.{Tune, Nothing}
use Rattle.satip_plain.specs.declared.answers.GetAnswer.TheVariants.{Started}
use Rattle.satip_plain.specs.declared.answers.Pulled.TheVariants.{Bytes, Empty}
use Rattle.satip_plain.specs.Refusals.{Refused, decide}
use Rattle.satip_pids.specs.Pids.{Pids as PidValue, Every, Only}
use Rattle.std.specs.List.{range_with_len}
use Rattle.std.specs.Option.{option_map_or}
use Rattle.satip_plain.specs.Types.{SessionId, RefusalBody, Draw, Peer, Ports, Config, Request, Query, Change, Front}
use Rattle.satip_plain.specs.State.{State, Session, owner, held, row_of, stream_of}
use Rattle.satip_plain.specs.Sending.{Sent, Rtp, Report}
use Rattle.satip_plain.specs.Steps.{Outcome, step, description}
use Rattle.satip_plain.specs.Histories.{Item, opening, datagram}
use Rattle.satip_plain.specs.Readings.{Readings, Made, readings, living, plays}

-- two front ends that reach position 1, and two multiplexes there
abbrev pub front_end : ℕ → Front
front_end number = record { number = number; sources = false ∷ true ∷ replicate 254 false; systems = true ∷ true ∷ [] }

abbrev pub config : Config
config = record {
  address = 3232235786;
  rtsp_port = 554;
  http_port = 8875;
  timeout = 60;
  workers = 8;
  files = codes "a.ts" ∷ codes "b.ts" ∷ [];
  fronts = front_end 1 ∷ front_end 2 ∷ [];
  muxes = record { src = 1; freq = 11361750; pol = H; msys = Dvbs2; sr = 22000 }
      ∷ record { src = 1; freq = 12402000; pol = V; msys = Dvbs; sr = 27500 } ∷ [];
}

-- requested tunings: the first multiplex with all keys, the second, and one without a multiplex
abbrev pub to_first : Change
to_first = record {
  fe = None;
  src = Some 1;
  freq = Some 11361750;
  pol = Some H;
  ro = Some R35;
  msys = Some Dvbs2;
  mtype = Some Psk8;
  plts = Some true;
  sr = Some 22000;
  fec = Some F23;
}

abbrev pub to_other : ℕ → Pol → ℕ → Change
to_other freq pol sr = record {
  fe = None;
  src = None;
  freq = Some freq;
  pol = Some pol;
  ro = None;
  msys = Some Dvbs;
  mtype = None;
  plts = None;
  sr = Some sr;
  fec = None;
}

abbrev pub to_second : Change
to_second = to_other 12402000 V 27500

abbrev pub to_unknown : Change
to_unknown = to_other 10744000 H 22000

abbrev pub with_change : Change → Query
with_change change = record new_query { change = change }

abbrev pub first_query : Query
first_query = record (with_change to_first) { pids = ThesePids (0 ∷ 16 ∷ 17 ∷ []) }

abbrev pub added_pids : List ℕ → Query
added_pids pids = record new_query { addpids = Some pids }

-- a query for the second front end
abbrev pub wanted_second : Query
wanted_second = with_change (record to_first { fe = Some 2 })

-- all PIDs but one
abbrev pub without_pids : Query
without_pids = record first_query { pids = AllPids; delpids = Some (16 ∷ []) }

-- the greatest PID
abbrev pub greatest_pid : Query
greatest_pid = record first_query { pids = ThesePids (8191 ∷ []) }

-- n PIDs, from 0 on
abbrev pub listed_pids : ℕ → Query
listed_pids n = record new_query { pids = ThesePids (range_with_len 0 n) }

-- two clients
abbrev pub one : Peer
one = record { ip = 3232235796 }

abbrev pub two : Peer
two = record { ip = 3232235797 }

abbrev pub draw_one : Draw
draw_one = record { word = 10; ssrc = 287454020; first = 65535 }

abbrev pub draw_two : Draw
draw_two = record { word = 11; ssrc = 1432778632; first = 0 }

abbrev pub id_of : ℕ → ℕ → SessionId
id_of count word = record { count = count; word = word }

abbrev pub ports : ℕ → Ports
ports rtp = record { rtp = rtp; rtcp = rtp + 1 }

-- requests
abbrev pub request : Request
request = record { cseq = Some 1; refusal = None; method = Options; stream = None; session = Absent; query = new_query; ports = None }

abbrev pub setup_with : Query → Event
setup_with query = Asked one draw_one (record request { method = Setup; query = query; ports = Some (ports 1400) })

abbrev pub setup : Event
setup = setup_with first_query

abbrev pub join_of : ℕ → Event
join_of stream = Asked two draw_two (record request { method = Setup; stream = Some stream; ports = Some (ports 1500) })

abbrev pub play_in : SessionId → ℕ → Query → Event
play_in id stream query = Asked one draw_one (record request { cseq = Some 2; method = Play; stream = Some stream; session = Named id; query = query })

abbrev pub play : Event
play = play_in (id_of 1 10) 1 new_query

abbrev pub teardown_in : SessionId → ℕ → Event
teardown_in id stream = Asked one draw_one (record request { method = Teardown; stream = Some stream; session = Named id })

abbrev pub two_setup : Event
two_setup = Asked two draw_two (record request { method = Setup; query = first_query; ports = Some (ports 1500) })

abbrev pub play_of_two : ℕ → Query → Event
play_of_two stream query = Asked two draw_two (record request { cseq = Some 2; method = Play; stream = Some stream; session = Named (id_of 2 11); query = query })

abbrev pub get_second : Event
get_second = Got one draw_one (record { refusal = None; query = record (with_change to_second) { pids = AllPids } })

abbrev pub options_in : SessionId → Event
options_in id = Asked one draw_one (record request { session = Named id })

-- a SETUP whose query names a PID above the greatest
abbrev pub setup_above : Event
setup_above = Asked one draw_one (record request { method = Setup; refusal = Some (QueryAt (Range Pids)) })

-- a SETUP of the first session that moves it and retunes its stream
abbrev pub moved_setup : Event
moved_setup = Asked two draw_one (record request {
  method = Setup;
  stream = Some 1;
  session = Named (id_of 1 10);
  query = with_change to_second;
  ports = Some (ports 1600);
})

-- a SETUP in the first session that names no stream, and one without usable ports
abbrev pub setup_without_stream : Event
setup_without_stream = Asked one draw_one (record request { method = Setup; session = Named (id_of 1 10); query = added_pids (18 ∷ []); ports = Some (ports 1400) })

abbrev pub setup_without_ports : Event
setup_without_ports = Asked one draw_one (record request { method = Setup; stream = Some 1; session = Named (id_of 1 10) })

-- a packet with this PID
abbrev pub packet_of : ℕ → List ℕ
packet_of pid = 71 ∷ pid / 256 ∷ pid % 256 ∷ replicate 185 0

abbrev pub packet_on : ℕ → ℕ → ℕ → Event
packet_on front tune pid = Packet front tune (packet_of pid)

abbrev pub packet : ℕ → Event
packet pid = packet_on 1 1 pid

abbrev pub packets : ℕ → ℕ → List Event
packets n pid = replicate n (packet pid)

-- runs

-- an event, the state before it, and its outcome
pub record Ran : Type 0 where
  pub met : State
  pub event : Event
  pub outcome : Outcome

abbrev pub run_from : State → List Event → List Ran
run_from st [] = []
run_from st (e ∷ es) = record { met = st; event = e; outcome = step config st e } ∷ run_from (step config st e).state es

abbrev pub run : List Event → List Ran
run es = run_from (opening (record { config = config; start = 0 })) es

-- a datagram in short: its port; of RTP also the number, the clock and the count of packets
pub data Short : Type 0 where
  Media : ℕ → ℕ → ℕ → ℕ → Short
  Told : ℕ → Short

abbrev pub in_short : Sent → Short
in_short (Rtp id to number clock ssrc sent) = Media to.port number clock (length sent)
in_short (Report id view sender) = Told sender.to.port

-- the datagrams of the last event
abbrev pub sent_last : List Ran → List Short
sent_last [] = []
sent_last (r ∷ []) = map in_short r.outcome.sent
sent_last (r ∷ q ∷ rs) = sent_last (q ∷ rs)

-- the final state
abbrev pub state_last : List Ran → State
state_last [] = opening (record { config = config; start = 0 })
state_last (r ∷ []) = r.outcome.state
state_last (r ∷ q ∷ rs) = state_last (q ∷ rs)

-- an answer in short
pub data Brief : Type 0 where
  Ok200 : Brief
  Refuses : ℕ → Option RefusalBody → Brief
  Works : ℕ → ℕ → Brief
  Idles : Brief
  Beats : Brief
  Starts : SessionId → Brief
  Pulls : ℕ → Brief
  Other : Brief

abbrev pub replied_with : ℕ → Option Refused → Brief
replied_with status None = if status == 200 then Ok200 else Other
replied_with status (Some refused) = Refuses status refused.body

abbrev pub brief_of : State → Event → Answer → Brief
brief_of st (Asked peer draw r) (Replied replied) = replied_with replied.status (decide config st r)
brief_of st e (Get (Started id)) = Starts id
brief_of st e (WorkIs (Tune mux tune)) = Works mux tune
brief_of st e (WorkIs Nothing) = Idles
brief_of st e (BeatIs beat) = Beats
brief_of st e (Pulled (Bytes n)) = Pulls n
brief_of st e (Pulled Empty) = Pulls 0
brief_of st e a = Other

abbrev pub answers_of : List Ran → List Brief
answers_of rs = map (λ r. brief_of r.met r.event r.outcome.answer) rs

-- a stream in short: its number, its front end, and the count of its owner's id
pub record Tally : Type 0 where
  pub number : ℕ
  pub front : Option ℕ
  pub count : ℕ

abbrev pub tally : ℕ → Option ℕ → ℕ → Tally
tally number front count = record { number = number; front = front; count = count }

abbrev pub streams_of : List Ran → List Tally
streams_of rs =
    let st = state_last rs in
    map (λ t. tally t.number t.front (option_map_or (λ s. s.id.count) (owner st t.number) 0)) st.streams

abbrev pub numbers_in : PidValue → List ℕ
numbers_in Every = []
numbers_in (Only pids) = pids

-- the PIDs of the streams in the final state
abbrev pub kept_pids : List Ran → List ℕ
kept_pids rs = flat_map (λ t. numbers_in t.pids) (state_last rs).streams

-- a session with n packets in its queue; then the state with such an HTTP session on the first front end
abbrev pub filled : ℕ → Session → Session
filled n s = record s { picked = replicate n (packet_of 400) }

abbrev pub queued : ℕ → State
queued n = let st = state_last (run (get_second ∷ [])) in record st { sessions = map (filled n) st.sessions }

-- the count of packets that its sessions hold after one more
abbrev pub held_after_one_more : ℕ → List ℕ
held_after_one_more n = map (λ s. length (held s)) (step config (queued n) (packet_on 1 1 400)).state.sessions

-- the count of bytes that a pull then gives
abbrev pub pulled_first : ℕ → ℕ
pulled_first n = length (step config (queued n) (Pull (id_of 1 10))).reply

-- the summary of a living session, from the state or from the readings
pub record Account : Type 0 where
  pub count : ℕ
  pub stream : ℕ
  pub front : Option ℕ
  pub tune : ℕ
  pub playing : Bool
  pub heard : ℕ
  pub packets : ℕ

abbrev pub tune_at : State → Option ℕ → ℕ
tune_at st None = 0
tune_at st (Some front) = option_map_or (λ r. r.tune) (row_of st front) 0

abbrev pub told_by_state : State → Session → Account
told_by_state st s =
    let front = option_and_then (λ t. t.front) (stream_of st s.stream) in
    record { count = s.id.count; stream = s.stream; front = front; tune = tune_at st front; playing = s.playing; heard = s.heard; packets = length s.picked }

abbrev pub told_by_readings : Readings → Made → Account
told_by_readings g m = record {
  count = m.id.count;
  stream = g.number m.home;
  front = g.front m.home;
  tune = option_map_or g.tune (g.front m.home) 0;
  playing = plays g m;
  heard = g.heard m.id;
  packets = length (g.selected m.id);
}

-- the entry of an event of a run, by caller 0
abbrev pub entry_of : Ran → Item
entry_of r = record {
  caller = 0;
  event = r.event;
  answer = r.outcome.answer;
  out = record { reply = r.outcome.reply; datagrams = map datagram r.outcome.sent; reply_spare = 0; datagram_spare = 0; count_spare = 0 };
}

abbrev pub state_tells : List Ran → List Account
state_tells rs = map (told_by_state (state_last rs)) (state_last rs).sessions

abbrev pub readings_tell : List Ran → List Account
readings_tell rs =
    let g = readings (record { config = config; start = 0 }) (map entry_of rs) in
    map (told_by_readings g) (living g)

-- the description of all streams in the final state
abbrev pub description_last : List Ran → List ℕ
description_last rs = description config (state_last rs) None

-- that of one stream without a tuning, on two front ends
abbrev pub described : List ℕ
described = codes "v=0\r\no=- 1 1 IN IP4 192.168.1.10\r\ns=SatIPServer:1 2\r\nt=0 0\r\nm=video 0 RTP/AVP 33\r\nc=IN IP4 0.0.0.0\r\na=control:stream=1\r\na=fmtp:33 ver=1.0;src=1;tuner=0,0,0,0,,,,,,,,;pids=none\r\na=inactive\r\n"
