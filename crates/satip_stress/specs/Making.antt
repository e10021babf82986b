-- The events of a stress run: the opening ones, and after them one for each word of a generator.
use Rattle.std.specs.Prelude.{ℕ, ◌+◌, ◌/◌, ◌%◌, ◌^◌, ◌==◌, ◌&&◌, nat_le, true, false, if◌then◌else◌, List, [], ◌∷◌, ◌++◌, map, replicate, Option, None, Some}
use Rattle.std.specs.List.{range_with_len}
use Rattle.std.specs.Int.{w64, to_le_bytes}
use Rattle.rand_chacha.specs.ChaCha.{word_at, key_of}
use Rattle.satip_tune.specs.declared.signal.Pol.TheVariants.{H}
use Rattle.satip_tune.specs.declared.signal.System.TheVariants.{Dvbs2}
use Rattle.satip_query.specs.declared.queries.PidsGiven.TheVariants.{List as ThesePids}
use Rattle.satip_query.specs.Queries.{new_query}
use Rattle.satip_rtsp.specs.declared.requests.Method.TheVariants.{Options, Setup, Play}
use Rattle.satip_rtsp.specs.declared.requests.SessionName.TheVariants.{Absent, Named}
use Rattle.satip_plain.specs.declared.setting.Setting.{Setting}
use Rattle.satip_plain.specs.declared.events.Event.{Event}
use Rattle.satip_plain.specs.declared.events.Event.TheVariants.{Request as Asked, Tick, Packet}
use Rattle.satip_plain.specs.Types.{Config, Draw, Front, Mux, Query, Request}
use Rattle.satip_stress.specs.declared.clients.Client.{Client}

-- ---- the server

-- one front end, which reaches position 1 and receives both systems
abbrev pub front_end : Front
front_end = record { number = 1; sources = false ∷ true ∷ replicate 254 false; systems = true ∷ true ∷ [] }

-- the multiplex 11361.75 h dvbs2 22000 at position 1
abbrev pub multiplex : Mux
multiplex = record { src = 1; freq = 11361750; pol = H; msys = Dvbs2; sr = 22000 }

-- the server at 10.0.0.1; its multiplex has no recording, since the run makes the packets
abbrev pub stress_config : Config
stress_config = record {
  address = 167772161;
  rtsp_port = 554;
  http_port = 8875;
  timeout = 60;
  workers = 8;
  fronts = front_end ∷ [];
  muxes = multiplex ∷ [];
  files = [];
}

-- the setting of a run: its clock starts at 0
unfoldable pub stress_setting : Setting
stress_setting = record { config = stress_config; start = 0 }

-- ---- its clients

-- the client at 10.0.0.2, whose session is the first
abbrev pub first : Client
first = record { peer = record { ip = 167772162 }; session = record { count = 1; word = 1 } }

-- the client at 10.0.0.3, whose session is the second
abbrev pub second : Client
second = record { peer = record { ip = 167772163 }; session = record { count = 2; word = 2 } }

-- the draw of a request
abbrev pub draw_of : ℕ → Draw
draw_of n = record { word = n; ssrc = n; first = 0 }

-- ---- their requests, by number

-- `SETUP` of a stream, or of a new one, with a port for RTP and the next for RTCP
abbrev pub setup : ℕ → Option ℕ → Query → ℕ → Request
setup cseq stream query port = record {
  cseq = Some cseq;
  refusal = None;
  method = Setup;
  stream = stream;
  session = Absent;
  query = query;
  ports = Some (record { rtp = port; rtcp = port + 1 });
}

-- `PLAY` of stream 1
abbrev pub play : ℕ → Client → Query → Request
play cseq client query = record {
  cseq = Some cseq;
  refusal = None;
  method = Play;
  stream = Some 1;
  session = Named client.session;
  query = query;
  ports = None;
}

-- `OPTIONS *`
abbrev pub options : ℕ → Client → Request
options cseq client = record {
  cseq = Some cseq;
  refusal = None;
  method = Options;
  stream = None;
  session = Named client.session;
  query = new_query;
  ports = None;
}

-- `src=1&freq=11361.75&pol=h&msys=dvbs2&sr=22000&pids=0,16,100`
abbrev pub founding_query : Query
founding_query = record {
  change = record {
    fe = None;
    src = Some 1;
    freq = Some 11361750;
    pol = Some H;
    ro = None;
    msys = Some Dvbs2;
    mtype = None;
    plts = None;
    sr = Some 22000;
    fec = None;
  };
  pids = ThesePids (0 ∷ 16 ∷ 100 ∷ []);
  addpids = None;
  delpids = None;
}

-- `addpids` with one PID
abbrev pub adding : ℕ → Query
adding pid = record new_query { addpids = Some (pid ∷ []) }

-- `delpids` with one PID
abbrev pub removing : ℕ → Query
removing pid = record new_query { delpids = Some (pid ∷ []) }

-- ---- the events

-- a client creates stream 1 and another joins it, and both play
unfoldable pub opening_events : List Event
opening_events =
    Tick 1000
    ∷ Asked first.peer (draw_of 1) (setup 1 None founding_query 1400)
    ∷ Asked first.peer (draw_of 0) (play 2 first new_query)
    ∷ Asked second.peer (draw_of 2) (setup 3 (Some 1) new_query 1500)
    ∷ Asked second.peer (draw_of 0) (play 4 second new_query)
    ∷ []

-- a packet of a PID below 128: a payload of zeros, and no adaptation field (ISO 13818-1, 2.4.3.2)
unfoldable pub packet_of : ℕ → List ℕ
packet_of pid = 71 ∷ 0 ∷ pid ∷ 16 ∷ replicate 184 0

-- the kind of a word's event; the 7 bits above it are a PID
abbrev pub kind_in : ℕ → ℕ
kind_in word = word % 64

-- the PID in a word
abbrev pub pid_in : ℕ → ℕ
pid_in word = word / 64 % 128

-- the event of a word, given the moment of the last tick and the number of the next request
unfoldable pub event_of : ℕ → ℕ → ℕ → Event
event_of word moment cseq =
    if kind_in word == 0 then Tick (moment + 40)
    else if kind_in word == 1 then Asked first.peer (draw_of 0) (options cseq first)
    else if kind_in word == 2 then Asked second.peer (draw_of 0) (options cseq second)
    else if kind_in word == 3 then Asked first.peer (draw_of 0) (play cseq first (adding (pid_in word)))
    else if kind_in word == 4 then Asked first.peer (draw_of 0) (play cseq first (removing (pid_in word)))
    else Packet 1 1 (packet_of (pid_in word))

-- the moment of the last tick after the event of a word
unfoldable pub moment_after : ℕ → ℕ → ℕ
moment_after word moment = if kind_in word == 0 then moment + 40 else moment

-- the number of the next request after the event of a word
unfoldable pub cseq_after : ℕ → ℕ → ℕ
cseq_after word cseq = if nat_le 1 (kind_in word) && nat_le (kind_in word) 4 then cseq + 1 else cseq

-- the events of words, given the moment of the last tick and the number of the next request
unfoldable pub events_of : List ℕ → ℕ → ℕ → List Event
events_of [] moment cseq = []
events_of (word ∷ words) moment cseq =
    event_of word moment cseq ∷ events_of words (moment_after word moment) (cseq_after word cseq)

-- ---- the words

-- the generator is ChaCha with 8 rounds, on stream 0; its seed is the number, low byte first, and zeros
abbrev pub seed_bytes : ℕ → List ℕ
seed_bytes seed = to_le_bytes w64 seed ++ replicate 24 0

-- the word at a place, from 0; a stream repeats after 2 ^ 68 words
unfoldable pub word : ℕ → ℕ → ℕ
word seed place = word_at 4 (key_of (seed_bytes seed)) 0 (place % 2 ^ 68)

-- count words, from a place on
abbrev pub words_from : ℕ → ℕ → ℕ → List ℕ
words_from seed place count = map (word seed) (range_with_len place count)

-- all events of a run
abbrev pub stress : ℕ → ℕ → List Event
stress seed count = opening_events ++ events_of (words_from seed 0 count) 1000 5
