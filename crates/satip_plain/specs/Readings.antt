-- Readings: what a history says of its sessions, streams and front ends, computed from its entries alone.
-- A stream is named by the id of the session that created it, since stream numbers are used again.
use Rattle.std.specs.Prelude.{ℕ, ◌==◌, ◌&&◌, ◌||◌, ◌+◌, ◌*◌, ◌%◌, ◌^◌, not, nat_le, max, Bool, true, false, List, [], ◌∷◌, ◌++◌, filter, find, length, take, drop, zero, suc, Option, None, Some, option_map, option_and_then, is_none, unwrap_or, option_to_list, if◌then◌else◌}
use Rattle.std.specs.List.{list_any, range_with_len}
use Rattle.std.specs.Option.{option_map_or}
use Rattle.satip_tune.specs.Frontends.{mux_for}
use Rattle.satip_pids.specs.Pids.{Pids, Only, has_pid}
use Rattle.satip_ts.specs.Packet.{pid_of}
use Rattle.satip_rtsp.specs.declared.requests.Method.{Method}
use Rattle.satip_rtsp.specs.declared.requests.Method.TheVariants.{Play, Teardown}
use Rattle.satip_rtsp.specs.declared.requests.SessionName.{SessionName}
use Rattle.satip_rtsp.specs.declared.requests.SessionName.TheVariants.{Absent, Named, Other}
use Rattle.satip_plain.specs.declared.answers.Answer.{Answer}
use Rattle.satip_plain.specs.declared.answers.Answer.TheVariants.{Replied, Get, Pulled}
use Rattle.satip_plain.specs.declared.answers.GetAnswer.TheVariants.{Started}
use Rattle.satip_plain.specs.declared.answers.Pulled.TheVariants.{Bytes}
use Rattle.satip_plain.specs.declared.events.Event.{Event}
use Rattle.satip_plain.specs.declared.events.Event.TheVariants.{Request as Asked, Get as Got, Tick, Packet, Pull, Close}
use Rattle.satip_plain.specs.Types.{SessionId, Draw, Tuning, Config, Query}
use Rattle.satip_plain.specs.declared.setting.Setting.{Setting}
use Rattle.satip_plain.specs.State.{same_id, is_at}
use Rattle.satip_fronts.specs.declared.choice.Place.{Place}
use Rattle.satip_fronts.specs.Choice.{Outlook, choose}
use Rattle.satip_plain.specs.Streams.{to_set, new_pids}
use Rattle.satip_rtsp.specs.Methods.{names_none, is_setup, changes}
use Rattle.satip_plain.specs.Steps.{capped, most_queued}
use Rattle.satip_plain.specs.Histories.{Item}

-- a session that was created: `home` names its stream, and `draw` is its request's
pub record Made : Type 0 where
  pub id : SessionId
  pub http : Bool
  pub home : SessionId
  pub draw : Draw

-- the readings of a history; they say nothing about an id that names nothing
pub record Readings : Type 0 where
  pub clock : ℕ
  pub made : List Made  -- in order of making
  pub over : SessionId → Bool  -- whether the session ended
  pub played : SessionId → Bool  -- whether it had an accepted PLAY
  pub heard : SessionId → ℕ
  pub number : SessionId → ℕ  -- of a stream
  pub tuned : SessionId → Option Tuning  -- of a stream
  pub pids : SessionId → Pids  -- of a stream
  pub front : SessionId → Option ℕ  -- of a stream
  pub tune : ℕ → ℕ  -- of a front end
  pub mux : ℕ → Option ℕ  -- of a front end
  pub selected : SessionId → List (List ℕ)
  pub pulled : SessionId → List (List ℕ)

-- the readings before the first entry
abbrev pub nothing_read : Setting → Readings
nothing_read c = record {
  clock = capped c.start;
  made = [];
  over = λ s. false;
  played = λ s. false;
  heard = λ s. 0;
  number = λ t. 0;
  tuned = λ t. None;
  pids = λ t. Only [];
  front = λ t. None;
  tune = λ f. 0;
  mux = λ f. None;
  selected = λ s. [];
  pulled = λ s. [];
}

-- sessions and streams

-- the living sessions, in order of creation
abbrev pub living : Readings → List Made
living g = filter (λ m. not (g.over m.id)) g.made

-- the living session of this id: of any kind, over RTSP, and over HTTP
abbrev pub living_session : Readings → SessionId → Option Made
living_session g id = find (λ m. same_id m.id id) (living g)

abbrev pub living_rtsp : Readings → SessionId → Option Made
living_rtsp g id = find (λ m. same_id m.id id && not m.http) (living g)

abbrev pub living_http : Readings → SessionId → Option Made
living_http g id = find (λ m. same_id m.id id && m.http) (living g)

-- the owner of a stream: the earliest of its living sessions
abbrev pub owner : Readings → SessionId → Option Made
owner g home = find (λ m. same_id m.home home) (living g)

-- the living stream of this number
abbrev pub home_of_number : Readings → ℕ → Option SessionId
home_of_number g number = option_map (λ m. m.home) (find (λ m. g.number m.home == number) (living g))

-- whether the session lives and gets packets
abbrev pub plays : Readings → Made → Bool
plays g m = not (g.over m.id) && (m.http || g.played m.id)

-- entries

-- whether the request was accepted
abbrev pub is_accepted : Answer → Bool
is_accepted (Replied replied) = replied.status == 200
is_accepted (Get (Started id)) = true
is_accepted _ = false

-- the id of the next session
abbrev pub next_made : Readings → ℕ → SessionId
next_made g word = record { count = length g.made + 1; word = word }

-- the session that an accepted event creates
abbrev pub made_by : Readings → Event → Option Made
made_by g (Asked peer draw r) =
    let id = next_made g draw.word in
    if is_setup r.method && names_none r.session
    then Some (record { id = id; http = false; home = unwrap_or (option_and_then (home_of_number g) r.stream) id; draw = draw })
    else None
made_by g (Got peer draw r) = let id = next_made g draw.word in Some (record { id = id; http = true; home = id; draw = draw })
made_by g _ = None

-- the session that an entry creates
abbrev pub makes : Readings → Item → Option Made
makes g e = if is_accepted e.answer then made_by g e.event else None

-- the living RTSP session that a request names
abbrev pub named_in : Readings → SessionName → Option Made
named_in g Absent = None
named_in g (Named id) = living_rtsp g id
named_in g Other = None

-- the stream of an entry, and the query that changes it
pub record Asking : Type 0 where
  pub home : SessionId
  pub query : Query

-- the session of an accepted request: the one that it creates or names
abbrev pub session_in : Readings → Event → Option Made
session_in g (Asked peer draw r) = if names_none r.session then made_by g (Asked peer draw r) else named_in g r.session
session_in g e = made_by g e

-- the query of an event that may change a stream
abbrev pub query_in : Event → Option Query
query_in (Asked peer draw r) = if changes r.method then Some r.query else None
query_in (Got peer draw r) = Some r.query
query_in _ = None

-- the stream whose tuning and PIDs an entry may change, with the query for it
abbrev pub asking : Readings → Item → Option Asking
asking g e =
    if is_accepted e.answer
    then option_and_then (λ m. option_map (λ q. record { home = m.home; query = q }) (query_in e.event)) (session_in g e.event)
    else None

-- the clock after an event
abbrev pub clock_after : ℕ → Event → ℕ
clock_after clock (Tick now) = max clock (capped now)
clock_after clock _ = clock

-- whether the event is a packet that is selected for the session
abbrev pub is_selected : Readings → Event → Made → Bool
is_selected g (Packet front tune packet) m =
    plays g m && is_at (g.front m.home) front && g.tune front == tune && has_pid (g.pids m.home) (pid_of packet)
is_selected g _ m = false

abbrev pub is_teardown : Method → Bool
is_teardown Teardown = true
is_teardown _ = false

abbrev pub is_play : Method → Bool
is_play Play = true
is_play _ = false

-- whether a request names this session
abbrev pub names : SessionName → SessionId → Bool
names (Named id) s = same_id id s
names _ s = false

-- whether the entry ends the session
abbrev pub ends : Config → Readings → Item → Made → Bool
ends c g e m = ended_by e.event
  where
    ended_by : Event → Bool
    ended_by (Asked peer draw r) = is_accepted e.answer && is_teardown r.method && names r.session m.id
    ended_by (Tick now) = nat_le (g.heard m.id + c.timeout * 1000) (max g.clock (capped now))
    ended_by (Close session) = m.http && same_id session m.id
    ended_by (Packet front tune packet) = m.http && is_selected g e.event m && length (g.selected m.id) == length (g.pulled m.id) + most_queued
    ended_by _ = false

-- whether the event is an activity of the session
abbrev pub keeps_alive : Event → Made → Bool
keeps_alive (Asked peer draw r) m = not m.http && is_none r.refusal && names r.session m.id
keeps_alive (Pull session) m = m.http && same_id session m.id
keeps_alive _ m = false

-- whether the entry is an accepted PLAY of the session
abbrev pub starts_playing : Item → SessionId → Bool
starts_playing e s = is_accepted e.answer && playing_in e.event
  where
    playing_in : Event → Bool
    playing_in (Asked peer draw r) = is_play r.method && names r.session s
    playing_in _ = false

-- the bytes cut into packets of 188 bytes
abbrev pub packets_of : ℕ → List ℕ → List (List ℕ)
packets_of zero bytes = []
packets_of (suc n) [] = []
packets_of (suc n) bytes = take 188 bytes ∷ packets_of n (drop 188 bytes)

-- the packets that the entry's pull handed to the session
abbrev pub pulled_by : Item → SessionId → List (List ℕ)
pulled_by e s = in_answer e.event e.answer
  where
    in_answer : Event → Answer → List (List ℕ)
    in_answer (Pull session) (Pulled (Bytes n)) = if same_id session s then packets_of (length e.out.reply) e.out.reply else []
    in_answer _ _ = []

-- the changes of an entry

-- the function f with the value x at this id
abbrev pub put : {X : Type 0} → SessionId → X → (SessionId → X) → SessionId → X
put id x f s = if same_id id s then x else f s

-- the state of the front ends for a choice for this stream, from the readings
abbrev pub outlook_in : Config → Readings → SessionId → Outlook
outlook_in c g home = record {
  fronts = c.fronts;
  mux_at = g.mux;
  own = g.front home;
  shared = λ f. list_any (λ m. not (same_id m.home home) && is_at (g.front m.home) f) (living g);
}

-- a stream that gets a new tuning, and its place
pub record Placing : Type 0 where
  pub home : SessionId
  pub tuning : Tuning
  pub place : Place

-- the place of a stream for which a query sets a tuning
abbrev pub placing_of : Config → Readings → Asking → Option Placing
placing_of c g a = option_and_then (λ tuning.
    option_map (λ place. record { home = a.home; tuning = tuning; place = place }) (choose (outlook_in c g a.home) (mux_for c.muxes tuning) tuning))
    (to_set (g.tuned a.home) a.query.change)

abbrev pub placing : Config → Readings → Item → Option Placing
placing c g e = option_and_then (placing_of c g) (asking g e)

-- the tunings of streams after an entry asked for one
abbrev pub with_tuning : Readings → Option Asking → SessionId → Option Tuning
with_tuning g None = g.tuned
with_tuning g (Some a) = option_map_or (λ tuning. put a.home (Some tuning) g.tuned) (to_set (g.tuned a.home) a.query.change) g.tuned

-- the front ends of streams after one was placed
abbrev pub with_place : Readings → Option Placing → SessionId → Option ℕ
with_place g None = g.front
with_place g (Some p) = put p.home (Some p.place.front) g.front

-- whether the place tunes this front end again
abbrev pub tunes_front : Option Placing → ℕ → Bool
tunes_front None f = false
tunes_front (Some p) f = p.place.anew && p.place.front == f

-- the multiplex to which an entry tunes a front end
abbrev pub mux_in : Config → Option Placing → Option ℕ
mux_in c None = None
mux_in c (Some p) = mux_for c.muxes p.tuning

-- the least number from 1 that no living stream has
abbrev pub number_free : Readings → ℕ
number_free g = unwrap_or (find (λ n. is_none (home_of_number g n)) (range_with_len 1 (length g.made + 1))) 0

-- the numbers of streams; a created stream gets one
abbrev pub numbered : Readings → Option Made → SessionId → ℕ
numbered g None = g.number
numbered g (Some m) = if same_id m.home m.id then put m.id (number_free g) g.number else g.number

-- a front end without a living stream is free, and tuned to no multiplex
abbrev pub frees : Readings → Readings
frees g = record g { mux = λ f. if list_any (λ m. is_at (g.front m.home) f) (living g) then g.mux f else None }

-- the PIDs of streams after an entry asked for some
abbrev pub with_asked : Readings → Option Asking → SessionId → Pids
with_asked g None = g.pids
with_asked g (Some a) = put a.home (new_pids (g.pids a.home) a.query) g.pids

-- the packet of an event, if it is one
abbrev pub packet_in : Event → List (List ℕ)
packet_in (Packet front tune packet) = packet ∷ []
packet_in _ = []

-- whether there is a value, and p holds for it
abbrev pub any_where : {X : Type 0} → (X → Bool) → Option X → Bool
any_where p o = option_map_or p o false

-- the readings after one more entry
abbrev pub read_one : Config → Readings → Item → Readings
read_one c g e =
    let new = makes g e in
    let placed = placing c g e in
    let clock = clock_after g.clock e.event in
    let of_living = λ (p : Made → Bool) (s : SessionId). any_where p (living_session g s) in
    frees (record {
      clock = clock;
      made = g.made ++ option_to_list new;
      over = λ s. g.over s || of_living (ends c g e) s;
      played = λ s. g.played s || (of_living (λ m. not m.http) s && starts_playing e s);
      heard = λ s. if any_where (λ m. same_id m.id s) new || of_living (keeps_alive e.event) s then clock else g.heard s;
      number = numbered g new;
      tuned = with_tuning g (asking g e);
      pids = with_asked g (asking g e);
      front = with_place g placed;
      tune = λ f. if tunes_front placed f then (g.tune f + 1) % 2 ^ 64 else g.tune f;
      mux = λ f. if tunes_front placed f then mux_in c placed else g.mux f;
      selected = λ s. g.selected s ++ (if of_living (is_selected g e.event) s then packet_in e.event else []);
      pulled = λ s. g.pulled s ++ pulled_by e s;
    })

-- the readings after these entries, from these readings on
abbrev pub read_from : Config → Readings → List Item → Readings
read_from c g [] = g
read_from c g (e ∷ es) = read_from c (read_one c g e) es

-- the readings of a history
abbrev pub readings : Setting → List Item → Readings
readings c h = read_from c.config (nothing_read c) h
