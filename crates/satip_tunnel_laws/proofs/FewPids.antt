-- No stream of the server lists more than 256 PIDs.
use Rattle.std.proofs.Common.{◌≡◌, ℕ, ◌≤◌, ◌==◌, ◌&&◌, not, nat_le, Bool, true, false, cond, List, [], ◌∷◌, filter, Option, Some, None, Result, Ok, Err, is_none, option_and_then, arith, refl, sym, subst, if◌then◌else◌, unwrap_or}
use Rattle.std.specs.Option.{option_map_or}
use Rattle.std.proofs.lemmas.Bool.Decides.{nat_tests}
use Rattle.satip_base.specs.Lists.{Each}
use Rattle.satip_base.proofs.Elements.{Each-append}
use Rattle.satip_fronts.specs.declared.choice.Place.{Place}
use Rattle.satip_fronts.specs.Choice.{choose}
use Rattle.satip_http.specs.Heads.{http_refusal}
use Rattle.satip_pids.specs.Pids.{Pids, Every, Only, Choice, Unsaid, AllPids, Listed, add_pids, and_next, apply, choose_pids, grown, if_given, limited, listed, remove_pids}
use Rattle.satip_pids.specs.Rising.{has_number}
use Rattle.satip_pids.specs.declared.fault.PidFault.{PidFault}
use Rattle.satip_pids.specs.declared.fault.PidFault.TheVariants.{TooMany}
use Rattle.satip_tune.specs.Frontends.{mux_for}
use Rattle.satip_rtsp.specs.declared.requests.Method.{Method}
use Rattle.satip_rtsp.specs.declared.requests.Method.TheVariants.{Options, Describe, Setup, Play, Teardown}
use Rattle.satip_plain.specs.declared.answers.Answer.TheVariants.{Get, Pulled, Closed}
use Rattle.satip_plain.specs.declared.answers.GetAnswer.TheVariants.{Refused as GetRefused}
use Rattle.satip_plain.specs.declared.answers.Pulled.TheVariants.{Gone as PulledGone}
use Rattle.satip_plain.specs.declared.answers.Closed.TheVariants.{Yes, Gone as ClosedGone}
use Rattle.satip_plain.specs.declared.events.Event.{Event}
use Rattle.satip_plain.specs.declared.events.Event.TheVariants.{Request as Asked, Get as Got, Tick, Packet, Ended, Ask, Pull, Close, Stop}
use Rattle.satip_plain.specs.Types.{SessionId, Config, Peer, Draw, Ports, Query, Tuning, Request, HttpRequest}
use Rattle.satip_plain.specs.State.{Session, Stream, State, change_where, held, http_session, served_by, stream_of}
use Rattle.satip_plain.specs.Sending.{settle, each_of, let_go}
use Rattle.satip_plain.specs.Streams.{asked_pids, change_by, choice_of, new_pids, outlook_of, pids_or, put_at, retune, sweep, to_set}
use Rattle.satip_plain.specs.Refusals.{Refused, session_named, decide, decide_get}
use Rattle.satip_plain.specs.Steps
use Rattle.satip_plain.specs.Steps.{change_session, deliver, done_by, end_where, found, give_all, hear, heard_by, is_current, is_session, join, least_free, no_ports, part, play_of, pull_some, put_stream, set_up, setup_number, step, teardown_of, tick}
use Rattle.satip_laws.proofs.Finding.{length_filter}
use Rattle.satip_laws.proofs.Fronts.{each_filter}
use Rattle.satip_laws.proofs.Moves.{flushed, tick_clock}

abbrev pub HasFew : Stream → Type 0
HasFew t = listed t.pids ≤ 256

abbrev pub HaveFew : State → Type 0
HaveFew st = Each HasFew st.streams

-- sets of PIDs

abbrev FewIn : Result Pids PidFault → Type 0
FewIn (Ok set) = listed set ≤ 256
FewIn (Err fault) = Unit {0}

limited_few : (set : Pids) → FewIn (limited set)
limited_few set = by (nat_le (listed set) 256) refl
  where
    by : (b : Bool) → nat_le (listed set) 256 ≡ b → FewIn (cond b (Ok set) (Err TooMany))
    by true le = grind (arith, nat_tests)
    by false le = tt

next_few : (r : Result Pids PidFault) (next : Pids → Result Pids PidFault) → FewIn r → ((set : Pids) → listed set ≤ 256 → FewIn (next set))
    → FewIn (and_next r next)
next_few (Ok set) next few then_few = then_few set few
next_few (Err fault) next few then_few = tt

chosen_few : (set : Pids) (choice : Choice) → listed set ≤ 256 → FewIn (choose_pids set choice)
chosen_few set Unsaid few = few
chosen_few set AllPids few = omega arith
chosen_few set (Listed list) few = limited_few (grown (Only []) list)

added_few : (added : Option (List ℕ)) (set : Pids) → listed set ≤ 256 → FewIn (if_given add_pids added set)
added_few None set few = few
added_few (Some list) set few = limited_few (grown set list)

removed_few : (removed : Option (List ℕ)) (set : Pids) → listed set ≤ 256 → FewIn (if_given remove_pids removed set)
removed_few None set few = few
removed_few (Some list) Every few = tt
removed_few (Some list) (Only pids) few = omega (arith, few, length_filter (λ x. not (has_number list x)) pids)

applied_few : (set : Pids) (choice : Choice) (added removed : Option (List ℕ)) → listed set ≤ 256 → FewIn (apply set choice added removed)
applied_few set choice added removed few =
    next_few (and_next (choose_pids set choice) (if_given add_pids added)) (if_given remove_pids removed)
    (next_few (choose_pids set choice) (if_given add_pids added) (chosen_few set choice few) (λ s f. added_few added s f))
    (λ s f. removed_few removed s f)

or_few : (old : Pids) (r : Result Pids PidFault) → listed old ≤ 256 → FewIn r → listed (pids_or old r) ≤ 256
or_few old (Ok new) few in_new = in_new
or_few old (Err fault) few in_new = few

new_few : (old : Pids) (query : Query) → listed old ≤ 256 → listed (new_pids old query) ≤ 256
new_few old query few = or_few old (asked_pids old query) few (applied_few old (choice_of query.pids) query.addpids query.delpids few)

-- streams

changed_few : (p : Stream → Bool) (f : Stream → Stream) → ((t : Stream) → HasFew t → HasFew (f t)) → (ts : List Stream) → Each HasFew ts
    → Each HasFew (change_where p f ts)
changed_few p f keeps [] few = tt
changed_few p f keeps (t ∷ ts) few = (by (p t), changed_few p f keeps ts few.1)
  where
    by : (b : Bool) → HasFew (if b then f t else t)
    by true = keeps t few.0
    by false = few.0

put_few : (new : Stream) (ts : List Stream) → HasFew new → Each HasFew ts → Each HasFew (put_stream new ts)
put_few new ts one few =
    let later : List Stream = filter (λ (t : Stream). not (nat_le t.number new.number)) ts in
    Each-append HasFew (filter (λ (t : Stream). nat_le t.number new.number) ts) (new ∷ later)
    (each_filter HasFew (λ (t : Stream). nat_le t.number new.number) ts few)
    (one, each_filter HasFew (λ (t : Stream). not (nat_le t.number new.number)) ts few)

swept_few : (st : State) → HaveFew st → HaveFew (sweep st)
swept_few st few = each_filter HasFew _ st.streams few

end_few : (p : Session → Bool) (st : State) → HaveFew st → HaveFew (end_where p st).state
end_few p st few = swept_few (each_of p (part st.clock) st).state few

put_at_few : (c : Config) (number : ℕ) (tuning : Tuning) (st : State) (place : Place) → HaveFew st → HaveFew (put_at c number tuning st place)
put_at_few c number tuning st place few =
    each_filter HasFew _ _ (changed_few (λ (t : Stream). t.number == number) (λ (t : Stream). record t { tuning = Some tuning; front = Some place.front })
    (λ t f. f) st.streams few)

retuned_few : (c : Config) (number : ℕ) (st : State) (tuning : Tuning) → HaveFew st → HaveFew (retune c number st tuning).state
retuned_few c number st tuning few = by (choose (outlook_of c now number) (mux_for c.muxes tuning) tuning)
  where
    now : State
    now = (each_of (λ (s : Session). s.stream == number && not s.http) (let_go true st.clock) st).state

    by : (o : Option Place) → HaveFew (option_map_or (put_at c number tuning now) o now)
    by None = few
    by (Some place) = put_at_few c number tuning now place few

change_few : (c : Config) (number : ℕ) (query : Query) (st : State) → HaveFew st → HaveFew (change_by c number query st).state
change_few c number query st few =
    changed_few (λ (t : Stream). t.number == number) (λ (t : Stream). record t { pids = new_pids t.pids query })
    (λ t f. new_few t.pids query f) middle.streams (by (to_set old query.change))
  where
    old : Option Tuning
    old = option_and_then (λ (t : Stream). t.tuning) (stream_of st number)

    middle : State
    middle = (option_map_or (retune c number st) (to_set old query.change) (settle st)).state

    by : (o : Option Tuning) → HaveFew (option_map_or (retune c number st) o (settle st)).state
    by None = few
    by (Some tuning) = retuned_few c number st tuning few

found_few : (http : Bool) (peer : Peer) (draw : Draw) (ports : Ports) (st : State) → HaveFew st → HaveFew (found http peer draw ports st)
found_few http peer draw ports st few =
    put_few (record { number = least_free st.streams; tuning = None; front = None; pids = Only [] }) st.streams (omega arith) few

-- requests

-- a request that is heard changes no stream
pub heard_streams : (r : Request) (st : State) → (heard_by r st).streams ≡ st.streams
heard_streams r st = at (session_named st r.session)
  where
    named : (x : Session) (b : Bool) → (if b then hear x.id st else st).streams ≡ st.streams
    named x true = refl
    named x false = refl

    at : (o : Option Session) → (option_map_or (λ (x : Session). if is_none r.refusal then hear x.id st else st) o st).streams ≡ st.streams
    at None = refl
    at (Some x) = named x (is_none r.refusal)

set_up_few : (peer : Peer) (draw : Draw) (ports : Ports) (r : Request) (st : State) → HaveFew st → HaveFew (set_up peer draw ports r st)
set_up_few peer draw ports r st few = at (session_named st r.session)
  where
    joined : (o : Option ℕ) → HaveFew (option_map_or (λ number. join false peer draw ports number st) o (found false peer draw ports st))
    joined None = found_few false peer draw ports st few
    joined (Some number) = few

    at : (o : Option Session) → HaveFew (option_map_or (λ (s : Session). change_session s.id (λ (x : Session). record x { peer = peer; ports = ports }) st) o
        (option_map_or (λ number. join false peer draw ports number st) r.stream (found false peer draw ports st)))
    at None = joined r.stream
    at (Some s) = few

done_few : (m : Method) (c : Config) (peer : Peer) (draw : Draw) (r : Request) (st : State) → HaveFew st → HaveFew (done_by m c peer draw r st).state
done_few Options c peer draw r st few = few
done_few Describe c peer draw r st few = few
done_few Setup c peer draw r st few =
    let start : State = set_up peer draw (unwrap_or r.ports no_ports) r st in
    change_few c (setup_number r st) r.query start (set_up_few peer draw (unwrap_or r.ports no_ports) r st few)
done_few Play c peer draw r st few = at (session_named st r.session)
  where
    at : (o : Option Session) → HaveFew (option_map_or (play_of c r st) o (Steps.accepted (settle st) [])).state
    at None = few
    at (Some s) = change_few c s.stream r.query st few
done_few Teardown c peer draw r st few = at (session_named st r.session)
  where
    at : (o : Option Session) → HaveFew (option_map_or (teardown_of r st) o (Steps.accepted (settle st) [])).state
    at None = few
    at (Some s) = end_few (is_session s.id) st few

request_few : (c : Config) (peer : Peer) (draw : Draw) (r : Request) (st : State) → HaveFew st → HaveFew (Steps.on_request c peer draw r st).state
request_few c peer draw r st few = at (decide c st r)
  where
    heard : HaveFew (heard_by r st)
    heard = subst (Each HasFew) (sym (heard_streams r st)) few

    at : (o : Option Refused) → HaveFew (option_map_or (Steps.refuse r (heard_by r st)) o (done_by r.method c peer draw r (heard_by r st))).state
    at None = done_few r.method c peer draw r (heard_by r st) heard
    at (Some x) = heard

get_few : (c : Config) (peer : Peer) (draw : Draw) (r : HttpRequest) (st : State) → HaveFew st → HaveFew (Steps.on_get c peer draw r st).state
get_few c peer draw r st few = at (decide_get c st r)
  where
    at : (o : Option Refused)
        → HaveFew (option_map_or (λ (x : Refused). Steps.outcome (settle st) (Get (GetRefused x.status)) (http_refusal x.status x.body)) o
        (Steps.start c peer draw r st)).state
    at None = change_few c (least_free st.streams) r.query (found true peer draw no_ports st) (found_few true peer draw no_ports st few)
    at (Some x) = few

-- the other events

give_few : (packet : List ℕ) (ts : List Stream) (st : State) → HaveFew st → HaveFew (give_all packet ts st).state
give_few packet [] st few = few
give_few packet (t ∷ ts) st few = give_few packet ts (Steps.give packet t st).state few

packet_few : (front tune : ℕ) (packet : List ℕ) (st : State) → HaveFew st → HaveFew (Steps.on_packet front tune packet st).state
packet_few front tune packet st few = by (is_current st front tune)
  where
    by : (b : Bool) → HaveFew (if b then deliver front packet st else settle st).state
    by true = end_few _ (give_all packet (served_by st front) st).state (give_few packet (served_by st front) st few)
    by false = few

tick_few : (c : Config) (now : ℕ) (st : State) → HaveFew st → HaveFew (tick c now st).state
tick_few c now st few =
    let one : State = (flushed (tick_clock now st) st).state in
    end_few (Steps.is_expired c one.clock) one few

pull_few : (id : SessionId) (st : State) → HaveFew st → HaveFew (Steps.on_pull id st).state
pull_few id st few = at (http_session st id)
  where
    some : (x : Session) (packets : List (List ℕ)) → HaveFew (pull_some st x packets).state
    some x [] = few
    some x (p ∷ ps) = few

    at : (o : Option Session) → HaveFew (option_map_or (λ (s : Session). pull_some st s (held s)) o (Steps.outcome (settle st) (Pulled PulledGone) [])).state
    at None = few
    at (Some x) = some x (held x)

close_few : (id : SessionId) (st : State) → HaveFew st → HaveFew (Steps.on_close id st).state
close_few id st few = at (http_session st id)
  where
    at : (o : Option Session)
        → HaveFew (option_map_or (λ (s : Session). Steps.outcome (end_where (is_session id) st) (Closed Yes) []) o
        (Steps.outcome (settle st) (Closed ClosedGone) [])).state
    at None = few
    at (Some x) = end_few (is_session id) st few

pub step_few : (c : Config) (st : State) (e : Event) → HaveFew st → HaveFew (step c st e).state
step_few c st (Asked peer draw r) few = request_few c peer draw r st few
step_few c st (Got peer draw r) few = get_few c peer draw r st few
step_few c st (Tick now) few = tick_few c now st few
step_few c st (Packet front tune packet) few = packet_few front tune packet st few
step_few c st (Ended front tune) few = few
step_few c st (Ask front) few = few
step_few c st (Pull id) few = pull_few id st few
step_few c st (Close id) few = close_few id st few
step_few c st Stop few = few
