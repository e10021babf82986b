-- What each event does to the front ends.
use Rattle.std.proofs.Common.{◌≡◌, ℕ, ◌==◌, ◌&&◌, ◌||◌, not, nat_le, Bool, true, false, cond, List, [], ◌∷◌, ◌++◌, map, filter, find, Option, Some, None, is_none, option_map, refl, ap, sym, ◌∙◌, if◌then◌else◌, unwrap_or, option_and_then}
use Rattle.std.specs.List.{list_any}
use Rattle.std.specs.Option.{option_map_or}
use Rattle.std.proofs.lemmas.List.Folds.{list_any-append}
use Rattle.satip_base.specs.Lists.{Each}
use Rattle.satip_fronts.specs.declared.choice.Place.{Place}
use Rattle.satip_fronts.specs.Choice.{choose}
use Rattle.satip_tune.specs.Frontends.{mux_for}
use Rattle.satip_http.specs.Heads.{http_refusal}
use Rattle.satip_rtsp.specs.declared.requests.Method.{Method}
use Rattle.satip_rtsp.specs.declared.requests.Method.TheVariants.{Options, Describe, Setup, Play, Teardown}
use Rattle.satip_plain.specs.declared.answers.Answer.TheVariants.{Get, Pulled, Closed}
use Rattle.satip_plain.specs.declared.answers.GetAnswer.TheVariants.{Refused as GetRefused}
use Rattle.satip_plain.specs.declared.answers.Pulled.TheVariants.{Gone as PulledGone}
use Rattle.satip_plain.specs.declared.answers.Closed.TheVariants.{Yes, Gone as ClosedGone}
use Rattle.satip_plain.specs.declared.events.Event.{Event}
use Rattle.satip_plain.specs.declared.events.Event.TheVariants.{Request as Asked, Get as Got, Tick, Packet, Ended, Ask, Pull, Close, Stop}
use Rattle.satip_plain.specs.Types.{SessionId, Config, Peer, Draw, Ports, Query, Tuning, Request, HttpRequest}
use Rattle.satip_plain.specs.State.{Session, Stream, State, Row, is_at, row_of, held, http_session, served_by}
use Rattle.satip_plain.specs.Sending.{settle, each_of, let_go}
use Rattle.satip_plain.specs.Streams.{retune, put_at, to_set, change_by, change_stream, new_pids, outlook_of}
use Rattle.satip_plain.specs.Refusals.{Refused, session_named, decide, decide_get}
use Rattle.satip_plain.specs.Steps
use Rattle.satip_plain.specs.Steps.{Outcome, step, is_session, change_session, hear, heard_by, set_up, join, found, no_ports, least_free, setup_number, done_by, play_of, teardown_of, end_where, part, pull_some, is_current, give_all, deliver, tick, put_stream}
use Rattle.satip_laws.proofs.Fronts.{serves, tune_of, mux_at, IsMatched, AreFronts, Quiet, Shifts, quiet_then, quiet_shifts, shifts_quiet, shifts_of, quiet_same, sweep_quiet, chosen_place, put_at_shifts, any_served, find_row, each_filter, some_row}
use Rattle.satip_laws.proofs.Moves.{flushed, tick_clock}
use Rattle.satip_pids.specs.Pids.{Only}

-- each session that ends takes its stream along where that has no other
end_quiet : (c : Config) (p : Session → Bool) (st : State) → AreFronts c st → Quiet c st (end_where p st).state
end_quiet c p st fronts =
    let gone : State = (each_of p (part st.clock) st).state in
    quiet_then c st gone (end_where p st).state (quiet_same c st gone fronts refl refl) (sweep_quiet c gone fronts.matched)

-- streams that keep their tuning and their front end

abbrev KeepsPlace : (Stream → Stream) → Type 0
KeepsPlace g = (t : Stream) → (is_at (g t).front ≡ is_at t.front) × ((g t).tuning ≡ t.tuning)

any_map : (g : Stream → Stream) → KeepsPlace g → (f : ℕ) (ts : List Stream) → list_any (λ t. is_at t.front f) (map g ts) ≡ list_any (λ t. is_at t.front f) ts
any_map g keeps f [] = refl
any_map g keeps f (t ∷ ts) = rw ((keeps t).0, any_map g keeps f ts) refl

matched_map : (c : Config) (rows : List Row) (g : Stream → Stream) → KeepsPlace g → (ts : List Stream) → Each (IsMatched c rows) ts
    → Each (IsMatched c rows) (map g ts)
matched_map c rows g keeps [] each = tt
matched_map c rows g keeps (t ∷ ts) each =
    ((λ f r here found. rw (keeps t).1 (each.0 f r (rw (keeps t).0 at here) found)), matched_map c rows g keeps ts each.1)

map_quiet : (c : Config) (st : State) (g : Stream → Stream) → KeepsPlace g → AreFronts c st → Quiet c st (record st { streams = map g st.streams })
map_quiet c st g keeps fronts = record {
  keeps = λ f. record {
    tune = refl;
    on = λ e. (any_served f st.streams ∙ sym (any_map g keeps f st.streams) ∙ sym (any_served f (map g st.streams)) ∙ e, refl);
  };
  fronts = record {
    matched = matched_map c st.rows g keeps st.streams fronts.matched;
    free = λ f e. fronts.free f (any_served f st.streams ∙ sym (any_map g keeps f st.streams) ∙ sym (any_served f (map g st.streams)) ∙ e);
  };
}

keeps_where : (p : Stream → Bool) (g : Stream → Stream) → KeepsPlace g → KeepsPlace (λ t. if p t then g t else t)
keeps_where p g keeps t = by (p t)
  where
    by : (b : Bool) → (is_at (if b then g t else t).front ≡ is_at t.front) × ((if b then g t else t).tuning ≡ t.tuning)
    by true = keeps t
    by false = (refl, refl)

-- a new stream that has no front end yet

or_swap : (a b : Bool) → (a || b) ≡ (b || a)
or_swap true true = refl
or_swap true false = refl
or_swap false true = refl
or_swap false false = refl

any_split : (p q : Stream → Bool) (ts : List Stream) → (list_any q (filter p ts) || list_any q (filter (λ t. not (p t)) ts)) ≡ list_any q ts
any_split p q [] = refl
any_split p q (t ∷ ts) = by (p t) (q t) refl (any_split p q ts)
  where
    a : List Stream
    a = filter p ts

    b : List Stream
    b = filter (λ t. not (p t)) ts

    by : (x y : Bool) → q t ≡ y → (list_any q a || list_any q b) ≡ list_any q ts
        → (list_any q (cond x (t ∷ a) a) || list_any q (cond (not x) (t ∷ b) b)) ≡ (q t || list_any q ts)
    by true true e rest = rw e refl
    by true false e rest = rw e rest
    by false true e rest = rw e (or_true (list_any q a))
      where
        or_true : (x : Bool) → (x || true) ≡ true
        or_true true = refl
        or_true false = refl
    by false false e rest = rw e rest

any_put : (new : Stream) (f : ℕ) (ts : List Stream) → is_at new.front f ≡ false
    → list_any (λ t. is_at t.front f) (put_stream new ts) ≡ list_any (λ t. is_at t.front f) ts
any_put new f ts none =
    let p : Stream → Bool = λ t. nat_le t.number new.number in
    let q : Stream → Bool = λ t. is_at t.front f in
    list_any-append q (filter p ts) (new ∷ filter (λ t. not (p t)) ts) ∙ (rw none (any_split p q ts))

matched_append : (c : Config) (rows : List Row) (ts us : List Stream) → Each (IsMatched c rows) ts → Each (IsMatched c rows) us
    → Each (IsMatched c rows) (ts ++ us)
matched_append c rows [] us a b = b
matched_append c rows (t ∷ ts) us a b = (a.0, matched_append c rows ts us a.1 b)

matched_filter : (c : Config) (rows : List Row) (p : Stream → Bool) (ts : List Stream) → Each (IsMatched c rows) ts → Each (IsMatched c rows) (filter p ts)
matched_filter c rows p ts each = each_filter (IsMatched c rows) p ts each

found_quiet : (c : Config) (http : Bool) (peer : Peer) (draw : Draw) (ports : Ports) (st : State) → AreFronts c st → Quiet c st (found http peer draw ports st)
found_quiet c http peer draw ports st fronts = record {
  keeps = λ f. record { tune = refl; on = λ e. (same f ∙ e, refl) };
  fronts = record {
    matched = matched_append c st.rows (filter (λ t. nat_le t.number new.number) st.streams) (new ∷ filter (λ t. not (nat_le t.number new.number)) st.streams)
        (matched_filter c st.rows _ st.streams fronts.matched)
        ((λ f r here found. cc), matched_filter c st.rows _ st.streams fronts.matched);
    free = λ f e. fronts.free f (same f ∙ e);
  };
}
  where
    new : Stream
    new = record { number = least_free st.streams; tuning = None; front = None; pids = Only [] }

    same : (f : ℕ) → serves st f ≡ serves (found http peer draw ports st) f
    same f = any_served f st.streams ∙ sym (any_put new f st.streams refl) ∙ sym (any_served f (put_stream new st.streams))

-- a change of a stream

retune_shifts : (c : Config) (number : ℕ) (st : State) (tuning : Tuning) → AreFronts c st → Shifts c st (retune c number st tuning).state
retune_shifts c number st tuning fronts = quiet_shifts c st now (retune c number st tuning).state first
    (by (choose (outlook_of c now number) (mux_for c.muxes tuning) tuning) refl)
  where
    now : State
    now = (each_of (λ s. s.stream == number && not s.http) (let_go true st.clock) st).state

    first : Quiet c st now
    first = quiet_same c st now fronts refl refl

    by : (o : Option Place) → choose (outlook_of c now number) (mux_for c.muxes tuning) tuning ≡ o
        → Shifts c now (option_map_or (put_at c number tuning now) o now)
    by None e = shifts_of c now now (quiet_same c now now first.fronts refl refl)
    by (Some place) e = put_at_shifts c number tuning now place first.fronts (chosen_place (outlook_of c now number) (mux_for c.muxes tuning) tuning place e)

change_shifts : (c : Config) (number : ℕ) (query : Query) (st : State) → AreFronts c st → Shifts c st (change_by c number query st).state
change_shifts c number query st fronts = shifts_quiet c st middle (change_by c number query st).state first last
  where
    old : Option Tuning
    old = option_and_then (λ t. t.tuning) (find (λ t. t.number == number) st.streams)

    middle : State
    middle = (option_map_or (retune c number st) (to_set old query.change) (settle st)).state

    by : (o : Option Tuning) → Shifts c st (option_map_or (retune c number st) o (settle st)).state
    by None = shifts_of c st st (quiet_same c st st fronts refl refl)
    by (Some tuning) = retune_shifts c number st tuning fronts

    first : Shifts c st middle
    first = by (to_set old query.change)

    last : Quiet c middle (change_stream number (λ t. record t { pids = new_pids t.pids query }) middle)
    last = map_quiet c middle (λ t. if t.number == number then record t { pids = new_pids t.pids query } else t)
        (keeps_where (λ t. t.number == number) (λ t. record t { pids = new_pids t.pids query }) (λ t. (refl, refl))) first.fronts

-- requests

heard_quiet : (c : Config) (r : Request) (st : State) → AreFronts c st → Quiet c st (heard_by r st)
heard_quiet c r st fronts = at (session_named st r.session)
  where
    named : (x : Session) (b : Bool) → Quiet c st (if b then hear x.id st else st)
    named x true = quiet_same c st (hear x.id st) fronts refl refl
    named x false = quiet_same c st st fronts refl refl

    at : (o : Option Session) → Quiet c st (option_map_or (λ x. if is_none r.refusal then hear x.id st else st) o st)
    at None = quiet_same c st st fronts refl refl
    at (Some x) = named x (is_none r.refusal)

set_up_quiet : (c : Config) (peer : Peer) (draw : Draw) (ports : Ports) (r : Request) (st : State) → AreFronts c st → Quiet c st (set_up peer draw ports r st)
set_up_quiet c peer draw ports r st fronts = at (session_named st r.session)
  where
    joined : (o : Option ℕ) → Quiet c st (option_map_or (λ number. join false peer draw ports number st) o (found false peer draw ports st))
    joined None = found_quiet c false peer draw ports st fronts
    joined (Some number) = quiet_same c st (join false peer draw ports number st) fronts refl refl

    at : (o : Option Session) → Quiet c st (option_map_or (λ s. change_session s.id (λ x. record x { peer = peer; ports = ports }) st) o
        (option_map_or (λ number. join false peer draw ports number st) r.stream (found false peer draw ports st)))
    at None = joined r.stream
    at (Some s) = quiet_same c st (change_session s.id (λ x. record x { peer = peer; ports = ports }) st) fronts refl refl

done_shifts : (m : Method) (c : Config) (peer : Peer) (draw : Draw) (r : Request) (st : State) → AreFronts c st → Shifts c st (done_by m c peer draw r st).state
done_shifts Options c peer draw r st fronts = shifts_of c st st (quiet_same c st st fronts refl refl)
done_shifts Describe c peer draw r st fronts = shifts_of c st st (quiet_same c st st fronts refl refl)
done_shifts Setup c peer draw r st fronts =
    let start : State = set_up peer draw (unwrap_or r.ports no_ports) r st in
    let first : Quiet c st start = set_up_quiet c peer draw (unwrap_or r.ports no_ports) r st fronts in
    quiet_shifts c st start (done_by Setup c peer draw r st).state first (change_shifts c (setup_number r st) r.query start first.fronts)
done_shifts Play c peer draw r st fronts = at (session_named st r.session)
  where
    at : (o : Option Session) → Shifts c st (option_map_or (play_of c r st) o (Steps.accepted (settle st) [])).state
    at None = shifts_of c st st (quiet_same c st st fronts refl refl)
    at (Some s) =
        let middle : State = (change_by c s.stream r.query st).state in
        let first : Shifts c st middle = change_shifts c s.stream r.query st fronts in
        shifts_quiet c st middle (play_of c r st s).state first (quiet_same c middle (play_of c r st s).state first.fronts refl refl)
done_shifts Teardown c peer draw r st fronts = at (session_named st r.session)
  where
    at : (o : Option Session) → Shifts c st (option_map_or (teardown_of r st) o (Steps.accepted (settle st) [])).state
    at None = shifts_of c st st (quiet_same c st st fronts refl refl)
    at (Some s) = shifts_of c st (teardown_of r st s).state (end_quiet c (is_session s.id) st fronts)

request_shifts : (c : Config) (peer : Peer) (draw : Draw) (r : Request) (st : State) → AreFronts c st → Shifts c st (Steps.on_request c peer draw r st).state
request_shifts c peer draw r st fronts = quiet_shifts c st heard (Steps.on_request c peer draw r st).state first (at (decide c st r))
  where
    heard : State
    heard = heard_by r st

    first : Quiet c st heard
    first = heard_quiet c r st fronts

    at : (o : Option Refused) → Shifts c heard (option_map_or (Steps.refuse r heard) o (done_by r.method c peer draw r heard)).state
    at None = done_shifts r.method c peer draw r heard first.fronts
    at (Some x) = shifts_of c heard heard (quiet_same c heard heard first.fronts refl refl)

get_shifts : (c : Config) (peer : Peer) (draw : Draw) (r : HttpRequest) (st : State) → AreFronts c st → Shifts c st (Steps.on_get c peer draw r st).state
get_shifts c peer draw r st fronts = at (decide_get c st r)
  where
    start : State
    start = found true peer draw no_ports st

    first : Quiet c st start
    first = found_quiet c true peer draw no_ports st fronts

    at : (o : Option Refused)
        → Shifts c st (option_map_or (λ refused. Steps.outcome (settle st) (Get (GetRefused refused.status)) (http_refusal refused.status refused.body)) o
        (Steps.start c peer draw r st)).state
    at None = quiet_shifts c st start (Steps.start c peer draw r st).state first (change_shifts c (least_free st.streams) r.query start first.fronts)
    at (Some x) = shifts_of c st st (quiet_same c st st fronts refl refl)

-- the other events

give_quiet : (c : Config) (packet : List ℕ) (ts : List Stream) (st : State) → AreFronts c st → Quiet c st (give_all packet ts st).state
give_quiet c packet [] st fronts = quiet_same c st st fronts refl refl
give_quiet c packet (t ∷ ts) st fronts =
    let one : State = (Steps.give packet t st).state in
    let first : Quiet c st one = quiet_same c st one fronts refl refl in
    quiet_then c st one (give_all packet (t ∷ ts) st).state first (give_quiet c packet ts one first.fronts)

packet_quiet : (c : Config) (front tune : ℕ) (packet : List ℕ) (st : State) → AreFronts c st → Quiet c st (Steps.on_packet front tune packet st).state
packet_quiet c front tune packet st fronts = by (is_current st front tune)
  where
    by : (b : Bool) → Quiet c st (if b then deliver front packet st else settle st).state
    by true =
        let one : State = (give_all packet (served_by st front) st).state in
        let first : Quiet c st one = give_quiet c packet (served_by st front) st fronts in
        quiet_then c st one (deliver front packet st).state first (end_quiet c _ one first.fronts)
    by false = quiet_same c st st fronts refl refl

tick_quiet : (c : Config) (now : ℕ) (st : State) → AreFronts c st → Quiet c st (tick c now st).state
tick_quiet c now st fronts =
    let one : State = (flushed (tick_clock now st) st).state in
    let two : State = (end_where (Steps.is_expired c one.clock) one).state in
    let first : Quiet c st one = quiet_same c st one fronts refl refl in
    let second : Quiet c one two = end_quiet c (Steps.is_expired c one.clock) one first.fronts in
    quiet_then c st one (tick c now st).state first
    (quiet_then c one two (tick c now st).state second (quiet_same c two (tick c now st).state second.fronts refl refl))

-- the mark of an exhausted recording
ended_quiet : (c : Config) (front tune : ℕ) (st : State) → AreFronts c st → Quiet c st (Steps.on_ended front tune st).state
ended_quiet c front tune st fronts =
    record {
      keeps = λ f. record { tune = tunes f; on = λ e. (e, muxes f) };
      fronts = record { matched = all st.streams fronts.matched; free = λ f e. muxes f ∙ fronts.free f e };
    }
  where
    g : Row → Row
    g r = if is_current st front tune && r.number == front then record r { ended = true } else r

    kept : (r : Row) → ((g r).number ≡ r.number) × ((g r).tune ≡ r.tune) × ((g r).mux ≡ r.mux)
    kept r = by (is_current st front tune && r.number == front)
      where
        by : (b : Bool) → ((if b then record r { ended = true } else r).number ≡ r.number) × ((if b then record r { ended = true } else r).tune ≡ r.tune)
            × ((if b then record r { ended = true } else r).mux ≡ r.mux)
        by true = (refl, refl, refl)
        by false = (refl, refl, refl)

    rows : (f : ℕ) → find (λ r. r.number == f) (map g st.rows) ≡ option_map g (row_of st f)
    rows f = find_row (λ r. r.number == f) g (λ r. ap (λ n. n == f) (kept r).0) st.rows

    tunes : (f : ℕ) → tune_of (Steps.on_ended front tune st).state f ≡ tune_of st f
    tunes f = ap (λ o. option_map (λ r. r.tune) o) (rows f) ∙ by (row_of st f)
      where
        by : (o : Option Row) → option_map (λ r. r.tune) (option_map g o) ≡ option_map (λ r. r.tune) o
        by None = refl
        by (Some r) = ap (λ n. Some n) (kept r).1

    muxes : (f : ℕ) → mux_at (Steps.on_ended front tune st).state f ≡ mux_at st f
    muxes f = ap (λ o. option_and_then (λ r. r.mux) o) (rows f) ∙ by (row_of st f)
      where
        by : (o : Option Row) → option_and_then (λ r. r.mux) (option_map g o) ≡ option_and_then (λ r. r.mux) o
        by None = refl
        by (Some r) = (kept r).2

    one : (t : Stream) → IsMatched c st.rows t → IsMatched c (map g st.rows) t
    one t was f r here found =
        let old = some_row (row_of st f) g r (sym (rows f) ∙ found) in
        ap (λ x. x.mux) (sym old.2) ∙ (kept old.0).2 ∙ was f old.0 here old.1

    all : (ts : List Stream) → Each (IsMatched c st.rows) ts → Each (IsMatched c (map g st.rows)) ts
    all [] each = tt
    all (t ∷ ts) each = (one t each.0, all ts each.1)

pull_quiet : (c : Config) (id : SessionId) (st : State) → AreFronts c st → Quiet c st (Steps.on_pull id st).state
pull_quiet c id st fronts = at (http_session st id)
  where
    some : (x : Session) (packets : List (List ℕ)) → Quiet c st (pull_some st x packets).state
    some x [] = quiet_same c st (hear x.id st) fronts refl refl
    some x (p ∷ ps) = quiet_same c st (pull_some st x (p ∷ ps)).state fronts refl refl

    at : (o : Option Session) → Quiet c st (option_map_or (λ s. pull_some st s (held s)) o (Steps.outcome (settle st) (Pulled PulledGone) [])).state
    at None = quiet_same c st st fronts refl refl
    at (Some x) = some x (held x)

close_quiet : (c : Config) (id : SessionId) (st : State) → AreFronts c st → Quiet c st (Steps.on_close id st).state
close_quiet c id st fronts = at (http_session st id)
  where
    at : (o : Option Session)
        → Quiet c st (option_map_or (λ s. Steps.outcome (end_where (is_session id) st) (Closed Yes) []) o
        (Steps.outcome (settle st) (Closed ClosedGone) [])).state
    at None = quiet_same c st st fronts refl refl
    at (Some x) = end_quiet c (is_session id) st fronts

pub event_shifts : (c : Config) (st : State) (e : Event) → AreFronts c st → Shifts c st (step c st e).state
event_shifts c st (Asked peer draw r) fronts = request_shifts c peer draw r st fronts
event_shifts c st (Got peer draw r) fronts = get_shifts c peer draw r st fronts
event_shifts c st (Tick now) fronts = shifts_of c st (step c st (Tick now)).state (tick_quiet c now st fronts)
event_shifts c st (Packet front tune packet) fronts = shifts_of c st (step c st (Packet front tune packet)).state (packet_quiet c front tune packet st fronts)
event_shifts c st (Ended front tune) fronts = shifts_of c st (step c st (Ended front tune)).state (ended_quiet c front tune st fronts)
event_shifts c st (Ask front) fronts = shifts_of c st st (quiet_same c st st fronts refl refl)
event_shifts c st (Pull id) fronts = shifts_of c st (step c st (Pull id)).state (pull_quiet c id st fronts)
event_shifts c st (Close id) fronts = shifts_of c st (step c st (Close id)).state (close_quiet c id st fronts)
event_shifts c st Stop fronts = shifts_of c st (step c st Stop).state (quiet_same c st (step c st Stop).state fronts refl refl)
