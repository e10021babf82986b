-- A packet that reaches the sessions.
use Rattle.std.proofs.Common.{arith, ◌≡◌, ◌⊎◌, inl, inr, ℕ, ◌+◌, ◌-◌, ◌<◌, ◌≤◌, ◌==◌, ◌&&◌, ◌||◌, not, Bool, true, false, cond, List, [], ◌∷◌, ◌++◌, map, filter, length, sum, take, Option, Some, None, is_some, refl, ap, sym, subst, ◌∙◌, append-nil, length-drop}
use Rattle.std.specs.List.{list_any, filter_map, flat_map}
use Rattle.std.specs.Option.{option_map_or}
use Rattle.std.proofs.lemmas.Bool.{and_parts, and_from, eqb-true, eq-eqb, false_from_ne_true, not-true}
use Rattle.std.proofs.lemmas.List.{take-append-le, length-take}
use Rattle.satip_plain.proofs.SameIds.{same_id_is}
use Rattle.satip_base.specs.Lists.{Has, Each}
use Rattle.satip_base.proofs.Elements.{Each-append}
use Rattle.satip_pids.specs.Pids.{has_pid}
use Rattle.satip_ts.specs.Packet.{pid_of}
use Rattle.satip_rtp.specs.Cut.{cut}
use Rattle.satip_base.specs.Output.{Output}
use Rattle.satip_plain.specs.Types.{SessionId, Config}
use Rattle.satip_plain.specs.declared.answers.Answer.{Answer}
use Rattle.satip_plain.specs.declared.events.Event.{Event}
use Rattle.satip_plain.specs.declared.events.Event.TheVariants.{Packet}
use Rattle.satip_plain.specs.State.{Session, Stream, Row, State, same_id, is_at, row_of, served_by, held}
use Rattle.satip_plain.specs.Sending.{let_go}
use Rattle.satip_plain.specs.Steps.{is_current, picks, is_overrun, given, give, give_all, overrun, deliver, end_where, most_queued}
use Rattle.satip_plain.specs.Readings.{Made, Readings, living, living_session, any_where, plays, is_accepted, frees, ends, keeps_alive, is_selected, pulled_by, read_one}
use Rattle.satip_laws.specs.Agreement.{stream_told, tune_at}
use Rattle.satip_laws.specs.Given.{gives_to}
use Rattle.satip_laws.proofs.SameTests.{same_bool, none_true, id_same, either_false}
use Rattle.satip_laws.proofs.Finding.{either_way, find_has, any_has, any_no, has_any, filter_has, has_filter, has_left, has_right, has_parts}
use Rattle.satip_laws.proofs.Agree.{Same, Apart, IsTold, IsQueue, Agrees, alike_map, alike_read, alike_has, alike_back, living_found, stream_here, stream_back}
use Rattle.satip_laws.proofs.Quiet.{same_again}
use Rattle.satip_laws.proofs.Sweeping.{agrees_ended, apart_filter, over_read, living_over, living_none}
use Rattle.satip_laws.proofs.Reading.{item, read_other, simply_same, simply_selects, never, nothing, found_living}

-- which sessions have the packet

pub plays_living : (g : Readings) (m : Made) → Has m (living g) → plays g m ≡ (m.http || g.played m.id)
plays_living g m h = let lives : not (g.over m.id) ≡ true = (filter_has (λ n. not (g.over n.id)) g.made m h).1 in rw lives refl

current_tune : (st : State) (front tune : ℕ) → option_map_or (λ (r : Row). r.tune == tune) (row_of st front) false ≡ true → tune_at st front ≡ tune
current_tune st front tune e = by (row_of st front) e
  where
    by : (o : Option Row) → option_map_or (λ (r : Row). r.tune == tune) o false ≡ true → option_map_or (λ (r : Row). r.tune) o 0 ≡ tune
    by None e = cc
    by (Some r) e = eqb-true r.tune tune e

tune_current : (st : State) (front tune : ℕ) → is_some (row_of st front) ≡ true → tune_at st front ≡ tune
    → option_map_or (λ (r : Row). r.tune == tune) (row_of st front) false ≡ true
tune_current st front tune there e = by (row_of st front) there e
  where
    by : (o : Option Row) → is_some o ≡ true → option_map_or (λ (r : Row). r.tune) o 0 ≡ tune → option_map_or (λ (r : Row). r.tune == tune) o false ≡ true
    by None f e = cc
    by (Some r) f e = eq-eqb r.tune tune e

at_is : (o : Option ℕ) (f : ℕ) → is_at o f ≡ true → o ≡ Some f
at_is None f e = cc
at_is (Some n) f e = ap Some (eqb-true n f e)

-- what a session is to have, by the state, is selected for it, by the entries
pub gives_selected : (c : Config) (st : State) (g : Readings) (front tune : ℕ) (packet : List ℕ) → Agrees c st g → (m : Made) (s : Session)
    → Has m (living g) → Same g m s
    → (is_current st front tune && list_any (λ t. picks t packet s) (served_by st front)) ≡ is_selected g (Packet front tune packet) m
gives_selected c st g front tune packet a m s h e =
    same_bool (is_current st front tune && list_any (λ t. picks t packet s) (served_by st front)) (is_selected g (Packet front tune packet) m) there back
  where
    pid : ℕ
    pid = pid_of packet

    there : (is_current st front tune && list_any (λ t. picks t packet s) (served_by st front)) ≡ true → is_selected g (Packet front tune packet) m ≡ true
    there t =
        let parts = and_parts (is_current st front tune) (list_any (λ t. picks t packet s) (served_by st front)) t in
        let current = and_parts (option_map_or (λ (r : Row). r.tune == tune) (row_of st front) false)
        (list_any (λ (t : Stream). true) (served_by st front)) parts.0 in
        let some = any_has (λ t. picks t packet s) (served_by st front) parts.1 in
        let served = filter_has (λ t. is_at t.front front) st.streams some.0 some.1 in
        let b = stream_back c st g a some.0 served.0 in
        let picked = and_parts (s.stream == some.0.number && s.playing) (has_pid some.0.pids pid) some.2 in
        let stream = and_parts (s.stream == some.0.number) s.playing picked.0 in
        let homes : m.home ≡ b.0.home = a.loosely.told.numbers m b.0 h b.1 (sym e.stream ∙ eqb-true s.stream some.0.number stream.0 ∙ ap (λ x. x.number) b.2) in
        let same : some.0 ≡ stream_told g m.home = b.2 ∙ ap (stream_told g) (sym homes) in
        and_from (plays g m && is_at (g.front m.home) front && g.tune front == tune) (has_pid (g.pids m.home) pid)
        (and_from (plays g m && is_at (g.front m.home) front) (g.tune front == tune)
        (and_from (plays g m) (is_at (g.front m.home) front) (plays_living g m h ∙ sym e.playing ∙ stream.1)
        (ap (λ x. is_at x.front front) (sym same) ∙ served.1))
        (eq-eqb (g.tune front) tune (sym (a.loosely.tunes front) ∙ current_tune st front tune current.0)))
        (ap (λ x. has_pid x.pids pid) (sym same) ∙ picked.1)

    back : is_selected g (Packet front tune packet) m ≡ true → (is_current st front tune && list_any (λ t. picks t packet s) (served_by st front)) ≡ true
    back t =
        let p = and_parts (plays g m && is_at (g.front m.home) front && g.tune front == tune) (has_pid (g.pids m.home) pid) t in
        let q = and_parts (plays g m && is_at (g.front m.home) front) (g.tune front == tune) p.0 in
        let r = and_parts (plays g m) (is_at (g.front m.home) front) q.0 in
        let here : Has (stream_told g m.home) st.streams =
        (find_has (λ t. t.number == g.number m.home) st.streams (stream_told g m.home) (stream_here c st g a m h)).0 in
        let served : Has (stream_told g m.home) (served_by st front) = has_filter (λ t. is_at t.front front) st.streams (stream_told g m.home) here r.1 in
        let row : is_some (row_of st front) ≡ true = a.loosely.kept.placed (stream_told g m.home) front here (at_is (g.front m.home) front r.1) in
        let tuned : tune_at st front ≡ tune = a.loosely.tunes front ∙ eqb-true (g.tune front) tune q.1 in
        and_from (is_current st front tune) (list_any (λ t. picks t packet s) (served_by st front))
        (and_from (option_map_or (λ (r : Row). r.tune == tune) (row_of st front) false) (list_any (λ (t : Stream). true) (served_by st front))
        (tune_current st front tune row tuned) (has_any (λ (t : Stream). true) (served_by st front) (stream_told g m.home) served refl))
        (has_any (λ t. picks t packet s) (served_by st front) (stream_told g m.home) served
        (and_from (s.stream == g.number m.home && s.playing) (has_pid (g.pids m.home) pid)
        (and_from (s.stream == g.number m.home) s.playing (eq-eqb s.stream (g.number m.home) e.stream) (e.playing ∙ sym (plays_living g m h) ∙ r.0)) p.1))

-- what the state gives to the session of an id is what is selected for it
pub gives_is_selected : (c : Config) (st : State) (g : Readings) (front tune : ℕ) (packet : List ℕ) (s : SessionId) → Agrees c st g
    → any_where (is_selected g (Packet front tune packet)) (living_session g s) ≡ gives_to st (Packet front tune packet) s
gives_is_selected c st g front tune packet s a = same_bool _ (gives_to st (Packet front tune packet) s) (λ t. there (living_session g s) refl t) back
  where
    there : (o : Option Made) → living_session g s ≡ o → any_where (is_selected g (Packet front tune packet)) o ≡ true
        → gives_to st (Packet front tune packet) s ≡ true
    there None e t = cc
    there (Some m) e t =
        let found = found_living g s m e in
        let b = alike_back g m (living g) st.sessions a.loosely.sessions found.0 in
        let parts = and_parts (is_current st front tune) (list_any (λ t. picks t packet b.0) (served_by st front))
        (gives_selected c st g front tune packet a m b.0 found.0 b.2 ∙ t) in
        let some = any_has (λ t. picks t packet b.0) (served_by st front) parts.1 in
        and_from (is_current st front tune) (list_any (λ t. list_any (λ x. same_id x.id s && picks t packet x) st.sessions) (served_by st front)) parts.0
        (has_any (λ t. list_any (λ x. same_id x.id s && picks t packet x) st.sessions) (served_by st front) some.0 some.1
        (has_any (λ x. same_id x.id s && picks some.0 packet x) st.sessions b.0 b.1
        (and_from (same_id b.0.id s) (picks some.0 packet b.0) (id_same b.0.id s (b.2.id ∙ found.1)) some.2)))

    back : gives_to st (Packet front tune packet) s ≡ true → any_where (is_selected g (Packet front tune packet)) (living_session g s) ≡ true
    back t =
        let parts = and_parts (is_current st front tune)
        (list_any (λ t. list_any (λ x. same_id x.id s && picks t packet x) st.sessions) (served_by st front)) t in
        let some = any_has (λ t. list_any (λ x. same_id x.id s && picks t packet x) st.sessions) (served_by st front) parts.1 in
        let one = any_has (λ x. same_id x.id s && picks some.0 packet x) st.sessions some.2 in
        let is = and_parts (same_id one.0.id s) (picks some.0 packet one.0) one.2 in
        let m = alike_has g one.0 (living g) st.sessions a.loosely.sessions one.1 in
        let same : m.0.id ≡ s = sym m.2.id ∙ same_id_is one.0.id s is.0 in
        let found : living_session g s ≡ Some m.0 = ap (living_session g) (sym same) ∙ living_found g a.loosely.told m.0 m.1 in
        ap (any_where (is_selected g (Packet front tune packet))) found ∙ sym (gives_selected c st g front tune packet a m.0 one.0 m.1 m.2)
        ∙ and_from (is_current st front tune) (list_any (λ t. picks t packet one.0) (served_by st front)) parts.0
        (has_any (λ t. picks t packet one.0) (served_by st front) some.0 some.1 is.1)

-- a session that is given a packet

abbrev pub with_packet : List ℕ → Session → Session
with_packet packet s = record s { picked = s.picked ++ packet ∷ [] }

abbrev pub sending : Session → Session
sending s = record s { sizes = s.sizes ++ map length (cut false (held s)) }

abbrev pub got : List ℕ → Session → Session
got packet s = cond s.http (cond (is_overrun s) s (with_packet packet s)) (sending (with_packet packet s))

given_is : (clock : ℕ) (packet : List ℕ) (s : Session) → (given clock packet s).after ≡ Some (got packet s)
given_is clock packet s = by s.http
  where
    by : (b : Bool) → (cond b (record { sends = []; after = Some (cond (is_overrun s) s (with_packet packet s)) })
        (let_go false clock (with_packet packet s))).after
        ≡ Some (cond b (cond (is_overrun s) s (with_packet packet s)) (sending (with_packet packet s)))
    by true = refl
    by false = refl

got_keeps : {A : Type 0} (f : Session → A) (packet : List ℕ) (s : Session) → f (with_packet packet s) ≡ f s → f (sending (with_packet packet s)) ≡ f s
    → f (got packet s) ≡ f s
got_keeps f packet s e k = by s.http (is_overrun s)
  where
    by : (a b : Bool) → f (cond a (cond b s (with_packet packet s)) (sending (with_packet packet s))) ≡ f s
    by true true = refl
    by true false = e
    by false b = k

-- a session's share in a packet that one stream gives, and that all streams of a list give
abbrev pub got_by : Stream → List ℕ → Session → Session
got_by t packet s = cond (picks t packet s) (got packet s) s

abbrev pub got_all : List ℕ → List Stream → Session → Session
got_all packet [] s = s
got_all packet (t ∷ ts) s = got_all packet ts (got_by t packet s)

some_map : {X : Type 0} (o : X → Option X) (f : X → X) → ((x : X) → o x ≡ Some (f x)) → (xs : List X) → filter_map o xs ≡ map f xs
some_map o f same [] = refl
some_map o f same (x ∷ xs) = rw (same x) (ap (λ ys. f x ∷ ys) (some_map o f same xs))

abbrev with_sessions : State → List Session → State
with_sessions st ss = record st { sessions = ss }

map_itself : {X : Type 0} (xs : List X) → map (λ x. x) xs ≡ xs
map_itself [] = refl
map_itself (x ∷ xs) = ap (λ ys. x ∷ ys) (map_itself xs)

map_both : {X : Type 0} (f h : X → X) (xs : List X) → map h (map f xs) ≡ map (λ x. h (f x)) xs
map_both f h [] = refl
map_both f h (x ∷ xs) = ap (λ ys. h (f x) ∷ ys) (map_both f h xs)

give_sessions : (packet : List ℕ) (t : Stream) (st : State) → (give packet t st).state ≡ record st { sessions = map (got_by t packet) st.sessions }
give_sessions packet t st = ap (λ ss. record st { sessions = ss })
    (some_map (λ s. (cond (picks t packet s) (given st.clock packet s) (record { sends = []; after = Some s })).after) (got_by t packet)
    (λ s. by s (picks t packet s)) st.sessions)
  where
    by : (s : Session) (b : Bool) → (cond b (given st.clock packet s) (record { sends = []; after = Some s })).after ≡ Some (cond b (got packet s) s)
    by s true = given_is st.clock packet s
    by s false = refl

pub give_all_sessions : (packet : List ℕ) (ts : List Stream) (st : State)
    → (give_all packet ts st).state ≡ record st { sessions = map (got_all packet ts) st.sessions }
give_all_sessions packet [] st = ap (λ ss. record st { sessions = ss }) (sym (map_itself st.sessions))
give_all_sessions packet (t ∷ ts) st = give_all_sessions packet ts (give packet t st).state
    ∙ ap (λ (x : State). with_sessions x (map (got_all packet ts) x.sessions)) (give_sessions packet t st)
    ∙ ap (λ ss. record st { sessions = ss }) (map_both (got_by t packet) (got_all packet ts) st.sessions)

-- streams that don't pick a session leave it as it is
got_none : (packet : List ℕ) (ts : List Stream) (s : Session) → ((t : Stream) → Has t ts → picks t packet s ≡ false) → got_all packet ts s ≡ s
got_none packet [] s no_one = refl
got_none packet (t ∷ ts) s no_one = rw (no_one t (inl refl)) (got_none packet ts s (λ u h. no_one u (inr h)))

-- a session is given a packet once
pub got_once : (packet : List ℕ) (ts : List Stream) (s : Session) → Apart ts → got_all packet ts s ≡ cond (list_any (λ t. picks t packet s) ts) (got packet s) s
got_once packet [] s apart = refl
got_once packet (t ∷ ts) s apart = by (picks t packet s) refl (got_once packet ts s apart.1)
  where
    stream : picks t packet s ≡ true → (got packet s).stream ≡ t.number
    stream e =
        let parts = and_parts (s.stream == t.number && s.playing) (has_pid t.pids (pid_of packet)) e in
        got_keeps (λ x. x.stream) packet s refl refl ∙ eqb-true s.stream t.number (and_parts (s.stream == t.number) s.playing parts.0).0

    other : picks t packet s ≡ true → (u : Stream) → Has u ts → picks u packet (got packet s) ≡ false
    other e u h = false_from_ne_true (picks u packet (got packet s)) (λ f.
        let parts = and_parts ((got packet s).stream == u.number && (got packet s).playing) (has_pid u.pids (pid_of packet)) f in
        let number : (got packet s).stream ≡ u.number =
        eqb-true (got packet s).stream u.number (and_parts ((got packet s).stream == u.number) (got packet s).playing parts.0).0 in
        none_true (u.number == t.number) (eq-eqb u.number t.number (sym number ∙ stream e)) (any_no (λ v. v.number == t.number) ts u apart.0 h))

    by : (b : Bool) → picks t packet s ≡ b → got_all packet ts s ≡ cond (list_any (λ u. picks u packet s) ts) (got packet s) s
        → got_all packet ts (cond b (got packet s) s) ≡ cond (b || list_any (λ u. picks u packet s) ts) (got packet s) s
    by true e rest = got_none packet ts (got packet s) (other e)
    by false e rest = rest

-- the sessions in the state after a packet

flat_has : {X Y : Type 0} (f : X → List Y) (y : Y) (xs : List X) → Has y (flat_map f xs) → (x : X) × Has x xs × Has y (f x)
flat_has f y [] h = absurd h
flat_has {X = X} {Y = Y} f y (x ∷ xs) h = by (has_parts y (f x) (flat_map f xs) h) (λ k. flat_has f y xs k)
  where
    by : Has y (f x) ⊎ Has y (flat_map f xs) → (Has y (flat_map f xs) → (z : X) × Has z xs × Has y (f z)) → (z : X) × ((z ≡ x) ⊎ Has z xs) × Has y (f z)
    by (inl k) rest = (x, inl refl, k)
    by (inr k) rest = let r = rest k in (r.0, inr r.1, r.2)

has_flat : {X Y : Type 0} (f : X → List Y) (y : Y) (xs : List X) (x : X) → Has x xs → Has y (f x) → Has y (flat_map f xs)
has_flat f y [] x h k = absurd h
has_flat f y (z ∷ xs) x (inl e) k = has_left y (f z) (flat_map f xs) (subst (λ w. Has y (f w)) e k)
has_flat f y (z ∷ xs) x (inr h) k = has_right y (f z) (flat_map f xs) (has_flat f y xs x h k)

-- packets that are selected for sessions
abbrev pub selected_read : (SessionId → List (List ℕ)) → Readings → Readings
selected_read more g = record g { selected = λ s. g.selected s ++ more s }

told_selected : (g : Readings) (more : SessionId → List (List ℕ)) → ((s : SessionId) → length g.made < s.count → more s ≡ [])
    → ((s : SessionId) → Each (λ p. length p ≡ 188) (more s))
    → IsTold g → IsTold (selected_read more g)
told_selected g more unmade packets told = record {
  ids = told.ids;
  numbers = told.numbers;
  few = told.few;
  homes = told.homes;
  unmade = λ s above. let u = told.unmade s above in
      record {
        over = u.over;
        played = u.played;
        tuned = u.tuned;
        pids = u.pids;
        front = u.front;
        selected = rw (u.selected, unmade s above) refl;
        pulled = u.pulled;
      };
  packets = λ s. Each-append (λ p. length p ≡ 188) (g.selected s) (more s) (told.packets s) (packets s);
}

agrees_selected : (c : Config) (st : State) (g : Readings) (f : Session → Session) (more : SessionId → List (List ℕ))
    → ((s : SessionId) → length g.made < s.count → more s ≡ []) → ((s : SessionId) → Each (λ p. length p ≡ 188) (more s))
    → ((m : Made) (s : Session) → Has m (living g) → Same g m s → Same (selected_read more g) m (f s))
    → Agrees c st g → Agrees c (record st { sessions = map f st.sessions }) (selected_read more g)
agrees_selected c st g f more unmade packets same a = record {
  loosely = record {
    clock = a.loosely.clock;
    made = a.loosely.made;
    sessions = alike_map g (selected_read more g) f (living g) st.sessions (λ m s h k e. same m s h e) a.loosely.sessions;
    living_streams = a.loosely.living_streams;
    tunes = a.loosely.tunes;
    muxes = a.loosely.muxes;
    told = told_selected g more unmade packets a.loosely.told;
    kept = record {
      apart = a.loosely.kept.apart;
      once = a.loosely.kept.once;
      positive = a.loosely.kept.positive;
      few = a.loosely.kept.few;
      rows = a.loosely.kept.rows;
      placed = a.loosely.kept.placed;
    };
  };
  streams = a.streams;
  free = a.free;
}

-- what is said to be selected counts for living sessions alone
agrees_reselected : (c : Config) (st : State) (g : Readings) (selected : SessionId → List (List ℕ))
    → ((m : Made) → Has m (living g) → selected m.id ≡ g.selected m.id)
    → ((s : SessionId) → length g.made < s.count → selected s ≡ []) → ((s : SessionId) → Each (λ p. length p ≡ 188) (selected s))
    → Agrees c st g → Agrees c st (record g { selected = selected })
agrees_reselected c st g selected same unmade packets a = record {
  loosely = record {
    clock = a.loosely.clock;
    made = a.loosely.made;
    sessions = alike_read g (record g { selected = selected }) (living g) st.sessions
        (λ m s h e. same_again g (record g { selected = selected }) m s e refl refl refl (same m h) refl) a.loosely.sessions;
    living_streams = a.loosely.living_streams;
    tunes = a.loosely.tunes;
    muxes = a.loosely.muxes;
    told = let told = a.loosely.told in record {
      ids = told.ids;
      numbers = told.numbers;
      few = told.few;
      homes = told.homes;
      unmade = λ s above. let u = told.unmade s above in
          record { over = u.over; played = u.played; tuned = u.tuned; pids = u.pids; front = u.front; selected = unmade s above; pulled = u.pulled };
      packets = packets;
    };
    kept = a.loosely.kept;
  };
  streams = a.streams;
  free = a.free;
}

-- the queue of an HTTP session

queue_length : (pulled : List (List ℕ)) (s : Session) → IsQueue pulled s → length pulled ≤ length s.picked
queue_length pulled s q = let e : length (take (length pulled) s.picked) ≡ length pulled = ap length q.begins in let f = length-take (length pulled) s.picked in
    omega (arith, e, f)

held_full : (pulled selected : List (List ℕ)) (s : Session) → IsQueue pulled s → s.picked ≡ selected
    → (length (held s) == most_queued) ≡ (length selected == length pulled + most_queued)
held_full pulled selected s q is = same_bool (length (held s) == most_queued) (length selected == length pulled + most_queued)
    (λ e. eq-eqb (length selected) (length pulled + most_queued)
    (let f = eqb-true (length (held s)) most_queued e in omega (arith, f, few, long, dropped, q.sizes)))
    (λ e. eq-eqb (length (held s)) most_queued (let f = eqb-true (length selected) (length pulled + most_queued) e in
    omega (arith, f, few, long, dropped, q.sizes)))
  where
    few : length pulled ≤ length s.picked
    few = queue_length pulled s q

    long : length s.picked ≡ length selected
    long = ap length is

    dropped : length (held s) ≡ length s.picked - sum s.sizes
    dropped = length-drop (sum s.sizes) s.picked

module _ (c : Config) (st : State) (g : Readings) (a : Agrees c st g) (front tune : ℕ) (packet : List ℕ) (whole : length packet ≡ 188)
    (current : is_current st front tune ≡ true) where
  abbrev ev : Event
  ev = Packet front tune packet

  -- the sessions that end as their queue is full
  abbrev overruns : Made → Bool
  overruns m = m.http && is_selected g ev m && length (g.selected m.id) == length (g.pulled m.id) + most_queued

  abbrev served : List Stream
  served = served_by st front

  selected_is : (m : Made) (s : Session) → Has m (living g) → Same g m s → list_any (λ t. picks t packet s) served ≡ is_selected g ev m
  selected_is m s h e = by (is_current st front tune) current (gives_selected c st g front tune packet a m s h e)
    where
      by : (b : Bool) → b ≡ true → (b && list_any (λ t. picks t packet s) served) ≡ is_selected g ev m
          → list_any (λ t. picks t packet s) served ≡ is_selected g ev m
      by true e f = f
      by false e f = cc

  overrun_is : (m : Made) (s : Session) → Same g m s → m.http ≡ true → is_overrun s ≡ (length (g.selected m.id) == length (g.pulled m.id) + most_queued)
  overrun_is m s e http = let is : s.http ≡ true = e.http ∙ http in
      ap (λ b. b && length (held s) == most_queued) is ∙ held_full (g.pulled m.id) (g.selected m.id) s (e.queue is) e.picked

  abbrev more_mid : SessionId → List (List ℕ)
  more_mid s = cond (any_where (λ m. is_selected g ev m && not (overruns m)) (living_session g s)) (packet ∷ []) []

  abbrev more_all : SessionId → List (List ℕ)
  more_all s = cond (any_where (is_selected g ev) (living_session g s)) (packet ∷ []) []

  one_packet : (b : Bool) → Each (λ p. length p ≡ 188) (cond {A = List (List ℕ)} b (packet ∷ []) [])
  one_packet true = (whole, tt)
  one_packet false = tt

  unmade_none : (p : Made → Bool) (s : SessionId) → length g.made < s.count → cond {A = List (List ℕ)} (any_where p (living_session g s)) (packet ∷ []) [] ≡ []
  unmade_none p s above = ap (λ o. cond {A = List (List ℕ)} (any_where p o) (packet ∷ []) []) (living_none g a.loosely.told s above)

  -- what a living session is then
  got_same : (m : Made) (s : Session) → Has m (living g) → Same g m s → Same (selected_read more_mid g) m (got_all packet served s)
  got_same m s h e = rw (got_once packet served s apart, selected_is m s h e) (by (is_selected g ev m) refl)
    where
      apart : Apart served
      apart = apart_filter (λ t. is_at t.front front) st.streams a.loosely.kept.apart

      mid : (b : Bool) → (is_selected g ev m && not (overruns m)) ≡ b
          → g.selected m.id ++ more_mid m.id ≡ g.selected m.id ++ cond {A = List (List ℕ)} b (packet ∷ []) []
      mid b f = ap (λ o. g.selected m.id ++ cond {A = List (List ℕ)} (any_where (λ n. is_selected g ev n && not (overruns n)) o) (packet ∷ []) [])
          (living_found g a.loosely.told m h)
          ∙ ap (λ d. g.selected m.id ++ cond {A = List (List ℕ)} d (packet ∷ []) []) f

      unchanged : (is_selected g ev m && not (overruns m)) ≡ false → Same (selected_read more_mid g) m s
      unchanged f = same_again g (selected_read more_mid g) m s e refl refl refl (mid false f ∙ append-nil (g.selected m.id)) refl

      http_more : s.http ≡ true → (is_selected g ev m && not (overruns m)) ≡ true → Same (selected_read more_mid g) m (with_packet packet s)
      http_more http f = record {
        id = e.id;
        http = e.http;
        stream = e.stream;
        playing = e.playing;
        heard = e.heard;
        ssrc = e.ssrc;
        first = e.first;
        picked = ap (λ ps. ps ++ packet ∷ []) e.picked ∙ sym (mid true f);
        queue = λ k. let q = e.queue k in
            record { sizes = q.sizes; begins = take-append-le (length (g.pulled m.id)) s.picked (packet ∷ []) (queue_length (g.pulled m.id) s q) ∙ q.begins };
      }

      rtsp_more : s.http ≡ false → (is_selected g ev m && not (overruns m)) ≡ true → Same (selected_read more_mid g) m (sending (with_packet packet s))
      rtsp_more rtsp f = record {
        id = e.id;
        http = e.http;
        stream = e.stream;
        playing = e.playing;
        heard = e.heard;
        ssrc = e.ssrc;
        first = e.first;
        picked = ap (λ ps. ps ++ packet ∷ []) e.picked ∙ sym (mid true f);
        queue = λ k. none_true s.http k rtsp;
      }

      three : (x y z : Bool) → x ≡ true → y ≡ true → (x && y && z) ≡ z
      three x y z e k = rw (e, k) refl

      over_when : m.http ≡ true → is_selected g ev m ≡ true → (d : Bool) → is_overrun s ≡ d → overruns m ≡ d
      over_when http sel d f = three m.http (is_selected g ev m) (length (g.selected m.id) == length (g.pulled m.id) + most_queued) http sel
          ∙ sym (overrun_is m s e http) ∙ f

      not_over : is_selected g ev m ≡ true → overruns m ≡ false → (is_selected g ev m && not (overruns m)) ≡ true
      not_over sel f = and_from (is_selected g ev m) (not (overruns m)) sel (ap not f)

      is_over : overruns m ≡ true → (is_selected g ev m && not (overruns m)) ≡ false
      is_over f = ap (λ b. is_selected g ev m && not b) f ∙ either_false (is_selected g ev m)

      not_selected : is_selected g ev m ≡ false → (is_selected g ev m && not (overruns m)) ≡ false
      not_selected f = ap (λ b. b && not (overruns m)) f

      kind : is_selected g ev m ≡ true → (b d : Bool) → s.http ≡ b → is_overrun s ≡ d
          → Same (selected_read more_mid g) m (cond b (cond d s (with_packet packet s)) (sending (with_packet packet s)))
      kind sel true true http f = unchanged (is_over (over_when (sym e.http ∙ http) sel true f))
      kind sel true false http f = http_more http (not_over sel (over_when (sym e.http ∙ http) sel false f))
      kind sel false d http f =
          rtsp_more http (not_over sel
          (ap (λ b. b && is_selected g ev m && length (g.selected m.id) == length (g.pulled m.id) + most_queued) (sym e.http ∙ http)))

      by : (b : Bool) → is_selected g ev m ≡ b → Same (selected_read more_mid g) m (cond b (got packet s) s)
      by true f = kind f s.http (is_overrun s) refl refl
      by false f = unchanged (not_selected f)

  abbrev full : List Session
  full = overrun packet st served

  ends_is : (m : Made) (s : Session) → Has m (living g) → Same (selected_read more_mid g) m s → overruns m ≡ list_any (λ x. same_id x.id s.id) full
  ends_is m s h e = same_bool (overruns m) (list_any (λ x. same_id x.id s.id) full) there back
    where
      there : overruns m ≡ true → list_any (λ x. same_id x.id s.id) full ≡ true
      there t =
          let p = and_parts (m.http && is_selected g ev m) (length (g.selected m.id) == length (g.pulled m.id) + most_queued) t in
          let q = and_parts m.http (is_selected g ev m) p.0 in
          let b = alike_back g m (living g) st.sessions a.loosely.sessions h in
          let some = any_has (λ u. picks u packet b.0) served (selected_is m b.0 h b.2 ∙ q.1) in
          let over : is_overrun b.0 ≡ true = overrun_is m b.0 b.2 q.0 ∙ p.1 in
          has_any (λ x. same_id x.id s.id) full b.0
          (has_flat (λ u. filter (λ x. picks u packet x && is_overrun x) st.sessions) b.0 served some.0 some.1
          (has_filter (λ x. picks some.0 packet x && is_overrun x) st.sessions b.0 b.1 (and_from (picks some.0 packet b.0) (is_overrun b.0) some.2 over)))
          (id_same b.0.id s.id (b.2.id ∙ sym e.id))

      back : list_any (λ x. same_id x.id s.id) full ≡ true → overruns m ≡ true
      back t =
          let one = any_has (λ x. same_id x.id s.id) full t in
          let flat = flat_has (λ u. filter (λ x. picks u packet x && is_overrun x) st.sessions) one.0 served one.1 in
          let passed = filter_has (λ x. picks flat.0 packet x && is_overrun x) st.sessions one.0 flat.2 in
          let parts = and_parts (picks flat.0 packet one.0) (is_overrun one.0) passed.1 in
          let n = alike_has g one.0 (living g) st.sessions a.loosely.sessions passed.0 in
          let same : n.0 ≡ m = a.loosely.told.ids n.0 m n.1 h (sym n.2.id ∙ same_id_is one.0.id s.id one.2 ∙ e.id) in
          let http : one.0.http ≡ true = (and_parts one.0.http (length (held one.0) == most_queued) parts.1).0 in
          let sel : is_selected g ev n.0 ≡ true = sym (selected_is n.0 one.0 n.1 n.2) ∙ has_any (λ u. picks u packet one.0) served flat.0 flat.1 parts.0 in
          let n_http : n.0.http ≡ true = sym n.2.http ∙ http in
          ap overruns (sym same)
          ∙ and_from (n.0.http && is_selected g ev n.0) (length (g.selected n.0.id) == length (g.pulled n.0.id) + most_queued)
          (and_from n.0.http (is_selected g ev n.0) n_http sel) (sym (overrun_is n.0 one.0 n.2 n_http) ∙ parts.1)

  delivered_read : (caller : ℕ) (answer : Answer) (out : Output)
      → read_one c g (item caller ev answer out) ≡ frees
      (record g { over = λ s. g.over s || any_where overruns (living_session g s); selected = λ s. g.selected s ++ more_all s })
  delivered_read caller answer out =
      let e = item caller ev answer out in
      read_other c g e (sym (either_way None (is_accepted answer))) (sym (either_way None (is_accepted answer))) (λ s. either_false (is_accepted answer))
      ∙ ap frees (simply_same g g.clock (ends c g e) (keeps_alive ev) overruns never more_all (pulled_by e) more_all nothing (λ m h. refl) (λ m h. refl)
      (λ s. refl) (λ s. refl)
      ∙ simply_selects g g.clock overruns more_all)

  pub agrees_delivered : (caller : ℕ) (answer : Answer) (out : Output) → Agrees c (deliver front packet st).state (read_one c g (item caller ev answer out))
  agrees_delivered caller answer out = subst (Agrees c (deliver front packet st).state) (sym (delivered_read caller answer out))
      (agrees_reselected c (deliver front packet st).state g_end (λ s. g.selected s ++ more_all s) lives_same
      (λ s above. rw ((a.loosely.told.unmade s above).selected, unmade_none (is_selected g ev) s above) refl)
      (λ s. Each-append (λ p. length p ≡ 188) (g.selected s) (more_all s) (a.loosely.told.packets s)
      (one_packet (any_where (is_selected g ev) (living_session g s))))
      ended)
    where
      mid : State
      mid = record st { sessions = map (got_all packet served) st.sessions }

      given_mid : Agrees c mid (selected_read more_mid g)
      given_mid = agrees_selected c st g (got_all packet served) more_mid (unmade_none (λ m. is_selected g ev m && not (overruns m)))
          (λ s. one_packet (any_where (λ m. is_selected g ev m && not (overruns m)) (living_session g s))) got_same a

      g_end : Readings
      g_end = over_read overruns (selected_read more_mid g)

      ended : Agrees c (deliver front packet st).state g_end
      ended = subst (λ x. Agrees c (end_where (λ s. list_any (λ x. same_id x.id s.id) full) x).state g_end) (sym (give_all_sessions packet served st))
          (agrees_ended c mid (selected_read more_mid g) overruns (λ s. list_any (λ x. same_id x.id s.id) full) (λ m s h e. ends_is m s h e) given_mid)

      lives_same : (m : Made) → Has m (living g_end) → g.selected m.id ++ more_all m.id ≡ g.selected m.id ++ more_mid m.id
      lives_same m h =
          let there = filter_has (λ n. not (overruns n)) (living g) m
          (subst (Has m) (living_over (selected_read more_mid g) given_mid.loosely.told overruns) h) in
          let found = living_found g a.loosely.told m there.0 in
          let stays : overruns m ≡ false = not-true (overruns m) there.1 in
          ap (λ o. g.selected m.id ++ cond {A = List (List ℕ)} (any_where (is_selected g ev) o) (packet ∷ []) []) found
          ∙ ap (λ b. g.selected m.id ++ cond {A = List (List ℕ)} b (packet ∷ []) []) (and_true (is_selected g ev m) (not (overruns m)) there.1)
          ∙ sym (ap (λ o. g.selected m.id ++ cond {A = List (List ℕ)} (any_where (λ n. is_selected g ev n && not (overruns n)) o) (packet ∷ []) []) found)
        where
          and_true : (x y : Bool) → y ≡ true → x ≡ (x && y)
          and_true true y e = sym e
          and_true false y e = refl
