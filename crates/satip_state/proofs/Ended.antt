-- What the parts stand for once a session ended.
use Rattle.std.proofs.Common.{◌≡◌, ℕ, ◌-◌, ◌==◌, ◌<◌, ◌≤◌, not, Bool, true, false, cond, List, [], ◌∷◌, ◌++◌, length, map, filter, find, set, Option, Some}
use Rattle.std.proofs.Common.{None, refl, sym, ap, subst, ◌∙◌, arith, inl, inr, option_and_then, append-nil}
use Rattle.std.specs.List.{list_any, slice_get, filter_map, flat_map, cons_option}
use Rattle.std.specs.Option.{option_map, option_flatten}
use Rattle.std.proofs.lemmas.Bool.{or_parts, eqb-true, eqb-false}
use Rattle.std.proofs.lemmas.List.{map-append}
use Rattle.satip_base.specs.Lists.{Each, Has}
use Rattle.satip_table.specs.declared.session.Seat.{Seat}
use Rattle.satip_table.specs.declared.stream.Stream.{Stream as StreamRow}
use Rattle.satip_table.specs.Sessions.{has_id_of, is_in, without}
use Rattle.satip_table.specs.Streams.{kept_streams, re_owned, lasts}
use Rattle.satip_table.specs.Living.{Living, Sound, Owned}
use Rattle.satip_table.proofs.SeatLaws.{some_owner}
use Rattle.satip_fronts.specs.FrontEnds.{FrontEnds, Sound as FrontsSound, front_of, placed_at}
use Rattle.satip_fronts.specs.Rows.{freed as freed_at}
use Rattle.satip_flow.specs.Subscription.{Subscription, has_slot}
use Rattle.satip_flow.specs.Subscriptions.{change_slot, feed_of_slot, flushed_datagrams}
use Rattle.satip_flow.specs.Subscriptions.{without as without_slot}
use Rattle.satip_plain.specs.Types.{Config}
use Rattle.satip_plain.specs.State.{Session, Stream, Row, State, is_at, change_where}
use Rattle.satip_plain.specs.Sending.{Sent, Move, Turn, let_go}
use Rattle.satip_plain.specs.Streams.{sweep, freed}
use Rattle.satip_plain.specs.Steps.{end_where, is_session, part}
use Rattle.satip_plain.specs.Histories.{datagram}
use Rattle.satip_state.specs.Kept.{Kept}
use Rattle.satip_state.specs.Seated.{Seated, seat_of, row_of, is_seat, due_of, end_of, feed_of, seated_in, subscriber, subscribers}
use Rattle.satip_state.specs.Standing.{StandsFor, IsKept, stream_in, row_in}
use Rattle.satip_state.proofs.Picking.{any-map, filter_one, find_none, get_has}
use Rattle.satip_state.proofs.Feeds.{feed_sends, queue_sends, idle_sends}
use Rattle.satip_state.proofs.Apart.{Alone, has_session, slot_itself, id_itself}
use Rattle.satip_state.proofs.Listed.{listed, subscriber_is, subscribers_find, subscribers_without}
use Rattle.satip_state.proofs.Mapped.{sessions_of}
use Rattle.satip_state.proofs.Swept.{any_place, find_kept, filter_all, each_filter, find_skip, any_skip, any_neither, get_set_same, get_set_other, get_within}
use Rattle.satip_state.proofs.Swept.{filter-map, Rising, rising_of, AtPlaces, served_same, freed_same}

-- whether a stream has one of these sessions
abbrev pub lasting : List Session → Stream → Bool
lasting sessions t = list_any (λ s. s.stream == t.number) sessions

-- streams that last, whoever owns them
lasts_same : (xs : List Seated) (row : StreamRow) → lasts (map seat_of xs) row ≡ lasting (sessions_of xs) (stream_in row)
unfolding row_of stream_in
lasts_same xs row = any-map seat_of (is_in row.number) xs ∙ sym (any-map (λ (x : Seated). x.session) (λ s. s.stream == row.number) xs)

owned_in : (seats : List Seat) (row : StreamRow) → stream_in (re_owned seats row) ≡ stream_in row
unfolding stream_in re_owned
owned_in seats row = refl

owned_all : (seats : List Seat) (rows : List StreamRow) → map stream_in (map (re_owned seats) rows) ≡ map stream_in rows
owned_all seats [] = refl
owned_all seats (row ∷ rows) = ap (λ t. t ∷ map stream_in (map (re_owned seats) rows)) (owned_in seats row)
    ∙ ap (λ ts. stream_in row ∷ ts) (owned_all seats rows)

filter_same : {X : Type 0} (p q : X → Bool) (xs : List X) → ((x : X) → p x ≡ q x) → filter p xs ≡ filter q xs
filter_same p q [] same = refl
filter_same p q (x ∷ xs) same = ap (λ b. cond b (x ∷ filter p xs) (filter p xs)) (same x) ∙ ap (λ ys. cond (q x) (x ∷ ys) ys) (filter_same p q xs same)

pub kept_in : (xs : List Seated) (rows : List StreamRow)
    → map stream_in (kept_streams (map seat_of xs) rows) ≡ filter (lasting (sessions_of xs)) (map stream_in rows)
unfolding kept_streams
kept_in xs rows =
    owned_all (map seat_of xs) (filter (lasts (map seat_of xs)) rows)
    ∙ ap (map stream_in) (filter_same (lasts (map seat_of xs)) (λ row. lasting (sessions_of xs) (stream_in row)) rows (lasts_same xs))
    ∙ sym (filter-map stream_in (lasting (sessions_of xs)) rows)

-- each stream has a session
owned_any : (seats : List Seat) (rows : List StreamRow) (t : Stream) → Owned seats rows → Has t (map stream_in rows) → list_any (is_in t.number) seats ≡ true
unfolding stream_in
owned_any seats [] t owned has = absurd has
owned_any seats (row ∷ rows) t owned (inl same) = ap (λ (u : Stream). list_any (is_in u.number) seats) same ∙ some_owner seats row.number row.owner owned.0
owned_any seats (row ∷ rows) t owned (inr has) = owned_any seats rows t owned.1 has

in_seats : (number : ℕ) (xs : List Seated) → list_any (is_in number) (map seat_of xs) ≡ list_any (λ (x : Seated). x.session.stream == number) xs
unfolding row_of
in_seats number xs = any-map seat_of (is_in number) xs

pub stream_used : (c : Config) (v : Kept) (st : State) (stands : StandsFor c v st) → Sound v.table → (t : Stream) → Has t st.streams
    → list_any (λ (x : Seated). x.session.stream == t.number) stands.seated ≡ true
stream_used c v st stands sound t has =
    sym (ap (list_any (is_in t.number)) stands.seats ∙ in_seats t.number stands.seated)
    ∙ owned_any v.table.seats v.table.streams t sound.owned (subst (Has t) (sym stands.streams) has)

pub rising : (c : Config) (v : Kept) (st : State) → StandsFor c v st → Sound v.table → Rising 0 st.streams
rising c v st stands sound = subst (Rising 0) stands.streams (rising_of 0 v.table.streams sound.numbers)

-- nothing is swept where nothing changed
streams_last : (c : Config) (v : Kept) (st : State) (stands : StandsFor c v st) → Sound v.table → filter (lasting st.sessions) st.streams ≡ st.streams
streams_last c v st stands sound =
    filter_all (lasting st.sessions) st.streams (λ t has.
    ap (λ ss. lasting ss t) stands.sessions ∙ any-map (λ (x : Seated). x.session) (λ s. s.stream == t.number) stands.seated
    ∙ stream_used c v st stands sound t has)

rows_free : (c : Config) (v : Kept) (st : State) (stands : StandsFor c v st) → Sound v.table → FrontsSound v.fronts
    → change_where (λ r. not (list_any (λ (t : Stream). is_at t.front r.number) st.streams)) freed st.rows ≡ st.rows
rows_free c v st stands sound fronts =
    ap (change_where (λ r. not (list_any (λ (t : Stream). is_at t.front r.number) st.streams)) freed) (sym stands.rows)
    ∙ sym (freed_same v.fronts.places st.streams (served_same v.fronts.places st.streams (rising c v st stands sound) stands.places) v.fronts.rows)
    ∙ ap (map row_in) fronts.free
    ∙ stands.rows

state_is : (st : State) (ss : List Session) (ts : List Stream) (rows : List Row) → ss ≡ st.sessions → ts ≡ st.streams → rows ≡ st.rows
    → ◌≡◌ {A = State} (record { clock = st.clock; made = st.made; stopped = st.stopped; sessions = ss; streams = ts; rows = rows }) st
state_is st ss ts rows sessions streams same =
    let make : List Session → List Stream → List Row → State =
    λ a b d. record { clock = st.clock; made = st.made; stopped = st.stopped; sessions = a; streams = b; rows = d } in
    ap (λ a. make a ts rows) sessions ∙ ap (λ b. make st.sessions b rows) streams ∙ ap (make st.sessions st.streams) same

pub swept_same : (c : Config) (v : Kept) (st : State) → StandsFor c v st → Sound v.table → FrontsSound v.fronts → sweep st ≡ st
swept_same c v st stands sound fronts =
    let last = streams_last c v st stands sound in
    state_is st st.sessions (filter (lasting st.sessions) st.streams) (sweep st).rows refl last
    (ap (λ ts. change_where (λ r. not (list_any (λ (t : Stream). is_at t.front r.number) ts)) freed st.rows) last ∙ rows_free c v st stands sound fronts)

-- who ends is gone, the others stay
abbrev pub ending : (Session → Bool) → ℕ → Session → Turn
ending p clock s = cond (p s) (part clock s) (record { sends = []; after = Some s })

pub ended_sessions : (p : Session → Bool) (clock : ℕ) (ss : List Session) → filter_map (λ s. (ending p clock s).after) ss ≡ filter (λ s. not (p s)) ss
ended_sessions p clock [] = refl
ended_sessions p clock (s ∷ ss) = by (p s) (ended_sessions p clock ss)
  where
    by : (b : Bool) → filter_map (λ x. (ending p clock x).after) ss ≡ filter (λ x. not (p x)) ss
        → cons_option (cond b (part clock s) (record { sends = []; after = Some s })).after (filter_map (λ x. (ending p clock x).after) ss)
        ≡ cond (not b) (s ∷ filter (λ x. not (p x)) ss) (filter (λ x. not (p x)) ss)
    by true rest = rest
    by false rest = ap (λ xs. s ∷ xs) rest

nothing_ends : (p : Session → Bool) (clock : ℕ) (ss : List Session) → list_any p ss ≡ false → flat_map (λ s. (ending p clock s).sends) ss ≡ []
nothing_ends p clock [] none = refl
nothing_ends p clock (s ∷ ss) none =
    let parts = or_parts (p s) (list_any p ss) none in
    ap (λ b. (cond b (part clock s) (record { sends = []; after = Some s })).sends ++ flat_map (λ x. (ending p clock x).sends) ss) parts.0
    ∙ nothing_ends p clock ss parts.1

pub one_ends : (p : Session → Bool) (clock : ℕ) (a : List Session) (s : Session) (b : List Session) → list_any p a ≡ false → p s ≡ true → list_any p b ≡ false
    → flat_map (λ x. (ending p clock x).sends) (a ++ s ∷ b) ≡ (part clock s).sends
one_ends p clock [] s b before here behind =
    ap (λ t. (cond t (part clock s) (record { sends = []; after = Some s })).sends ++ flat_map (λ x. (ending p clock x).sends) b) here
    ∙ ap (λ ds. (part clock s).sends ++ ds) (nothing_ends p clock b behind)
    ∙ append-nil (part clock s).sends
one_ends p clock (x ∷ a) s b before here behind =
    let parts = or_parts (p x) (list_any p a) before in
    ap (λ t. (cond t (part clock x) (record { sends = []; after = Some x })).sends ++ flat_map (λ y. (ending p clock y).sends) (a ++ s ∷ b)) parts.0
    ∙ one_ends p clock a s b parts.1 here behind

filter_lacks : {X : Type 0} (p : X → Bool) (xs : List X) → list_any p xs ≡ false → filter (λ x. not (p x)) xs ≡ xs
filter_lacks p [] none = refl
filter_lacks p (x ∷ xs) none =
    let parts = or_parts (p x) (list_any p xs) none in
    ap (λ b. cond (not b) (x ∷ filter (λ y. not (p y)) xs) (filter (λ y. not (p y)) xs)) parts.0 ∙ ap (λ ys. x ∷ ys) (filter_lacks p xs parts.1)

abbrev pub move_of : State → List Sent → Move
move_of now ds = record { state = now; sent = ds }

-- nobody ends
pub nobody_ends : (c : Config) (v : Kept) (st : State) → StandsFor c v st → Sound v.table → FrontsSound v.fronts → (p : Session → Bool)
    → list_any p st.sessions ≡ false
    → end_where p st ≡ record { state = st; sent = [] }
nobody_ends c v st stands sound fronts p none =
    let stay : filter_map (λ s. (ending p st.clock s).after) st.sessions ≡ st.sessions = ended_sessions p st.clock st.sessions
    ∙ filter_lacks p st.sessions none in
    ap (λ (ss : List Session). move_of (sweep (record st { sessions = ss })) (flat_map (λ s. (ending p st.clock s).sends) st.sessions)) stay
    ∙ ap (λ (now : State). move_of now (flat_map (λ s. (ending p st.clock s).sends) st.sessions)) (swept_same c v st stands sound fronts)
    ∙ ap (λ (ds : List Sent). move_of st ds) (nothing_ends p st.clock st.sessions none)

-- the moment at which the session of a slot ends, once one session ended
dues_left : (c : Config) (v : Kept) (st : State) (stands : StandsFor c v st) (x : Seated) (alone : Alone stands.seated x) (n : ℕ) → n < 64
    → slice_get (set v.dues x.slot None) n ≡ Some (due_of v.timeout (alone.before ++ alone.behind) n)
dues_left c v st stands x alone n below = by (x.slot == n) refl
  where
    by : (b : Bool) → (x.slot == n) ≡ b → slice_get (set v.dues x.slot None) n ≡ Some (due_of v.timeout (alone.before ++ alone.behind) n)
    by true e =
        let same : x.slot ≡ n = eqb-true x.slot n e in
        let its : slice_get v.dues x.slot ≡ Some (due_of v.timeout stands.seated x.slot) = stands.dues x.slot (subst (λ m. m < 64) (sym same) below) in
        ap (slice_get (set v.dues x.slot None)) (sym same)
        ∙ get_set_same v.dues x.slot (due_of v.timeout stands.seated x.slot) None its
        ∙ ap (λ o. Some (option_map (end_of v.timeout) o))
        (sym (find_none (is_seat x.slot) (alone.before ++ alone.behind)
        (any_neither (is_seat x.slot) alone.before alone.behind alone.slot_before alone.slot_behind)))
        ∙ ap (λ m. Some (due_of v.timeout (alone.before ++ alone.behind) m)) same
    by false e =
        get_set_other v.dues x.slot n None (λ same. eqb-false x.slot n e (sym same))
        ∙ stands.dues n below
        ∙ ap (λ xs. Some (due_of v.timeout xs n)) alone.whole
        ∙ ap (λ o. Some (option_map (end_of v.timeout) o)) (find_skip (is_seat n) alone.before x alone.behind e)

-- the streams that last are those of others
others_last : (c : Config) (v : Kept) (st : State) (stands : StandsFor c v st) → Sound v.table → (x : Seated) (alone : Alone stands.seated x) (t : Stream)
    → Has t st.streams
    → (x.session.stream == t.number) ≡ false → lasting (sessions_of (alone.before ++ alone.behind)) t ≡ true
others_last c v st stands sound x alone t has differ =
    any-map (λ (y : Seated). y.session) (λ s. s.stream == t.number) (alone.before ++ alone.behind)
    ∙ sym (ap (list_any (λ (y : Seated). y.session.stream == t.number)) alone.whole
    ∙ any_skip (λ (y : Seated). y.session.stream == t.number) alone.before x alone.behind differ)
    ∙ stream_used c v st stands sound t has

-- which front end each stream is at, once one session ended
find_last : (c : Config) (v : Kept) (st : State) (stands : StandsFor c v st) → Sound v.table → (x : Seated) (alone : Alone stands.seated x) (n : ℕ)
    → (x.session.stream == n) ≡ false
    → find (λ (t : Stream). t.number == n) (filter (lasting (sessions_of (alone.before ++ alone.behind))) st.streams) ≡ find
    (λ (t : Stream). t.number == n) st.streams
find_last c v st stands sound x alone n differ =
    find_kept (λ (t : Stream). t.number == n) (lasting (sessions_of (alone.before ++ alone.behind))) st.streams
    (λ t has e. others_last c v st stands sound x alone t has (ap (λ m. x.session.stream == m) (eqb-true t.number n e) ∙ differ))

pub filter_passing : {X : Type 0} (q : X → Bool) (xs : List X) (x : X) → Has x (filter q xs) → q x ≡ true
filter_passing q [] x has = absurd has
filter_passing q (y ∷ ys) x has = by (q y) refl has (λ h. filter_passing q ys x h)
  where
    by : (b : Bool) → q y ≡ b → Has x (cond b (y ∷ filter q ys) (filter q ys)) → (Has x (filter q ys) → q x ≡ true) → q x ≡ true
    by true e (inl same) rest = ap q same ∙ e
    by true e (inr h) rest = rest h
    by false e h rest = rest h

find_living : (sessions : List Session) (streams : List Stream) (n : ℕ) → list_any (λ (t : Stream). t.number == n) (filter (lasting sessions) streams) ≡ true
    → find (λ (t : Stream). t.number == n) (filter (lasting sessions) streams) ≡ find (λ (t : Stream). t.number == n) streams
find_living sessions streams n lives =
    let r = any_place (λ (t : Stream). t.number == n) (filter (lasting sessions) streams) lives in
    let of : lasting sessions r.1 ≡ true = filter_passing (lasting sessions) streams r.1 (get_has (filter (lasting sessions) streams) r.0 r.1 r.2) in
    find_kept (λ (t : Stream). t.number == n) (lasting sessions) streams
    (λ t has e. ap (λ m. list_any (λ (s : Session). s.stream == m) sessions) (eqb-true t.number n e ∙ sym (eqb-true r.1.number n r.3)) ∙ of)

left_elsewhere : (places : List (Option ℕ)) (m n : ℕ) → 1 ≤ m → (m == n) ≡ false → front_of (placed_at places m None) n ≡ front_of places n
unfolding front_of
left_elsewhere places m n low differ = by (n == 0) refl
  where
    by : (b : Bool) → (n == 0) ≡ b → cond b None (option_flatten (slice_get (set places (m - 1) None) (n - 1))) ≡ cond b None
        (option_flatten (slice_get places (n - 1)))
    by true e = refl
    by false e =
        let apart : n - 1 ≡ m - 1 → ⊥ = λ same. eqb-false m n differ (omega (arith, same, low, eqb-false n 0 e)) in
        ap option_flatten (get_set_other places (m - 1) (n - 1) None apart)

left_here : (places : List (Option ℕ)) (m : ℕ) → m ≤ 64 → 1 ≤ m → length places ≡ 64 → front_of (placed_at places m None) m ≡ None
unfolding front_of
left_here places m high low long =
    let inside = get_within places (m - 1) (omega (arith, high, low, long)) in
    ap (λ o. cond (m == 0) None (option_flatten o)) (get_set_same places (m - 1) inside.0 None inside.1) ∙ by (m == 0)
  where
    by : (b : Bool) → ◌≡◌ {A = Option ℕ} (cond b None None) None
    by true = refl
    by false = refl

pub places_stay : (c : Config) (v : Kept) (st : State) (stands : StandsFor c v st) → Sound v.table → (x : Seated) (alone : Alone stands.seated x)
    → list_any (λ (t : Stream). t.number == x.session.stream) (filter (lasting (sessions_of (alone.before ++ alone.behind))) st.streams) ≡ true
    → AtPlaces v.fronts.places (filter (lasting (sessions_of (alone.before ++ alone.behind))) st.streams)
places_stay c v st stands sound x alone lives n = stands.places n ∙ ap (option_and_then (λ (t : Stream). t.front)) (sym (by (x.session.stream == n) refl))
  where
    by : (b : Bool) → (x.session.stream == n) ≡ b
        → find (λ (t : Stream). t.number == n) (filter (lasting (sessions_of (alone.before ++ alone.behind))) st.streams) ≡ find
        (λ (t : Stream). t.number == n) st.streams
    by true e =
        find_living (sessions_of (alone.before ++ alone.behind)) st.streams n
        (ap (λ m. list_any (λ (t : Stream). t.number == m) (filter (lasting (sessions_of (alone.before ++ alone.behind))) st.streams))
        (sym (eqb-true x.session.stream n e)) ∙ lives)
    by false e = find_last c v st stands sound x alone n e

pub places_left : (c : Config) (v : Kept) (st : State) (stands : StandsFor c v st) → Sound v.table → FrontsSound v.fronts
    → (x : Seated) (alone : Alone stands.seated x)
    → x.session.stream ≤ 64 → 1 ≤ x.session.stream
    → list_any (λ (t : Stream). t.number == x.session.stream) (filter (lasting (sessions_of (alone.before ++ alone.behind))) st.streams) ≡ false
    → AtPlaces (placed_at v.fronts.places x.session.stream None) (filter (lasting (sessions_of (alone.before ++ alone.behind))) st.streams)
places_left c v st stands sound fronts x alone high low gone n = by (x.session.stream == n) refl
  where
    kept : List Stream
    kept = filter (lasting (sessions_of (alone.before ++ alone.behind))) st.streams

    by : (b : Bool) → (x.session.stream == n) ≡ b
        → front_of (placed_at v.fronts.places x.session.stream None) n ≡ option_and_then (λ (t : Stream). t.front) (find (λ (t : Stream). t.number == n) kept)
    by true e =
        let same : x.session.stream ≡ n = eqb-true x.session.stream n e in
        ap (front_of (placed_at v.fronts.places x.session.stream None)) (sym same)
        ∙ left_here v.fronts.places x.session.stream high low fronts.streams
        ∙ ap (option_and_then (λ (t : Stream). t.front)) (sym (find_none (λ (t : Stream). t.number == x.session.stream) kept gone))
        ∙ ap (λ m. option_and_then (λ (t : Stream). t.front) (find (λ (t : Stream). t.number == m) kept)) same
    by false e =
        left_elsewhere v.fronts.places x.session.stream n low e
        ∙ stands.places n
        ∙ ap (option_and_then (λ (t : Stream). t.front)) (sym (find_last c v st stands sound x alone n e))

pub rising_filter : (q : Stream → Bool) (above : ℕ) (ts : List Stream) → Rising above ts → Rising above (filter q ts)
rising_filter q above [] rise = tt
rising_filter q above (t ∷ ts) rise = by (q t) (rising_filter q t.number ts rise.1)
  where
    lower : (low high : ℕ) (us : List Stream) → low < high → Rising high us → Rising low us
    lower low high [] less r = tt
    lower low high (u ∷ us) less r = (omega (arith, less, r.0), r.1)

    by : (b : Bool) → Rising t.number (filter q ts) → Rising above (cond b (t ∷ filter q ts) (filter q ts))
    by true rest = (rise.0, rest)
    by false rest = lower above t.number (filter q ts) rise.0 rest

-- the flow without a slot, whatever its subscriber held
pub without_changed : (slot : ℕ) (change : Subscription → Subscription) → ((s : Subscription) → (change s).place ≡ s.place) → (ss : List Subscription)
    → without_slot slot (change_slot slot change ss) ≡ without_slot slot ss
without_changed slot change keeps [] = refl
without_changed slot change keeps (s ∷ ss) = by (has_slot slot s) refl (without_changed slot change keeps ss)
  where
    by : (b : Bool) → has_slot slot s ≡ b → without_slot slot (change_slot slot change ss) ≡ without_slot slot ss
        → cond (not (has_slot slot (cond b (change s) s))) (cond b (change s) s ∷ without_slot slot (change_slot slot change ss))
        (without_slot slot (change_slot slot change ss))
        ≡ cond (not b) (s ∷ without_slot slot ss) (without_slot slot ss)
    by true e rest =
        ap (λ place. cond (not (place.slot == slot)) (change s ∷ without_slot slot (change_slot slot change ss))
        (without_slot slot (change_slot slot change ss))) (keeps s)
        ∙ ap (λ t. cond (not t) (change s ∷ without_slot slot (change_slot slot change ss)) (without_slot slot (change_slot slot change ss))) e
        ∙ rest
    by false e rest =
        ap (λ t. cond (not t) (s ∷ without_slot slot (change_slot slot change ss)) (without_slot slot (change_slot slot change ss))) e
        ∙ ap (λ zs. s ∷ zs) rest

filter_nobody : {X : Type 0} (p : X → Bool) (xs : List X) → list_any p xs ≡ false → filter p xs ≡ []
filter_nobody p [] none = refl
filter_nobody p (x ∷ xs) none =
    let parts = or_parts (p x) (list_any p xs) none in
    ap (λ b. cond b (x ∷ filter p xs) (filter p xs)) parts.0 ∙ filter_nobody p xs parts.1

-- a stream without sessions has no subscribers
unused_streams : (xs : List Seated) (ts : List Stream) → subscribers xs (filter (lasting (sessions_of xs)) ts) ≡ subscribers xs ts
unfolding subscribers
unused_streams xs [] = refl
unused_streams xs (t ∷ ts) = by (lasting (sessions_of xs) t) refl (unused_streams xs ts)
  where
    by : (b : Bool) → lasting (sessions_of xs) t ≡ b
        → flat_map (λ u. filter_map (subscriber u) (seated_in u xs)) (filter (lasting (sessions_of xs)) ts) ≡ flat_map
        (λ u. filter_map (subscriber u) (seated_in u xs)) ts
        → flat_map (λ u. filter_map (subscriber u) (seated_in u xs)) (cond b (t ∷ filter (lasting (sessions_of xs)) ts) (filter (lasting (sessions_of xs)) ts))
        ≡ filter_map (subscriber t) (seated_in t xs) ++ flat_map (λ u. filter_map (subscriber u) (seated_in u xs)) ts
    by true e rest = ap (λ ss. filter_map (subscriber t) (seated_in t xs) ++ ss) rest
    by false e rest =
        rest
        ∙ sym (ap (λ ys. filter_map (subscriber t) ys ++ flat_map (λ u. filter_map (subscriber u) (seated_in u xs)) ts)
        (filter_nobody (λ (x : Seated). x.session.stream == t.number) xs (sym (any-map (λ (x : Seated). x.session) (λ s. s.stream == t.number) xs) ∙ e)))

-- the seats and the sessions of the others
pub others_seats : (seated : List Seated) (x : Seated) (alone : Alone seated x)
    → without x.session.id (map seat_of seated) ≡ map seat_of (alone.before ++ alone.behind)
unfolding row_of
others_seats seated x alone =
    filter-map seat_of (λ seat. not (has_id_of x.session.id seat)) seated
    ∙ ap (λ xs. map seat_of (filter (λ y. not (has_session x.session.id y)) xs)) alone.whole
    ∙ ap (map seat_of) (filter_one (has_session x.session.id) alone.before x alone.behind alone.id_before (id_itself x.session.id) alone.id_behind)

pub others_sessions : (seated : List Seated) (x : Seated) (alone : Alone seated x)
    → filter (λ s. not (is_session x.session.id s)) (sessions_of seated) ≡ sessions_of (alone.before ++ alone.behind)
others_sessions seated x alone =
    filter-map (λ (y : Seated). y.session) (λ s. not (is_session x.session.id s)) seated
    ∙ ap (λ xs. sessions_of (filter (λ y. not (has_session x.session.id y)) xs)) alone.whole
    ∙ ap sessions_of (filter_one (has_session x.session.id) alone.before x alone.behind alone.id_before (id_itself x.session.id) alone.id_behind)

others_seated : (seated : List Seated) (x : Seated) (alone : Alone seated x) → filter (λ y. not (is_seat x.slot y)) seated ≡ alone.before ++ alone.behind
others_seated seated x alone =
    ap (filter (λ y. not (is_seat x.slot y))) alone.whole
    ∙ filter_one (is_seat x.slot) alone.before x alone.behind alone.slot_before (slot_itself x) alone.slot_behind

-- the parts once one session is gone
pub stands_ended : (c : Config) (v : Kept) (st : State) (stands : StandsFor c v st) → Sound v.table → (x : Seated) (alone : Alone stands.seated x)
    → (table : Living) → table.seats ≡ without x.session.id v.table.seats → table.streams ≡ kept_streams table.seats v.table.streams → table.made ≡ v.table.made
    → (dues : List (Option ℕ)) → dues ≡ set v.dues x.slot None
    → (flow : List Subscription) → flow ≡ without_slot x.slot v.flow
    → (fronts : FrontEnds) → fronts.fronts ≡ v.fronts.fronts → fronts.muxes ≡ v.fronts.muxes → fronts.rows ≡ map (freed_at fronts.places) v.fronts.rows
    → AtPlaces fronts.places (filter (lasting (sessions_of (alone.before ++ alone.behind))) st.streams)
    → StandsFor c (record v { table = table; dues = dues; fronts = fronts; flow = flow })
    (sweep (record st { sessions = sessions_of (alone.before ++ alone.behind) }))
stands_ended c v st stands sound x alone table seats streams made dues due flow listed fronts same_fronts same_muxes rows at =
    let others : List Seated = alone.before ++ alone.behind in
    let kept : List Stream = filter (lasting (sessions_of others)) st.streams in
    let seats_are : table.seats ≡ map seat_of others = seats ∙ ap (without x.session.id) stands.seats ∙ others_seats stands.seated x alone in
    let sessions_are : filter (λ s. not (is_session x.session.id s)) st.sessions ≡ sessions_of others =
    ap (filter (λ s. not (is_session x.session.id s))) stands.sessions ∙ others_sessions stands.seated x alone in
    record {
      seated = others;
      clock = stands.clock;
      moment = stands.moment;
      stopped = stands.stopped;
      timeout = stands.timeout;
      made = made ∙ stands.made;
      seats = seats_are;
      sessions = refl;
      each_session = subst (Each IsKept) sessions_are (each_filter IsKept (λ s. not (is_session x.session.id s)) st.sessions stands.each_session);
      streams = ap (map stream_in) (streams ∙ ap (λ ss. kept_streams ss v.table.streams) seats_are)
          ∙ kept_in others v.table.streams ∙ ap (filter (lasting (sessions_of others))) stands.streams;
      numbers = each_filter (λ t. t.number ≤ 64) (lasting (sessions_of others)) st.streams stands.numbers;
      dues = λ n below. ap (λ ds. slice_get ds n) due ∙ dues_left c v st stands x alone n below;
      front_ends = same_fronts ∙ stands.front_ends;
      muxes = same_muxes ∙ stands.muxes;
      rows = ap (map row_in) rows
          ∙ freed_same fronts.places kept
          (served_same fronts.places kept (rising_filter (lasting (sessions_of others)) 0 st.streams (rising c v st stands sound)) at) v.fronts.rows
          ∙ ap (change_where (λ r. not (list_any (λ (t : Stream). is_at t.front r.number) kept)) freed) stands.rows;
      places = at;
      flow = listed
          ∙ ap (without_slot x.slot) stands.flow
          ∙ subscribers_without x.slot stands.seated st.streams
          ∙ ap (λ xs. subscribers xs st.streams) (others_seated stands.seated x alone)
          ∙ sym (unused_streams others st.streams);
    }

-- what a session sends as it ends
part_sends : (clock : ℕ) (t : Stream) (x : Seated) → IsKept x.session
    → flushed_datagrams clock (option_map (λ (s : Subscription). s.feed) (subscriber t x)) ≡ map datagram (part clock x.session).sends
part_sends clock t x kept =
    ap (λ o. flushed_datagrams clock (option_map (λ (s : Subscription). s.feed) o)) (subscriber_is t x) ∙ by x.session.playing x.session.http refl refl
  where
    by : (b h : Bool) → x.session.playing ≡ b → x.session.http ≡ h
        → flushed_datagrams clock (option_map (λ (s : Subscription). s.feed) (cond b (Some (listed t x (feed_of x.session))) None)) ≡ map datagram
        (cond h [] (let_go true clock x.session).sends)
    by true true e http = queue_sends clock x.session http
    by true false e rtsp = feed_sends clock x.session kept.within rtsp
    by false true e http = refl
    by false false e rtsp = ap (map datagram) (sym (idle_sends true clock x.session kept e))

pub ending_sends : (clock : ℕ) (v : Kept) (seated : List Seated) (x : Seated) (streams : List Stream) (t : Stream) (alone : Alone seated x)
    → v.flow ≡ subscribers seated streams → find (λ (u : Stream). u.number == x.session.stream) streams ≡ Some t → IsKept x.session
    → flushed_datagrams clock (feed_of_slot x.slot v.flow) ≡ map datagram (part clock x.session).sends
ending_sends clock v seated x streams t alone flow found kept =
    ap (λ ss. flushed_datagrams clock (feed_of_slot x.slot ss)) flow
    ∙ ap (λ xs. flushed_datagrams clock (feed_of_slot x.slot (subscribers xs streams))) alone.whole
    ∙ ap (λ o. flushed_datagrams clock (option_map (λ (s : Subscription). s.feed) o))
    (subscribers_find x.slot alone.before x alone.behind streams alone.slot_before (slot_itself x) alone.slot_behind t found)
    ∙ part_sends clock t x kept

-- the move of one session's end
pub end_is : (st : State) (seated : List Seated) (x : Seated) (alone : Alone seated x) → st.sessions ≡ sessions_of seated
    → end_where (is_session x.session.id) st ≡ record {
      state = sweep (record st { sessions = sessions_of (alone.before ++ alone.behind) });
      sent =
          (part st.clock x.session).sends;
    }
end_is st seated x alone same =
    let p : Session → Bool = is_session x.session.id in
    ap (λ (ss : List Session). move_of (sweep (record st { sessions = ss })) (flat_map (λ s. (ending p st.clock s).sends) st.sessions))
    (ended_sessions p st.clock st.sessions ∙ ap (filter (λ s. not (p s))) same ∙ others_sessions seated x alone)
    ∙ ap (λ (ds : List Sent). move_of (sweep (record st { sessions = sessions_of (alone.before ++ alone.behind) })) ds)
    (ap (flat_map (λ s. (ending p st.clock s).sends)) (same ∙ ap sessions_of alone.whole
    ∙ map-append (λ (y : Seated). y.session) alone.before (x ∷ alone.behind))
    ∙ one_ends p st.clock (sessions_of alone.before) x.session (sessions_of alone.behind)
    (any-map (λ (y : Seated). y.session) p alone.before ∙ alone.id_before) (id_itself x.session.id) (any-map (λ (y : Seated). y.session) p alone.behind
    ∙ alone.id_behind))
