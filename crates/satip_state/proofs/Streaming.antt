-- A packet is given to the sessions of several streams, one stream after the other.
use Rattle.std.proofs.Common.{◌≡◌, ℕ, ◌+◌, ◌<◌, ◌==◌, ◌&&◌, ◌||◌, Bool, true, false, cond, List, [], ◌∷◌, ◌++◌, map, Some, refl, sym, ap, ◌∙◌, arith}
use Rattle.std.specs.List.{list_any, filter_map, flat_map, cons_option}
use Rattle.std.proofs.lemmas.Bool.{and_parts, eqb-true, ne_eqb}
use Rattle.std.proofs.lemmas.Simd.{map-map}
use Rattle.satip_ts.specs.Packet.{pid_of}
use Rattle.satip_pids.specs.Pids.{has_pid}
use Rattle.satip_plain.specs.State.{Session, Stream, State}
use Rattle.satip_plain.specs.Sending.{Sent, Turn}
use Rattle.satip_plain.specs.Steps.{given, picks, give, give_all}
use Rattle.satip_state.specs.Seated.{row_of}
use Rattle.satip_state.proofs.Giving.{take_in, given_after, take_row}
use Rattle.satip_state.proofs.Swept.{Rising}

-- whether one of the streams picks the packet for the session
abbrev pub picked_by : List Stream → List ℕ → Session → Bool
picked_by ts packet s = list_any (λ t. picks t packet s) ts

abbrev pub give_one : List Stream → List ℕ → Session → Session
give_one ts packet s = cond (picked_by ts packet s) (take_in packet s) s

-- what a stream picks doesn't change as the session is given a packet
take_told : (packet : List ℕ) (s : Session) → ((take_in packet s).stream ≡ s.stream) × ((take_in packet s).playing ≡ s.playing)
unfolding row_of
take_told packet s = (ap (λ r. r.stream) (take_row packet s), ap (λ r. r.playing) (take_row packet s))

picks_same : (t : Stream) (packet : List ℕ) (s : Session) → picks t packet (take_in packet s) ≡ picks t packet s
picks_same t packet s =
    let told = take_told packet s in
    ap (λ n. n == t.number && (take_in packet s).playing && has_pid t.pids (pid_of packet)) told.0
    ∙ ap (λ b. s.stream == t.number && b && has_pid t.pids (pid_of packet)) told.1

pub any_agree : {X : Type 0} (p q : X → Bool) (xs : List X) → ((x : X) → p x ≡ q x) → list_any p xs ≡ list_any q xs
any_agree p q [] same = refl
any_agree p q (x ∷ xs) same = ap (λ b. b || list_any p xs) (same x) ∙ ap (λ b. q x || b) (any_agree p q xs same)

picked_same : (ts : List Stream) (packet : List ℕ) (s : Session) → picked_by ts packet (take_in packet s) ≡ picked_by ts packet s
picked_same ts packet s = any_agree (λ t. picks t packet (take_in packet s)) (λ t. picks t packet s) ts (λ t. picks_same t packet s)

-- a session of a stream is of none above it
none_above : (above : ℕ) (ts : List Stream) (packet : List ℕ) (s : Session) → Rising above ts → s.stream ≡ above → picked_by ts packet s ≡ false
none_above above [] packet s rise at = refl
none_above above (t ∷ ts) packet s rise at = ap (λ b. b || picked_by ts packet s) other ∙ rest ts t.number rise.1 rise.0
  where
    other : picks t packet s ≡ false
    other = by (s.stream == t.number) (ne_eqb s.stream t.number (λ e. omega (arith, at, rise.0, e)))
      where
        by : (b : Bool) → b ≡ false → (b && s.playing && has_pid t.pids (pid_of packet)) ≡ false
        by true e = absurd (cc)
        by false e = refl

    rest : (us : List Stream) (low : ℕ) → Rising low us → above < low → picked_by us packet s ≡ false
    rest [] low r below = refl
    rest (u ∷ us) low r below = ap (λ b. b || picked_by us packet s)
        (by (s.stream == u.number) (ne_eqb s.stream u.number (λ e. omega (arith, at, below, r.0, e)))) ∙ rest us u.number r.1 (omega (arith, below, r.0))
      where
        by : (b : Bool) → b ≡ false → (b && s.playing && has_pid u.pids (pid_of packet)) ≡ false
        by true e = absurd (cc)
        by false e = refl

picks_at : (t : Stream) (packet : List ℕ) (s : Session) → picks t packet s ≡ true → s.stream ≡ t.number
picks_at t packet s e =
    let a = and_parts (s.stream == t.number && s.playing) (has_pid t.pids (pid_of packet)) e in
    let b = and_parts (s.stream == t.number) s.playing a.0 in
    eqb-true s.stream t.number b.0

-- one stream's turn
abbrev pub give_stream : Stream → List ℕ → Session → Session
give_stream t packet s = cond (picks t packet s) (take_in packet s) s

turn_given : (t : Stream) (clock : ℕ) (packet : List ℕ) (ss : List Session)
    → filter_map (λ s. (cond {A = Turn} (picks t packet s) (given clock packet s) (record { sends = []; after = Some s })).after) ss ≡ map
    (give_stream t packet) ss
turn_given t clock packet [] = refl
turn_given t clock packet (s ∷ ss) =
    ap (λ o. cons_option o (filter_map (λ x. (cond {A = Turn} (picks t packet x) (given clock packet x) (record { sends = []; after = Some x })).after) ss))
    (by (picks t packet s))
    ∙ ap (λ ys. give_stream t packet s ∷ ys) (turn_given t clock packet ss)
  where
    by : (b : Bool) → (cond {A = Turn} b (given clock packet s) (record { sends = []; after = Some s })).after ≡ Some (cond b (take_in packet s) s)
    by true = given_after clock packet s
    by false = refl

-- a stream and then the streams above it
give_step : (t : Stream) (ts : List Stream) (packet : List ℕ) (s : Session) → Rising t.number ts
    → give_one ts packet (give_stream t packet s) ≡ give_one (t ∷ ts) packet s
give_step t ts packet s rise = by (picks t packet s) refl
  where
    by : (b : Bool) → picks t packet s ≡ b → give_one ts packet (cond b (take_in packet s) s) ≡ cond (b || picked_by ts packet s) (take_in packet s) s
    by true e =
        ap (λ c. cond c (take_in packet (take_in packet s)) (take_in packet s)) (picked_same ts packet s
        ∙ none_above t.number ts packet s rise (picks_at t packet s e))
    by false e = refl

map_agree : {X Y : Type 0} (f g : X → Y) (xs : List X) → ((x : X) → f x ≡ g x) → map f xs ≡ map g xs
map_agree f g [] same = refl
map_agree f g (x ∷ xs) same = ap (λ y. y ∷ map f xs) (same x) ∙ ap (λ ys. g x ∷ ys) (map_agree f g xs same)

map_nothing : (packet : List ℕ) (ss : List Session) → map (give_one [] packet) ss ≡ ss
map_nothing packet [] = refl
map_nothing packet (s ∷ ss) = ap (λ ys. s ∷ ys) (map_nothing packet ss)

pub given_all : (packet : List ℕ) (above : ℕ) (ts : List Stream) (st : State) → Rising above ts
    → (give_all packet ts st).state ≡ record st { sessions = map (give_one ts packet) st.sessions }
given_all packet above [] st rise = ap (λ (ss : List Session). record st { sessions = ss }) (sym (map_nothing packet st.sessions))
given_all packet above (t ∷ ts) st rise =
    let next : State = (give packet t st).state in
    let sessions : next.sessions ≡ map (give_stream t packet) st.sessions = turn_given t st.clock packet st.sessions in
    given_all packet t.number ts next rise.1
    ∙ ap (λ (ss : List Session). record st { sessions = ss })
    (ap (map (give_one ts packet)) sessions
    ∙ map-map (give_one ts packet) (give_stream t packet) st.sessions
    ∙ map_agree (λ s. give_one ts packet (give_stream t packet s)) (give_one (t ∷ ts) packet) st.sessions (λ s. give_step t ts packet s rise.1))

-- what a stream's sessions send as they are given the packet
abbrev pub stream_sends : ℕ → List ℕ → List Session → Stream → List Sent
stream_sends clock packet ss t = flat_map (λ s. cond (picks t packet s) (given clock packet s).sends []) ss

turn_sends : (t : Stream) (clock : ℕ) (packet : List ℕ) (ss : List Session)
    → flat_map (λ s. (cond {A = Turn} (picks t packet s) (given clock packet s) (record { sends = []; after = Some s })).sends) ss ≡ stream_sends clock packet
    ss t
turn_sends t clock packet [] = refl
turn_sends t clock packet (s ∷ ss) =
    ap (λ ds. ds ++ flat_map (λ x. (cond {A = Turn} (picks t packet x) (given clock packet x) (record { sends = []; after = Some x })).sends) ss)
    (by (picks t packet s))
    ∙ ap (λ ds. cond (picks t packet s) (given clock packet s).sends [] ++ ds) (turn_sends t clock packet ss)
  where
    by : (b : Bool) → (cond {A = Turn} b (given clock packet s) (record { sends = []; after = Some s })).sends ≡ cond b (given clock packet s).sends []
    by true = refl
    by false = refl

-- a stream above sends the same after another one's turn
sends_above : (t u : Stream) (clock : ℕ) (packet : List ℕ) (ss : List Session) → t.number < u.number
    → stream_sends clock packet (map (give_stream t packet) ss) u ≡ stream_sends clock packet ss u
sends_above t u clock packet [] below = refl
sends_above t u clock packet (s ∷ ss) below =
    ap (λ (ds : List Sent). ds ++ stream_sends clock packet (map (give_stream t packet) ss) u) (by (picks t packet s) refl)
    ∙ ap (λ ds. cond (picks u packet s) (given clock packet s).sends [] ++ ds) (sends_above t u clock packet ss below)
  where
    other : picks t packet s ≡ true → picks u packet s ≡ false
    other e = go (s.stream == u.number) (ne_eqb s.stream u.number (λ same. omega (arith, picks_at t packet s e, same, below)))
      where
        go : (b : Bool) → b ≡ false → (b && s.playing && has_pid u.pids (pid_of packet)) ≡ false
        go true f = absurd (cc)
        go false f = refl

    by : (b : Bool) → picks t packet s ≡ b
        → cond (picks u packet (cond b (take_in packet s) s)) (given clock packet (cond b (take_in packet s) s)).sends [] ≡ cond (picks u packet s)
        (given clock packet s).sends []
    by true e =
        ap (λ c. cond c (given clock packet (take_in packet s)).sends []) (picks_same u packet s ∙ other e)
        ∙ sym (ap (λ c. cond c (given clock packet s).sends []) (other e))
    by false e = refl

all_above : (t : Stream) (clock : ℕ) (packet : List ℕ) (ss : List Session) (above : ℕ) (us : List Stream) → t.number < above + 1 → Rising above us
    → flat_map (stream_sends clock packet (map (give_stream t packet) ss)) us ≡ flat_map (stream_sends clock packet ss) us
all_above t clock packet ss above [] low rise = refl
all_above t clock packet ss above (u ∷ us) low rise =
    ap (λ (ds : List Sent). ds ++ flat_map (stream_sends clock packet (map (give_stream t packet) ss)) us)
    (sends_above t u clock packet ss (omega (arith, low, rise.0)))
    ∙ ap (λ ds. stream_sends clock packet ss u ++ ds) (all_above t clock packet ss u.number us (omega (arith, low, rise.0)) rise.1)

pub given_sends_all : (packet : List ℕ) (above : ℕ) (ts : List Stream) (st : State) → Rising above ts
    → (give_all packet ts st).sent ≡ flat_map (stream_sends st.clock packet st.sessions) ts
given_sends_all packet above [] st rise = refl
given_sends_all packet above (t ∷ ts) st rise =
    let next : State = (give packet t st).state in
    ap (λ (ds : List Sent). ds ++ (give_all packet ts next).sent) (turn_sends t st.clock packet st.sessions)
    ∙ ap (λ (ds : List Sent). stream_sends st.clock packet st.sessions t ++ ds)
    (given_sends_all packet t.number ts next rise.1
    ∙ ap (λ ss. flat_map (stream_sends st.clock packet ss) ts) (turn_given t st.clock packet st.sessions)
    ∙ all_above t st.clock packet st.sessions t.number ts (omega arith) rise.1)
