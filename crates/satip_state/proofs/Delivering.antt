-- A packet of a front end goes through the flow as it does through the plain server.
use Rattle.std.proofs.Common.{◌≡◌, ℕ, ◌+◌, ◌<◌, ◌==◌, ◌&&◌, ◌||◌, Bool, true, false, cond, List, [], ◌∷◌, ◌++◌, map, filter, Option, Some, None, refl, sym}
use Rattle.std.proofs.Common.{ap, subst, ◌∙◌, arith, inl, inr, append-nil, append_assoc}
use Rattle.std.specs.List.{list_any, filter_map, flat_map, cons_option}
use Rattle.std.specs.Option.{option_map}
use Rattle.std.proofs.lemmas.Bool.{or_parts, and_parts, eqb-true, ne_eqb}
use Rattle.std.proofs.lemmas.List.{map-append}
use Rattle.std.proofs.lemmas.Simd.{map-map}
use Rattle.satip_base.specs.Output.{Datagram}
use Rattle.satip_ts.specs.Packet.{pid_of}
use Rattle.satip_pids.specs.Pids.{has_pid}
use Rattle.satip_base.specs.Lists.{Each, Has}
use Rattle.satip_table.specs.Living.{Sound}
use Rattle.satip_flow.specs.Subscription.{Subscription, fed, fed_datagrams, given_datagrams}
use Rattle.satip_flow.specs.Subscription.{given as fed_one, is_at as stands_at}
use Rattle.satip_plain.specs.Types.{Config}
use Rattle.satip_plain.specs.State.{Session, Stream, State, is_at, served_by}
use Rattle.satip_plain.specs.Sending.{Sent}
use Rattle.satip_plain.specs.Steps.{given, picks}
use Rattle.satip_plain.specs.Histories.{datagram}
use Rattle.satip_state.specs.Kept.{Kept}
use Rattle.satip_state.specs.Seated.{Seated, row_of, feed_of, seated_in, subscriber, subscribers}
use Rattle.satip_state.specs.Standing.{StandsFor, IsKept}
use Rattle.satip_state.proofs.Listed.{listed, listed_same, map_listed, subscriber_is, subscribers_map}
use Rattle.satip_state.proofs.Mapped.{sessions_of, stands_mapped, seated_kept, all_kept, each_mapped, stream_same}
use Rattle.satip_state.proofs.Swept.{Rising, any_place}
use Rattle.satip_state.proofs.Ended.{rising}
use Rattle.satip_state.proofs.Giving.{take_in, take_row, take_feed, take_sends, take_kept}
use Rattle.satip_state.proofs.Streaming.{picked_by, give_one, stream_sends}

-- a session that is seated is given the packet where one of the streams picks it
abbrev pub give_seat : List Stream → List ℕ → Seated → Seated
give_seat ts packet x = record x { session = give_one ts packet x.session }

pub give_row : (ts : List Stream) (packet : List ℕ) (s : Session) → row_of (give_one ts packet s) ≡ row_of s
give_row ts packet s = by (picked_by ts packet s)
  where
    by : (b : Bool) → row_of (cond b (take_in packet s) s) ≡ row_of s
    by true = take_row packet s
    by false = refl

picked_plays : (ts : List Stream) (packet : List ℕ) (s : Session) → picked_by ts packet s ≡ true → s.playing ≡ true
picked_plays ts packet s picked =
    let r = any_place (λ (t : Stream). picks t packet s) ts picked in
    let a = and_parts (s.stream == r.1.number && s.playing) (has_pid r.1.pids (pid_of packet)) r.3 in
    (and_parts (s.stream == r.1.number) s.playing a.0).1

give_kept : (ts : List Stream) (packet : List ℕ) (s : Session) → IsKept s → IsKept (give_one ts packet s)
give_kept ts packet s kept = by (picked_by ts packet s) refl
  where
    by : (b : Bool) → picked_by ts packet s ≡ b → IsKept (cond b (take_in packet s) s)
    by true picked = take_kept packet s kept (picked_plays ts packet s picked)
    by false e = kept

or_assoc : (a b c : Bool) → ((a || b) || c) ≡ (a || (b || c))
or_assoc true b c = refl
or_assoc false b c = refl

module _ {X : Type 0} where
  pub any_filter : (p q : X → Bool) (xs : List X) → list_any q (filter p xs) ≡ list_any (λ x. p x && q x) xs
  any_filter p q [] = refl
  any_filter p q (x ∷ xs) = by (p x) (any_filter p q xs)
    where
      by : (b : Bool) → list_any q (filter p xs) ≡ list_any (λ y. p y && q y) xs
          → list_any q (cond b (x ∷ filter p xs) (filter p xs)) ≡ ((b && q x) || list_any (λ y. p y && q y) xs)
      by true rest = ap (λ c. q x || c) rest
      by false rest = rest

  any_both : (p : X → Bool) (xs ys : List X) → list_any p (xs ++ ys) ≡ (list_any p xs || list_any p ys)
  any_both p [] ys = refl
  any_both p (x ∷ xs) ys = ap (λ b. p x || b) (any_both p xs ys) ∙ sym (or_assoc (p x) (list_any p xs) (list_any p ys))

  pub any_flat : {Y : Type 0} (p : X → Bool) (f : Y → List X) (ys : List Y) → list_any p (flat_map f ys) ≡ list_any (λ y. list_any p (f y)) ys
  any_flat p f [] = refl
  any_flat p f (y ∷ ys) = any_both p (f y) (flat_map f ys) ∙ ap (λ b. list_any p (f y) || b) (any_flat p f ys)

  -- a test of one who alone passes another
  pub any_alone : (p r : X → Bool) (a : List X) (x : X) (b : List X) → list_any p a ≡ false → p x ≡ true → list_any p b ≡ false
      → list_any (λ y. r y && p y) (a ++ x ∷ b) ≡ r x
  any_alone p r a x b before here behind =
      any_both (λ y. r y && p y) a (x ∷ b)
      ∙ ap (λ c. c || ((r x && p x) || list_any (λ y. r y && p y) b)) (none a before)
      ∙ ap (λ c. (r x && c) || list_any (λ y. r y && p y) b) here
      ∙ ap (λ c. (r x && true) || c) (none b behind)
      ∙ whole (r x)
    where
      whole : (c : Bool) → ((c && true) || false) ≡ c
      whole true = refl
      whole false = refl

      fails : (c d : Bool) → d ≡ false → (c && d) ≡ false
      fails true d e = e
      fails false d e = refl

      none : (ys : List X) → list_any p ys ≡ false → list_any (λ y. r y && p y) ys ≡ false
      none [] e = refl
      none (y ∷ ys) e =
          let parts = or_parts (p y) (list_any p ys) e in
          ap (λ c. c || list_any (λ z. r z && p z) ys) (fails (r y) (p y) parts.0) ∙ none ys parts.1

  pub any_and : (p : X → Bool) (f : Bool) (xs : List X) → list_any (λ x. p x && f) xs ≡ (list_any p xs && f)
  any_and p f [] = refl
  any_and p f (x ∷ xs) = ap (λ b. (p x && f) || b) (any_and p f xs) ∙ shared (p x) (list_any p xs) f
    where
      shared : (a b c : Bool) → ((a && c) || (b && c)) ≡ ((a || b) && c)
      shared true true true = refl
      shared true true false = refl
      shared true false true = refl
      shared true false false = refl
      shared false b c = refl

-- the one stream of a session decides
pub one_stream : (p : Stream → Bool) (n above : ℕ) (ts : List Stream) (t : Stream) → Rising above ts → Has t ts → n ≡ t.number
    → ((u : Stream) → (n == u.number) ≡ false → p u ≡ false) → list_any p ts ≡ p t
one_stream p n above [] t rise has at only = absurd has
one_stream p n above (u ∷ us) t rise (inl same) at only =
    ap (λ b. p u || b) (later us u.number rise.1 (at ∙ ap (λ (z : Stream). z.number) same)) ∙ or_nothing (p u) ∙ ap p (sym same)
  where
    or_nothing : (b : Bool) → (b || false) ≡ b
    or_nothing true = refl
    or_nothing false = refl

    beyond : (vs : List Stream) (low : ℕ) → Rising low vs → n < low + 1 → list_any p vs ≡ false
    beyond [] low r below = refl
    beyond (w ∷ ws) low r below =
        ap (λ b. b || list_any p ws) (only w (ne_eqb n w.number (λ e. omega (arith, r.0, below, e)))) ∙ beyond ws w.number r.1 (omega (arith, r.0, below))

    later : (vs : List Stream) (low : ℕ) → Rising low vs → n ≡ low → list_any p vs ≡ false
    later vs low r e = beyond vs low r (omega (arith, e))
one_stream p n above (u ∷ us) t rise (inr has) at only =
    ap (λ b. b || list_any p us) (only u (ne_eqb n u.number (λ e. differ us u.number rise.1 has (at ∙ refl) e)))
    ∙ one_stream p n u.number us t rise.1 has at only
  where
    higher : (vs : List Stream) (low : ℕ) → Rising low vs → Has t vs → low < t.number
    higher [] low r h = absurd h
    higher (w ∷ ws) low r (inl same) = subst (λ (z : Stream). low < z.number) (sym same) r.0
    higher (w ∷ ws) low r (inr h) = let rest = higher ws w.number r.1 h in omega (arith, r.0, rest)

    differ : (vs : List Stream) (low : ℕ) → Rising low vs → Has t vs → n ≡ t.number → n ≡ low → ⊥
    differ vs low r h e f = let more = higher vs low r h in omega (arith, more, e, f)

-- whether a packet of a front is picked for a session, told of its stream
abbrev pub at_front : ℕ → Stream → Bool
at_front front t = is_at t.front front

picked_is : (front : ℕ) (packet : List ℕ) (s : Session) (above : ℕ) (ts : List Stream) (t : Stream) → Rising above ts → Has t ts → s.stream ≡ t.number
    → picked_by (filter (at_front front) ts) packet s ≡ (at_front front t && picks t packet s)
picked_is front packet s above ts t rise has at =
    any_filter (at_front front) (λ u. picks u packet s) ts
    ∙ one_stream (λ u. at_front front u && picks u packet s) s.stream above ts t rise has at
    (λ u e. fails (at_front front u) (s.stream == u.number) s.playing (has_pid u.pids (pid_of packet)) e)
  where
    fails : (a b p h : Bool) → b ≡ false → (a && (b && p && h)) ≡ false
    fails a true p h e = absurd (cc)
    fails true false p h e = refl
    fails false false p h e = refl

pub stands_same : (front : ℕ) (o : Option ℕ) → stands_at front o ≡ is_at o front
stands_same front None = refl
stands_same front (Some f) = refl

-- a session's subscription is given the packet as the session is
give_listed : (front : ℕ) (packet : List ℕ) (above : ℕ) (ts : List Stream) → Rising above ts → (t : Stream) → Has t ts → (x : Seated) → IsKept x.session
    → (x.session.stream == t.number) ≡ true
    → option_map (fed_one front packet) (subscriber t x) ≡ subscriber t (give_seat (filter (at_front front) ts) packet x)
give_listed front packet above ts rise t has x kept same =
    map_listed (fed_one front packet) t x
    ∙ ap (λ b. cond x.session.playing
    (Some (cond (b && has_pid t.pids (pid_of packet)) (listed t x (fed packet (feed_of x.session))) (listed t x (feed_of x.session)))) None)
    (stands_same front t.front)
    ∙ playing x.session.playing refl (at_front front t) (has_pid t.pids (pid_of packet))
    (picked_is front packet x.session above ts t rise has (eqb-true x.session.stream t.number same)
    ∙ ap (λ b. at_front front t && (b && x.session.playing && has_pid t.pids (pid_of packet))) same)
  where
    y : Seated
    y = give_seat (filter (at_front front) ts) packet x

    row : row_of y.session ≡ row_of x.session
    row = give_row (filter (at_front front) ts) packet x.session

    given_it : (b : Bool) → picked_by (filter (at_front front) ts) packet x.session ≡ b
        → cond x.session.playing (Some (cond b (listed t x (fed packet (feed_of x.session))) (listed t x (feed_of x.session)))) None ≡ subscriber t y
    given_it true picked =
        listed_same t x y (fed packet (feed_of x.session)) refl row
        (take_feed packet x.session kept ∙ sym (ap (λ b. feed_of (cond b (take_in packet x.session) x.session)) picked))
    given_it false not_picked =
        listed_same t x y (feed_of x.session) refl row (sym (ap (λ b. feed_of (cond b (take_in packet x.session) x.session)) not_picked))

    chosen : (a h : Bool) → picked_by (filter (at_front front) ts) packet x.session ≡ (a && h)
        → cond x.session.playing (Some (cond (a && h) (listed t x (fed packet (feed_of x.session))) (listed t x (feed_of x.session)))) None ≡ subscriber t y
    chosen a h e = given_it (a && h) e

    plays_it : (p a h : Bool) → p ≡ true → (a && (true && p && h)) ≡ (a && h)
    plays_it true true h e = refl
    plays_it true false h e = refl
    plays_it false a h e = absurd (cc)

    idle : x.session.playing ≡ false → (o : Option Subscription) → subscriber t y ≡ None
    idle e o = sym (listed_same t x y (feed_of y.session) refl row refl) ∙ ap (λ p. cond p (Some (listed t x (feed_of y.session))) None) e

    playing : (p : Bool) → x.session.playing ≡ p → (a h : Bool)
        → picked_by (filter (at_front front) ts) packet x.session ≡ (a && (true && x.session.playing && h))
        → cond x.session.playing (Some (cond (a && h) (listed t x (fed packet (feed_of x.session))) (listed t x (feed_of x.session)))) None ≡ subscriber t y
    playing true e a h picked = chosen a h (picked ∙ plays_it x.session.playing a h e)
    playing false e a h picked =
        ap (λ p. cond p (Some (cond (a && h) (listed t x (fed packet (feed_of x.session))) (listed t x (feed_of x.session)))) None) e ∙ sym (idle e None)

-- the parts once the flow was given the packet
pub stands_given : (c : Config) (v : Kept) (st : State) (stands : StandsFor c v st) → Sound v.table → (front : ℕ) (packet : List ℕ) (flow : List Subscription)
    → flow ≡ map (fed_one front packet) v.flow
    → StandsFor c (record v { flow = flow }) (record st { sessions = map (give_one (served_by st front) packet) st.sessions })
stands_given c v st stands sound front packet flow changed =
    let ts : List Stream = served_by st front in
    let f : Seated → Seated = give_seat ts packet in
    let rise : Rising 0 st.streams = rising c v st stands sound in
    let sessions : sessions_of (map f stands.seated) ≡ map (give_one ts packet) st.sessions =
    map-map (λ (y : Seated). y.session) f stands.seated
    ∙ sym (map-map (give_one ts packet) (λ (y : Seated). y.session) stands.seated)
    ∙ ap (map (give_one ts packet)) (sym stands.sessions) in
    subst (λ (ss : List Session). StandsFor c (record v { flow = flow }) (record st { sessions = ss })) sessions
    (stands_mapped c v st stands f (λ x. refl) (λ x. give_row ts packet x.session)
    (each_mapped f stands.seated (λ x kept. give_kept ts packet x.session kept) (all_kept c v st stands))
    flow
    (changed ∙ ap (map (fed_one front packet)) stands.flow
    ∙ subscribers_map (fed_one front packet) f stands.seated st.streams (λ x. stream_same x.session (f x).session (give_row ts packet x.session))
    (λ t here x has e. give_listed front packet 0 st.streams rise t here x (seated_kept stands.seated x (all_kept c v st stands) has) e)))

-- what the flow sends
one_sends : (b p a h : Bool) (ds : List Datagram) (sends : List Sent) → ds ≡ map datagram sends
    → cond b (cond p (cond (a && h) ds [] ++ []) []) [] ≡ cond a (map datagram (cond (b && p && h) sends [])) []
one_sends true true true true ds sends same = append-nil ds ∙ same
one_sends true true true false ds sends same = refl
one_sends true true false h ds sends same = refl
one_sends true false true h ds sends same = refl
one_sends true false false h ds sends same = refl
one_sends false p true h ds sends same = refl
one_sends false p false h ds sends same = refl

flat_cons : (front : ℕ) (packet : List ℕ) (clock : ℕ) (o : Option Subscription) (ss : List Subscription)
    → flat_map (given_datagrams front packet clock) (cons_option o ss) ≡ flat_map (given_datagrams front packet clock) (cons_option o [])
    ++ flat_map (given_datagrams front packet clock) ss
flat_cons front packet clock None ss = refl
flat_cons front packet clock (Some s) ss =
    ap (λ ds. ds ++ flat_map (given_datagrams front packet clock) ss) (sym (append-nil (given_datagrams front packet clock s)))

seat_sends : (front : ℕ) (packet : List ℕ) (clock : ℕ) (t : Stream) (x : Seated) → IsKept x.session
    → cond (x.session.stream == t.number) (flat_map (given_datagrams front packet clock) (cons_option (subscriber t x) [])) []
    ≡ cond (at_front front t) (map datagram (cond (picks t packet x.session) (given clock packet x.session).sends [])) []
seat_sends front packet clock t x kept =
    ap (λ o. cond (x.session.stream == t.number) (flat_map (given_datagrams front packet clock) (cons_option o [])) []) (subscriber_is t x)
    ∙ ap (λ ds. cond (x.session.stream == t.number) ds []) (opened x.session.playing)
    ∙ ap (λ b. cond (x.session.stream == t.number)
    (cond x.session.playing (cond (b && has_pid t.pids (pid_of packet)) (fed_datagrams packet clock (feed_of x.session)) [] ++ []) []) [])
    (stands_same front t.front)
    ∙ one_sends (x.session.stream == t.number) x.session.playing (at_front front t) (has_pid t.pids (pid_of packet))
    (fed_datagrams packet clock (feed_of x.session)) (given clock packet x.session).sends
    (take_sends clock packet x.session kept)
  where
    opened : (p : Bool) → flat_map (given_datagrams front packet clock) (cons_option (cond p (Some (listed t x (feed_of x.session))) None) [])
        ≡ cond p (cond (stands_at front t.front && has_pid t.pids (pid_of packet)) (fed_datagrams packet clock (feed_of x.session)) [] ++ []) []
    opened true = refl
    opened false = refl

stream_datagrams : (front : ℕ) (packet : List ℕ) (clock : ℕ) (t : Stream) (xs : List Seated) → Each IsKept (sessions_of xs)
    → flat_map (given_datagrams front packet clock) (filter_map (subscriber t) (seated_in t xs)) ≡ cond (at_front front t)
    (map datagram (stream_sends clock packet (sessions_of xs) t)) []
stream_datagrams front packet clock t [] kept = nothing (at_front front t)
  where
    nothing : (a : Bool) → ◌≡◌ {A = List Datagram} [] (cond a [] [])
    nothing true = refl
    nothing false = refl
stream_datagrams front packet clock t (x ∷ xs) kept =
    split (x.session.stream == t.number)
    ∙ ap (λ ds. ds ++ flat_map (given_datagrams front packet clock) (filter_map (subscriber t) (seated_in t xs))) (seat_sends front packet clock t x kept.0)
    ∙ ap (λ ds. cond (at_front front t) (map datagram (cond (picks t packet x.session) (given clock packet x.session).sends [])) [] ++ ds)
    (stream_datagrams front packet clock t xs kept.1)
    ∙ joined (at_front front t) (cond (picks t packet x.session) (given clock packet x.session).sends []) (stream_sends clock packet (sessions_of xs) t)
  where
    split : (b : Bool) → flat_map (given_datagrams front packet clock) (filter_map (subscriber t) (cond b (x ∷ seated_in t xs) (seated_in t xs)))
        ≡ cond b (flat_map (given_datagrams front packet clock) (cons_option (subscriber t x) [])) []
        ++ flat_map (given_datagrams front packet clock) (filter_map (subscriber t) (seated_in t xs))
    split true = flat_cons front packet clock (subscriber t x) (filter_map (subscriber t) (seated_in t xs))
    split false = refl

    joined : (a : Bool) (one more : List Sent) → cond a (map datagram one) [] ++ cond a (map datagram more) [] ≡ cond a (map datagram (one ++ more)) []
    joined true one more = sym (map-append datagram one more)
    joined false one more = refl

flat_both : (front : ℕ) (packet : List ℕ) (clock : ℕ) (xs ys : List Subscription)
    → flat_map (given_datagrams front packet clock) (xs ++ ys) ≡ flat_map (given_datagrams front packet clock) xs
    ++ flat_map (given_datagrams front packet clock) ys
flat_both front packet clock [] ys = refl
flat_both front packet clock (x ∷ xs) ys =
    ap (λ ds. given_datagrams front packet clock x ++ ds) (flat_both front packet clock xs ys)
    ∙ sym (append_assoc (given_datagrams front packet clock x) (flat_map (given_datagrams front packet clock) xs)
    (flat_map (given_datagrams front packet clock) ys))

pub flow_sends : (front : ℕ) (packet : List ℕ) (clock : ℕ) (xs : List Seated) (ts : List Stream) → Each IsKept (sessions_of xs)
    → flat_map (given_datagrams front packet clock) (subscribers xs ts) ≡ map datagram
    (flat_map (stream_sends clock packet (sessions_of xs)) (filter (at_front front) ts))
unfolding subscribers
flow_sends front packet clock xs [] kept = refl
flow_sends front packet clock xs (t ∷ ts) kept =
    flat_both front packet clock (filter_map (subscriber t) (seated_in t xs)) (flat_map (λ u. filter_map (subscriber u) (seated_in u xs)) ts)
    ∙ ap (λ ds. ds ++ flat_map (given_datagrams front packet clock) (flat_map (λ u. filter_map (subscriber u) (seated_in u xs)) ts))
    (stream_datagrams front packet clock t xs kept)
    ∙ ap (λ ds. cond (at_front front t) (map datagram (stream_sends clock packet (sessions_of xs) t)) [] ++ ds) (flow_sends front packet clock xs ts kept)
    ∙ joined (at_front front t) (filter (at_front front) ts)
  where
    joined : (a : Bool) (us : List Stream)
        → cond a (map datagram (stream_sends clock packet (sessions_of xs) t)) [] ++ map datagram (flat_map (stream_sends clock packet (sessions_of xs)) us)
        ≡ map datagram (flat_map (stream_sends clock packet (sessions_of xs)) (cond a (t ∷ us) us))
    joined true us = sym (map-append datagram (stream_sends clock packet (sessions_of xs) t) (flat_map (stream_sends clock packet (sessions_of xs)) us))
    joined false us = refl
