-- The parts go on to stand for the plain state where a session is made.
use Rattle.std.proofs.Common.{◌≡◌, ◌∙◌, ℕ, zero, suc, ◌+◌, ◌-◌, ◌*◌, ◌^◌, ◌<◌, ◌≤◌, ◌==◌, ◌&&◌, not, nat_lt, nat_le, min, Bool, true, false, cond, List, []}
use Rattle.std.proofs.Common.{◌∷◌, ◌++◌, Option, None, Some, map, filter, filter_map, flat_map, find, length, slice_get, slice_set, unwrap_or, refl, ap, sym}
use Rattle.std.proofs.Common.{subst, arith, append-nil}
use Rattle.std.proofs.Common.{inl, inr, ◌⊎◌}
use Rattle.std.specs.List.{list_any, list_all, range_with_len}
use Rattle.std.specs.Option.{option_map, option_and_then, option_or}
use Rattle.std.proofs.lemmas.Bool.{and_from, and_left, and_parts, cases_eq, eqb-true, eqb-false, eq-eqb, ne_eqb, le-leb, lt-leb, ltb-true, ltb-false}
use Rattle.std.proofs.lemmas.Bool.{leb-false, true≢false}
use Rattle.std.proofs.lemmas.List.Concat.{flat_map-append}
use Rattle.std.proofs.lemmas.List.Folds.{find-append}
use Rattle.std.proofs.lemmas.List.{length-map}
use Rattle.std.proofs.lemmas.Option.{same_Some}
use Rattle.satip_base.specs.Lists.{Each}
use Rattle.satip_base.specs.declared.identity.SessionId.{SessionId}
use Rattle.satip_base.specs.declared.identity.Draw.{Draw}
use Rattle.satip_base.specs.declared.network.Peer.{Peer}
use Rattle.satip_base.specs.declared.network.Ports.{Ports}
use Rattle.satip_pids.specs.Pids.{Only}
use Rattle.satip_table.specs.declared.session.Seat.{Seat}
use Rattle.satip_table.specs.declared.session.Session.{Session as TableRow}
use Rattle.satip_table.specs.declared.session.NewSession.{NewSession}
use Rattle.satip_table.specs.declared.stream.Stream.{Stream as StreamRow}
use Rattle.satip_table.specs.Sessions.{Adds, has_id_of, has_slot, following_id, session_of}
use Rattle.satip_table.specs.Streams.{fresh, gap, has_number, is_live, least_number, put_stream as put_row}
use Rattle.satip_table.specs.Living.{Living, Sound, CountsRise, is_full as is_full_table}
use Rattle.satip_table.proofs.StreamLaws.{is_gap}
use Rattle.satip_table.proofs.TableLaws.{number_least}
use Rattle.satip_fronts.specs.FrontEnds.{front_of}
use Rattle.satip_flow.specs.Subscription.{Subscription}
use Rattle.satip_flow.specs.Subscriptions.{IsFrontOrNone, put, without}
use Rattle.satip_plain.specs.Types.{Config}
use Rattle.satip_plain.specs.State.{Session, Stream, State, last_moment}
use Rattle.satip_plain.specs.Steps.{found, join, least_free, new_session, next_id, put_stream}
use Rattle.satip_state.specs.Kept.{Kept}
use Rattle.satip_state.specs.Seated.{Seated, due_of, end_of, is_seat, row_of, seat_of, seated_in, subscriber, subscribers}
use Rattle.satip_state.specs.Standing.{IsKept, StandsFor, stream_in}
use Rattle.satip_state.specs.Subscribing.{subscription_of}
use Rattle.satip_state.specs.Beginning.{Begins, begun, with_queue}
use Rattle.satip_state.proofs.RequestLists.{each_append, each_any, each_weaker, filter-map, filter_agree, filter_all, filter_none, get-set_other}
use Rattle.satip_state.proofs.RequestLists.{get-set_same, map-append, none_each}
use Rattle.satip_state.proofs.RequestSeats.{none_of_slot, session_in}
use Rattle.satip_state.proofs.RequestFlow.{Rise, each_filter, idle_skipped, put_into}
use Rattle.satip_state.proofs.RequestStreams.{live_in, rise_above, rise_in}
use Rattle.satip_state.proofs.RequestPlay.{none_of_it, stream_is, sub_quiet, subscriber_new}

-- one stream more

abbrev pub founded_stream : ℕ → Stream
founded_stream number = record { number = number; tuning = None; front = None; pids = Only [] }

pub rows_put : (number : ℕ) (id : SessionId) (rows : List StreamRow) → is_live rows number ≡ false
    → map stream_in (put_row (fresh number id) rows) ≡ put_stream (founded_stream number) (map stream_in rows)
unfolding put_row fresh stream_in
rows_put number id rows dead =
    let all = none_each (has_number number) rows dead in
    let low : StreamRow → Bool = λ r. nat_lt r.number number in
    let high : StreamRow → Bool = λ r. nat_lt number r.number in
    map-append stream_in (filter low rows) (fresh number id ∷ filter high rows)
    ∙ ap (λ rs. map stream_in rs ++ founded_stream number ∷ map stream_in (filter high rows))
    (filter_agree low (λ r. nat_le r.number number) rows (each_weaker _ _ lower rows all))
    ∙ ap (λ rs. map stream_in (filter (λ (r : StreamRow). nat_le r.number number) rows) ++ founded_stream number ∷ map stream_in rs)
    (filter_agree high (λ r. not (nat_le r.number number)) rows (each_any _ higher rows))
    ∙ ap (λ ts. ts ++ founded_stream number ∷ map stream_in (filter (λ (r : StreamRow). not (nat_le r.number number)) rows))
    (sym (filter-map (λ (t : Stream). nat_le t.number number) stream_in rows))
    ∙ ap (λ ts. filter (λ (t : Stream). nat_le t.number number) (map stream_in rows) ++ founded_stream number ∷ ts)
    (sym (filter-map (λ (t : Stream). not (nat_le t.number number)) stream_in rows))
  where
    lower : (r : StreamRow) → (r.number == number) ≡ false → nat_lt r.number number ≡ nat_le r.number number
    lower r other = by (nat_lt r.number number) refl
      where
        by : (b : Bool) → nat_lt r.number number ≡ b → nat_lt r.number number ≡ nat_le r.number number
        by true is = is ∙ sym (le-leb r.number number (omega (arith, ltb-true r.number number is)))
        by false is = is ∙ sym (lt-leb r.number number (more (ltb-false r.number number is) (eqb-false r.number number other)))
          where
            more : number ≤ r.number → (r.number ≡ number → ⊥) → number < r.number
            more le ne = omega arith

    higher : (r : StreamRow) → nat_lt number r.number ≡ not (nat_le r.number number)
    higher r = by (nat_lt number r.number) refl
      where
        by : (b : Bool) → nat_lt number r.number ≡ b → nat_lt number r.number ≡ not (nat_le r.number number)
        by true is = is ∙ ap not (sym (lt-leb r.number number (ltb-true number r.number is)))
        by false is = is ∙ ap not (sym (le-leb r.number number (ltb-false number r.number is)))

-- streams in rising number, cut at one
parted : (n above : ℕ) (streams : List Stream) → Rise above streams → filter (λ t. nat_le t.number n) streams
    ++ filter (λ t. not (nat_le t.number n)) streams ≡ streams
parted n above [] rise = refl
parted n above (t ∷ ts) rise = by (nat_le t.number n) refl (parted n t.number ts rise.1)
  where
    low : Stream → Bool
    low s = nat_le s.number n

    high : Stream → Bool
    high s = not (nat_le s.number n)

    by : (b : Bool) → nat_le t.number n ≡ b → filter low ts ++ filter high ts ≡ ts
        → cond b (t ∷ filter low ts) (filter low ts) ++ cond (not b) (t ∷ filter high ts) (filter high ts) ≡ t ∷ ts
    by true is rest = ap (λ ss. t ∷ ss) rest
    by false is rest =
        let beyond : Each (λ s. nat_le s.number n ≡ false) ts =
        each_weaker _ _ (λ s more. lt-leb s.number n (further s more (leb-false t.number n is))) ts (rise_above t.number ts rise.1) in
        ap (λ ss. ss ++ t ∷ filter high ts) (filter_none low ts beyond)
        ∙ ap (λ ss. t ∷ ss) (filter_all high ts (each_weaker _ _ (λ s over. ap not over) ts beyond))
      where
        further : (s : Stream) → t.number < s.number → n < t.number → n < s.number
        further s more over = omega arith

find_skip : (n : ℕ) (t : Stream) (before after : List Stream) → (t.number == n) ≡ false
    → find (λ (x : Stream). x.number == n) (before ++ t ∷ after) ≡ find (λ (x : Stream). x.number == n) (before ++ after)
find_skip n t [] after other = ap (λ b. cond b (Some t) (find (λ (x : Stream). x.number == n) after)) other
find_skip n t (x ∷ before) after other = ap (λ o. cond (x.number == n) (Some x) o) (find_skip n t before after other)

find_here : (n : ℕ) (t : Stream) (before after : List Stream) → (t.number == n) ≡ true → Each (λ x. (x.number == n) ≡ false) before
    → find (λ (x : Stream). x.number == n) (before ++ t ∷ after) ≡ Some t
find_here n t [] after same none = ap (λ b. cond b (Some t) (find (λ (x : Stream). x.number == n) after)) same
find_here n t (x ∷ before) after same none = ap (λ b. cond b (Some x) (find (λ (y : Stream). y.number == n) (before ++ t ∷ after))) none.0
    ∙ find_here n t before after same none.1

pub put_found : (t : Stream) (above : ℕ) (streams : List Stream) → list_any (λ (x : Stream). x.number == t.number) streams ≡ false
    → find (λ (x : Stream). x.number == t.number) (put_stream t streams) ≡ Some t
put_found t above streams dead =
    find_here t.number t (filter (λ x. nat_le x.number t.number) streams) (filter (λ x. not (nat_le x.number t.number)) streams) (eq-eqb t.number t.number refl)
    (each_filter _ (λ x. nat_le x.number t.number) streams (none_each (λ (x : Stream). x.number == t.number) streams dead))

pub put_others : (t : Stream) (n above : ℕ) (streams : List Stream) → Rise above streams → (t.number == n) ≡ false
    → find (λ (x : Stream). x.number == n) (put_stream t streams) ≡ find (λ (x : Stream). x.number == n) streams
put_others t n above streams rise other =
    find_skip n t (filter (λ x. nat_le x.number t.number) streams) (filter (λ x. not (nat_le x.number t.number)) streams) other
    ∙ ap (find (λ (x : Stream). x.number == n)) (parted t.number above streams rise)

pub put_fronts : (t : Stream) (n above : ℕ) (streams : List Stream) → t.front ≡ None → Rise above streams
    → list_any (λ (x : Stream). x.number == t.number) streams ≡ false
    → option_and_then (λ (x : Stream). x.front) (find (λ (x : Stream). x.number == n) streams) ≡ option_and_then (λ (x : Stream). x.front)
    (find (λ (x : Stream). x.number == n) (put_stream t streams))
put_fronts t n above streams nowhere rise dead = by (t.number == n) refl
  where
    lost : (xs : List Stream) → list_any (λ (x : Stream). x.number == t.number) xs ≡ false → find (λ (x : Stream). x.number == t.number) xs ≡ None
    lost xs none = go xs (none_each (λ (x : Stream). x.number == t.number) xs none)
      where
        go : (ys : List Stream) → Each (λ x. (x.number == t.number) ≡ false) ys → find (λ (x : Stream). x.number == t.number) ys ≡ None
        go [] all = refl
        go (y ∷ ys) all = ap (λ b. cond b (Some y) (find (λ (x : Stream). x.number == t.number) ys)) all.0 ∙ go ys all.1

    by : (b : Bool) → (t.number == n) ≡ b → option_and_then (λ (x : Stream). x.front) (find (λ (x : Stream). x.number == n) streams) ≡ option_and_then
        (λ (x : Stream). x.front) (find (λ (x : Stream). x.number == n) (put_stream t streams))
    by true same =
        let number : t.number ≡ n = eqb-true t.number n same in
        ap (λ k. option_and_then (λ (x : Stream). x.front) (find (λ (x : Stream). x.number == k) streams)) (sym number)
        ∙ ap (option_and_then (λ (x : Stream). x.front)) (lost streams dead) ∙ sym nowhere
        ∙ ap (option_and_then (λ (x : Stream). x.front)) (sym (put_found t above streams dead))
        ∙ ap (λ k. option_and_then (λ (x : Stream). x.front) (find (λ (x : Stream). x.number == k) (put_stream t streams))) number
    by false other = ap (option_and_then (λ (x : Stream). x.front)) (sym (put_others t n above streams rise other))

pub put_subscribers : (t : Stream) (above : ℕ) (seated : List Seated) (streams : List Stream) → Rise above streams → seated_in t seated ≡ []
    → subscribers seated (put_stream t streams) ≡ subscribers seated streams
unfolding subscribers
put_subscribers t above seated streams rise none =
    let subs : Stream → List Subscription = λ x. filter_map (subscriber x) (seated_in x seated) in
    let low = filter (λ (x : Stream). nat_le x.number t.number) streams in
    let high = filter (λ (x : Stream). not (nat_le x.number t.number)) streams in
    flat_map-append subs low (t ∷ high) ∙ ap (λ xs. flat_map subs low ++ (filter_map (subscriber t) xs ++ flat_map subs high)) none
    ∙ sym (flat_map-append subs low high) ∙ ap (flat_map subs) (parted t.number above streams rise)

-- the least free number

find_first : (lives : ℕ → Bool) (number from count : ℕ) → from ≤ number → number < from + count
    → ((other : ℕ) → from ≤ other → other < number → lives other ≡ true) → lives number ≡ false
    → find (λ n. not (lives n)) (range_with_len from count) ≡ Some number
find_first lives number from zero low high all dead = absurd (omega arith)
find_first lives number from (suc count) low high all dead =
    by (cases_eq from number) (λ next. find_first lives number (from + 1) count next (omega arith) (λ other least below. all other (omega arith) below) dead)
  where
    by : (from ≡ number) ⊎ (from ≡ number → ⊥) → (from + 1 ≤ number → find (λ n. not (lives n)) (range_with_len (from + 1) count) ≡ Some number)
        → cond (not (lives from)) (Some from) (find (λ n. not (lives n)) (range_with_len (from + 1) count)) ≡ Some number
    by (inl here) rest =
        ap (λ b. cond (not b) (Some from) (find (λ n. not (lives n)) (range_with_len (from + 1) count))) (ap lives here ∙ dead) ∙ ap Some here
    by (inr later) rest =
        let less : from < number = omega arith in
        ap (λ b. cond (not b) (Some from) (find (λ n. not (lives n)) (range_with_len (from + 1) count))) (all from (omega arith) less) ∙ rest (omega arith)

pub free_number : (v : Living) (number : ℕ) → Sound v → is_full_table v ≡ false → number ≡ least_number (is_live v.streams) → number ≡ gap 1 v.streams + 1
free_number v number sound room is = is ∙ sym (number_least v (gap 1 v.streams + 1) sound room refl)

pub number_dead : (v : Living) (number : ℕ) → Sound v → number ≡ gap 1 v.streams + 1 → is_live v.streams number ≡ false
number_dead v number sound at = let behind : number ≡ 0 + 1 + gap 1 v.streams = omega (arith, at) in (is_gap 0 number v.streams sound.numbers behind).dead

pub least_is : (v : Living) (streams : List Stream) (number : ℕ) → Sound v → map stream_in v.streams ≡ streams → number ≡ gap 1 v.streams + 1
    → least_free streams ≡ number
least_is v streams number sound is at =
    let behind : number ≡ 0 + 1 + gap 1 v.streams = omega (arith, at) in
    let found = is_gap 0 number v.streams sound.numbers behind in
    let long : length streams ≡ length v.streams = ap length (sym is) ∙ length-map v.streams stream_in in
    let lives : ℕ → Bool = λ n. list_any (λ (t : Stream). t.number == n) streams in
    let same : (n : ℕ) → lives n ≡ is_live v.streams n = λ n. ap (list_any (λ (t : Stream). t.number == n)) (sym is) ∙ live_in n v.streams in
    ap (λ o. unwrap_or o 0) (find_first lives number 1 (length streams + 1) (omega (arith, at)) (omega (arith, at, long, found.within))
    (λ other low high. same other ∙ found.lively other (omega (arith, low)) high) (same number ∙ found.dead))

-- a session is made

pub new_kept : (st : State) (http : Bool) (peer : Peer) (draw : Draw) (ports : Ports) (number : ℕ) → st.clock ≤ last_moment → draw.first < 65536
    → IsKept (new_session st http peer draw ports number)
new_kept st http peer draw ports number early first = record {
  heard = early;
  reported = tt;
  first = first;
  within = omega arith;
  few = by http;
  http = λ e. e;
  idle_picked = λ _. refl;
  idle_sizes = λ _. refl;
}
  where
    by : (b : Bool) → 0 ≤ cond b 4096 6
    by true = omega arith
    by false = omega arith

pub new_row : (c : Config) (v : Kept) (st : State) → StandsFor c v st → (new : NewSession) (number : ℕ) → new.heard ≡ v.clock
    → session_of v.table.made new number ≡ row_of (new_session st new.http new.peer new.draw new.ports number)
unfolding session_of following_id row_of
new_row c v st s new number now =
    ap (λ n. made n v.table.made) (now ∙ s.clock) ∙ ap (made st.clock) s.made
  where
    made : ℕ → ℕ → TableRow
    made heard n = record {
      id = record { count = n + 1; word = new.draw.word };
      http = new.http;
      peer = new.peer;
      ports = new.ports;
      stream = number;
      playing = new.http;
      heard = heard;
      reported = None;
      ssrc = new.draw.ssrc;
      first = new.draw.first;
    }

-- the moment at which the session of each slot ends, with one session more
pub due_added : (timeout slot key : ℕ) (seated : List Seated) (x : Session) (dues : List (Option ℕ)) → slot < 64 → Each (λ y. is_seat slot y ≡ false) seated
    → ((k : ℕ) → k < 64 → slice_get dues k ≡ Some (due_of timeout seated k)) → key < 64
    → slice_get (slice_set dues slot (Some (x.heard + timeout * 1000))) key ≡ Some (due_of timeout (seated ++ record { slot = slot; session = x } ∷ []) key)
due_added timeout slot key seated x dues within free old below = by (cases_eq key slot)
  where
    it : Seated
    it = record { slot = slot; session = x }

    due : Option ℕ
    due = Some (x.heard + timeout * 1000)

    last : (k : ℕ) → due_of timeout (seated ++ it ∷ []) k ≡ option_map (end_of timeout) (option_or (find (is_seat k) seated) (find (is_seat k) (it ∷ [])))
    last k = ap (option_map (end_of timeout)) (find-append (is_seat k) seated (it ∷ []))

    nobody : (ys : List Seated) → Each (λ y. is_seat slot y ≡ false) ys → find (is_seat slot) ys ≡ None
    nobody [] all = refl
    nobody (y ∷ ys) all = ap (λ b. cond b (Some y) (find (is_seat slot) ys)) all.0 ∙ nobody ys all.1

    alone : (o : Option Seated) → option_or o None ≡ o
    alone None = refl
    alone (Some y) = refl

    by : (key ≡ slot) ⊎ (key ≡ slot → ⊥) → slice_get (slice_set dues slot due) key ≡ Some (due_of timeout (seated ++ it ∷ []) key)
    by (inl same) =
        ap (slice_get (slice_set dues slot due)) same ∙ get-set_same dues slot (due_of timeout seated slot) due (old slot within)
        ∙ ap (λ b. Some (option_map (end_of timeout) (cond b (Some it) None))) (sym (eq-eqb slot slot refl))
        ∙ ap (λ o. Some (option_map (end_of timeout) (option_or o (find (is_seat slot) (it ∷ []))))) (sym (nobody seated free))
        ∙ ap Some (sym (last slot)) ∙ ap (λ k. Some (due_of timeout (seated ++ it ∷ []) k)) (sym same)
    by (inr other) =
        get-set_other dues slot key due other ∙ old key below
        ∙ ap (λ o. Some (option_map (end_of timeout) o)) (sym (alone (find (is_seat key) seated)))
        ∙ ap (λ b. Some (option_map (end_of timeout) (option_or (find (is_seat key) seated) (cond b (Some it) None))))
        (sym (ne_eqb slot key (λ e. other (sym e))))
        ∙ ap Some (sym (last key))

-- the subscribers, with one session more
counts_below : (above last : ℕ) (seated : List Seated) → CountsRise above last (map seat_of seated) → Each (λ y. y.session.id.count ≤ last) seated
unfolding row_of
counts_below above last [] rise = tt
counts_below above last (y ∷ ys) rise = (least y.session.id.count ys rise.1, counts_below y.session.id.count last ys rise.1)
  where
    least : (from : ℕ) (zs : List Seated) → CountsRise from last (map seat_of zs) → from ≤ last
    least from [] up = up
    least from (z ∷ zs) up = omega (arith, up.0, least z.session.id.count zs up.1)

pub flow_added : (slot : ℕ) (x : Session) (row : TableRow) (t : StreamRow) (seated : List Seated) (streams : List Stream) → row_of x ≡ row
    → x.playing ≡ x.http → x.picked ≡ [] → x.sizes ≡ [] → x.first < 65536
    → Each (λ y. is_seat slot y ≡ false) seated → Each (λ y. y.session.id.count < x.id.count) seated → Rise 0 streams
    → find (λ (s : Stream). s.number == x.stream) streams ≡ Some (stream_in t)
    → with_queue slot row t (subscribers seated streams) ≡ subscribers (seated ++ record { slot = slot; session = x } ∷ []) streams
unfolding with_queue row_of
flow_added slot x row t seated streams its plays none unsent within free counts rise found =
    ap (λ (r : TableRow). cond r.http (put (subscription_of slot row t) (without slot (subscribers seated streams))) (subscribers seated streams)) (sym its)
    ∙ by x.http refl
  where
    it : Seated
    it = record { slot = slot; session = x }

    by : (b : Bool) → x.http ≡ b → cond b (put (subscription_of slot row t) (without slot (subscribers seated streams)))
        (subscribers seated streams) ≡ subscribers (seated ++ it ∷ []) streams
    by true http =
        ap (put (subscription_of slot row t)) (none_of_it slot seated streams free)
        ∙ ap (λ ys. put (subscription_of slot row t) (subscribers ys streams)) (sym (append-nil seated))
        ∙ sym (put_into seated [] it (subscription_of slot row t) (stream_in t) 0 streams rise found
        (subscriber_new slot x row t it refl refl (plays ∙ http) none unsent within its) counts tt)
    by false quiet = ap (λ ys. subscribers ys streams) (sym (append-nil seated)) ∙ sym (idle_skipped seated [] it (λ w. sub_quiet w it (plays ∙ quiet)) streams)

-- the parts with one session more
pub added_stands : (c : Config) (v : Kept) (st : State) (s : StandsFor c v st) (x : Session) (slot : ℕ) (row : TableRow) (t : StreamRow) (table : Living)
    (streams : List Stream) → Sound v.table → slot < 64 → list_any (has_slot slot) v.table.seats ≡ false
    → table.seats ≡ v.table.seats ++ record { slot = slot; session = row } ∷ [] → table.made ≡ st.made + 1 → row_of x ≡ row → IsKept x → x.playing ≡ x.http
    → x.picked ≡ [] → x.sizes ≡ [] → x.heard ≡ st.clock → x.id.count ≡ st.made + 1
    → map stream_in table.streams ≡ streams → Each (λ (y : Stream). y.number ≤ 64) streams
    → ((n : ℕ) → front_of v.fronts.places n ≡ option_and_then (λ (y : Stream). y.front) (find (λ (y : Stream). y.number == n) streams))
    → Rise 0 streams → find (λ (y : Stream). y.number == x.stream) streams ≡ Some (stream_in t) → v.timeout < 2 ^ 32 → v.flow ≡ subscribers s.seated streams
    → StandsFor c (begun slot row t (record v { table = table })) (record st { made = st.made + 1; sessions = st.sessions ++ x ∷ []; streams = streams })
unfolding begun
added_stands c v st s x slot row t table streams sound within free seats made its kept plays none unsent heard count same few places rise found short flow =
    let it : Seated = record { slot = slot; session = x } in
    let apart : Each (λ y. is_seat slot y ≡ false) s.seated = none_of_slot slot s.seated (ap (list_any (has_slot slot)) (sym s.seats) ∙ free) in
    let counts : Each (λ y. y.session.id.count < x.id.count) s.seated =
    each_weaker _ _ (λ y le. omega (arith, le, count, s.made)) s.seated
    (counts_below 0 v.table.made s.seated (subst (CountsRise 0 v.table.made) s.seats sound.counts)) in
    let due : min (v.clock + v.timeout * 1000) (2 ^ 64 - 1) ≡ x.heard + v.timeout * 1000 = omega (arith, s.clock, s.moment, heard, short) in
    let sessions : st.sessions ++ x ∷ [] ≡ map session_in (s.seated ++ it ∷ []) = ap (λ xs. xs ++ x ∷ []) s.sessions
    ∙ sym (map-append session_in s.seated (it ∷ [])) in
    record {
      seated = s.seated ++ it ∷ [];
      clock = s.clock;
      moment = s.moment;
      stopped = s.stopped;
      timeout = s.timeout;
      made = made;
      seats = seats ∙ ap (λ xs. xs ++ record { slot = slot; session = row } ∷ []) s.seats
          ∙ ap (λ r. map seat_of s.seated ++ record { slot = slot; session = r } ∷ []) (sym its) ∙ sym (map-append seat_of s.seated (it ∷ []));
      sessions = sessions;
      each_session = each_append IsKept st.sessions (x ∷ []) s.each_session (kept, tt);
      streams = same;
      numbers = few;
      dues = λ key below. ap (λ d. slice_get (slice_set v.dues slot (Some d)) key) due
          ∙ due_added v.timeout slot key s.seated x v.dues within apart s.dues below;
      front_ends = s.front_ends;
      muxes = s.muxes;
      rows = s.rows;
      places = places;
      flow = ap (with_queue slot row t) flow ∙ flow_added slot x row t s.seated streams its plays none unsent kept.first apart counts rise found;
    }

-- what the parts do with a new session of the table

pub begin_is : (v w : Kept) (id : SessionId) (at : ℕ) (its : TableRow) (its_stream : StreamRow) (dues : List (Option ℕ)) (flow : List Subscription) (due : ℕ)
    → v ≡ w
    → Some at ≡ option_map (λ (seat : Seat). seat.slot) (find (has_id_of id) v.table.seats)
    → Some its ≡ option_map (λ (seat : Seat). seat.session) (find (has_id_of id) v.table.seats)
    → Some its_stream ≡ find (has_number its.stream) v.table.streams
    → (IsFrontOrNone its_stream.front → flow ≡ with_queue at its its_stream v.flow) → due ≡ min (v.clock + v.timeout * 1000) (2 ^ 64 - 1)
    → dues ≡ slice_set v.dues at (Some due)
    → Begins id w (record v { dues = dues; flow = flow })
unfolding begun
begin_is v w id at its its_stream dues flow due same slots rows streams subscribed ends set slot row t seat stream known =
    let seats : find (has_id_of id) v.table.seats ≡ Some (record { slot = slot; session = row }) =
    ap (λ (k : Kept). find (has_id_of id) k.table.seats) same ∙ seat in
    let at_is : at ≡ slot = same_Some at slot (slots ∙ ap (option_map (λ (x : Seat). x.slot)) seats) in
    let its_is : its ≡ row = same_Some its row (rows ∙ ap (option_map (λ (x : Seat). x.session)) seats) in
    let t_is : its_stream ≡ t = same_Some its_stream t (streams ∙ ap (λ (r : TableRow). find (has_number r.stream) v.table.streams) its_is
    ∙ ap (λ (k : Kept). find (has_number row.stream) k.table.streams) same ∙ stream) in
    let new_flow : flow ≡ with_queue slot row t v.flow =
    subscribed (subst (λ (x : StreamRow). IsFrontOrNone x.front) (sym t_is) known) ∙ ap (λ n. with_queue n its its_stream v.flow) at_is
    ∙ ap (λ r. with_queue slot r its_stream v.flow) its_is ∙ ap (λ x. with_queue slot row x v.flow) t_is in
    let new_dues : dues ≡ slice_set v.dues slot (Some (min (v.clock + v.timeout * 1000) (2 ^ 64 - 1))) =
    set ∙ ap (λ n. slice_set v.dues n (Some due)) at_is ∙ ap (λ d. slice_set v.dues slot (Some d)) ends in
    ap (λ ds. record v { dues = ds; flow = flow }) new_dues
    ∙ ap (λ us. record v { dues = slice_set v.dues slot (Some (min (v.clock + v.timeout * 1000) (2 ^ 64 - 1))); flow = us }) new_flow
    ∙ ap (begun slot row t) same

find_at : {X : Type 0} (p : X → Bool) (x : X) (before after : List X) → p x ≡ true → Each (λ y. p y ≡ false) before → find p (before ++ x ∷ after) ≡ Some x
find_at p x [] after here none = ap (λ b. cond b (Some x) (find p after)) here
find_at p x (y ∷ before) after here none = ap (λ b. cond b (Some y) (find p (before ++ x ∷ after))) none.0 ∙ find_at p x before after here none.1

-- its seat is the last
none_counted : (id : SessionId) (above last : ℕ) (seats : List Seat) → CountsRise above last seats → last < id.count
    → Each (λ seat. has_id_of id seat ≡ false) seats
none_counted id above last [] rise more = tt
none_counted id above last (x ∷ xs) rise more = (
  and_left _ _ (ne_eqb x.session.id.count id.count (λ e. omega (arith, e, more, least x.session.id.count xs rise.1))),
  none_counted id x.session.id.count
      last xs rise.1 more,
)
  where
    least : (from : ℕ) (zs : List Seat) → CountsRise from last zs → from ≤ last
    least from [] up = up
    least from (z ∷ zs) up = omega (arith, up.0, least z.session.id.count zs up.1)

id_same : (a b : SessionId) → a ≡ b → (a.count == b.count && a.word == b.word) ≡ true
id_same a b same = ap (λ (x : SessionId). a.count == x.count && a.word == x.word) (sym same)
    ∙ and_from _ _ (eq-eqb a.count a.count refl) (eq-eqb a.word a.word refl)

pub last_seat : (v : Living) (new : NewSession) (id : SessionId) (number slot : ℕ) (seats : List Seat) → Sound v → id ≡ following_id v.made new
    → seats ≡ v.seats ++ record { slot = slot; session = session_of v.made new number } ∷ []
    → find (has_id_of id) seats ≡ Some (record { slot = slot; session = session_of v.made new number })
unfolding session_of following_id
last_seat v new id number slot seats sound its pushed =
    let more : v.made < id.count = omega (arith, ap (λ (x : SessionId). x.count) its) in
    ap (find (has_id_of id)) pushed
    ∙ find_at (has_id_of id) (record { slot = slot; session = session_of v.made new number }) v.seats [] (id_same (following_id v.made new) id (sym its))
    (none_counted id 0 v.made v.seats sound.counts more)

-- its new stream is there
new_stream : (number : ℕ) (id : SessionId) (rows : List StreamRow) → is_live rows number ≡ false
    → find (has_number number) (put_row (fresh number id) rows) ≡ Some (fresh number id)
unfolding put_row fresh
new_stream number id rows dead =
    find_at (has_number number) (fresh number id) (filter (λ (r : StreamRow). nat_lt r.number number) rows)
    (filter (λ (r : StreamRow). nat_lt number r.number) rows) (eq-eqb number number refl)
    (each_filter _ (λ (r : StreamRow). nat_lt r.number number) rows (none_each (has_number number) rows dead))

-- nobody is in a stream that doesn't live
nobody_in : (rows : List StreamRow) (number : ℕ) (seated : List Seated)
    → list_all (λ (seat : Seat). is_live rows seat.session.stream) (map seat_of seated) ≡ true → is_live rows number ≡ false
    → Each (λ x. (x.session.stream == number) ≡ false) seated
unfolding row_of
nobody_in rows number [] housed dead = tt
nobody_in rows number (x ∷ xs) housed dead = (
  ne_eqb x.session.stream number (λ e. true≢false (sym (and_parts _ _ housed).0 ∙ ap (is_live rows) e ∙ dead)),
  nobody_in rows number xs
      (and_parts _ _ housed).1 dead,
)

few_put : (t : Stream) (streams : List Stream) → t.number ≤ 64 → Each (λ (x : Stream). x.number ≤ 64) streams
    → Each (λ (x : Stream). x.number ≤ 64) (put_stream t streams)
few_put t streams within all =
    each_append _ (filter (λ x. nat_le x.number t.number) streams) (t ∷ filter (λ x. not (nat_le x.number t.number)) streams)
    (each_filter _ (λ x. nat_le x.number t.number) streams all) (within, each_filter _ (λ x. not (nat_le x.number t.number)) streams all)

session_row_stream : (made : ℕ) (new : NewSession) (number : ℕ) → (session_of made new number).stream ≡ number
unfolding session_of
session_row_stream made new number = refl

pub found_stands : (c : Config) (v w : Kept) (st : State) (s : StandsFor c v st) (new : NewSession) (id : SessionId) (number : ℕ) (table : Living)
    → Sound v.table → Sound table → is_full_table v.table ≡ false → v.timeout < 2 ^ 32 → new.draw.first < 65536 → new.heard ≡ v.clock
    → id ≡ following_id v.table.made new → number ≡ least_number (is_live v.table.streams) → number ≤ 64
    → Adds v.table.seats (session_of v.table.made new number) table.seats → table.streams ≡ put_row (fresh number id) v.table.streams
    → table.made ≡ v.table.made + 1 → Begins id (record v { table = table }) w → StandsFor c w (found new.http new.peer new.draw new.ports st)
unfolding stream_in fresh
found_stands c v w st s new id number table sound new_sound room short first now its least within adds put made begins =
    let at : number ≡ gap 1 v.table.streams + 1 = free_number v.table number sound room least in
    let dead : is_live v.table.streams number ≡ false = number_dead v.table number sound at in
    let x : Session = new_session st new.http new.peer new.draw new.ports number in
    let row : TableRow = session_of v.table.made new number in
    let row_is : row_of x ≡ row = sym (new_row c v st s new number now) in
    let t : StreamRow = fresh number id in
    let streams : List Stream = put_stream (founded_stream number) st.streams in
    let same : map stream_in table.streams ≡ streams = ap (map stream_in) put ∙ rows_put number id v.table.streams dead
    ∙ ap (put_stream (founded_stream number)) s.streams in
    let gone : list_any (λ (y : Stream). y.number == number) st.streams ≡ false = ap (list_any (λ (y : Stream). y.number == number)) (sym s.streams)
    ∙ live_in number v.table.streams ∙ dead in
    let rise : Rise 0 st.streams = subst (Rise 0) s.streams (rise_in 0 v.table.streams sound.numbers) in
    let new_rise : Rise 0 streams = subst (Rise 0) same (rise_in 0 table.streams new_sound.numbers) in
    let none : seated_in (founded_stream number) s.seated ≡ [] =
    filter_none _ s.seated (nobody_in v.table.streams number s.seated
    (ap (list_all (λ (seat : Seat). is_live v.table.streams seat.session.stream)) (sym s.seats) ∙ sound.housed) dead) in
    let seat = last_seat v.table new id number adds.slot table.seats sound its adds.last in
    let stream : find (has_number row.stream) table.streams ≡ Some t =
    ap (λ n. find (has_number n) table.streams) (session_row_stream v.table.made new number) ∙ ap (find (has_number number)) put
    ∙ new_stream number id v.table.streams dead in
    let is = begins adds.slot row t seat stream tt in
    let stands : StandsFor c w (join new.http new.peer new.draw new.ports number (record st { streams = streams })) =
    subst (λ k. StandsFor c k (record st { made = st.made + 1; sessions = st.sessions ++ x ∷ []; streams = streams })) (sym is)
    (added_stands c v st s x adds.slot row t table streams sound adds.within adds.free adds.last (omega (arith, made, s.made)) row_is
    (new_kept st new.http new.peer new.draw new.ports number s.moment first) refl refl refl refl refl
    same (few_put (founded_stream number) st.streams within s.numbers) (λ n. s.places n ∙ put_fronts (founded_stream number) n 0 st.streams refl rise gone)
    new_rise (put_found (founded_stream number) 0 st.streams gone) short (s.flow
    ∙ sym (put_subscribers (founded_stream number) 0 s.seated st.streams rise none))) in
    subst (λ n. StandsFor c w (join new.http new.peer new.draw new.ports n (record st { streams = put_stream (founded_stream n) st.streams })))
    (sym (least_is v.table st.streams number sound s.streams at)) stands

pub joined_stands : (c : Config) (v w : Kept) (st : State) (s : StandsFor c v st) (new : NewSession) (id : SessionId) (number : ℕ) (t : StreamRow)
    (table : Living) → Sound v.table → v.timeout < 2 ^ 32 → new.draw.first < 65536 → new.heard ≡ v.clock
    → id ≡ following_id v.table.made new → find (has_number number) v.table.streams ≡ Some t → IsFrontOrNone t.front
    → Adds v.table.seats (session_of v.table.made new number) table.seats → table.streams ≡ v.table.streams
    → table.made ≡ v.table.made + 1 → Begins id (record v { table = table }) w → StandsFor c w (join new.http new.peer new.draw new.ports number st)
joined_stands c v w st s new id number t table sound short first now its found known adds put made begins =
    let x : Session = new_session st new.http new.peer new.draw new.ports number in
    let row : TableRow = session_of v.table.made new number in
    let row_is : row_of x ≡ row = sym (new_row c v st s new number now) in
    let rise : Rise 0 st.streams = subst (Rise 0) s.streams (rise_in 0 v.table.streams sound.numbers) in
    let seat = last_seat v.table new id number adds.slot table.seats sound its adds.last in
    let stream : find (has_number row.stream) table.streams ≡ Some t =
    ap (λ n. find (has_number n) table.streams) (session_row_stream v.table.made new number) ∙ ap (find (has_number number)) put ∙ found in
    let is = begins adds.slot row t seat stream known in
    subst (λ k. StandsFor c k (record st { made = st.made + 1; sessions = st.sessions ++ x ∷ [] })) (sym is)
    (added_stands c v st s x adds.slot row t table st.streams sound adds.within adds.free adds.last (omega (arith, made, s.made)) row_is
    (new_kept st new.http new.peer new.draw new.ports number s.moment first) refl refl refl refl refl
    (ap (map stream_in) put ∙ s.streams) s.numbers s.places rise (stream_is c v st s number ∙ ap (option_map stream_in) found) short s.flow)

pub id_is : (c : Config) (v : Kept) (st : State) → StandsFor c v st → (new : NewSession) (id : SessionId) → id ≡ following_id v.table.made new
    → id ≡ next_id st new.draw
unfolding following_id
id_is c v st s new id its = its ∙ ap (λ n. record { count = n + 1; word = new.draw.word }) s.made
