-- The parts go on to stand for the plain state where a stream is tuned.
use Rattle.std.proofs.Common.{◌≡◌, ◌∙◌, ℕ, ◌-◌, ◌<◌, ◌≤◌, ◌==◌, ◌&&◌, not, Bool, true, false, cond, List, [], ◌∷◌, Option, None, Some, map, filter, find}
use Rattle.std.proofs.Common.{length, slice_get, slice_set, is_some, refl, ap, sym, subst, arith, append-nil}
use Rattle.std.proofs.Common.{inl, inr, ◌⊎◌, Ok}
use Rattle.std.specs.List.{list_any}
use Rattle.std.specs.Option.{option_map, option_and_then, option_flatten, option_map_or}
use Rattle.std.proofs.lemmas.Bool.{cases_eq, eqb-true, eq-eqb, ne_eqb, true≢false}
use Rattle.std.proofs.lemmas.Option.{same_Some}
use Rattle.satip_base.specs.Output.{Output}
use Rattle.satip_rtp.specs.Sending.{SendsAll}
use Rattle.satip_tune.specs.declared.tunings.Tuning.{Tuning}
use Rattle.satip_tune.specs.declared.frontends.Mux.{Mux}
use Rattle.satip_tune.specs.Frontends.{mux_for}
use Rattle.satip_pids.specs.Pids.{Pids}
use Rattle.satip_table.specs.declared.stream.Stream.{Stream as StreamRow}
use Rattle.satip_table.specs.Streams.{has_number, with_stream}
use Rattle.satip_table.specs.Living.{Living, NumbersRise, Sound}
use Rattle.satip_fronts.specs.declared.choice.Place.{Place}
use Rattle.satip_fronts.specs.declared.front_table.FrontRow.{FrontRow}
use Rattle.satip_fronts.specs.Choice.{Outlook, choose}
use Rattle.satip_fronts.specs.Rows.{is_at as stands_at, tuned_at, tuned_row}
use Rattle.satip_fronts.specs.FrontEnds.{FrontEnds, Sound as FrontsSound, choice, front_of, moved, outlook, placed_at, settled, taken, tuned_rows}
use Rattle.satip_fronts.proofs.Choosing.{chosen_known}
use Rattle.satip_fronts.proofs.Soundness.{taken_some}
use Rattle.satip_flow.specs.Subscription.{Subscription, changed}
use Rattle.satip_flow.proofs.Sends.{nothing_sent}
use Rattle.satip_flow.specs.Subscriptions.{IsFrontOrNone}
use Rattle.satip_plain.specs.Types.{Config, Query}
use Rattle.satip_plain.specs.State.{Row, State, Stream, change_where, is_at, stream_of}
use Rattle.satip_plain.specs.Sending.{each_of, let_go, settle, then_move}
use Rattle.satip_plain.specs.Streams.{asked_pids, change_by, change_stream, freed, new_pids, outlook_of, pids_or, put_at, retune, to_set, tuned}
use Rattle.satip_plain.specs.Histories.{datagram}
use Rattle.satip_state.specs.Asking.{HasPids}
use Rattle.satip_state.specs.Kept.{Kept}
use Rattle.satip_state.specs.Placing.{placed_in}
use Rattle.satip_state.specs.Standing.{Moved, StandsFor, row_in, stream_in}
use Rattle.satip_state.proofs.Outlooks.{outlook_same}
use Rattle.satip_state.proofs.Swept.{Rising, freed_same, get_within, rising_of, served_same}
use Rattle.satip_state.proofs.Ended.{swept_same}
use Rattle.satip_state.proofs.RequestLists.{each_weaker, get-set_other, get-set_same, none_some}
use Rattle.satip_state.proofs.RequestStreams.{change_sets, changed_found, found_each, found_number, rise_above, rows_changed, set_stream}
use Rattle.satip_state.proofs.RequestFlow.{Rise, each_filter}
use Rattle.satip_state.proofs.RequestPlay.{front_or_none, stream_is}
use Rattle.satip_state.proofs.RequestPids.{rise_of, stream_changed}

-- a stream that is there has a number from 1
pub number_positive : (number above : ℕ) (row : StreamRow) (rows : List StreamRow) → NumbersRise above rows → find (has_number number) rows ≡ Some row
    → above < number
number_positive number above row [] rise found = absurd (none_some row found)
number_positive number above row (x ∷ xs) rise found = by (x.number == number) refl found (number_positive number x.number row xs rise.1)
  where
    by : (b : Bool) → (x.number == number) ≡ b → cond b (Some x) (find (has_number number) xs) ≡ Some row
        → (find (has_number number) xs ≡ Some row → x.number < number) → above < number
    by true is found rest = omega (arith, rise.0, eqb-true x.number number is)
    by false is found rest = omega (arith, rise.0, rest found)

-- the front ends that a stream may be put at have numbers from 1 to 16

pub taken_known : (v : FrontEnds) (number front : ℕ) (tuning : Tuning) → FrontsSound v
    → Some front ≡ option_map (λ (place : Place). place.front) (choice v number tuning) → IsFrontOrNone (Some front)
unfolding choice outlook
taken_known v number front tuning sound chosen = by (choice v number tuning) refl chosen
  where
    by : (o : Option Place) → choice v number tuning ≡ o → Some front ≡ option_map (λ (place : Place). place.front) o → IsFrontOrNone (Some front)
    by None is chosen = absurd (none_some front (sym chosen))
    by (Some place) is chosen =
        let same : place.front ≡ front = same_Some place.front front (sym chosen) in
        subst (λ n. IsFrontOrNone (Some n)) same
        (front_or_none v sound (Some place.front) (chosen_known (outlook v number) (mux_for v.muxes tuning) tuning place is))

-- the choice is that of the plain state

pub choice_same : (c : Config) (v : Kept) (st : State) (number : ℕ) (tuning : Tuning) → StandsFor c v st → Sound v.table → 1 ≤ number
    → choice v.fronts number tuning ≡ choose (outlook_of c st number) (mux_for c.muxes tuning) tuning
unfolding choice
choice_same c v st number tuning s sound some =
    ap (λ (o : Outlook). choose o (mux_for v.fronts.muxes tuning) tuning) (outlook_same c v st number s sound some)
    ∙ ap (λ (ms : List Mux). choose (outlook_of c st number) (mux_for ms tuning) tuning) s.muxes

-- rows

tuned_one : (front : ℕ) (mux : Option ℕ) (row : FrontRow) → row_in (tuned_at front mux row) ≡ cond (row.number == front) (tuned mux (row_in row)) (row_in row)
unfolding tuned_at tuned_row row_in
tuned_one front mux row = by (row.number == front)
  where
    by : (b : Bool) → row_in (cond b (tuned_row mux row) row) ≡ cond b (tuned mux (row_in row)) (row_in row)
    by true = refl
    by false = refl

number_in : (row : FrontRow) → (row_in row).number ≡ row.number
unfolding row_in
number_in row = refl

tuned_all : (front : ℕ) (mux : Option ℕ) (rows : List FrontRow)
    → map row_in (map (tuned_at front mux) rows) ≡ change_where (λ (r : Row). r.number == front) (tuned mux) (map row_in rows)
tuned_all front mux [] = refl
tuned_all front mux (row ∷ rows) =
    ap (λ (r : Row). r ∷ map row_in (map (tuned_at front mux) rows)) (tuned_one front mux row
    ∙ ap (λ n. cond (n == front) (tuned mux (row_in row)) (row_in row)) (sym (number_in row)))
    ∙ ap (λ (rs : List Row). cond ((row_in row).number == front) (tuned mux (row_in row)) (row_in row) ∷ rs) (tuned_all front mux rows)

unchanged_rows : (f : Row → Row) (rows : List Row) → rows ≡ change_where (λ (r : Row). false) f rows
unchanged_rows f [] = refl
unchanged_rows f (r ∷ rows) = ap (λ rs. r ∷ rs) (unchanged_rows f rows)

tuned_same : (place : Place) (mux : Option ℕ) (rows : List FrontRow)
    → map row_in (tuned_rows place mux rows) ≡ change_where (λ (r : Row). place.anew && r.number == place.front) (tuned mux) (map row_in rows)
unfolding tuned_rows
tuned_same place mux rows = by place.anew
  where
    by : (b : Bool) → map row_in (cond b (map (tuned_at place.front mux) rows) rows) ≡ change_where (λ (r : Row). b && r.number == place.front) (tuned mux)
        (map row_in rows)
    by true = tuned_all place.front mux rows
    by false = unchanged_rows (tuned mux) (map row_in rows)

-- places

front_set : (places : List (Option ℕ)) (number f : ℕ) → 1 ≤ number → number ≤ length places → front_of (placed_at places number (Some f)) number ≡ Some f
unfolding front_of
front_set places number f some within =
    let there = get_within places (number - 1) (omega (arith, some, within)) in
    ap (λ b. cond b None (option_flatten (slice_get (slice_set places (number - 1) (Some f)) (number - 1)))) (ne_eqb number 0 (λ e. omega (arith, some, e)))
    ∙ ap option_flatten (get-set_same places (number - 1) there.0 (Some f) there.1)

front_kept : (places : List (Option ℕ)) (number n : ℕ) (o : Option ℕ) → 1 ≤ number → (n ≡ number → ⊥)
    → front_of (placed_at places number o) n ≡ front_of places n
unfolding front_of
front_kept places number n o some other = by (cases_eq n 0)
  where
    by : (n ≡ 0) ⊎ (n ≡ 0 → ⊥) → cond (n == 0) None (option_flatten (slice_get (slice_set places (number - 1) o) (n - 1))) ≡ cond (n == 0) None
        (option_flatten (slice_get places (n - 1)))
    by (inl none) =
        let is : (n == 0) ≡ true = eq-eqb n 0 none in
        ap (λ b. cond b None (option_flatten (slice_get (slice_set places (number - 1) o) (n - 1)))) is
        ∙ ap (λ b. cond b None (option_flatten (slice_get places (n - 1)))) (sym is)
    by (inr more) = ap (λ x. cond (n == 0) None (option_flatten x)) (get-set_other places (number - 1) (n - 1) o (λ e. other (omega (arith, some, more, e))))

-- the stream's front end is where it was put, and the others' stay
placed_fronts : (places : List (Option ℕ)) (number f : ℕ) (tuning : Option Tuning) (pids : Pids) (at : Stream) (streams : List Stream) → 1 ≤ number
    → number ≤ length places → find (λ (t : Stream). t.number == number) streams ≡ Some at
    → ((n : ℕ) → front_of places n ≡ option_and_then (λ (t : Stream). t.front) (find (λ (t : Stream). t.number == n) streams)) → (n : ℕ)
    → front_of (placed_at places number (Some f)) n ≡ option_and_then (λ (t : Stream). t.front)
    (find (λ (t : Stream). t.number == n) (change_where (λ t. t.number == number) (set_stream tuning (Some f) pids) streams))
placed_fronts places number f tuning pids at streams some within found old n = by (cases_eq n number)
  where
    new : Stream → Stream
    new t = cond (t.number == number) (set_stream tuning (Some f) pids t) t

    after : (k : ℕ) → option_and_then (λ (t : Stream). t.front) (find (λ (t : Stream). t.number == k) (map new streams)) ≡ option_and_then
        (λ (t : Stream). t.front) (option_map new (find (λ (t : Stream). t.number == k) streams))
    after k = ap (option_and_then (λ (t : Stream). t.front)) (changed_found number k tuning (Some f) pids streams)

    others : (o : Option Stream) → find (λ (t : Stream). t.number == n) streams ≡ o → (n ≡ number → ⊥)
        → option_and_then (λ (t : Stream). t.front) o ≡ option_and_then (λ (t : Stream). t.front) (option_map new o)
    others None is other = refl
    others (Some t) is other =
        let number_is : t.number ≡ n = found_number n t streams is in
        ap (λ b. (cond b (set_stream tuning (Some f) pids t) t).front) (sym (ne_eqb t.number number (λ e. other (sym number_is ∙ e))))

    by : (n ≡ number) ⊎ (n ≡ number → ⊥) → front_of (placed_at places number (Some f)) n ≡ option_and_then (λ (t : Stream). t.front)
        (find (λ (t : Stream). t.number == n) (map new streams))
    by (inl same) =
        ap (front_of (placed_at places number (Some f))) same ∙ front_set places number f some within
        ∙ ap (λ b. (cond b (set_stream tuning (Some f) pids at) at).front) (sym (eq-eqb at.number number (found_number number at streams found)))
        ∙ ap (λ o. option_and_then (λ (t : Stream). t.front) (option_map new o)) (sym found) ∙ sym (after number)
        ∙ ap (λ k. option_and_then (λ (t : Stream). t.front) (find (λ (t : Stream). t.number == k) (map new streams))) (sym same)
    by (inr other) = front_kept places number n (Some f) some other ∙ old n ∙ others (find (λ (t : Stream). t.number == n) streams) refl other ∙ sym (after n)

-- the stream at its new front end

new_streams : (number front : ℕ) (tuning : Tuning) → List Stream → List Stream
new_streams number front tuning streams = change_where (λ t. t.number == number) (λ t. record t { tuning = Some tuning; front = Some front }) streams

freed_rows : List Stream → List Row → List Row
freed_rows streams rows = change_where (λ r. not (list_any (λ (t : Stream). is_at t.front r.number) streams)) freed rows

tuned_anew : Place → Option ℕ → List Row → List Row
tuned_anew place mux rows = change_where (λ (r : Row). place.anew && r.number == place.front) (tuned mux) rows

set_is : (number above front : ℕ) (tuning : Tuning) (row : StreamRow) (streams : List Stream) → Rise above streams
    → find (λ (t : Stream). t.number == number) streams ≡ Some (stream_in row)
    → new_streams number front tuning streams ≡ change_where (λ t. t.number == number) (set_stream (Some tuning) (Some front) row.pids) streams
unfolding new_streams stream_in
set_is number above front tuning row streams rise found =
    change_sets number above (λ t. record t { tuning = Some tuning; front = Some front }) (stream_in row) (Some tuning)
    (Some front) row.pids streams rise found refl

rows_moved : (c : Config) (v : Kept) (st : State) → StandsFor c v st → (number : ℕ) (tuning : Tuning) (place : Place) (streams : List Stream)
    → ((f : ℕ) → list_any (stands_at f) (placed_at v.fronts.places number (Some place.front)) ≡ list_any (λ (t : Stream). is_at t.front f) streams)
    → map row_in (moved v.fronts number tuning place).rows ≡ freed_rows streams (tuned_anew place (mux_for c.muxes tuning) st.rows)
unfolding moved settled freed_rows tuned_anew
rows_moved c v st s number tuning place streams served =
    freed_same (placed_at v.fronts.places number (Some place.front)) streams served (tuned_rows place (mux_for v.fronts.muxes tuning) v.fronts.rows)
    ∙ ap (freed_rows streams) (tuned_same place (mux_for v.fronts.muxes tuning) v.fronts.rows ∙ ap (tuned_anew place (mux_for v.fronts.muxes tuning)) s.rows
    ∙ ap (λ (ms : List Mux). tuned_anew place (mux_for ms tuning) st.rows) s.muxes)

moved_places : (v : FrontEnds) (number : ℕ) (tuning : Tuning) (place : Place)
    → (moved v number tuning place).places ≡ placed_at v.places number (Some place.front)
unfolding moved settled
moved_places v number tuning place = refl

moved_fronts : (v : FrontEnds) (number : ℕ) (tuning : Tuning) (place : Place) → (moved v number tuning place).fronts ≡ v.fronts
unfolding moved settled
moved_fronts v number tuning place = refl

moved_muxes : (v : FrontEnds) (number : ℕ) (tuning : Tuning) (place : Place) → (moved v number tuning place).muxes ≡ v.muxes
unfolding moved settled
moved_muxes v number tuning place = refl

put_stands : (c : Config) (v : Kept) (st : State) (s : StandsFor c v st) (number : ℕ) (tuning : Tuning) (place : Place) (row : StreamRow) (table : Living)
    (fronts : FrontEnds) (flow : List Subscription)
    → Sound v.table → FrontsSound v.fronts → Sound table → FrontsSound fronts → 1 ≤ number → number ≤ 64 → find (has_number number) v.table.streams ≡ Some row
    → fronts ≡ moved v.fronts number tuning place
    → table ≡ record v.table { streams = with_stream number (Some tuning) (Some place.front) row.pids v.table.streams }
    → flow ≡ map (changed number (Some place.front) row.pids) v.flow
    → StandsFor c (record v { table = table; fronts = fronts; flow = flow }) (put_at c number tuning st place)
unfolding new_streams freed_rows tuned_anew
put_stands c v st s number tuning place row table fronts flow sound fronts_sound new_sound new_fronts some within found moved_to is subscribed =
    let at : stream_of st number ≡ Some (stream_in row) = stream_is c v st s number ∙ ap (option_map stream_in) found in
    let streams : List Stream = new_streams number place.front tuning st.streams in
    let rows : List Row = freed_rows streams (tuned_anew place (mux_for c.muxes tuning) st.rows) in
    let set : streams ≡ change_where (λ t. t.number == number) (set_stream (Some tuning) (Some place.front) row.pids) st.streams =
    set_is number 0 place.front tuning row st.streams (rise_of c v st s sound) at in
    let listed : map stream_in table.streams ≡ streams =
    ap (λ (t : Living). map stream_in t.streams) is ∙ rows_changed number (Some tuning) (Some place.front) row.pids v.table.streams
    ∙ ap (change_where (λ t. t.number == number) (set_stream (Some tuning) (Some place.front) row.pids)) s.streams ∙ sym set in
    let places : (n : ℕ) → front_of (placed_at v.fronts.places number (Some place.front)) n ≡ option_and_then (λ (t : Stream). t.front)
    (find (λ (t : Stream). t.number == n) streams) =
    λ n. placed_fronts v.fronts.places number place.front (Some tuning) row.pids (stream_in row) st.streams some
    (omega (arith, within, fronts_sound.streams)) at s.places n
    ∙ ap (λ ts. option_and_then (λ (t : Stream). t.front) (find (λ (t : Stream). t.number == n) ts)) (sym set) in
    let rise : Rising 0 streams = subst (Rising 0) listed (rising_of 0 table.streams new_sound.numbers) in
    let served = served_same (placed_at v.fronts.places number (Some place.front)) streams rise places in
    let w : Kept = record v { table = table; fronts = fronts; flow = flow } in
    let stands : StandsFor c w (record st { streams = streams; rows = rows }) =
    stream_changed c v st s number (Some tuning) (Some place.front) row.pids table fronts flow streams rows set is subscribed
    (ap (λ (f : FrontEnds). f.fronts) moved_to ∙ moved_fronts v.fronts number tuning place) (ap (λ (f : FrontEnds). f.muxes) moved_to
    ∙ moved_muxes v.fronts number tuning place)
    (ap (λ (f : FrontEnds). map row_in f.rows) moved_to ∙ rows_moved c v st s number tuning place streams served)
    (λ n. ap (λ (f : FrontEnds). front_of f.places n) moved_to ∙ ap (λ ps. front_of ps n) (moved_places v.fronts number tuning place) ∙ places n) in
    let lasts : filter (λ (t : Stream). list_any (λ x. x.stream == t.number) st.sessions) streams ≡ streams =
    ap (λ (x : State). x.streams) (swept_same c w (record st { streams = streams; rows = rows }) stands new_sound new_fronts) in
    subst (λ ts. StandsFor c w (record st { streams = ts; rows = freed_rows ts (tuned_anew place (mux_for c.muxes tuning) st.rows) })) (sym lasts) stands

pub placed_stands : (c : Config) (v : Kept) (st : State) (s : StandsFor c v st) (number front : ℕ) (tuning : Tuning) (row : StreamRow) (table : Living)
    (fronts : FrontEnds) (flow : List Subscription)
    → Sound v.table → FrontsSound v.fronts → Sound table → FrontsSound fronts → 1 ≤ number → number ≤ 64 → find (has_number number) v.table.streams ≡ Some row
    → Some front ≡ option_map (λ (place : Place). place.front) (choice v.fronts number tuning) → fronts ≡ taken v.fronts number tuning
    → table ≡ record v.table { streams = with_stream number (Some tuning) (Some front) row.pids v.table.streams }
    → flow ≡ map (changed number (Some front) row.pids) v.flow
    → StandsFor c (record v { table = table; fronts = fronts; flow = flow }) (placed_in c number tuning st)
placed_stands c v st s number front tuning row table fronts flow sound fronts_sound new_sound new_fronts some within found chosen took is subscribed =
    by (choice v.fronts number tuning) refl chosen
  where
    w : Kept
    w = record v { table = table; fronts = fronts; flow = flow }

    by : (o : Option Place) → choice v.fronts number tuning ≡ o → Some front ≡ option_map (λ (place : Place). place.front) o
        → StandsFor c w (placed_in c number tuning st)
    by None which chosen = absurd (none_some front (sym chosen))
    by (Some place) which chosen =
        let same : front ≡ place.front = same_Some front place.front chosen in
        subst (λ o. StandsFor c w (option_map_or (put_at c number tuning st) o st)) (sym which ∙ choice_same c v st number tuning s sound some)
        (put_stands c v st s number tuning place row table fronts flow sound fronts_sound new_sound new_fronts some within found (took
        ∙ sym (taken_some v.fronts number tuning place which))
        (is ∙ ap (λ f. record v.table { streams = with_stream number (Some tuning) (Some f) row.pids v.table.streams }) same) (subscribed
        ∙ ap (λ f. map (changed number (Some f) row.pids) v.flow) same))

pub unplaced_stands : (c : Config) (v w : Kept) (st : State) (s : StandsFor c v st) (number : ℕ) (tuning : Tuning) → Sound v.table → 1 ≤ number
    → None ≡ option_map (λ (place : Place). place.front) (choice v.fronts number tuning) → w ≡ v
    → StandsFor c w (placed_in c number tuning st)
unplaced_stands c v w st s number tuning sound some chosen same = by (choice v.fronts number tuning) refl chosen
  where
    by : (o : Option Place) → choice v.fronts number tuning ≡ o → None ≡ option_map (λ (place : Place). place.front) o
        → StandsFor c w (placed_in c number tuning st)
    by None which chosen =
        subst (λ o. StandsFor c w (option_map_or (put_at c number tuning st) o st)) (sym which ∙ choice_same c v st number tuning s sound some)
        (subst (λ k. StandsFor c k st) (sym same) s)
    by (Some place) which chosen = absurd (none_some place.front chosen)

-- a stream that lives is in the table, with a number up to 64

pub gone : (c : Config) (v : Kept) (st : State) → StandsFor c v st → (number : ℕ) → is_some (stream_of st number) ≡ true
    → find (has_number number) v.table.streams ≡ None → ⊥
gone c v st s number lives none = true≢false (sym lives ∙ ap is_some (stream_is c v st s number ∙ ap (option_map stream_in) none))

pub beyond : (c : Config) (v : Kept) (st : State) → StandsFor c v st → (number : ℕ) → is_some (stream_of st number) ≡ true → 64 < number → ⊥
beyond c v st s number lives over = by (stream_of st number) refl lives
  where
    by : (o : Option Stream) → stream_of st number ≡ o → is_some o ≡ true → ⊥
    by None is lives = true≢false (sym lives)
    by (Some t) is lives = omega (arith, over, found_number number t st.streams is, found_each (λ (x : Stream). x.number ≤ 64) number t st.streams s.numbers is)

-- what is held leaves, and then the stream gets its place

pub retuned_moves : (c : Config) (v w : Kept) (o n : Output) (st : State) (number : ℕ) (tuning : Tuning)
    → Moved c v o n (each_of (λ s. s.stream == number && not s.http) (let_go true st.clock) st)
    → StandsFor c w (placed_in c number tuning (each_of (λ s. s.stream == number && not s.http) (let_go true st.clock) st).state)
    → Moved c w o n (retune c number st tuning)
retuned_moves c v w o n st number tuning flushed placed = record {
  stands = placed;
  sent = subst (λ ds. SendsAll o (map datagram ds) n) (sym (append-nil _)) flushed.sent;
}

-- a query changes nothing, or the tuning

pub stays : (c : Config) (v : Kept) (o : Output) (st : State) → StandsFor c v st → Moved c v o o (settle st)
stays c v o st s = record { stands = s; sent = nothing_sent o }

-- each stream of a number has the PIDs of the one that is found
pub found_pids : (number above : ℕ) (at : Stream) (streams : List Stream) → Rise above streams → find (λ t. t.number == number) streams ≡ Some at
    → HasPids number at.pids streams
found_pids number above at [] rise found = tt
found_pids number above at (t ∷ ts) rise found = by (t.number == number) refl found (found_pids number t.number at ts rise.1)
  where
    by : (b : Bool) → (t.number == number) ≡ b → cond b (Some t) (find (λ s. s.number == number) ts) ≡ Some at
        → (find (λ s. s.number == number) ts ≡ Some at → HasPids number at.pids ts) → HasPids number at.pids (t ∷ ts)
    by true is found rest = (λ _. ap (λ (s : Stream). s.pids) (same_Some t at found), each_weaker _ _ other ts (rise_above t.number ts rise.1))
      where
        other : (s : Stream) → t.number < s.number → (s.number == number) ≡ true → s.pids ≡ at.pids
        other s more same = absurd (omega (arith, more, eqb-true s.number number same, eqb-true t.number number is))
    by false is found rest = (λ same. absurd (true≢false (sym same ∙ is)), rest found)

-- a stream keeps its PIDs as it is tuned

placed_pids : (number front : ℕ) (tuning : Tuning) (own : Pids) (streams : List Stream) → HasPids number own streams
    → HasPids number own (change_where (λ t. t.number == number) (λ t. record t { tuning = Some tuning; front = Some front }) streams)
placed_pids number front tuning own [] has = tt
placed_pids number front tuning own (t ∷ ts) has = (by (t.number == number) has.0, placed_pids number front tuning own ts has.1)
  where
    by : (b : Bool) → ((t.number == number) ≡ true → t.pids ≡ own)
        → ((cond b (record t { tuning = Some tuning; front = Some front }) t).number == number) ≡ true
        → (cond b (record t { tuning = Some tuning; front = Some front }) t).pids ≡ own
    by true same = same
    by false same = same

put_pids : (c : Config) (number : ℕ) (tuning : Tuning) (own : Pids) (now : State) (o : Option Place) → HasPids number own now.streams
    → HasPids number own (option_map_or (put_at c number tuning now) o now).streams
put_pids c number tuning own now None has = has
put_pids c number tuning own now (Some place) has =
    each_filter _ _ (change_where (λ t. t.number == number) (λ t. record t { tuning = Some tuning; front = Some place.front }) now.streams)
    (placed_pids number place.front tuning own now.streams has)

pub tuned_pids : (c : Config) (number : ℕ) (st : State) (own : Pids) (tuning : Option Tuning) → HasPids number own st.streams
    → HasPids number own (option_map_or (retune c number st) tuning (settle st)).state.streams
tuned_pids c number st own None has = has
tuned_pids c number st own (Some tuning) has =
    let now : State = (each_of (λ s. s.stream == number && not s.http) (let_go true st.clock) st).state in
    put_pids c number tuning own now (choose (outlook_of c now number) (mux_for c.muxes tuning) tuning) has

-- a query sets the PIDs that it makes of a stream's own
pub selected_by : (c : Config) (w : Kept) (st : State) (number : ℕ) (own pids : Pids) (query : Query) → HasPids number own st.streams
    → pids ≡ new_pids own query
    → StandsFor c w (change_stream number (λ t. record t { pids = pids }) st)
    → StandsFor c w (change_stream number (λ t. record t { pids = new_pids t.pids query }) st)
selected_by c w st number own pids query has is stands = subst (λ ts. StandsFor c w (record st { streams = ts })) (same st.streams has) stands
  where
    one : (t : Stream) (b : Bool) → (b ≡ true → t.pids ≡ own) → cond b (record t { pids = pids }) t ≡ cond b (record t { pids = new_pids t.pids query }) t
    one t true its = ap (λ (p : Pids). record t { pids = p }) (is ∙ ap (λ (p : Pids). new_pids p query) (sym (its refl)))
    one t false its = refl

    same : (ts : List Stream) → HasPids number own ts → change_where (λ (t : Stream). t.number == number) (λ t. record t { pids = pids }) ts ≡ change_where
        (λ (t : Stream). t.number == number) (λ t. record t { pids = new_pids t.pids query }) ts
    same [] all = refl
    same (t ∷ ts) all = ap (λ (x : Stream). x ∷ change_where (λ (t : Stream). t.number == number) (λ t. record t { pids = pids }) ts)
        (one t (t.number == number) all.0)
        ∙ ap (λ (xs : List Stream). cond (t.number == number) (record t { pids = new_pids t.pids query }) t ∷ xs) (same ts all.1)

-- a query that says nothing of PIDs leaves each stream's as they are
pub unasked_stays : (c : Config) (v : Kept) (st : State) → StandsFor c v st → (number : ℕ) (query : Query) → ((old : Pids) → asked_pids old query ≡ Ok old)
    → StandsFor c v (change_stream number (λ t. record t { pids = new_pids t.pids query }) st)
unasked_stays c v st s number query stay = subst (λ ts. StandsFor c v (record st { streams = ts })) (sym (same st.streams)) s
  where
    kept : (old : Pids) → new_pids old query ≡ old
    kept old = ap (pids_or old) (stay old)

    chosen : (b : Bool) (t : Stream) → cond b (record t { pids = new_pids t.pids query }) t ≡ t
    chosen true t = ap (λ (p : Pids). record t { pids = p }) (kept t.pids)
    chosen false t = refl

    same : (ts : List Stream) → change_where (λ (t : Stream). t.number == number) (λ (t : Stream). record t { pids = new_pids t.pids query }) ts ≡ ts
    same [] = refl
    same (t ∷ ts) = ap (λ (x : Stream). x ∷ change_where (λ (t : Stream). t.number == number) (λ (t : Stream). record t { pids = new_pids t.pids query }) ts)
        (chosen (t.number == number) t) ∙ ap (λ (xs : List Stream). t ∷ xs) (same ts)

-- tuning first, then PIDs
pub changed_moves : (c : Config) (v w : Kept) (o n : Output) (st : State) (number : ℕ) (query : Query) (t : Stream) (tuning : Option Tuning)
    → stream_of st number ≡ Some t → tuning ≡ to_set t.tuning query.change
    → Moved c v o n (option_map_or (retune c number st) tuning (settle st))
    → StandsFor c w (change_stream number (λ t. record t { pids = new_pids t.pids query }) (option_map_or (retune c number st) tuning (settle st)).state)
    → Moved c w o n (change_by c number query st)
changed_moves c v w o n st number query t tuning there is tuned_first selected =
    subst (λ (x : Option Tuning). Moved c w o n (then_move (option_map_or (retune c number st) x (settle st))
    (λ now. settle (change_stream number (λ t. record t { pids = new_pids t.pids query }) now))))
    (is ∙ ap (λ (o : Option Stream). to_set (option_and_then (λ (t : Stream). t.tuning) o) query.change) (sym there))
    (record {
      stands = selected;
      sent = subst (λ ds. SendsAll o (map datagram ds) n) (sym (append-nil _)) tuned_first.sent;
    })
