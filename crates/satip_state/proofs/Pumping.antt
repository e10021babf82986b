-- What a front end is doing, as the plain server tells it.
use Rattle.std.proofs.Common.{◌≡◌, ℕ, ◌+◌, ◌==◌, ◌&&◌, ◌||◌, nat_lt, Bool, true, false, cond, List, [], ◌∷◌, map, find, Option, Some, None, refl, sym, ap}
use Rattle.std.proofs.Common.{◌∙◌, arith, count_by}
use Rattle.std.specs.List.{list_any}
use Rattle.std.specs.Option.{option_map, option_map_or}
use Rattle.std.proofs.lemmas.Bool.{lt-ltb}
use Rattle.std.proofs.lemmas.List.Sums.{sum_by-cons}
use Rattle.satip_table.specs.Living.{Sound}
use Rattle.satip_fronts.specs.declared.front_table.FrontRow.{FrontRow}
use Rattle.satip_fronts.specs.declared.front_table.FrontState.{FrontState}
use Rattle.satip_fronts.specs.Rows.{is_row, ended_at}
use Rattle.satip_fronts.specs.Rows.{is_at as stands_at}
use Rattle.satip_fronts.specs.FrontEnds.{FrontEnds, state_of, ended, has_tune, front_of}
use Rattle.satip_fronts.specs.FrontEnds.{is_current as is_current_at}
use Rattle.satip_plain.specs.declared.answers.Work.TheVariants.{Nothing, Stopping}
use Rattle.satip_plain.specs.Types.{Config}
use Rattle.satip_plain.specs.State.{Stream, Row, State, row_of, served_by, is_at, change_where}
use Rattle.satip_plain.specs.Steps.{is_current, work, work_of_row, on_ended}
use Rattle.satip_state.specs.Kept.{Kept}
use Rattle.satip_state.specs.Standing.{StandsFor, row_in}
use Rattle.satip_state.specs.Working.{work_of_told}
use Rattle.satip_state.proofs.Picking.{find-map, map_some, map_nothing}
use Rattle.satip_state.proofs.Swept.{served_same}
use Rattle.satip_state.proofs.Ended.{rising}
use Rattle.satip_state.proofs.Delivering.{any_filter}
use Rattle.satip_state.proofs.Streaming.{any_agree}

count_any : {X : Type 0} (p : X → Bool) (xs : List X) → nat_lt 0 (count_by p xs) ≡ list_any p xs
count_any p [] = refl
count_any p (x ∷ xs) = ap (nat_lt 0) (sum_by-cons (λ y. cond (p y) 1 0) x xs) ∙ by (p x) (count_any p xs)
  where
    by : (b : Bool) → nat_lt 0 (count_by p xs) ≡ list_any p xs → nat_lt 0 (cond b 1 0 + count_by p xs) ≡ (b || list_any p xs)
    by true rest = lt-ltb 0 (1 + count_by p xs) (omega arith)
    by false rest = let none : 0 + count_by p xs ≡ count_by p xs = omega arith in ap (nat_lt 0) none ∙ rest

row_found : (rows : List FrontRow) (front : ℕ) → find (λ (r : Row). r.number == front) (map row_in rows) ≡ option_map row_in (find (is_row front) rows)
unfolding row_in
row_found rows front = find-map row_in (λ (r : Row). r.number == front) rows

row_same : (c : Config) (v : Kept) (st : State) → StandsFor c v st → (front : ℕ) → row_of st front ≡ option_map row_in (find (is_row front) v.fronts.rows)
row_same c v st stands front = ap (find (λ (r : Row). r.number == front)) (sym stands.rows) ∙ row_found v.fronts.rows front

-- whether a front end serves a stream
serves_plain : (st : State) (front : ℕ) → list_any (λ (t : Stream). true) (served_by st front) ≡ list_any (λ (t : Stream). is_at t.front front) st.streams
serves_plain st front = any_filter (λ (t : Stream). is_at t.front front) (λ t. true) st.streams
    ∙ any_agree (λ (t : Stream). is_at t.front front && true) (λ t. is_at t.front front) st.streams (λ t. whole (is_at t.front front))
  where
    whole : (b : Bool) → (b && true) ≡ b
    whole true = refl
    whole false = refl

pub serves_same : (c : Config) (v : Kept) (st : State) → StandsFor c v st → Sound v.table → (front : ℕ)
    → list_any (stands_at front) v.fronts.places ≡ list_any (λ (t : Stream). true) (served_by st front)
serves_same c v st stands sound front = served_same v.fronts.places st.streams (rising c v st stands sound) stands.places front ∙ sym (serves_plain st front)

state_none : (v : FrontEnds) (front : ℕ) → None ≡ state_of v front → find (is_row front) v.rows ≡ None
unfolding state_of
state_none v front none = map_nothing _ (find (is_row front) v.rows) (sym none)

-- what is told of a front end that has a row
pub record Told (v : FrontEnds) (front : ℕ) (state : FrontState) : Type 0 where
  pub row : FrontRow
  pub found : find (is_row front) v.rows ≡ Some row
  pub streams : nat_lt 0 state.streams ≡ list_any (stands_at front) v.places
  pub mux : state.mux ≡ row.mux
  pub tune : state.tune ≡ row.tune
  pub ended : state.ended ≡ row.ended

state_told : (v : FrontEnds) (front : ℕ) (state : FrontState) → Some state ≡ state_of v front → Told v front state
unfolding state_of
state_told v front state told =
    let r = map_some _ (find (is_row front) v.rows) state (sym told) in
    record {
      row = r.0;
      found = r.1;
      streams = ap (λ (s : FrontState). nat_lt 0 s.streams) (sym r.2) ∙ count_any (stands_at front) v.places;
      mux = ap (λ (s : FrontState). s.mux) (sym r.2);
      tune = ap (λ (s : FrontState). s.tune) (sym r.2);
      ended = ap (λ (s : FrontState). s.ended) (sym r.2);
    }

row_tune : (row : FrontRow) → ((row_in row).tune ≡ row.tune) × ((row_in row).mux ≡ row.mux) × ((row_in row).ended ≡ row.ended)
unfolding row_in
row_tune row = (refl, refl, refl)

pub no_front_current : (c : Config) (v : Kept) (st : State) → StandsFor c v st → (front tune : ℕ) → None ≡ state_of v.fronts front
    → false ≡ is_current st front tune
no_front_current c v st stands front tune none =
    ap (λ o. option_map_or (λ (r : Row). r.tune == tune) o false && list_any (λ (t : Stream). true) (served_by st front))
    (sym (row_same c v st stands front ∙ ap (option_map row_in) (state_none v.fronts front none)))

pub front_current : (c : Config) (v : Kept) (st : State) → StandsFor c v st → Sound v.table → (front tune : ℕ) (state : FrontState)
    → Some state ≡ state_of v.fronts front
    → (state.tune == tune && nat_lt 0 state.streams) ≡ is_current st front tune
front_current c v st stands sound front tune state told =
    let t = state_told v.fronts front state told in
    let fields = row_tune t.row in
    ap (λ n. n == tune && nat_lt 0 state.streams) (t.tune ∙ sym fields.0)
    ∙ ap (λ b. (row_in t.row).tune == tune && b) (t.streams ∙ serves_same c v st stands sound front)
    ∙ ap (λ o. option_map_or (λ (r : Row). r.tune == tune) o false && list_any (λ (u : Stream). true) (served_by st front))
    (sym (row_same c v st stands front ∙ ap (option_map row_in) t.found))

-- what a pump is to do
works_on : (st : State) (front : ℕ) → st.stopped ≡ false → (o : Option Row) → row_of st front ≡ o
    → cond (list_any (λ (t : Stream). true) (served_by st front)) (option_map_or work_of_row o Nothing) Nothing ≡ work st front
works_on st front on o found =
    ap (λ q. cond (list_any (λ (t : Stream). true) (served_by st front)) (option_map_or work_of_row q Nothing) Nothing) (sym found)
    ∙ sym (ap (λ b. cond b Stopping (cond (list_any (λ (t : Stream). true) (served_by st front))
    (option_map_or work_of_row (row_of st front) Nothing) Nothing)) on)

pub no_front_works : (c : Config) (v : Kept) (st : State) → StandsFor c v st → v.stopped ≡ false → (front : ℕ) → None ≡ state_of v.fronts front
    → Nothing ≡ work st front
no_front_works c v st stands on front none =
    nothing (list_any (λ (t : Stream). true) (served_by st front))
    ∙ works_on st front (sym stands.stopped ∙ on) None (row_same c v st stands front ∙ ap (option_map row_in) (state_none v.fronts front none))
  where
    nothing : (b : Bool) → Nothing ≡ cond b Nothing Nothing
    nothing true = refl
    nothing false = refl

told_work : (row : FrontRow) → work_of_told row.mux row.tune row.ended ≡ work_of_row (row_in row)
unfolding row_in
told_work row = by row.mux
  where
    by : (o : Option ℕ) → work_of_told o row.tune row.ended ≡ work_of_row (record { number = row.number; mux = o; tune = row.tune; ended = row.ended })
    by None = refl
    by (Some mux) = refl

pub front_works : (c : Config) (v : Kept) (st : State) → StandsFor c v st → Sound v.table → v.stopped ≡ false → (front : ℕ) (state : FrontState)
    → Some state ≡ state_of v.fronts front
    → cond (nat_lt 0 state.streams) (work_of_told state.mux state.tune state.ended) Nothing ≡ work st front
front_works c v st stands sound on front state told =
    let t = state_told v.fronts front state told in
    ap (λ b. cond b (work_of_told state.mux state.tune state.ended) Nothing) (t.streams ∙ serves_same c v st stands sound front)
    ∙ ap (λ m. cond (list_any (λ (u : Stream). true) (served_by st front)) (work_of_told m state.tune state.ended) Nothing) t.mux
    ∙ ap (λ n. cond (list_any (λ (u : Stream). true) (served_by st front)) (work_of_told t.row.mux n state.ended) Nothing) t.tune
    ∙ ap (λ b. cond (list_any (λ (u : Stream). true) (served_by st front)) (work_of_told t.row.mux t.row.tune b) Nothing) t.ended
    ∙ ap (λ w. cond (list_any (λ (u : Stream). true) (served_by st front)) w Nothing) (told_work t.row)
    ∙ works_on st front (sym stands.stopped ∙ on) (Some (row_in t.row)) (row_same c v st stands front ∙ ap (option_map row_in) t.found)

-- the end of a recording
current_same : (c : Config) (v : Kept) (st : State) → StandsFor c v st → Sound v.table → (front tune : ℕ)
    → is_current_at v.fronts front tune ≡ is_current st front tune
current_same c v st stands sound front tune =
    ap (λ b. b && has_tune tune (find (is_row front) v.fronts.rows)) (serves_same c v st stands sound front)
    ∙ turned (list_any (λ (u : Stream). true) (served_by st front)) (has_tune tune (find (is_row front) v.fronts.rows))
    ∙ ap (λ b. b && list_any (λ (u : Stream). true) (served_by st front)) (tuned (find (is_row front) v.fronts.rows)
    ∙ ap (λ o. option_map_or (λ (r : Row). r.tune == tune) o false) (sym (row_same c v st stands front)))
  where
    turned : (a b : Bool) → (a && b) ≡ (b && a)
    turned true true = refl
    turned true false = refl
    turned false true = refl
    turned false false = refl

    tuned : (o : Option FrontRow) → has_tune tune o ≡ option_map_or (λ (r : Row). r.tune == tune) (option_map row_in o) false
    tuned None = refl
    tuned (Some row) = ap (λ n. n == tune) (sym (row_tune row).0)

ended_row : (front : ℕ) (row : FrontRow) → row_in (ended_at front row) ≡ cond (true && (row_in row).number == front) (record (row_in row) { ended = true })
    (row_in row)
unfolding ended_at row_in
ended_row front row = by (row.number == front)
  where
    by : (b : Bool) → row_in (cond b (record row { ended = true }) row) ≡ cond (true && b) (record (row_in row) { ended = true }) (row_in row)
    by true = refl
    by false = refl

ended_rows : (front : ℕ) (rows : List FrontRow)
    → map row_in (map (ended_at front) rows) ≡ change_where (λ (r : Row). true && r.number == front) (λ r. record r { ended = true }) (map row_in rows)
ended_rows front [] = refl
ended_rows front (row ∷ rows) = ap (λ (r : Row). r ∷ map row_in (map (ended_at front) rows)) (ended_row front row)
    ∙ ap (λ rs. cond (true && (row_in row).number == front) (record (row_in row) { ended = true }) (row_in row) ∷ rs) (ended_rows front rows)

abbrev pub rows_ended : Bool → ℕ → List Row → List Row
rows_ended ending front rows = change_where (λ (r : Row). ending && r.number == front) (λ r. record r { ended = true }) rows

rows_stay : (front : ℕ) (rows : List Row) → rows ≡ rows_ended false front rows
rows_stay front [] = refl
rows_stay front (r ∷ rows) = ap (λ rs. r ∷ rs) (rows_stay front rows)

stands_fronts : (c : Config) (v : Kept) (st : State) → StandsFor c v st → (fronts : FrontEnds) (rows : List Row) → fronts.fronts ≡ v.fronts.fronts
    → fronts.muxes ≡ v.fronts.muxes → fronts.places ≡ v.fronts.places
    → map row_in fronts.rows ≡ rows → StandsFor c (record v { fronts = fronts }) (record st { rows = rows })
stands_fronts c v st stands fronts rows same muxes places row = record {
  seated = stands.seated;
  clock = stands.clock;
  moment = stands.moment;
  stopped = stands.stopped;
  timeout = stands.timeout;
  made = stands.made;
  seats = stands.seats;
  sessions = stands.sessions;
  each_session = stands.each_session;
  streams = stands.streams;
  numbers = stands.numbers;
  dues = stands.dues;
  front_ends = same ∙ stands.front_ends;
  muxes = muxes ∙ stands.muxes;
  rows = row;
  places = λ n. ap (λ ps. front_of ps n) places ∙ stands.places n;
  flow = stands.flow;
}

ended_fields : (v : FrontEnds) (front : ℕ) → ((ended v front).fronts ≡ v.fronts) × ((ended v front).muxes ≡ v.muxes) × ((ended v front).places ≡ v.places)
    × ((ended v front).rows ≡ map (ended_at front) v.rows)
unfolding ended
ended_fields v front = (refl, refl, refl, refl)

pub stands_recording : (c : Config) (v : Kept) (st : State) → StandsFor c v st → Sound v.table → (front tune : ℕ) (current : Bool) (fronts : FrontEnds)
    → current ≡ is_current_at v.fronts front tune
    → fronts ≡ cond current (ended v.fronts front) v.fronts → StandsFor c (record v { fronts = fronts }) (on_ended front tune st).state
stands_recording c v st stands sound front tune current fronts is new =
    by current (is ∙ current_same c v st stands sound front tune) new
  where
    by : (b : Bool) → b ≡ is_current st front tune → fronts ≡ cond b (ended v.fronts front) v.fronts
        → StandsFor c (record v { fronts = fronts }) (record st { rows = rows_ended (is_current st front tune) front st.rows })
    by true e same =
        let fields = ended_fields v.fronts front in
        stands_fronts c v st stands fronts (rows_ended (is_current st front tune) front st.rows)
        (ap (λ (f : FrontEnds). f.fronts) same ∙ fields.0) (ap (λ (f : FrontEnds). f.muxes) same ∙ fields.1) (ap (λ (f : FrontEnds). f.places) same ∙ fields.2)
        (ap (λ (f : FrontEnds). map row_in f.rows) same ∙ ap (map row_in) fields.3 ∙ ended_rows front v.fronts.rows
        ∙ ap (rows_ended true front) stands.rows ∙ ap (λ b. rows_ended b front st.rows) e)
    by false e same =
        stands_fronts c v st stands fronts (rows_ended (is_current st front tune) front st.rows)
        (ap (λ (f : FrontEnds). f.fronts) same) (ap (λ (f : FrontEnds). f.muxes) same) (ap (λ (f : FrontEnds). f.places) same)
        (ap (λ (f : FrontEnds). map row_in f.rows) same ∙ stands.rows ∙ rows_stay front st.rows ∙ ap (λ b. rows_ended b front st.rows) e)
