-- A stream is shown as the plain server shows it.
use Rattle.std.proofs.Common.{◌≡◌, ℕ, zero, suc, ◌+◌, ◌==◌, ◌&&◌, ◌||◌, Bool, true, false, cond, List, [], ◌∷◌, map, filter, find, drop, Option, Some, None}
use Rattle.std.proofs.Common.{refl, sym, ap, ◌∙◌, arith, unwrap_or, is_some, option_and_then}
use Rattle.std.specs.List.{list_any, slice_get}
use Rattle.std.specs.Option.{option_map}
use Rattle.satip_table.specs.declared.session.Seat.{Seat}
use Rattle.satip_table.specs.declared.session.Session.{Session as SessionRow}
use Rattle.satip_table.specs.declared.stream.Stream.{Stream as StreamRow}
use Rattle.satip_table.specs.Streams.{has_number}
use Rattle.satip_fronts.specs.declared.front_table.FrontRow.{FrontRow}
use Rattle.satip_fronts.specs.FrontEnds.{mux_at}
use Rattle.satip_fronts.specs.Rows.{is_row}
use Rattle.satip_rtcp.specs.declared.views.StreamView.{StreamView}
use Rattle.satip_plain.specs.Types.{Config}
use Rattle.satip_plain.specs.State.{Session, Stream, Row, State, stream_of, row_of}
use Rattle.satip_plain.specs.Steps.{view_of}
use Rattle.satip_state.specs.Kept.{Kept}
use Rattle.satip_state.specs.Seated.{Seated, seat_of, row_of as table_row}
use Rattle.satip_state.specs.Standing.{StandsFor, stream_in, row_in}
use Rattle.satip_state.specs.Views.{kept_view, plays_in}
use Rattle.satip_state.proofs.Picking.{any-map, find-map, get-map, map_some}

-- a list from a place on
pub drop_here : {X : Type 0} (xs : List X) (k : ℕ) (x : X) → slice_get xs k ≡ Some x → drop k xs ≡ x ∷ drop (k + 1) xs
drop_here [] k x got = absurd (cc)
drop_here (y ∷ xs) zero x got = ap (λ z. z ∷ xs) (ap (λ o. unwrap_or o y) got)
drop_here (y ∷ xs) (suc k) x got =
    let count : suc k + 1 ≡ suc (k + 1) = omega arith in
    drop_here xs k x got ∙ ap (λ n. x ∷ drop n (y ∷ xs)) (sym count)

pub drop_nowhere : {X : Type 0} (xs : List X) (k : ℕ) → slice_get xs k ≡ None → drop k xs ≡ []
drop_nowhere [] zero none = refl
drop_nowhere [] (suc k) none = refl
drop_nowhere (y ∷ xs) zero none = absurd (cc)
drop_nowhere (y ∷ xs) (suc k) none = drop_nowhere xs k none

pub plays_none : (number : ℕ) (seats : List Seat) (k : ℕ) → list_any (plays_in number) (drop k seats) ≡ list_any (plays_in number) seats
    → slice_get seats k ≡ None
    → false ≡ list_any (plays_in number) seats
plays_none number seats k so_far none = ap (list_any (plays_in number)) (sym (drop_nowhere seats k none)) ∙ so_far

pub plays_here : (number : ℕ) (seats : List Seat) (k : ℕ) (seat : Seat) → list_any (plays_in number) (drop k seats) ≡ list_any (plays_in number) seats
    → slice_get seats k ≡ Some seat
    → plays_in number seat ≡ true → true ≡ list_any (plays_in number) seats
plays_here number seats k seat so_far got plays =
    ap (λ b. b || list_any (plays_in number) (drop (k + 1) seats)) (sym plays) ∙ ap (list_any (plays_in number)) (sym (drop_here seats k seat got)) ∙ so_far

pub plays_further : (number : ℕ) (seats : List Seat) (k : ℕ) (seat : Seat) → list_any (plays_in number) (drop k seats) ≡ list_any (plays_in number) seats
    → slice_get seats k ≡ Some seat
    → plays_in number seat ≡ false → list_any (plays_in number) (drop (k + 1) seats) ≡ list_any (plays_in number) seats
plays_further number seats k seat so_far got idle =
    ap (λ b. b || list_any (plays_in number) (drop (k + 1) seats)) (sym idle) ∙ ap (list_any (plays_in number)) (sym (drop_here seats k seat got)) ∙ so_far

-- whether one of a stream's sessions plays
pub any-filter : (p q : Session → Bool) (xs : List Session) → list_any q (filter p xs) ≡ list_any (λ x. p x && q x) xs
any-filter p q [] = refl
any-filter p q (x ∷ xs) = by (p x) (any-filter p q xs)
  where
    by : (b : Bool) → list_any q (filter p xs) ≡ list_any (λ y. p y && q y) xs
        → list_any q (cond b (x ∷ filter p xs) (filter p xs)) ≡ ((b && q x) || list_any (λ y. p y && q y) xs)
    by true rest = ap (λ c. q x || c) rest
    by false rest = rest

plays_same : (number : ℕ) (xs : List Seated)
    → list_any (plays_in number) (map seat_of xs) ≡ list_any (λ (s : Session). s.playing)
    (filter (λ (s : Session). s.stream == number) (map (λ (x : Seated). x.session) xs))
unfolding table_row
plays_same number xs =
    any-map seat_of (plays_in number) xs
    ∙ sym (any-map (λ (x : Seated). x.session) (λ s. s.stream == number && s.playing) xs)
    ∙ sym (any-filter (λ s. s.stream == number) (λ s. s.playing) (map (λ (x : Seated). x.session) xs))

-- the multiplex of a front end
mux_same : (rows : List FrontRow) (front : ℕ)
    → mux_at rows front ≡ option_and_then (λ (r : Row). r.mux) (find (λ (r : Row). r.number == front) (map row_in rows))
unfolding mux_at row_in
mux_same rows front = by (find (is_row front) rows) ∙ ap (option_and_then (λ (r : Row). r.mux)) (sym (find-map row_in (λ (r : Row). r.number == front) rows))
  where
    by : (o : Option FrontRow) → option_and_then (λ (r : FrontRow). r.mux) o ≡ option_and_then (λ (r : Row). r.mux) (option_map row_in o)
    by None = refl
    by (Some r) = refl

locked_same : (st : State) (rows : List FrontRow) → map row_in rows ≡ st.rows → (o : Option ℕ)
    → option_and_then (mux_at rows) o ≡ option_and_then (λ (r : Row). r.mux) (option_and_then (row_of st) o)
locked_same st rows same None = refl
locked_same st rows same (Some front) = mux_same rows front ∙ ap (λ rs. option_and_then (λ (r : Row). r.mux) (find (λ (r : Row). r.number == front) rs)) same

pub view_same : (c : Config) (v : Kept) (st : State) → StandsFor c v st → (row : StreamRow) → kept_view v row ≡ view_of st (stream_in row)
unfolding stream_in
view_same c v st stands row =
    let make : Bool → Bool → StreamView = λ locked playing. record {
      number = row.number;
      tuning = row.tuning;
      front = unwrap_or row.front 0;
      locked = locked;
      pids = row.pids;
      playing = playing;
    } in
    ap (λ b. make b (list_any (plays_in row.number) v.table.seats)) (ap is_some (locked_same st v.fronts.rows stands.rows row.front))
    ∙ ap (make (is_some (option_and_then (λ (r : Row). r.mux) (option_and_then (row_of st) row.front))))
    (ap (list_any (plays_in row.number)) stands.seats ∙ plays_same row.number stands.seated
    ∙ ap (λ ss. list_any (λ (s : Session). s.playing) (filter (λ (s : Session). s.stream == row.number) ss)) (sym stands.sessions))

view_map : (c : Config) (v : Kept) (st : State) → StandsFor c v st → (o : Option StreamRow)
    → option_map (kept_view v) o ≡ option_map (view_of st) (option_map stream_in o)
view_map c v st stands None = refl
view_map c v st stands (Some row) = ap Some (view_same c v st stands row)

number_in : (rows : List StreamRow) (number : ℕ)
    → option_map stream_in (find (has_number number) rows) ≡ find (λ (t : Stream). t.number == number) (map stream_in rows)
unfolding stream_in
number_in rows number = sym (find-map stream_in (λ (t : Stream). t.number == number) rows)

pub view_numbered : (c : Config) (v : Kept) (st : State) → StandsFor c v st → (number : ℕ)
    → option_map (kept_view v) (find (has_number number) v.table.streams) ≡ option_map (view_of st) (stream_of st number)
view_numbered c v st stands number =
    view_map c v st stands (find (has_number number) v.table.streams)
    ∙ ap (option_map (view_of st)) (number_in v.table.streams number ∙ ap (find (λ (t : Stream). t.number == number)) stands.streams)

pub view_placed : (c : Config) (v : Kept) (st : State) → StandsFor c v st → (place : ℕ)
    → option_map (kept_view v) (slice_get v.table.streams place) ≡ option_map (view_of st) (slice_get st.streams place)
view_placed c v st stands place =
    view_map c v st stands (slice_get v.table.streams place)
    ∙ ap (option_map (view_of st)) (sym (get-map stream_in v.table.streams place) ∙ ap (λ ts. slice_get ts place) stands.streams)

-- whose session stands at a place
pub seat_there : (seats : List Seat) (k : ℕ) (session : SessionRow) → Some session ≡ option_map (λ (seat : Seat). seat.session) (slice_get seats k)
    → (seat : Seat) × (slice_get seats k ≡ Some seat) × (seat.session ≡ session)
seat_there seats k session told = map_some (λ (seat : Seat). seat.session) (slice_get seats k) session (sym told)
