-- What the parts stand for as sessions change whose rows stay.
use Rattle.std.proofs.Common.{◌≡◌, ℕ, ◌+◌, ◌*◌, ◌==◌, Bool, true, false, cond, List, [], ◌∷◌, map, find, Some, refl, sym, ap, subst, ◌∙◌}
use Rattle.std.specs.List.{list_any, slice_get}
use Rattle.std.specs.Option.{option_map}
use Rattle.satip_base.specs.Lists.{Each, Has}
use Rattle.satip_base.proofs.Elements.{each_at}
use Rattle.satip_table.specs.declared.session.Session.{Session as Row}
use Rattle.satip_table.specs.declared.stream.Stream.{Stream as StreamRow}
use Rattle.satip_table.specs.Streams.{is_live}
use Rattle.satip_table.specs.Living.{Sound, SlotsApart, CountsRise}
use Rattle.satip_flow.specs.Subscription.{Subscription}
use Rattle.satip_plain.specs.Types.{Config}
use Rattle.satip_plain.specs.State.{Session, Stream, State, stream_of}
use Rattle.satip_state.specs.Kept.{Kept}
use Rattle.satip_state.specs.Seated.{Seated, seat_of, row_of, is_seat, due_of, end_of, subscribers}
use Rattle.satip_state.specs.Standing.{StandsFor, IsKept, stream_in}
use Rattle.satip_state.proofs.Picking.{any-map, all_get, find_some, get-map}
use Rattle.satip_state.proofs.Apart.{Apart, apart_of, seat_with}

abbrev pub sessions_of : List Seated → List Session
sessions_of xs = map (λ x. x.session) xs

seats_same : (f : Seated → Seated) → ((x : Seated) → (f x).slot ≡ x.slot) → ((x : Seated) → row_of (f x).session ≡ row_of x.session) → (xs : List Seated)
    → map seat_of (map f xs) ≡ map seat_of xs
seats_same f slot row [] = refl
seats_same f slot row (x ∷ xs) =
    ap (λ n. seat_with n (row_of (f x).session) ∷ map seat_of (map f xs)) (slot x)
    ∙ ap (λ (r : Row). seat_with x.slot r ∷ map seat_of (map f xs)) (row x)
    ∙ ap (λ ys. seat_of x ∷ ys) (seats_same f slot row xs)

pub heard_same : (s t : Session) → row_of t ≡ row_of s → t.heard ≡ s.heard
unfolding row_of
heard_same s t row = ap (λ (r : Row). r.heard) row

pub stream_same : (s t : Session) → row_of t ≡ row_of s → t.stream ≡ s.stream
unfolding row_of
stream_same s t row = ap (λ (r : Row). r.stream) row

due_same : (timeout : ℕ) (f : Seated → Seated) → ((x : Seated) → (f x).slot ≡ x.slot) → ((x : Seated) → row_of (f x).session ≡ row_of x.session)
    → (xs : List Seated) (n : ℕ)
    → due_of timeout (map f xs) n ≡ due_of timeout xs n
due_same timeout f slot row [] n = refl
due_same timeout f slot row (x ∷ xs) n =
    ap (λ m. option_map (end_of timeout) (cond (m == n) (Some (f x)) (find (is_seat n) (map f xs)))) (slot x)
    ∙ by (x.slot == n) (due_same timeout f slot row xs n)
  where
    by : (b : Bool) → due_of timeout (map f xs) n ≡ due_of timeout xs n
        → option_map (end_of timeout) (cond b (Some (f x)) (find (is_seat n) (map f xs))) ≡ option_map (end_of timeout) (cond b (Some x) (find (is_seat n) xs))
    by true rest = ap (λ h. Some (h + timeout * 1000)) (heard_same x.session (f x).session (row x))
    by false rest = rest

-- each session is changed, and keeps its slot and its row
pub stands_mapped : (c : Config) (v : Kept) (st : State) (stands : StandsFor c v st) (f : Seated → Seated)
    → ((x : Seated) → (f x).slot ≡ x.slot) → ((x : Seated) → row_of (f x).session ≡ row_of x.session)
    → Each IsKept (sessions_of (map f stands.seated))
    → (flow : List Subscription) → flow ≡ subscribers (map f stands.seated) st.streams
    → StandsFor c (record v { flow = flow }) (record st { sessions = sessions_of (map f stands.seated) })
stands_mapped c v st stands f slot row kept flow listed = record {
  seated = map f stands.seated;
  clock = stands.clock;
  moment = stands.moment;
  stopped = stands.stopped;
  timeout = stands.timeout;
  made = stands.made;
  seats = stands.seats ∙ sym (seats_same f slot row stands.seated);
  sessions = refl;
  each_session = kept;
  streams = stands.streams;
  numbers = stands.numbers;
  dues = λ n below. stands.dues n below ∙ ap Some (sym (due_same v.timeout f slot row stands.seated n));
  front_ends = stands.front_ends;
  muxes = stands.muxes;
  rows = stands.rows;
  places = stands.places;
  flow = listed;
}

-- what holds of each goes on to hold
pub each_mapped : (f : Seated → Seated) (xs : List Seated) → ((x : Seated) → IsKept x.session → IsKept (f x).session) → Each IsKept (sessions_of xs)
    → Each IsKept (sessions_of (map f xs))
each_mapped f [] keeps each = tt
each_mapped f (x ∷ xs) keeps each = (keeps x each.0, each_mapped f xs keeps each.1)

pub seated_kept : (xs : List Seated) (x : Seated) → Each IsKept (sessions_of xs) → Has x xs → IsKept x.session
seated_kept xs x each has = each_at (λ y. IsKept y.session) xs x (pulled xs each) has
  where
    pulled : (ys : List Seated) → Each IsKept (sessions_of ys) → Each (λ y. IsKept y.session) ys
    pulled [] each = tt
    pulled (y ∷ ys) each = (each.0, pulled ys each.1)

-- the seated have slots and ids of their own
pub stands_apart : (c : Config) (v : Kept) (st : State) (stands : StandsFor c v st) → Sound v.table → Apart stands.seated
stands_apart c v st stands sound =
    apart_of 0 v.table.made stands.seated (subst SlotsApart stands.seats sound.slots) (subst (CountsRise 0 v.table.made) stands.seats sound.counts)

-- each session's stream lives
pub lives_in : (rows : List StreamRow) (number : ℕ) → list_any (λ (t : Stream). t.number == number) (map stream_in rows) ≡ is_live rows number
unfolding stream_in
lives_in rows number = any-map stream_in (λ (t : Stream). t.number == number) rows

row_stream : (s : Session) → (row_of s).stream ≡ s.stream
unfolding row_of
row_stream s = refl

pub stream_lives : (c : Config) (v : Kept) (st : State) (stands : StandsFor c v st) → Sound v.table → (place : ℕ) (x : Seated)
    → slice_get stands.seated place ≡ Some x
    → (t : Stream) × (stream_of st x.session.stream ≡ Some t)
stream_lives c v st stands sound place x got =
    let at : slice_get v.table.seats place ≡ Some (seat_of x) = ap (λ seats. slice_get seats place) stands.seats ∙ get-map seat_of stands.seated place
    ∙ ap (option_map seat_of) got in
    let live : is_live v.table.streams x.session.stream ≡ true =
    ap (is_live v.table.streams) (sym (row_stream x.session))
    ∙ all_get (λ seat. is_live v.table.streams seat.session.stream) v.table.seats place (seat_of x) sound.housed at in
    let any : list_any (λ (t : Stream). t.number == x.session.stream) st.streams ≡ true =
    ap (list_any (λ (t : Stream). t.number == x.session.stream)) (sym stands.streams) ∙ lives_in v.table.streams x.session.stream ∙ live in
    find_some (λ (t : Stream). t.number == x.session.stream) st.streams any

pub all_kept : (c : Config) (v : Kept) (st : State) (stands : StandsFor c v st) → Each IsKept (sessions_of stands.seated)
all_kept c v st stands = subst (Each IsKept) stands.sessions stands.each_session
