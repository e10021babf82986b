-- The parts go on to stand for the plain state where one stream is changed.
use Rattle.std.proofs.Common.{◌≡◌, ◌∙◌, ℕ, ◌≤◌, ◌==◌, ◌||◌, Bool, true, false, cond, List, [], ◌∷◌, Option, None, Some, map, find, refl, ap, sym, subst}
use Rattle.std.specs.List.{list_any}
use Rattle.std.specs.Option.{option_map, option_and_then}
use Rattle.satip_base.specs.Lists.{Each}
use Rattle.satip_tune.specs.declared.tunings.Tuning.{Tuning}
use Rattle.satip_pids.specs.Pids.{Pids}
use Rattle.satip_table.specs.declared.stream.Stream.{Stream as StreamRow}
use Rattle.satip_table.specs.Streams.{has_number, with_stream}
use Rattle.satip_table.specs.Living.{Living, Sound}
use Rattle.satip_fronts.specs.FrontEnds.{FrontEnds, front_of}
use Rattle.satip_flow.specs.Subscription.{Subscription, changed}
use Rattle.satip_plain.specs.Types.{Config}
use Rattle.satip_plain.specs.State.{Row, State, Stream, change_where, stream_of}
use Rattle.satip_plain.specs.Streams.{change_stream}
use Rattle.satip_state.specs.Kept.{Kept}
use Rattle.satip_state.specs.Seated.{subscribers}
use Rattle.satip_state.specs.Standing.{StandsFor, row_in, stream_in}
use Rattle.satip_state.proofs.RequestLists.{find-map, none_some}
use Rattle.satip_state.proofs.RequestFlow.{Rise}
use Rattle.satip_state.proofs.RequestStreams.{change_none, change_sets, changed_subscribers, rise_in, rows_changed, set_stream}
use Rattle.satip_state.proofs.RequestPlay.{stream_is}

numbers_changed : (number : ℕ) (tuning : Option Tuning) (front : Option ℕ) (pids : Pids) (streams : List Stream) → Each (λ t. t.number ≤ 64) streams
    → Each (λ t. t.number ≤ 64) (change_where (λ t. t.number == number) (set_stream tuning front pids) streams)
numbers_changed number tuning front pids [] all = tt
numbers_changed number tuning front pids (t ∷ ts) all = (by (t.number == number), numbers_changed number tuning front pids ts all.1)
  where
    by : (b : Bool) → (cond b (set_stream tuning front pids t) t).number ≤ 64
    by true = all.0
    by false = all.0

-- a stream's fields are set, and its front end is where it is now
pub stream_changed : (c : Config) (v : Kept) (st : State) (s : StandsFor c v st) (number : ℕ) (tuning : Option Tuning) (front : Option ℕ) (pids : Pids)
    (table : Living) (fronts : FrontEnds) (flow : List Subscription) (streams : List Stream) (rows : List Row)
    → streams ≡ change_where (λ t. t.number == number) (set_stream tuning front pids) st.streams
    → table ≡ record v.table { streams = with_stream number tuning front pids v.table.streams } → flow ≡ map (changed number front pids) v.flow
    → fronts.fronts ≡ v.fronts.fronts → fronts.muxes ≡ v.fronts.muxes → map row_in fronts.rows ≡ rows
    → ((n : ℕ) → front_of fronts.places n ≡ option_and_then (λ (t : Stream). t.front) (find (λ (t : Stream). t.number == n) streams))
    → StandsFor c (record v { table = table; fronts = fronts; flow = flow }) (record st { streams = streams; rows = rows })
stream_changed c v st s number tuning front pids table fronts flow streams rows new is subscribed same_fronts same_muxes same_rows places = record {
  seated = s.seated;
  clock = s.clock;
  moment = s.moment;
  stopped = s.stopped;
  timeout = s.timeout;
  made = ap (λ (t : Living). t.made) is ∙ s.made;
  seats = ap (λ (t : Living). t.seats) is ∙ s.seats;
  sessions = s.sessions;
  each_session = s.each_session;
  streams = ap (λ (t : Living). map stream_in t.streams) is ∙ rows_changed number tuning front pids v.table.streams
      ∙ ap (change_where (λ t. t.number == number) (set_stream tuning front pids)) s.streams ∙ sym new;
  numbers = subst (Each (λ (t : Stream). t.number ≤ 64)) (sym new) (numbers_changed number tuning front pids st.streams s.numbers);
  dues = s.dues;
  front_ends = same_fronts ∙ s.front_ends;
  muxes = same_muxes ∙ s.muxes;
  rows = same_rows;
  places = places;
  flow = subscribed ∙ ap (map (changed number front pids)) s.flow ∙ sym (changed_subscribers number tuning front pids s.seated st.streams)
      ∙ ap (subscribers s.seated) (sym new);
}

pub rise_of : (c : Config) (v : Kept) (st : State) → StandsFor c v st → Sound v.table → Rise 0 st.streams
rise_of c v st s sound = subst (Rise 0) s.streams (rise_in 0 v.table.streams sound.numbers)

-- PIDs

pids_front : (number n : ℕ) (pids : Pids) (streams : List Stream) → option_and_then (λ (t : Stream). t.front) (find (λ (t : Stream). t.number == n) streams)
    ≡ option_and_then (λ (t : Stream). t.front)
    (find (λ (t : Stream). t.number == n) (change_where (λ t. t.number == number) (λ t. record t { pids = pids }) streams))
pids_front number n pids streams = both (find (λ (t : Stream). t.number == n) streams) ∙ ap (option_and_then (λ (t : Stream). t.front)) (sym found)
  where
    new : Stream → Stream
    new t = cond (t.number == number) (record t { pids = pids }) t

    same : (t : Stream) (b : Bool) → (t.number == n) ≡ ((cond b (record t { pids = pids }) t).number == n)
    same t true = refl
    same t false = refl

    front : (t : Stream) (b : Bool) → t.front ≡ (cond b (record t { pids = pids }) t).front
    front t true = refl
    front t false = refl

    both : (o : Option Stream) → option_and_then (λ (t : Stream). t.front) o ≡ option_and_then (λ (t : Stream). t.front) (option_map new o)
    both None = refl
    both (Some t) = front t (t.number == number)

    found : find (λ (t : Stream). t.number == n) (map new streams) ≡ option_map new (find (λ (t : Stream). t.number == n) streams)
    found = find-map (λ (t : Stream). t.number == n) new streams ∙ ap (λ p. option_map new (find p streams)) (λ i t. sym (same t (t.number == number)) i)

pub pids_stand : (c : Config) (v : Kept) (st : State) (s : StandsFor c v st) (number : ℕ) (row : StreamRow) (pids : Pids) (table : Living)
    (flow : List Subscription) → Sound v.table → find (has_number number) v.table.streams ≡ Some row
    → table ≡ record v.table { streams = with_stream number row.tuning row.front pids v.table.streams } → flow ≡ map (changed number row.front pids) v.flow
    → StandsFor c (record v { table = table; flow = flow }) (change_stream number (λ t. record t { pids = pids }) st)
unfolding stream_in
pids_stand c v st s number row pids table flow sound found is subscribed =
    let at : stream_of st number ≡ Some (stream_in row) = stream_is c v st s number ∙ ap (option_map stream_in) found in
    stream_changed c v st s number row.tuning row.front pids table v.fronts flow
    (change_where (λ t. t.number == number) (λ t. record t { pids = pids }) st.streams) st.rows
    (change_sets number 0 (λ t. record t { pids = pids }) (stream_in row) row.tuning row.front pids st.streams (rise_of c v st s sound) at refl)
    is subscribed refl refl s.rows (λ n. s.places n ∙ pids_front number n pids st.streams)

-- where the stream doesn't live nothing changes
pub stream_unchanged : (c : Config) (o v : Kept) (st : State) (s : StandsFor c v st) (number : ℕ) (f : Stream → Stream) → o ≡ v
    → find (has_number number) o.table.streams ≡ None → StandsFor c v (change_stream number f st)
stream_unchanged c o v st s number f same gone =
    let none : stream_of st number ≡ None = stream_is c v st s number
    ∙ ap (λ (k : Kept). option_map stream_in (find (has_number number) k.table.streams)) (sym same) ∙ ap (option_map stream_in) gone in
    let streams : change_where (λ (t : Stream). t.number == number) f st.streams ≡ st.streams =
    change_none number f st.streams (no_stream number st.streams none) in
    subst (λ ts. StandsFor c v (record st { streams = ts })) (sym streams) s
  where
    no_stream : (number : ℕ) (ts : List Stream) → find (λ (t : Stream). t.number == number) ts ≡ None → list_any (λ (t : Stream). t.number == number) ts ≡ false
    no_stream number [] none = refl
    no_stream number (t ∷ ts) none = by (t.number == number) none (no_stream number ts)
      where
        by : (b : Bool) → cond b (Some t) (find (λ (x : Stream). x.number == number) ts) ≡ None
            → (find (λ (x : Stream). x.number == number) ts ≡ None → list_any (λ (x : Stream). x.number == number) ts ≡ false)
            → (b || list_any (λ (x : Stream). x.number == number) ts) ≡ false
        by true none rest = absurd (none_some t (sym none))
        by false none rest = rest none
