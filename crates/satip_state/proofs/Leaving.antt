-- A session leaves the parts.
use Rattle.std.proofs.Common.{◌≡◌, inl, inr, ◌++◌, ℕ, ◌==◌, ◌<◌, ◌≤◌, Bool, true, false, List, map, filter, find, set, is_some, Option, Some, None, refl, sym}
use Rattle.std.proofs.Common.{ap, subst, ◌∙◌, arith}
use Rattle.std.specs.List.{list_any, slice_get}
use Rattle.std.proofs.lemmas.Bool.{eqb-true, cases_Bool}
use Rattle.satip_plain.proofs.SameIds.{same_id_is}
use Rattle.satip_base.specs.Output.{Output}
use Rattle.satip_base.specs.declared.identity.SessionId.{SessionId}
use Rattle.satip_rtp.specs.Sending.{SendsAll}
use Rattle.satip_base.proofs.Elements.{each_at}
use Rattle.satip_table.specs.declared.session.Seat.{Seat}
use Rattle.satip_table.specs.Sessions.{has_id_of, without}
use Rattle.satip_table.specs.Streams.{is_live, kept_streams}
use Rattle.satip_table.specs.Living.{Sound}
use Rattle.satip_table.proofs.Listing.{find_any}
use Rattle.satip_fronts.specs.FrontEnds.{FrontEnds, Sound as FrontsSound, left, settled}
use Rattle.satip_flow.specs.Subscription.{Subscription, flushed}
use Rattle.satip_flow.specs.Subscriptions.{change_slot, feed_of_slot, flushed_datagrams}
use Rattle.satip_flow.specs.Subscriptions.{without as without_slot}
use Rattle.satip_flow.proofs.Sends.{nothing_sent}
use Rattle.satip_plain.specs.Types.{Config}
use Rattle.satip_plain.specs.State.{Stream, State}
use Rattle.satip_plain.specs.Sending.{Move}
use Rattle.satip_plain.specs.Streams.{sweep}
use Rattle.satip_plain.specs.Steps.{end_where, is_session}
use Rattle.satip_plain.specs.Histories.{datagram}
use Rattle.satip_state.specs.Kept.{Kept}
use Rattle.satip_state.specs.Ending.{Removed}
use Rattle.satip_state.specs.Seated.{Seated, seat_of, row_of}
use Rattle.satip_state.specs.Standing.{StandsFor, Moved, IsKept, stream_in}
use Rattle.satip_state.proofs.Picking.{any-map, find_place, get_has}
use Rattle.satip_state.proofs.Apart.{Alone, AloneAt, alone_at, has_session}
use Rattle.satip_state.proofs.Mapped.{sessions_of, seated_kept, stands_apart, stream_lives, all_kept, lives_in}
use Rattle.satip_state.proofs.Flushes.{seated_at}
use Rattle.satip_state.proofs.Swept.{rising_at}
use Rattle.satip_state.proofs.Ended.{lasting, rising, stands_ended, ending_sends, end_is, kept_in, places_stay, places_left, others_seats, nobody_ends}
use Rattle.satip_state.proofs.Ended.{without_changed}

-- an id lives in the table where it does in the plain state
row_has : (id : SessionId) (xs : List Seated) → list_any (has_id_of id) (map seat_of xs) ≡ list_any (has_session id) xs
unfolding row_of
row_has id xs = any-map seat_of (has_id_of id) xs

pub lives_same : (c : Config) (v : Kept) (st : State) → StandsFor c v st → (id : SessionId)
    → list_any (has_id_of id) v.table.seats ≡ list_any (is_session id) st.sessions
lives_same c v st stands id =
    ap (list_any (has_id_of id)) stands.seats
    ∙ row_has id stands.seated
    ∙ sym (any-map (λ (y : Seated). y.session) (is_session id) stands.seated)
    ∙ ap (list_any (is_session id)) (sym stands.sessions)

pub found_lives : (c : Config) (v : Kept) (st : State) → StandsFor c v st → (id : SessionId) (o : Option Seat) → o ≡ find (has_id_of id) v.table.seats
    → is_some o ≡ list_any (is_session id) st.sessions
found_lives c v st stands id o found = ap is_some found ∙ find_any (has_id_of id) v.table.seats ∙ lives_same c v st stands id

-- what goes with a session at a place
pub record Gone (x : Seated) (v w : Kept) : Type 0 where
  pub clock : w.clock ≡ v.clock
  pub stopped : w.stopped ≡ v.stopped
  pub timeout : w.timeout ≡ v.timeout
  pub seats : w.table.seats ≡ without x.session.id v.table.seats
  pub streams : w.table.streams ≡ kept_streams w.table.seats v.table.streams
  pub made : w.table.made ≡ v.table.made
  pub dues : w.dues ≡ set v.dues x.slot None
  pub flow : w.flow ≡ without_slot x.slot v.flow
  pub fronts_stay : is_live w.table.streams x.session.stream ≡ true → w.fronts ≡ v.fronts
  pub fronts_left : is_live w.table.streams x.session.stream ≡ false → 1 ≤ x.session.stream → x.session.stream ≤ 64 → w.fronts ≡ left v.fronts x.session.stream

abbrev pub kept_of : Kept → ℕ → Bool → ℕ → FrontEnds → Kept
kept_of w clock stopped timeout fronts = record {
  clock = clock;
  stopped = stopped;
  timeout = timeout;
  table = w.table;
  dues = w.dues;
  fronts = fronts;
  flow =
      w.flow;
}

kept_is : (x : Seated) (v w : Kept) (fronts : FrontEnds) → Gone x v w → w.fronts ≡ fronts
    → w ≡ record v { table = w.table; dues = w.dues; flow = w.flow; fronts = fronts }
kept_is x v w fronts gone same =
    ap (λ n. kept_of w n w.stopped w.timeout w.fronts) gone.clock
    ∙ ap (λ b. kept_of w v.clock b w.timeout w.fronts) gone.stopped
    ∙ ap (λ n. kept_of w v.clock v.stopped n w.fronts) gone.timeout
    ∙ ap (λ f. kept_of w v.clock v.stopped v.timeout f) same

-- the parts once the session is gone, with the front ends as its stream left them
pub session_gone : (c : Config) (v w : Kept) (st : State) (stands : StandsFor c v st) → Sound v.table → FrontsSound v.fronts
    → (place : ℕ) (x : Seated) → slice_get stands.seated place ≡ Some x → Gone x v w
    → StandsFor c w (end_where (is_session x.session.id) st).state
unfolding left settled
session_gone c v w st stands sound fronts place x got gone =
    let at : AloneAt stands.seated place x = alone_at stands.seated place x (stands_apart c v st stands sound) got in
    let alone : Alone stands.seated x = at.alone in
    let others : List Seated = alone.before ++ alone.behind in
    let lives = stream_lives c v st stands sound place x got in
    let where_it_is = find_place (λ (u : Stream). u.number == x.session.stream) st.streams lives.0 lives.1 in
    let number : lives.0.number ≡ x.session.stream = eqb-true lives.0.number x.session.stream where_it_is.2 in
    let high : x.session.stream ≤ 64 =
    subst (λ m. m ≤ 64) number (each_at (λ (t : Stream). t.number ≤ 64) st.streams lives.0 stands.numbers
    (get_has st.streams where_it_is.0 lives.0 where_it_is.1)) in
    let above : 0 < lives.0.number = rising_at 0 st.streams where_it_is.0 lives.0 (rising c v st stands sound) where_it_is.1 in
    let low : 1 ≤ x.session.stream = omega (arith, above, number) in
    let end_state : State = sweep (record st { sessions = sessions_of others }) in
    let kept_ones : List Stream = filter (lasting (sessions_of others)) st.streams in
    let seats_are : w.table.seats ≡ map seat_of others = gone.seats ∙ ap (without x.session.id) stands.seats ∙ others_seats stands.seated x alone in
    let streams_are : map stream_in w.table.streams ≡ kept_ones =
    ap (map stream_in) (gone.streams ∙ ap (λ ss. kept_streams ss v.table.streams) seats_are)
    ∙ kept_in others v.table.streams ∙ ap (filter (lasting (sessions_of others))) stands.streams in
    let after : list_any (λ (t : Stream). t.number == x.session.stream) kept_ones ≡ is_live w.table.streams x.session.stream =
    ap (list_any (λ (t : Stream). t.number == x.session.stream)) (sym streams_are) ∙ lives_in w.table.streams x.session.stream in
    let standing : StandsFor c w end_state = elim (cases_Bool (is_live w.table.streams x.session.stream)) [
      | inl e ↦ subst (λ (u : Kept). StandsFor c u end_state) (sym (kept_is x v w v.fronts gone (gone.fronts_stay e)))
          (stands_ended c v st stands sound x alone w.table gone.seats gone.streams gone.made w.dues gone.dues w.flow gone.flow v.fronts refl refl
          (sym fronts.free)
          (places_stay c v st stands sound x alone (after ∙ e)))
      | inr e ↦ subst (λ (u : Kept). StandsFor c u end_state) (sym (kept_is x v w (left v.fronts x.session.stream) gone (gone.fronts_left e low high)))
          (stands_ended c v st stands sound x alone w.table gone.seats gone.streams gone.made w.dues gone.dues w.flow gone.flow
          (left v.fronts x.session.stream) refl refl refl
          (places_left c v st stands sound fronts x alone high low (after ∙ e)))
    ] in
    subst (λ (m : Move). StandsFor c w m.state) (sym (end_is st stands.seated x alone stands.sessions)) standing

row_id : (x : Seated) → (seat_of x).session.id ≡ x.session.id
unfolding row_of
row_id x = refl

row_in_stream : (x : Seated) → (seat_of x).session.stream ≡ x.session.stream
unfolding row_of
row_in_stream x = refl

-- whom an id's seat is of
pub record Found (c : Config) (v : Kept) (st : State) (stands : StandsFor c v st) (id : SessionId) (seat : Seat) : Type 0 where
  pub place : ℕ
  pub who : Seated
  pub got : slice_get stands.seated place ≡ Some who
  pub id_is : id ≡ who.session.id
  pub slot_is : seat.slot ≡ who.slot
  pub stream_is : seat.session.stream ≡ who.session.stream
  pub seat_is : seat ≡ seat_of who

pub found : (c : Config) (v : Kept) (st : State) (stands : StandsFor c v st) (id : SessionId) (seat : Seat) → find (has_id_of id) v.table.seats ≡ Some seat
    → Found c v st stands id seat
found c v st stands id seat at =
    let p = find_place (has_id_of id) v.table.seats seat at in
    let r = seated_at c v st stands p.0 seat p.1 in
    let back : seat ≡ seat_of r.0 = sym r.2 in
    record {
      place = p.0;
      who = r.0;
      got = r.1;
      id_is = sym (same_id_is seat.session.id id p.2) ∙ ap (λ (z : Seat). z.session.id) back ∙ row_id r.0;
      slot_is = ap (λ (z : Seat). z.slot) back;
      stream_is = ap (λ (z : Seat). z.session.stream) back ∙ row_in_stream r.0;
      seat_is = back;
    }

gone_of : (id : SessionId) (seat : Seat) (v w : Kept) (x : Seated) → id ≡ x.session.id → seat.slot ≡ x.slot → seat.session.stream ≡ x.session.stream
    → Removed id seat v w → Gone x v w
gone_of id seat v w x id_is slot_is stream_is r = record {
  clock = r.clock;
  stopped = r.stopped;
  timeout = r.timeout;
  seats = r.seats ∙ ap (λ i. without i v.table.seats) id_is;
  streams = r.streams;
  made = r.made;
  dues = r.dues ∙ ap (λ k. set v.dues k None) slot_is;
  flow = r.flow ∙ ap (λ k. without_slot k v.flow) slot_is;
  fronts_stay = λ e. r.fronts_stay (ap (is_live w.table.streams) stream_is ∙ e);
  fronts_left = λ e low high.
      r.fronts_left (ap (is_live w.table.streams) stream_is ∙ e) (subst (λ m. 1 ≤ m) (sym stream_is) low) (subst (λ m. m ≤ 64) (sym stream_is) high)
      ∙ ap (left v.fronts) stream_is;
}

-- the same told of the seat that the id has
pub seat_gone : (c : Config) (v w : Kept) (st : State) → StandsFor c v st → Sound v.table → FrontsSound v.fronts → (id : SessionId) (seat : Seat)
    → find (has_id_of id) v.table.seats ≡ Some seat
    → Removed id seat v w → StandsFor c w (end_where (is_session id) st).state
seat_gone c v w st stands sound fronts id seat at removed =
    let f = found c v st stands id seat at in
    subst (λ i. StandsFor c w (end_where (is_session i) st).state) (sym f.id_is)
    (session_gone c v w st stands sound fronts f.place f.who f.got (gone_of id seat v w f.who f.id_is f.slot_is f.stream_is removed))

-- and what left before it was gone
seat_sends : (c : Config) (v : Kept) (st : State) → StandsFor c v st → Sound v.table → (id : SessionId) (seat : Seat)
    → find (has_id_of id) v.table.seats ≡ Some seat
    → flushed_datagrams v.clock (feed_of_slot seat.slot v.flow) ≡ map datagram (end_where (is_session id) st).sent
seat_sends c v st stands sound id seat at =
    let f = found c v st stands id seat at in
    let x : Seated = f.who in
    let alone : AloneAt stands.seated f.place x = alone_at stands.seated f.place x (stands_apart c v st stands sound) f.got in
    let kept : IsKept x.session = seated_kept stands.seated x (all_kept c v st stands) (get_has stands.seated f.place x f.got) in
    let lives = stream_lives c v st stands sound f.place x f.got in
    ap (λ k. flushed_datagrams v.clock (feed_of_slot k v.flow)) f.slot_is
    ∙ ap (λ clock. flushed_datagrams clock (feed_of_slot x.slot v.flow)) stands.clock
    ∙ ending_sends st.clock v stands.seated x st.streams lives.0 alone.alone stands.flow lives.1 kept
    ∙ sym (ap (λ (m : Move). map datagram m.sent) (ap (λ i. end_where (is_session i) st) f.id_is ∙ end_is st stands.seated x alone.alone stands.sessions))

-- a flush before changes nothing of what is left
flush_before : (id : SessionId) (seat : Seat) (v w : Kept) → Removed id seat (record v { flow = change_slot seat.slot flushed v.flow }) w → Removed id seat v w
flush_before id seat v w r = record {
  clock = r.clock;
  stopped = r.stopped;
  timeout = r.timeout;
  seats = r.seats;
  streams = r.streams;
  made = r.made;
  dues = r.dues;
  flow = r.flow ∙ without_changed seat.slot flushed (λ s. refl) v.flow;
  fronts_stay = r.fronts_stay;
  fronts_left = r.fronts_left;
}

pub seat_left : (c : Config) (v w : Kept) (o n : Output) (st : State) → StandsFor c v st → Sound v.table → FrontsSound v.fronts → (id : SessionId) (seat : Seat)
    → find (has_id_of id) v.table.seats ≡ Some seat → (flow : List Subscription) → flow ≡ change_slot seat.slot flushed v.flow
    → Removed id seat (record v { flow = flow }) w
    → SendsAll o (flushed_datagrams v.clock (feed_of_slot seat.slot v.flow)) n → Moved c w o n (end_where (is_session id) st)
seat_left c v w o n st stands sound fronts id seat at flow same removed sends = record {
  stands = seat_gone c v w st stands sound fronts id seat at
      (flush_before id seat v w (subst (λ (f : List Subscription). Removed id seat (record v { flow = f }) w) same removed));
  sent = subst (λ ds. SendsAll o ds n) (seat_sends c v st stands sound id seat at) sends;
}

pub nobody_left : (c : Config) (v : Kept) (o : Output) (st : State) → StandsFor c v st → Sound v.table → FrontsSound v.fronts → (id : SessionId)
    → list_any (is_session id) st.sessions ≡ false → Moved c v o o (end_where (is_session id) st)
nobody_left c v o st stands sound fronts id none =
    subst (λ (m : Move). Moved c v o o m) (sym (nobody_ends c v st stands sound fronts (is_session id) none))
    (record { stands = stands; sent = nothing_sent o })

pub nobody_gone : (c : Config) (v : Kept) (st : State) → StandsFor c v st → Sound v.table → FrontsSound v.fronts → (id : SessionId)
    → list_any (is_session id) st.sessions ≡ false → StandsFor c v (end_where (is_session id) st).state
nobody_gone c v st stands sound fronts id none =
    subst (λ (m : Move). StandsFor c v m.state) (sym (nobody_ends c v st stands sound fronts (is_session id) none)) stands
