-- What one session holds leaves.
use Rattle.std.proofs.Common.{◌≡◌, ℕ, ◌==◌, Bool, true, false, not, cond, List, [], ◌∷◌, ◌++◌, map, find, Option, Some, None, refl, sym, ap, subst, ◌∙◌}
use Rattle.std.specs.List.{slice_get, cons_option}
use Rattle.std.specs.Option.{option_map}
use Rattle.std.proofs.lemmas.Bool.{and_parts, not-true}
use Rattle.std.proofs.lemmas.List.{map-append, length-map}
use Rattle.satip_base.specs.Output.{Output}
use Rattle.satip_rtp.specs.Sending.{SendsAll}
use Rattle.satip_table.specs.declared.session.Seat.{Seat}
use Rattle.satip_table.specs.Living.{Sound}
use Rattle.satip_flow.specs.Subscription.{Subscription, has_slot, flushed, flushed_feed}
use Rattle.satip_flow.specs.Subscriptions.{change_slot, feed_of_slot, flushed_datagrams}
use Rattle.satip_flow.proofs.Sends.{nothing_sent}
use Rattle.satip_plain.specs.Types.{Config}
use Rattle.satip_plain.specs.State.{Session, Stream, State}
use Rattle.satip_plain.specs.Sending.{Turn, let_go}
use Rattle.satip_plain.specs.Histories.{datagram}
use Rattle.satip_state.specs.Kept.{Kept}
use Rattle.satip_state.specs.Seated.{Seated, seat_of, row_of, is_seat, feed_of, subscriber, subscribers}
use Rattle.satip_state.specs.Standing.{StandsFor, Moved, IsKept}
use Rattle.satip_state.specs.Turns.{Round, turn_of, after_round, is_flushed, flush_turn}
use Rattle.satip_state.proofs.Picking.{map_one, get_has, get-map, map_some, map_nothing}
use Rattle.satip_state.proofs.Feeds.{cut_off, leave_held, leave_row, leave_kept, leave_feed, feed_sends, idle_sends}
use Rattle.satip_state.proofs.Apart.{Alone, AloneAt, alone_at, slot_itself}
use Rattle.satip_state.proofs.Listed.{listed, listed_same, map_listed, subscriber_is, subscribers_map, subscribers_find}
use Rattle.satip_state.proofs.Mapped.{sessions_of, stands_mapped, each_mapped, seated_kept, stands_apart, stream_lives, stream_same, all_kept}
use Rattle.satip_state.proofs.Rounds.{turn_here, turn_nowhere, turn_idle}

-- what the session of a slot holds leaves
abbrev pub leave_seat : Seated → Seated
leave_seat x = record x { session = leave_held x.session }

abbrev pub leave_slot : ℕ → Seated → Seated
leave_slot slot x = cond (is_seat slot x) (leave_seat x) x

pub leave_slot_slot : (slot : ℕ) (x : Seated) → (leave_slot slot x).slot ≡ x.slot
leave_slot_slot slot x = by (is_seat slot x)
  where
    by : (b : Bool) → (cond b (leave_seat x) x).slot ≡ x.slot
    by true = refl
    by false = refl

pub leave_slot_row : (slot : ℕ) (x : Seated) → row_of (leave_slot slot x).session ≡ row_of x.session
leave_slot_row slot x = by (is_seat slot x)
  where
    by : (b : Bool) → row_of (cond b (leave_seat x) x).session ≡ row_of x.session
    by true = leave_row x.session
    by false = refl

pub leave_slot_kept : (slot : ℕ) (x : Seated) → IsKept x.session → IsKept (leave_slot slot x).session
leave_slot_kept slot x kept = by (is_seat slot x)
  where
    by : (b : Bool) → IsKept (cond b (leave_seat x) x).session
    by true = leave_kept x.session kept
    by false = kept

leave_slot_listed : (slot : ℕ) (t : Stream) (x : Seated) → IsKept x.session
    → option_map (λ s. cond (has_slot slot s) (flushed s) s) (subscriber t x) ≡ subscriber t (leave_slot slot x)
leave_slot_listed slot t x kept = map_listed (λ s. cond (has_slot slot s) (flushed s) s) t x ∙ by (is_seat slot x)
  where
    here : Subscription
    here = listed t x (feed_of x.session)

    by : (b : Bool) → cond x.session.playing (Some (cond b (flushed here) here)) None ≡ subscriber t (cond b (leave_seat x) x)
    by true = listed_same t x (leave_seat x) (flushed_feed (feed_of x.session)) refl (leave_row x.session) (leave_feed x.session kept)
    by false = sym (subscriber_is t x)

pub leave_slot_flow : (c : Config) (v : Kept) (st : State) (stands : StandsFor c v st) (slot : ℕ)
    → change_slot slot flushed v.flow ≡ subscribers (map (leave_slot slot) stands.seated) st.streams
leave_slot_flow c v st stands slot =
    ap (λ ss. change_slot slot flushed ss) stands.flow
    ∙ subscribers_map (λ s. cond (has_slot slot s) (flushed s) s) (leave_slot slot) stands.seated st.streams
    (λ x. stream_same x.session (leave_slot slot x).session (leave_slot_row slot x))
    (λ t here x has e. leave_slot_listed slot t x (seated_kept stands.seated x (all_kept c v st stands) has))

-- the datagrams of a session that is alone with its slot
slot_sends : (clock : ℕ) (t : Stream) (x : Seated) → IsKept x.session → x.session.http ≡ false
    → flushed_datagrams clock (option_map (λ (s : Subscription). s.feed) (subscriber t x)) ≡ map datagram (let_go true clock x.session).sends
slot_sends clock t x kept rtsp =
    ap (λ o. flushed_datagrams clock (option_map (λ (s : Subscription). s.feed) o)) (subscriber_is t x) ∙ by x.session.playing refl
  where
    by : (b : Bool) → x.session.playing ≡ b
        → flushed_datagrams clock (option_map (λ (s : Subscription). s.feed) (cond b (Some (listed t x (feed_of x.session))) None)) ≡ map datagram
        (let_go true clock x.session).sends
    by true e = feed_sends clock x.session kept.within rtsp
    by false e = ap (map datagram) (sym (idle_sends true clock x.session kept e))

pub alone_sends : (clock : ℕ) (v : Kept) (seated : List Seated) (x : Seated) (streams : List Stream) (t : Stream) (alone : Alone seated x)
    → v.flow ≡ subscribers seated streams → find (λ u. u.number == x.session.stream) streams ≡ Some t → IsKept x.session → x.session.http ≡ false
    → flushed_datagrams clock (feed_of_slot x.slot v.flow) ≡ map datagram (let_go true clock x.session).sends
alone_sends clock v seated x streams t alone flow found kept rtsp =
    ap (λ ss. flushed_datagrams clock (feed_of_slot x.slot ss)) flow
    ∙ ap (λ xs. flushed_datagrams clock (feed_of_slot x.slot (subscribers xs streams))) alone.whole
    ∙ ap (λ o. flushed_datagrams clock (option_map (λ (s : Subscription). s.feed) o))
    (subscribers_find x.slot alone.before x alone.behind streams alone.slot_before (slot_itself x) alone.slot_behind t found)
    ∙ slot_sends clock t x kept rtsp

flushed_rtsp : (only : Option ℕ) (stream : ℕ) (http : Bool) → is_flushed only stream http ≡ true → http ≡ false
flushed_rtsp None stream http e = not-true http e
flushed_rtsp (Some number) stream http e = not-true http (and_parts (stream == number) (not http) e).1

-- the sessions of those who are seated, with one between others
pub between : (seated : List Seated) (x : Seated) (alone : Alone seated x)
    → sessions_of seated ≡ sessions_of alone.before ++ x.session ∷ sessions_of alone.behind
between seated x alone = ap sessions_of alone.whole ∙ map-append (λ (y : Seated). y.session) alone.before (x ∷ alone.behind)

pub changed_between : (f : Seated → Seated) (seated : List Seated) (x : Seated) (alone : Alone seated x)
    → sessions_of (map (λ y. cond (is_seat x.slot y) (f y) y) seated) ≡ sessions_of alone.before ++ (f x).session ∷ sessions_of alone.behind
changed_between f seated x alone =
    ap (λ xs. sessions_of (map (λ y. cond (is_seat x.slot y) (f y) y) xs)) alone.whole
    ∙ ap sessions_of (map_one (is_seat x.slot) f alone.before x alone.behind alone.slot_before (slot_itself x) alone.slot_behind)
    ∙ map-append (λ (y : Seated). y.session) alone.before (f x ∷ alone.behind)

-- the turn of the session at a place
pub turn_at : (turn : Session → Turn) (st : State) (seated : List Seated) (place : ℕ) (x : Seated) (at : AloneAt seated place x)
    → st.sessions ≡ sessions_of seated
    → turn_of place turn st.sessions ≡ record {
      sessions = sessions_of at.alone.before ++ cons_option (turn x.session).after (sessions_of at.alone.behind);
      sent = (turn x.session).sends;
    }
turn_at turn st seated place x at same =
    ap (turn_of place turn) (same ∙ between seated x at.alone)
    ∙ ap (λ k. turn_of k turn (sessions_of at.alone.before ++ x.session ∷ sessions_of at.alone.behind))
    (sym (length-map at.alone.before (λ (y : Seated). y.session) ∙ at.place))
    ∙ turn_here turn (sessions_of at.alone.before) x.session (sessions_of at.alone.behind)

pub flush_seated : (c : Config) (v : Kept) (o n : Output) (st : State) (stands : StandsFor c v st) → Sound v.table → (only : Option ℕ) (place : ℕ) (x : Seated)
    → slice_get stands.seated place ≡ Some x → is_flushed only x.session.stream x.session.http ≡ true
    → (flow : List Subscription) → flow ≡ change_slot x.slot flushed v.flow → SendsAll o (flushed_datagrams v.clock (feed_of_slot x.slot v.flow)) n
    → Moved c (record v { flow = flow }) o n (after_round st (turn_of place (flush_turn only st.clock) st.sessions))
flush_seated c v o n st stands sound only place x got wanted flow changed sends =
    let s : Session = x.session in
    let at : AloneAt stands.seated place x = alone_at stands.seated place x (stands_apart c v st stands sound) got in
    let kept : IsKept s = seated_kept stands.seated x (all_kept c v st stands) (get_has stands.seated place x got) in
    let rtsp : s.http ≡ false = flushed_rtsp only s.stream s.http wanted in
    let lives = stream_lives c v st stands sound place x got in
    let turn : Session → Turn = flush_turn only st.clock in
    let turned : turn s ≡ let_go true st.clock s = ap (λ b. cond b (let_go true st.clock s) (record { sends = []; after = Some s })) wanted in
    let round : Round = record {
      sessions = sessions_of at.alone.before ++ cut_off true s ∷ sessions_of at.alone.behind;
      sent =
          (let_go true st.clock s).sends;
    } in
    let is_round : turn_of place turn st.sessions ≡ round =
    turn_at turn st stands.seated place x at stands.sessions
    ∙ ap (λ (t : Turn). record { sessions = sessions_of at.alone.before ++ cons_option t.after (sessions_of at.alone.behind); sent = t.sends }) turned in
    let sessions : sessions_of (map (leave_slot x.slot) stands.seated) ≡ round.sessions =
    changed_between leave_seat stands.seated x at.alone
    ∙ ap (λ b. sessions_of at.alone.before ++ cond b s (cut_off true s) ∷ sessions_of at.alone.behind) rtsp in
    let after : StandsFor c (record v { flow = flow }) (record st { sessions = sessions_of (map (leave_slot x.slot) stands.seated) }) =
    stands_mapped c v st stands (leave_slot x.slot) (leave_slot_slot x.slot) (leave_slot_row x.slot)
    (each_mapped (leave_slot x.slot) stands.seated (leave_slot_kept x.slot) (all_kept c v st stands))
    flow (changed ∙ leave_slot_flow c v st stands x.slot) in
    let sent : flushed_datagrams v.clock (feed_of_slot x.slot v.flow) ≡ map datagram round.sent =
    ap (λ clock. flushed_datagrams clock (feed_of_slot x.slot v.flow)) stands.clock
    ∙ alone_sends st.clock v stands.seated x st.streams lives.0 at.alone stands.flow lives.1 kept rtsp in
    subst (λ r. Moved c (record v { flow = flow }) o n (after_round st r)) (sym is_round)
    (record {
      stands = subst (λ ss. StandsFor c (record v { flow = flow }) (record st { sessions = ss })) sessions after;
      sent = subst (λ ds. SendsAll o ds n) sent sends;
    })

-- nothing changes where nobody is at the place, or whoever is isn't flushed
pub unmoved : (c : Config) (v : Kept) (o : Output) (st : State) → StandsFor c v st → (r : Round) → r ≡ record { sessions = st.sessions; sent = [] }
    → Moved c v o o (after_round st r)
unmoved c v o st stands r same =
    subst (λ q. Moved c v o o (after_round st q)) (sym same) (record { stands = stands; sent = nothing_sent o })

pub flush_nowhere : (c : Config) (v : Kept) (o : Output) (st : State) (stands : StandsFor c v st) (only : Option ℕ) (place : ℕ)
    → slice_get v.table.seats place ≡ None → Moved c v o o (after_round st (turn_of place (flush_turn only st.clock) st.sessions))
flush_nowhere c v o st stands only place none =
    let nobody : slice_get stands.seated place ≡ None =
    map_nothing seat_of (slice_get stands.seated place) (sym (get-map seat_of stands.seated place)
    ∙ ap (λ seats. slice_get seats place) (sym stands.seats) ∙ none) in
    let gone : slice_get st.sessions place ≡ None = ap (λ ss. slice_get ss place) stands.sessions ∙ get-map (λ (y : Seated). y.session) stands.seated place
    ∙ ap (option_map (λ (y : Seated). y.session)) nobody in
    unmoved c v o st stands (turn_of place (flush_turn only st.clock) st.sessions) (turn_nowhere (flush_turn only st.clock) place st.sessions gone)

pub flush_unwanted : (c : Config) (v : Kept) (o : Output) (st : State) (stands : StandsFor c v st) (only : Option ℕ) (place : ℕ) (x : Seated)
    → slice_get stands.seated place ≡ Some x → is_flushed only x.session.stream x.session.http ≡ false
    → Moved c v o o (after_round st (turn_of place (flush_turn only st.clock) st.sessions))
flush_unwanted c v o st stands only place x got unwanted =
    let its : slice_get st.sessions place ≡ Some x.session = ap (λ ss. slice_get ss place) stands.sessions
    ∙ get-map (λ (y : Seated). y.session) stands.seated place ∙ ap (option_map (λ (y : Seated). y.session)) got in
    unmoved c v o st stands (turn_of place (flush_turn only st.clock) st.sessions)
    (turn_idle (flush_turn only st.clock) place st.sessions x.session its
    (ap (λ b. cond b (let_go true st.clock x.session) (record { sends = []; after = Some x.session })) unwanted))

-- whom a place's seat is of
pub seated_at : (c : Config) (v : Kept) (st : State) (stands : StandsFor c v st) (place : ℕ) (seat : Seat) → slice_get v.table.seats place ≡ Some seat
    → (x : Seated) × (slice_get stands.seated place ≡ Some x) × (seat_of x ≡ seat)
seated_at c v st stands place seat got =
    map_some seat_of (slice_get stands.seated place) seat (sym (get-map seat_of stands.seated place) ∙ ap (λ seats. slice_get seats place) (sym stands.seats)
    ∙ got)

row_flushed : (only : Option ℕ) (x : Seated)
    → is_flushed only (seat_of x).session.stream (seat_of x).session.http ≡ is_flushed only x.session.stream x.session.http
unfolding row_of
row_flushed only x = refl

-- the same told of the seat at the place
pub flush_seat : (c : Config) (v : Kept) (o n : Output) (st : State) → StandsFor c v st → Sound v.table → (only : Option ℕ) (place : ℕ) (seat : Seat)
    → slice_get v.table.seats place ≡ Some seat → is_flushed only seat.session.stream seat.session.http ≡ true
    → (flow : List Subscription) → flow ≡ change_slot seat.slot flushed v.flow → SendsAll o (flushed_datagrams v.clock (feed_of_slot seat.slot v.flow)) n
    → Moved c (record v { flow = flow }) o n (after_round st (turn_of place (flush_turn only st.clock) st.sessions))
flush_seat c v o n st stands sound only place seat got wanted flow changed sends =
    let r = seated_at c v st stands place seat got in
    let back : seat ≡ seat_of r.0 = sym r.2 in
    flush_seated c v o n st stands sound only place r.0 r.1
    (sym (row_flushed only r.0) ∙ ap (λ (z : Seat). is_flushed only z.session.stream z.session.http) r.2 ∙ wanted)
    flow (changed ∙ ap (λ (z : Seat). change_slot z.slot flushed v.flow) back)
    (subst (λ (z : Seat). SendsAll o (flushed_datagrams v.clock (feed_of_slot z.slot v.flow)) n) back sends)

pub flush_unwanted_seat : (c : Config) (v : Kept) (o : Output) (st : State) → StandsFor c v st → (only : Option ℕ) (place : ℕ) (seat : Seat)
    → slice_get v.table.seats place ≡ Some seat → is_flushed only seat.session.stream seat.session.http ≡ false
    → Moved c v o o (after_round st (turn_of place (flush_turn only st.clock) st.sessions))
flush_unwanted_seat c v o st stands only place seat got unwanted =
    let r = seated_at c v st stands place seat got in
    flush_unwanted c v o st stands only place r.0 r.1
    (sym (row_flushed only r.0) ∙ ap (λ (z : Seat). is_flushed only z.session.stream z.session.http) r.2 ∙ unwanted)
