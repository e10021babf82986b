-- A packet of a front end: the flow, and then the ends of whoever had a full queue.
use Rattle.std.proofs.Common.{◌≡◌, ℕ, ◌&&◌, Bool, true, false, cond, List, [], ◌∷◌, ◌++◌, map, refl, sym, ap, subst, ◌∙◌, inl, inr, append-nil}
use Rattle.std.specs.Int.{bit_at}
use Rattle.std.specs.List.{list_any, slice_get, flat_map}
use Rattle.std.proofs.lemmas.Bool.{and_parts}
use Rattle.satip_base.specs.Output.{Output}
use Rattle.satip_base.specs.declared.identity.SessionId.{SessionId}
use Rattle.satip_rtp.specs.Sending.{SendsAll}
use Rattle.satip_base.specs.Lists.{Each, Has}
use Rattle.satip_base.proofs.Elements.{each_has}
use Rattle.satip_table.specs.declared.session.Seat.{Seat}
use Rattle.satip_table.specs.Living.{Sound}
use Rattle.satip_fronts.specs.FrontEnds.{Sound as FrontsSound}
use Rattle.satip_flow.specs.Subscription.{Subscription, given_datagrams}
use Rattle.satip_flow.specs.Subscription.{given as fed_one}
use Rattle.satip_flow.specs.Subscriptions.{is_overrun as meets_in}
use Rattle.satip_flow.proofs.Sends.{nothing_sent}
use Rattle.satip_plain.specs.Types.{Config}
use Rattle.satip_plain.specs.State.{Session, Stream, State, served_by}
use Rattle.satip_plain.specs.Sending.{Sent, Move, then_move, settle}
use Rattle.satip_plain.specs.Steps.{give_all, end_where, is_overrun, deliver}
use Rattle.satip_plain.specs.Histories.{datagram}
use Rattle.satip_state.specs.Kept.{Kept}
use Rattle.satip_state.specs.Seated.{Seated, row_of}
use Rattle.satip_state.specs.Standing.{StandsFor, Moved}
use Rattle.satip_state.specs.Ending.{EndedMarked, IsMarked}
use Rattle.satip_state.proofs.Picking.{get-map, map_some}
use Rattle.satip_state.proofs.Apart.{alone_at}
use Rattle.satip_state.proofs.Mapped.{sessions_of, stands_apart, all_kept}
use Rattle.satip_state.proofs.Flushes.{seated_at}
use Rattle.satip_state.proofs.Swept.{Rising}
use Rattle.satip_state.proofs.Ended.{rising, rising_filter, nobody_ends, move_of}
use Rattle.satip_state.proofs.Endings.{quiet_ends}
use Rattle.satip_state.proofs.Expiring.{has_get, id_at}
use Rattle.satip_state.proofs.Ticks.{quiet_queue}
use Rattle.satip_state.proofs.Streaming.{picked_by, give_one, stream_sends, given_all, given_sends_all}
use Rattle.satip_state.proofs.Delivering.{give_row, stands_given, flow_sends, at_front}
use Rattle.satip_state.proofs.Overruns.{ends_by, ends_is, met_ends}
use Rattle.satip_state.proofs.Marking.{all_marked, nobody_yet}

none_false : (ss : List Session) → list_any (λ (s : Session). false) ss ≡ false
none_false [] = refl
none_false (s ∷ ss) = none_false ss

has_map : (f : Session → Session) (ss : List Session) (y : Session) → Has y (map f ss) → (s : Session) × (Has s ss) × (y ≡ f s)
has_map f [] y has = absurd has
has_map f (s ∷ ss) y (inl same) = (s, inl refl, same)
has_map f (s ∷ ss) y (inr has) = let r = has_map f ss y has in (r.0, inr r.1, r.2)

row_told : (s t : Session) → row_of t ≡ row_of s → (t.id ≡ s.id) × (t.http ≡ s.http)
unfolding row_of
row_told s t row = (ap (λ r. r.id) row, ap (λ r. r.http) row)

-- whoever ends has a queue
ender_http : (c : Config) (v : Kept) (st : State) (stands : StandsFor c v st) → Sound v.table → (packet : List ℕ) (ts : List Stream) (s : Session)
    → Has s st.sessions
    → ends_by packet st ts s.id ≡ true → s.http ≡ true
ender_http c v st stands sound packet ts s has ends =
    let r = has_get (sessions_of stands.seated) s (subst (λ ss. Has s ss) stands.sessions has) in
    let y = map_some (λ (x : Seated). x.session) (slice_get stands.seated r.0) s (sym (get-map (λ (x : Seated). x.session) stands.seated r.0) ∙ r.1) in
    let at = alone_at stands.seated r.0 y.0 (stands_apart c v st stands sound) y.1 in
    let full : (picked_by ts packet y.0.session && is_overrun y.0.session) ≡ true =
    sym (ends_is packet st stands.seated ts y.0 at.alone stands.sessions) ∙ ap (λ (x : Session). ends_by packet st ts x.id) y.2 ∙ ends in
    let over : is_overrun y.0.session ≡ true = (and_parts (picked_by ts packet y.0.session) (is_overrun y.0.session) full).1 in
    ap (λ (x : Session). x.http) (sym y.2) ∙ http_of y.0.session over
  where
    http_of : (x : Session) → is_overrun x ≡ true → x.http ≡ true
    http_of x over = (and_parts x.http _ over).0

-- the marks of the flow are those of whoever ends
marks_told : (c : Config) (v : Kept) (st : State) (stands : StandsFor c v st) → Sound v.table → (front : ℕ) (packet : List ℕ) (bits : ℕ)
    → ((slot : ℕ) → bit_at bits slot ≡ cond (meets_in front packet v.flow slot) 1 0)
    → Each (IsMarked bits (ends_by packet st (served_by st front))) v.table.seats
marks_told c v st stands sound front packet bits law =
    each_has (IsMarked bits (ends_by packet st (served_by st front))) v.table.seats (λ seat has.
    let r = has_get v.table.seats seat has in
    let x = seated_at c v st stands r.0 seat r.1 in
    law seat.slot
    ∙ ap (λ (z : Seat). cond (meets_in front packet v.flow z.slot) 1 0) (sym x.2)
    ∙ ap (λ b. cond b 1 0) (met_ends c v st stands sound front packet r.0 x.0 x.1)
    ∙ ap (λ i. cond (ends_by packet st (served_by st front) i) 1 0) (sym (id_at x.0))
    ∙ ap (λ (z : Seat). cond (ends_by packet st (served_by st front) z.session.id) 1 0) x.2)

pub packet_moved : (c : Config) (v w : Kept) (o n : Output) (st : State) (stands : StandsFor c v st) → Sound v.table → FrontsSound v.fronts
    → (front : ℕ) (packet : List ℕ)
    → (flow : List Subscription) → flow ≡ map (fed_one front packet) v.flow → SendsAll o (flat_map (given_datagrams front packet v.clock) v.flow) n
    → (bits : ℕ) → ((slot : ℕ) → bit_at bits slot ≡ cond (meets_in front packet v.flow slot) 1 0)
    → ((st : State) (ends : SessionId → Bool) → EndedMarked c (record v { flow = flow }) st ends bits 0 → EndedMarked c w st ends bits 64)
    → Sound w.table → Moved c w o n (deliver front packet st)
packet_moved c v w o n st stands sound fronts front packet flow fed sends bits law ended sound_after =
    let ts : List Stream = served_by st front in
    let ends : SessionId → Bool = ends_by packet st ts in
    let p : Session → Bool = λ s. ends s.id in
    let now : State = record st { sessions = map (give_one ts packet) st.sessions } in
    let rise : Rising 0 ts = rising_filter (λ (t : Stream). at_front front t) 0 st.streams (rising c v st stands sound) in
    let given : StandsFor c (record v { flow = flow }) now = stands_given c v st stands sound front packet flow fed in
    let none : end_where (λ s. false) now ≡ record { state = now; sent = [] } =
    nobody_ends c (record v { flow = flow }) now given sound fronts (λ s. false) (none_false now.sessions) in
    let begun : EndedMarked c (record v { flow = flow }) now ends bits 0 =
    nobody_yet c (record v { flow = flow }) now ends bits given (subst (λ (m : Move). StandsFor c (record v { flow = flow }) m.state) (sym none) given)
    (marks_told c v st stands sound front packet bits law) in
    let standing : StandsFor c w (end_where p now).state = all_marked c w now ends bits sound_after (ended now ends begun) in
    let quiet : (end_where p now).sent ≡ [] = quiet_ends p st.clock now.sessions (λ s has e.
    let r = has_map (give_one ts packet) st.sessions s has in
    let told = row_told r.0 (give_one ts packet r.0) (give_row ts packet r.0) in
    let id : s.id ≡ r.0.id = ap (λ (x : Session). x.id) r.2 ∙ told.0 in
    let http : s.http ≡ true = ap (λ (x : Session). x.http) r.2 ∙ told.1 ∙ ender_http c v st stands sound packet ts r.0 r.1 (ap ends (sym id) ∙ e) in
    quiet_queue st.clock s http) in
    let all : List Sent = flat_map (stream_sends st.clock packet st.sessions) ts in
    let is : give_all packet ts st ≡ move_of now all =
    ap (λ (z : State). move_of z (give_all packet ts st).sent) (given_all packet 0 ts st rise) ∙ ap (move_of now) (given_sends_all packet 0 ts st rise) in
    let sent : flat_map (given_datagrams front packet v.clock) v.flow ≡ map datagram (all ++ (end_where p now).sent) =
    ap (λ k. flat_map (given_datagrams front packet k) v.flow) stands.clock
    ∙ ap (flat_map (given_datagrams front packet st.clock)) stands.flow
    ∙ flow_sends front packet st.clock stands.seated st.streams (all_kept c v st stands)
    ∙ ap (λ ss. map datagram (flat_map (stream_sends st.clock packet ss) ts)) (sym stands.sessions)
    ∙ ap (map datagram) (sym (append-nil all))
    ∙ ap (λ ds. map datagram (all ++ ds)) (sym quiet) in
    let moved : Moved c w o n (then_move (move_of now all) (end_where p)) = record { stands = standing; sent = subst (λ ds. SendsAll o ds n) sent sends } in
    subst (λ (m : Move). Moved c w o n (then_move m (end_where p))) (sym is) moved

pub stale_moved : (c : Config) (v : Kept) (o : Output) (st : State) → StandsFor c v st → (current : Bool) (m : Move) → current ≡ false
    → Moved c v o o (cond current m (settle st))
stale_moved c v o st stands true m e = absurd (cc)
stale_moved c v o st stands false m e = record { stands = stands; sent = nothing_sent o }

pub current_moved : (c : Config) (w : Kept) (o n : Output) (st : State) (current : Bool) (m : Move) → current ≡ true → Moved c w o n m
    → Moved c w o n (cond current m (settle st))
current_moved c w o n st true m e moved = moved
current_moved c w o n st false m e moved = absurd (cc)
