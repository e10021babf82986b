-- The parts go on to stand for the plain state where one session is changed.
use Rattle.std.proofs.Common.{◌≡◌, ◌∙◌, ℕ, ◌+◌, ◌*◌, ◌<◌, ◌≤◌, ◌==◌, Bool, true, false, cond, List, Option, None, Some, map, find, slice_get, slice_set, min}
use Rattle.std.proofs.Common.{refl, ap, sym, subst, arith, map-id, ◌-◌, ◌^◌}
use Rattle.std.specs.List.{list_any}
use Rattle.std.specs.Option.{option_map}
use Rattle.std.proofs.lemmas.Bool.{cases_eq}
use Rattle.std.proofs.Common.{inl, inr, ◌⊎◌}
use Rattle.satip_base.specs.Lists.{Each}
use Rattle.satip_base.specs.declared.identity.SessionId.{SessionId}
use Rattle.satip_base.specs.declared.network.Peer.{Peer}
use Rattle.satip_base.specs.declared.network.Ports.{Ports}
use Rattle.satip_base.specs.declared.network.Address.{Address}
use Rattle.satip_table.specs.declared.session.Seat.{Seat}
use Rattle.satip_table.specs.declared.session.Session.{Session as TableRow}
use Rattle.satip_table.specs.Sessions.{has_id_of, has_slot, heard_at, moved_to, with_session}
use Rattle.satip_table.specs.Living.{Living, Sound, CountsRise, SlotsApart}
use Rattle.satip_flow.specs.Subscription.{Subscription, Feed, ToAddress, ToQueue, readdressed, has_slot as has_slot_of}
use Rattle.satip_flow.specs.Subscriptions.{change_slot}
use Rattle.satip_plain.specs.Types.{Config}
use Rattle.satip_plain.specs.State.{Session, Stream, State, change_where, held, last_moment}
use Rattle.satip_plain.specs.Steps.{is_session, change_session, hear}
use Rattle.satip_state.specs.Kept.{Kept}
use Rattle.satip_state.specs.Seated.{Seated, address_of, due_of, feed_of, packing_of, row_of, seat_of, subscriber, subscribers}
use Rattle.satip_state.specs.Standing.{IsKept, StandsFor, stream_in}
use Rattle.satip_state.proofs.RequestLists.{get-set_same, get-set_other}
use Rattle.satip_state.proofs.RequestSeats.{Agrees, absent, agree, changed_seated, due_here, due_other, due_same, kept_changed, none_changed, seats_changed}
use Rattle.satip_state.proofs.RequestSeats.{sessions_changed, slot_lives, subscribers_changed}

-- a change of a session, and what the table makes of it
pub record IsChange (f : Session → Session) (g : TableRow → TableRow) : Type 0 where
  pub row : (s : Session) → g (row_of s) ≡ row_of (f s)
  pub kept : (s : Session) → IsKept s → IsKept (f s)
  pub stream : (s : Session) → (f s).stream ≡ s.stream

-- the slot of a session
abbrev pub slot_of : SessionId → Kept → Option ℕ
slot_of id v = option_map (λ (seat : Seat). seat.slot) (find (has_id_of id) v.table.seats)

pub agrees : (c : Config) (v : Kept) (st : State) (s : StandsFor c v st) (id : SessionId) (slot : ℕ) → Sound v.table → slot_of id v ≡ Some slot
    → Each (Agrees id slot) s.seated
agrees c v st s id slot sound found =
    agree id slot 0 v.table.made s.seated (subst (CountsRise 0 v.table.made) s.seats sound.counts) (subst SlotsApart s.seats sound.slots)
    (ap (λ seats. option_map (λ (seat : Seat). seat.slot) (find (has_id_of id) seats)) (sym s.seats) ∙ found)

pub session_changed : (c : Config) (v : Kept) (st : State) (s : StandsFor c v st) (id : SessionId) (slot : ℕ) (f : Session → Session) (g : TableRow
    → TableRow) → IsChange f g → Each (Agrees id slot) s.seated
    → (table : Living) (dues : List (Option ℕ)) (flow : List Subscription) → table ≡ record v.table { seats = with_session id g v.table.seats }
    → ((key : ℕ) → key < 64 → slice_get dues key ≡ Some (due_of v.timeout (map (changed_seated slot f) s.seated) key))
    → flow ≡ subscribers (map (changed_seated slot f) s.seated) st.streams
    → StandsFor c (record v { table = table; dues = dues; flow = flow }) (change_session id f st)
session_changed c v st s id slot f g change all table dues flow is ends subscribed =
    let sessions = ap (change_where (is_session id) f) s.sessions ∙ sessions_changed id slot f s.seated all in
    record {
      seated = map (changed_seated slot f) s.seated;
      clock = s.clock;
      moment = s.moment;
      stopped = s.stopped;
      timeout = s.timeout;
      made = ap (λ (t : Living). t.made) is ∙ s.made;
      seats = ap (λ (t : Living). t.seats) is ∙ ap (with_session id g) s.seats ∙ seats_changed id slot f g change.row s.seated all;
      sessions = sessions;
      each_session = subst (Each IsKept) (sym sessions) (kept_changed slot f change.kept s.seated (subst (Each IsKept) s.sessions s.each_session));
      streams = ap (λ (t : Living). map stream_in t.streams) is ∙ s.streams;
      numbers = s.numbers;
      dues = ends;
      front_ends = s.front_ends;
      muxes = s.muxes;
      rows = s.rows;
      places = s.places;
      flow = subscribed;
    }

-- where the session doesn't live nothing changes
pub unchanged : (c : Config) (o v : Kept) (st : State) (s : StandsFor c v st) (id : SessionId) (f : Session → Session) → o ≡ v → slot_of id o ≡ None
    → StandsFor c v (change_session id f st)
unchanged c o v st s id f same_parts gone =
    let none : slot_of id v ≡ None = ap (slot_of id) (sym same_parts) ∙ gone in
    let all = absent id s.seated (ap (λ seats. option_map (λ (seat : Seat). seat.slot) (find (has_id_of id) seats)) (sym s.seats) ∙ none) in
    let same : change_where (is_session id) f st.sessions ≡ st.sessions = ap (change_where (is_session id) f) s.sessions ∙ none_changed id f s.seated all
    ∙ sym s.sessions in
    subst (λ ss. StandsFor c v (record st { sessions = ss })) (sym same) s

-- a session is heard of

heard_now : ℕ → Session → Session
heard_now now s = record s { heard = now }

heard_change : (now : ℕ) → now ≤ last_moment → IsChange (heard_now now) (heard_at now)
unfolding heard_now heard_at row_of
heard_change now early = record {
  row = λ s. refl;
  kept = λ s k. record {
    heard = early;
    reported = k.reported;
    first = k.first;
    within = k.within;
    few = k.few;
    http = k.http;
    idle_picked = k.idle_picked;
    idle_sizes = k.idle_sizes;
  };
  stream = λ s. refl;
}

same_option : {X : Type 0} (o : Option X) → option_map (λ x. x) o ≡ o
same_option None = refl
same_option (Some x) = refl

heard_subscriber : (slot now : ℕ) (t : Stream) (x : Seated)
    → subscriber t (changed_seated slot (heard_now now) x) ≡ option_map (λ (u : Subscription). u) (subscriber t x)
unfolding heard_now subscriber feed_of packing_of
heard_subscriber slot now t x = by (x.slot == slot) ∙ sym (same_option (subscriber t x))
  where
    by : (b : Bool) → subscriber t (record { slot = x.slot; session = cond b (heard_now now x.session) x.session }) ≡ subscriber t x
    by true = refl
    by false = refl

heard_due : (slot now timeout : ℕ) (seated : List Seated) (dues : List (Option ℕ)) → slot < 64 → list_any (has_slot slot) (map seat_of seated) ≡ true
    → ((key : ℕ) → key < 64 → slice_get dues key ≡ Some (due_of timeout seated key)) → (key : ℕ) → key < 64
    → slice_get (slice_set dues slot (Some (now + timeout * 1000))) key ≡ Some (due_of timeout (map (changed_seated slot (heard_now now)) seated) key)
unfolding heard_now
heard_due slot now timeout seated dues within lives old key below = by (cases_eq key slot)
  where
    by : (key ≡ slot) ⊎ (key ≡ slot → ⊥) → slice_get (slice_set dues slot (Some (now + timeout * 1000))) key ≡ Some
        (due_of timeout (map (changed_seated slot (heard_now now)) seated) key)
    by (inl same) =
        ap (slice_get (slice_set dues slot (Some (now + timeout * 1000)))) same
        ∙ get-set_same dues slot (due_of timeout seated slot) (Some (now + timeout * 1000)) (old slot within)
        ∙ ap Some (sym (due_here timeout slot (heard_now now) now (λ s. refl) seated lives))
        ∙ ap (λ k. Some (due_of timeout (map (changed_seated slot (heard_now now)) seated) k)) (sym same)
    by (inr other) =
        get-set_other dues slot key (Some (now + timeout * 1000)) other ∙ old key below
        ∙ ap Some (sym (due_other timeout slot (heard_now now) key other seated))

pub heard_stands : (c : Config) (v : Kept) (st : State) (id : SessionId) (slot : ℕ) (table : Living) (dues : List (Option ℕ)) (due : ℕ) → StandsFor c v st
    → Sound v.table → slot_of id v ≡ Some slot → slot < 64
    → v.timeout < 2 ^ 32 → due ≡ min (v.clock + v.timeout * 1000) (2 ^ 64 - 1)
    → table ≡ record v.table { seats = with_session id (heard_at v.clock) v.table.seats } → dues ≡ slice_set v.dues slot (Some due)
    → StandsFor c (record v { table = table; dues = dues }) (hear id st)
unfolding heard_now
heard_stands c v st id slot table dues due s sound found within short at is set =
    let ends : due ≡ st.clock + v.timeout * 1000 = omega (arith, at, s.clock, s.moment, short) in
    session_changed c v st s id slot (heard_now st.clock) (heard_at st.clock) (heard_change st.clock s.moment)
    (agrees c v st s id slot sound found) table dues v.flow
    (is ∙ ap (λ now. record v.table { seats = with_session id (heard_at now) v.table.seats }) s.clock)
    (λ key below. ap (λ ds. slice_get ds key) (set ∙ ap (λ d. slice_set v.dues slot (Some d)) ends)
    ∙ heard_due slot st.clock v.timeout s.seated v.dues within
    (slot_lives id slot s.seated (ap (λ seats. option_map (λ (seat : Seat). seat.slot) (find (has_id_of id) seats)) (sym s.seats) ∙ found)) s.dues key below)
    (s.flow ∙ sym (subscribers_changed slot (heard_now st.clock) (λ u. u) (λ x. refl) (heard_subscriber slot st.clock) s.seated st.streams ∙ map-id _))

-- a session's datagrams go elsewhere

addressed : Peer → Ports → Session → Session
addressed peer ports s = record s { peer = peer; ports = ports }

addressed_change : (peer : Peer) (ports : Ports) → IsChange (addressed peer ports) (moved_to peer ports)
unfolding addressed moved_to row_of
addressed_change peer ports = record {
  row = λ s. refl;
  kept = λ s k. record {
    heard = k.heard;
    reported = k.reported;
    first = k.first;
    within = k.within;
    few = k.few;
    http = k.http;
    idle_picked = k.idle_picked;
    idle_sizes = k.idle_sizes;
  };
  stream = λ s. refl;
}

abbrev new_address : Peer → Ports → Address
new_address peer ports = record { ip = peer.ip; port = ports.rtp }

addressed_subscriber : (slot : ℕ) (peer : Peer) (ports : Ports) (t : Stream) (x : Seated)
    → subscriber t (changed_seated slot (addressed peer ports) x) ≡ option_map (λ u. cond (has_slot_of slot u) (readdressed (new_address peer ports) u) u)
    (subscriber t x)
unfolding addressed subscriber feed_of packing_of
addressed_subscriber slot peer ports t x =
    first (x.slot == slot) ∙ second (x.slot == slot) x.session.playing x.session.http ∙ third x.session.playing (feed_of x.session)
  where
    sub : Feed → Subscription
    sub feed = record { place = record { slot = x.slot; stream = t.number; count = x.session.id.count }; front = t.front; pids = t.pids; feed = feed }

    new : Address
    new = new_address peer ports

    old : Address
    old = address_of x.session

    feed : Bool → Address → Feed
    feed http to = cond http (ToQueue (held x.session)) (ToAddress to (packing_of x.session))

    first : (b : Bool) → subscriber t (record { slot = x.slot; session = cond b (addressed peer ports x.session) x.session }) ≡ cond x.session.playing
        (Some (sub (feed x.session.http (cond b new old)))) None
    first true = refl
    first false = refl

    second : (b p h : Bool) → cond p (Some (sub (feed h (cond b new old)))) None ≡ option_map (λ u. cond b (readdressed new u) u)
        (cond p (Some (sub (feed h old))) None)
    second b false h = refl
    second true true true = refl
    second true true false = refl
    second false true h = refl

    third : (p : Bool) (f : Feed) → option_map (λ u. cond (x.slot == slot) (readdressed new u) u) (cond p (Some (sub f)) None) ≡ option_map
        (λ u. cond (has_slot_of slot u) (readdressed new u) u) (cond p (Some (sub f)) None)
    third true f = refl
    third false f = refl

pub moved_stands : (c : Config) (v : Kept) (st : State) (id : SessionId) (slot : ℕ) (peer : Peer) (ports : Ports) (table : Living) (flow : List Subscription)
    → StandsFor c v st → Sound v.table → slot_of id v ≡ Some slot
    → table ≡ record v.table { seats = with_session id (moved_to peer ports) v.table.seats }
    → flow ≡ change_slot slot (readdressed (new_address peer ports)) v.flow
    → StandsFor c (record v { table = table; flow = flow }) (change_session id (λ s. record s { peer = peer; ports = ports }) st)
unfolding addressed
moved_stands c v st id slot peer ports table flow s sound found is changed =
    session_changed c v st s id slot (addressed peer ports) (moved_to peer ports) (addressed_change peer ports)
    (agrees c v st s id slot sound found) table v.dues flow is
    (λ key below. s.dues key below ∙ ap Some (sym (due_same v.timeout slot (addressed peer ports) key (λ x. refl) s.seated)))
    (changed ∙ ap (change_slot slot (readdressed (new_address peer ports))) s.flow
    ∙ sym (subscribers_changed slot (addressed peer ports) (λ u. cond (has_slot_of slot u) (readdressed (new_address peer ports) u) u) (λ x. refl)
    (addressed_subscriber slot peer ports) s.seated st.streams))
