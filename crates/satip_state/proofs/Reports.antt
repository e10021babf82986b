-- Reports leave, one session after another.
use Rattle.std.proofs.Common.{◌≡◌, ℕ, zero, suc, ◌+◌, ◌*◌, ◌%◌, ◌≤◌, ◌==◌, ◌&&◌, ◌||◌, nat_le, not, Bool, true, false, cond, List, [], ◌∷◌, ◌++◌, length, map}
use Rattle.std.proofs.Common.{find, Option, Some, None, refl, sym, ap, subst, ◌∙◌, arith, option_and_then}
use Rattle.std.specs.List.{list_any, slice_get, cons_option}
use Rattle.std.specs.Option.{option_map, option_map_or}
use Rattle.std.proofs.lemmas.Bool.{and_parts, not-true}
use Rattle.std.proofs.lemmas.List.{map-append, map-id}
use Rattle.std.proofs.lemmas.List.Sums.{sum_by-cons}
use Rattle.std.proofs.lemmas.Option.{same_Some}
use Rattle.satip_base.specs.declared.network.Address.{Address}
use Rattle.satip_base.specs.declared.identity.SessionId.{SessionId}
use Rattle.satip_base.specs.Output.{Output, Datagram, Sends}
use Rattle.satip_rtp.specs.Sending.{SendsAll}
use Rattle.satip_base.specs.Lists.{Each}
use Rattle.satip_table.specs.declared.session.Seat.{Seat}
use Rattle.satip_table.specs.declared.session.Session.{Session as SessionRow}
use Rattle.satip_table.specs.Sessions.{with_session, changed_where, reported_at}
use Rattle.satip_table.specs.Living.{Living, Sound}
use Rattle.satip_flow.specs.declared.place.SenderState.{SenderState}
use Rattle.satip_flow.specs.Subscription.{Subscription, ToAddress, ToQueue, sender_state}
use Rattle.satip_flow.specs.Subscription.{packing_of as packer_of}
use Rattle.satip_flow.specs.Subscriptions.{of_slot, packing_of_slot}
use Rattle.satip_rtcp.specs.declared.views.StreamView.{StreamView}
use Rattle.satip_rtcp.specs.declared.views.Sender.{Sender}
use Rattle.satip_rtcp.specs.Reports.{report}
use Rattle.satip_plain.specs.Types.{Config}
use Rattle.satip_plain.specs.State.{Session, Stream, State, stream_of, held, last_moment}
use Rattle.satip_plain.specs.Sending.{Sent, Report, Turn}
use Rattle.satip_plain.specs.Steps.{is_due, report_of, sender_of, view_of}
use Rattle.satip_plain.specs.Histories.{datagram}
use Rattle.satip_state.specs.Kept.{Kept}
use Rattle.satip_state.specs.Seated.{Seated, seat_of, row_of, is_seat, due_of, end_of, feed_of, packing_of, address_of, subscriber, subscribers}
use Rattle.satip_state.specs.Standing.{StandsFor, Moved, IsKept}
use Rattle.satip_state.specs.Turns.{Round, turn_of, first_turns, after_round, report_turn, is_row_due}
use Rattle.satip_state.proofs.Picking.{map_one, get-map, map_nothing}
use Rattle.satip_state.proofs.Apart.{Alone, AloneAt, alone_at, has_session, slot_itself, id_itself}
use Rattle.satip_state.proofs.Listed.{listed, subscriber_is, subscribers_map, subscribers_find}
use Rattle.satip_state.proofs.Mapped.{sessions_of, each_mapped, stands_apart, stream_lives, all_kept}
use Rattle.satip_state.proofs.Flushes.{turn_at, unmoved, seated_at}
use Rattle.satip_state.proofs.Rounds.{Stays, turn_nowhere, turn_idle}
use Rattle.satip_state.proofs.Viewing.{any-filter}
use Rattle.satip_state.proofs.Moving.{turned_more}

-- rows of the table change, and no slot, no moment and no subscriber
due_kept : (timeout : ℕ) (f : Seated → Seated) → ((x : Seated) → (f x).slot ≡ x.slot) → ((x : Seated) → (f x).session.heard ≡ x.session.heard)
    → (xs : List Seated) (n : ℕ)
    → due_of timeout (map f xs) n ≡ due_of timeout xs n
due_kept timeout f slot heard [] n = refl
due_kept timeout f slot heard (x ∷ xs) n =
    ap (λ m. option_map (end_of timeout) (cond (m == n) (Some (f x)) (find (is_seat n) (map f xs)))) (slot x)
    ∙ by (x.slot == n) (due_kept timeout f slot heard xs n)
  where
    by : (b : Bool) → due_of timeout (map f xs) n ≡ due_of timeout xs n
        → option_map (end_of timeout) (cond b (Some (f x)) (find (is_seat n) (map f xs))) ≡ option_map (end_of timeout) (cond b (Some x) (find (is_seat n) xs))
    by true rest = ap (λ h. Some (h + timeout * 1000)) (heard x)
    by false rest = rest

pub stands_rows : (c : Config) (v : Kept) (st : State) (stands : StandsFor c v st) (f : Seated → Seated)
    → ((x : Seated) → (f x).slot ≡ x.slot) → ((x : Seated) → (f x).session.stream ≡ x.session.stream) → ((x : Seated) → (f x).session.heard ≡ x.session.heard)
    → ((t : Stream) (x : Seated) → subscriber t x ≡ subscriber t (f x))
    → Each IsKept (sessions_of (map f stands.seated)) → (seats : List Seat) → seats ≡ map seat_of (map f stands.seated)
    → StandsFor c (record v { table = record v.table { seats = seats } }) (record st { sessions = sessions_of (map f stands.seated) })
stands_rows c v st stands f slot stream heard listed kept seats same = record {
  seated = map f stands.seated;
  clock = stands.clock;
  moment = stands.moment;
  stopped = stands.stopped;
  timeout = stands.timeout;
  made = stands.made;
  seats = same;
  sessions = refl;
  each_session = kept;
  streams = stands.streams;
  numbers = stands.numbers;
  dues = λ n below. stands.dues n below ∙ ap Some (sym (due_kept v.timeout f slot heard stands.seated n));
  front_ends = stands.front_ends;
  muxes = stands.muxes;
  rows = stands.rows;
  places = stands.places;
  flow = stands.flow ∙ sym (map-id (subscribers stands.seated st.streams))
      ∙ subscribers_map (λ s. s) f stands.seated st.streams stream (λ t here x has e. option_id (subscriber t x) ∙ listed t x);
}
  where
    option_id : (o : Option Subscription) → option_map (λ (s : Subscription). s) o ≡ o
    option_id None = refl
    option_id (Some s) = refl

-- the session with this id was reported on
abbrev pub reported_seat : ℕ → Seated → Seated
reported_seat clock x = record x { session = record x.session { reported = Some clock } }

abbrev pub report_id : SessionId → ℕ → Seated → Seated
report_id id clock x = cond (has_session id x) (reported_seat clock x) x

report_slot : (id : SessionId) (clock : ℕ) (x : Seated) → (report_id id clock x).slot ≡ x.slot
report_slot id clock x = by (has_session id x)
  where
    by : (b : Bool) → (cond b (reported_seat clock x) x).slot ≡ x.slot
    by true = refl
    by false = refl

report_stream : (id : SessionId) (clock : ℕ) (x : Seated) → (report_id id clock x).session.stream ≡ x.session.stream
report_stream id clock x = by (has_session id x)
  where
    by : (b : Bool) → (cond b (reported_seat clock x) x).session.stream ≡ x.session.stream
    by true = refl
    by false = refl

report_heard : (id : SessionId) (clock : ℕ) (x : Seated) → (report_id id clock x).session.heard ≡ x.session.heard
report_heard id clock x = by (has_session id x)
  where
    by : (b : Bool) → (cond b (reported_seat clock x) x).session.heard ≡ x.session.heard
    by true = refl
    by false = refl

reported_feed : (clock : ℕ) (s : Session) → feed_of s ≡ feed_of (record s { reported = Some clock })
unfolding feed_of packing_of
reported_feed clock s = refl

report_listed : (id : SessionId) (clock : ℕ) (t : Stream) (x : Seated) → subscriber t x ≡ subscriber t (report_id id clock x)
report_listed id clock t x = by (has_session id x)
  where
    by : (b : Bool) → subscriber t x ≡ subscriber t (cond b (reported_seat clock x) x)
    by true =
        subscriber_is t x
        ∙ ap (λ f. cond x.session.playing (Some (listed t x f)) None) (reported_feed clock x.session)
        ∙ sym (subscriber_is t (reported_seat clock x))
    by false = refl

report_kept : (id : SessionId) (clock : ℕ) → clock ≤ last_moment → (x : Seated) → IsKept x.session → IsKept (report_id id clock x).session
report_kept id clock early x kept = by (has_session id x)
  where
    by : (b : Bool) → IsKept (cond b (reported_seat clock x) x).session
    by true = record {
      heard = kept.heard;
      reported = early;
      first = kept.first;
      within = kept.within;
      few = kept.few;
      http = kept.http;
      idle_picked = kept.idle_picked;
      idle_sizes = kept.idle_sizes;
    }
    by false = kept

report_seats : (id : SessionId) (clock : ℕ) (xs : List Seated)
    → with_session id (reported_at clock) (map seat_of xs) ≡ map seat_of (map (report_id id clock) xs)
unfolding changed_where reported_at row_of
report_seats id clock [] = refl
report_seats id clock (x ∷ xs) = ap (λ (s : Seat). s ∷ with_session id (reported_at clock) (map seat_of xs)) (by (has_session id x))
    ∙ ap (λ ss. seat_of (report_id id clock x) ∷ ss) (report_seats id clock xs)
  where
    by : (b : Bool) → cond b (record (seat_of x) { session = reported_at clock (row_of x.session) }) (seat_of x) ≡ seat_of (cond b (reported_seat clock x) x)
    by true = refl
    by false = refl

pub stands_reported : (c : Config) (v : Kept) (st : State) (stands : StandsFor c v st) (id : SessionId) (clock : ℕ) → clock ≤ last_moment
    → StandsFor c (record v { table = record v.table { seats = with_session id (reported_at clock) v.table.seats } })
    (record st { sessions = sessions_of (map (report_id id clock) stands.seated) })
stands_reported c v st stands id clock early =
    stands_rows c v st stands (report_id id clock) (report_slot id clock) (report_stream id clock) (report_heard id clock) (report_listed id clock)
    (each_mapped (report_id id clock) stands.seated (report_kept id clock early) (all_kept c v st stands))
    (with_session id (reported_at clock) v.table.seats)
    (ap (with_session id (reported_at clock)) stands.seats ∙ report_seats id clock stands.seated)

-- one datagram
pub sends_one : (o n : Output) (to : Address) (bytes : List ℕ) → Sends o to bytes n → SendsAll o (record { to = to; bytes = bytes } ∷ []) n
sends_one o n to bytes sends = record {
  datagrams = sends.datagrams;
  datagram_spare = omega (arith, sum_by-cons (λ (d : Datagram). length d.bytes) (record { to = to; bytes = bytes }) [], sends.datagram_spare);
  count_spare = omega (arith, sends.count_spare);
  reply = sends.reply;
  reply_spare = sends.reply_spare;
}

sender_is : (a b : Sender) → a.to ≡ b.to → a.ssrc ≡ b.ssrc → a.clock ≡ b.clock → a.datagrams ≡ b.datagrams → a.octets ≡ b.octets → a.address ≡ b.address → a ≡ b
sender_is a b to ssrc clock datagrams octets address =
    let make : Address → ℕ → ℕ → ℕ → ℕ → ℕ → Sender = λ t s k d o r. record { to = t; ssrc = s; clock = k; datagrams = d; octets = o; address = r } in
    ap (λ t. make t a.ssrc a.clock a.datagrams a.octets a.address) to
    ∙ ap (λ s. make b.to s a.clock a.datagrams a.octets a.address) ssrc
    ∙ ap (λ k. make b.to b.ssrc k a.datagrams a.octets a.address) clock
    ∙ ap (λ d. make b.to b.ssrc b.clock d a.octets a.address) datagrams
    ∙ ap (λ o. make b.to b.ssrc b.clock b.datagrams o a.address) octets
    ∙ ap (λ r. make b.to b.ssrc b.clock b.datagrams b.octets r) address

-- what the packer of a playing RTSP session tells
abbrev pub told_of : Session → SenderState
told_of s = record { next = (packing_of s).next; datagrams = (packing_of s).datagrams; octets = (packing_of s).octets }

feed_told : (s : Session) → s.http ≡ false → packer_of (feed_of s) ≡ Some (packing_of s)
unfolding feed_of
feed_told s rtsp = ap (λ b. packer_of (cond b (ToQueue (held s)) (ToAddress (address_of s) (packing_of s)))) rtsp

pub packer_told : (c : Config) (v : Kept) (st : State) (stands : StandsFor c v st) → Sound v.table → (place : ℕ) (x : Seated)
    → slice_get stands.seated place ≡ Some x
    → x.session.playing ≡ true → x.session.http ≡ false → sender_state (packing_of_slot x.slot v.flow) ≡ Some (told_of x.session)
packer_told c v st stands sound place x got plays rtsp =
    let at : AloneAt stands.seated place x = alone_at stands.seated place x (stands_apart c v st stands sound) got in
    let alone : Alone stands.seated x = at.alone in
    let lives = stream_lives c v st stands sound place x got in
    let is : of_slot x.slot v.flow ≡ Some (listed lives.0 x (feed_of x.session)) =
    ap (of_slot x.slot) stands.flow
    ∙ ap (λ xs. of_slot x.slot (subscribers xs st.streams)) alone.whole
    ∙ subscribers_find x.slot alone.before x alone.behind st.streams alone.slot_before (slot_itself x) alone.slot_behind lives.0 lives.1
    ∙ subscriber_is lives.0 x
    ∙ ap (λ b. cond b (Some (listed lives.0 x (feed_of x.session))) None) plays in
    ap (λ o. sender_state (option_and_then packer_of (option_map (λ (s : Subscription). s.feed) o))) is ∙ ap sender_state (feed_told x.session rtsp)

told_datagrams : (s : Session) → (told_of s).datagrams ≡ length s.sizes % 4294967296
unfolding packing_of
told_datagrams s = refl

due_parts : (clock : ℕ) (s : Session) → is_due clock s ≡ true → (s.playing ≡ true) × (s.http ≡ false)
due_parts clock s due =
    let a = and_parts (s.playing && not s.http) (option_map_or (λ at. nat_le (at + 200) clock) s.reported true) due in
    let b = and_parts s.playing (not s.http) a.0 in
    (b.0, not-true s.http b.1)

abbrev pub turn_with : List Sent → Session → Turn
turn_with ds after = record { sends = ds; after = Some after }

abbrev pub one_datagram : Address → List ℕ → List Datagram
one_datagram to bytes = record { to = to; bytes = bytes } ∷ []

abbrev pub table_with : Kept → List Seat → Living
table_with v seats = record v.table { seats = seats }

abbrev pub plays_at : ℕ → Session → Bool
plays_at number s = s.stream == number && s.playing

-- who sends the report
sender_same : (c : Config) (st : State) (x : Seated) (sender : Sender) (told : SenderState) → told ≡ told_of x.session
    → sender.to ≡ record { ip = x.session.peer.ip; port = x.session.ports.rtcp } → sender.ssrc ≡ x.session.ssrc → sender.clock ≡ st.clock
    → sender.datagrams ≡ told.datagrams → sender.octets ≡ told.octets → sender.address ≡ c.address → sender ≡ sender_of c st x.session
unfolding packing_of
sender_same c st x sender told is to ssrc clock datagrams octets address =
    sender_is sender (sender_of c st x.session) to ssrc clock
    (datagrams ∙ ap (λ (t : SenderState). t.datagrams) is)
    (octets ∙ ap (λ (t : SenderState). t.octets) is)
    address

pub report_seated : (c : Config) (v : Kept) (o n : Output) (st : State) (stands : StandsFor c v st) → Sound v.table → (place : ℕ) (x : Seated)
    → slice_get stands.seated place ≡ Some x
    → is_due st.clock x.session ≡ true → (view : StreamView) → Some view ≡ option_map (view_of st) (stream_of st x.session.stream)
    → (told : SenderState) → Some told ≡ sender_state (packing_of_slot x.slot v.flow)
    → (sender : Sender) → sender.to ≡ record { ip = x.session.peer.ip; port = x.session.ports.rtcp } → sender.ssrc ≡ x.session.ssrc → sender.clock ≡ v.clock
    → sender.datagrams ≡ told.datagrams → sender.octets ≡ told.octets → sender.address ≡ c.address
    → Sends o sender.to (report view sender) n
    → Moved c (record v { table = record v.table { seats = with_session x.session.id (reported_at v.clock) v.table.seats } }) o n
    (after_round st (turn_of place (report_turn c st) st.sessions))
report_seated c v o n st stands sound place x got due view viewed told tells sender to ssrc clock datagrams octets address sends =
    let s : Session = x.session in
    let at : AloneAt stands.seated place x = alone_at stands.seated place x (stands_apart c v st stands sound) got in
    let alone : Alone stands.seated x = at.alone in
    let lives = stream_lives c v st stands sound place x got in
    let parts = due_parts st.clock s due in
    let view_is : view ≡ view_of st lives.0 = same_Some view (view_of st lives.0) (viewed ∙ ap (option_map (view_of st)) lives.1) in
    let told_is : told ≡ told_of s = same_Some told (told_of s) (tells ∙ packer_told c v st stands sound place x got parts.0 parts.1) in
    let sender_is : sender ≡ sender_of c st s = sender_same c st x sender told told_is to ssrc (clock ∙ stands.clock) datagrams octets address in
    let after : Session = record s { reported = Some st.clock } in
    let sent : List Sent = Report s.id (view_of st lives.0) (sender_of c st s) ∷ [] in
    let is_sent : report_of c st s ≡ sent = ap (λ o. option_map_or (λ t. Report s.id (view_of st t) (sender_of c st s) ∷ []) o []) lives.1 in
    let round : Round = record { sessions = sessions_of alone.before ++ after ∷ sessions_of alone.behind; sent = sent } in
    let turned : report_turn c st s ≡ record { sends = sent; after = Some after } =
    ap (λ b. cond b (record { sends = report_of c st s; after = Some after }) (record { sends = []; after = Some s })) due
    ∙ ap (λ (ds : List Sent). turn_with ds after) is_sent in
    let is_round : turn_of place (report_turn c st) st.sessions ≡ round =
    turn_at (report_turn c st) st stands.seated place x at stands.sessions
    ∙ ap (λ (t : Turn). record { sessions = sessions_of alone.before ++ cons_option t.after (sessions_of alone.behind); sent = t.sends }) turned in
    let sessions : sessions_of (map (report_id s.id v.clock) stands.seated) ≡ round.sessions =
    ap (λ k. sessions_of (map (report_id s.id k) stands.seated)) stands.clock
    ∙ ap (λ xs. sessions_of (map (report_id s.id st.clock) xs)) alone.whole
    ∙ ap sessions_of (map_one (has_session s.id) (reported_seat st.clock) alone.before x alone.behind alone.id_before (id_itself s.id) alone.id_behind)
    ∙ map-append (λ (y : Seated). y.session) alone.before (reported_seat st.clock x ∷ alone.behind) in
    let new : Kept = record v { table = record v.table { seats = with_session s.id (reported_at v.clock) v.table.seats } } in
    let early : v.clock ≤ last_moment = subst (λ k. k ≤ last_moment) (sym stands.clock) stands.moment in
    let standing : StandsFor c new (record st { sessions = sessions_of (map (report_id s.id v.clock) stands.seated) }) =
    stands_reported c v st stands s.id v.clock early in
    let one : SendsAll o (record { to = sender.to; bytes = report view sender } ∷ []) n = sends_one o n sender.to (report view sender) sends in
    let same_sent : record { to = sender.to; bytes = report view sender } ∷ [] ≡ map datagram sent =
    ap (λ (w : StreamView). one_datagram sender.to (report w sender)) view_is
    ∙ ap (λ (z : Sender). one_datagram z.to (report (view_of st lives.0) z)) sender_is in
    subst (λ r. Moved c new o n (after_round st r)) (sym is_round)
    (record {
      stands = subst (λ (ss : List Session). StandsFor c new (record st { sessions = ss })) sessions standing;
      sent = subst (λ ds. SendsAll o ds n) same_sent one;
    })

row_due : (clock : ℕ) (x : Seated) → is_row_due clock (seat_of x).session ≡ is_due clock x.session
unfolding row_of
row_due clock x = refl

abbrev pub fields_of : SessionRow → Address × ℕ × ℕ × SessionId
fields_of row = (record { ip = row.peer.ip; port = row.ports.rtcp }, row.ssrc, row.stream, row.id)

row_fields : (x : Seated) → fields_of (seat_of x).session ≡ (
  record {
    ip = x.session.peer.ip;
    port =
        x.session.ports.rtcp;
  },
  x.session.ssrc,
  x.session.stream,
  x.session.id,
)
unfolding row_of
row_fields x = refl

-- the same told of the seat at the place
pub report_seat : (c : Config) (v : Kept) (o n : Output) (st : State) → StandsFor c v st → Sound v.table → (place : ℕ) (seat : Seat)
    → slice_get v.table.seats place ≡ Some seat
    → is_row_due v.clock seat.session ≡ true → (view : StreamView) → Some view ≡ option_map (view_of st) (stream_of st seat.session.stream)
    → (told : SenderState) → Some told ≡ sender_state (packing_of_slot seat.slot v.flow)
    → (sender : Sender) → sender.to ≡ record { ip = seat.session.peer.ip; port = seat.session.ports.rtcp } → sender.ssrc ≡ seat.session.ssrc
    → sender.clock ≡ v.clock
    → sender.datagrams ≡ told.datagrams → sender.octets ≡ told.octets → sender.address ≡ c.address
    → Sends o sender.to (report view sender) n
    → (table : Living) → table ≡ record v.table { seats = with_session seat.session.id (reported_at v.clock) v.table.seats }
    → Moved c (record v { table = table }) o n (after_round st (turn_of place (report_turn c st) st.sessions))
report_seat c v o n st stands sound place seat at due view viewed told tells sender to ssrc clock datagrams octets address sends table changed =
    let r = seated_at c v st stands place seat at in
    let x : Seated = r.0 in
    let back : seat ≡ seat_of x = sym r.2 in
    let fields = ap (λ (z : Seat). fields_of z.session) back ∙ row_fields x in
    let slot : seat.slot ≡ x.slot = ap (λ (z : Seat). z.slot) back in
    let due_now : is_due st.clock x.session ≡ true = sym (row_due st.clock x) ∙ ap (λ (z : Seat). is_row_due st.clock z.session) r.2
    ∙ ap (λ k. is_row_due k seat.session) (sym stands.clock) ∙ due in
    let moved = report_seated c v o n st stands sound place x r.1 due_now view (viewed
    ∙ ap (λ k. option_map (view_of st) (stream_of st k)) (ap (λ f. f.2) fields))
    told (tells ∙ ap (λ k. sender_state (packing_of_slot k v.flow)) slot)
    sender (to ∙ ap (λ f. f.0) fields) (ssrc ∙ ap (λ f. f.1) fields) clock datagrams octets address sends in
    subst (λ (t : Living). Moved c (record v { table = t }) o n (after_round st (turn_of place (report_turn c st) st.sessions)))
    (sym (changed ∙ ap (λ i. table_with v (with_session i (reported_at v.clock) v.table.seats)) (ap (λ f. f.3) fields)))
    moved

-- nothing is reported where nobody is there, or isn't due
pub report_nowhere : (c : Config) (v : Kept) (o : Output) (st : State) (stands : StandsFor c v st) (place : ℕ)
    → slice_get v.table.seats place ≡ None → Moved c v o o (after_round st (turn_of place (report_turn c st) st.sessions))
report_nowhere c v o st stands place none =
    let nobody : slice_get stands.seated place ≡ None =
    map_nothing seat_of (slice_get stands.seated place) (sym (get-map seat_of stands.seated place)
    ∙ ap (λ seats. slice_get seats place) (sym stands.seats) ∙ none) in
    let gone : slice_get st.sessions place ≡ None = ap (λ ss. slice_get ss place) stands.sessions ∙ get-map (λ (y : Seated). y.session) stands.seated place
    ∙ ap (option_map (λ (y : Seated). y.session)) nobody in
    unmoved c v o st stands (turn_of place (report_turn c st) st.sessions) (turn_nowhere (report_turn c st) place st.sessions gone)

pub report_undue : (c : Config) (v : Kept) (o : Output) (st : State) (stands : StandsFor c v st) (place : ℕ) (seat : Seat)
    → slice_get v.table.seats place ≡ Some seat → is_row_due v.clock seat.session ≡ false
    → Moved c v o o (after_round st (turn_of place (report_turn c st) st.sessions))
report_undue c v o st stands place seat at undue =
    let r = seated_at c v st stands place seat at in
    let x : Seated = r.0 in
    let its : slice_get st.sessions place ≡ Some x.session = ap (λ ss. slice_get ss place) stands.sessions
    ∙ get-map (λ (y : Seated). y.session) stands.seated place ∙ ap (option_map (λ (y : Seated). y.session)) r.1 in
    let not_due : is_due st.clock x.session ≡ false = sym (row_due st.clock x) ∙ ap (λ (z : Seat). is_row_due st.clock z.session) r.2
    ∙ ap (λ k. is_row_due k seat.session) (sym stands.clock) ∙ undue in
    unmoved c v o st stands (turn_of place (report_turn c st) st.sessions)
    (turn_idle (report_turn c st) place st.sessions x.session its
    (ap (λ b. cond b (record { sends = report_of c st x.session; after = Some (record x.session { reported = Some st.clock }) })
    (record { sends = []; after = Some x.session })) not_due))

-- a session that is due has a stream and a packer
pub view_there : (c : Config) (v : Kept) (st : State) (stands : StandsFor c v st) → Sound v.table → (place : ℕ) (seat : Seat)
    → slice_get v.table.seats place ≡ Some seat
    → None ≡ option_map (view_of st) (stream_of st seat.session.stream) → ⊥
view_there c v st stands sound place seat at none =
    let r = seated_at c v st stands place seat at in
    let fields = ap (λ (z : Seat). fields_of z.session) (sym r.2) ∙ row_fields r.0 in
    let lives = stream_lives c v st stands sound place r.0 r.1 in
    let there : None ≡ Some (view_of st lives.0) = none ∙ ap (λ k. option_map (view_of st) (stream_of st k)) (ap (λ f. f.2) fields)
    ∙ ap (option_map (view_of st)) lives.1 in
    cc

pub packer_there : (c : Config) (v : Kept) (st : State) (stands : StandsFor c v st) → Sound v.table → (place : ℕ) (seat : Seat)
    → slice_get v.table.seats place ≡ Some seat
    → is_row_due v.clock seat.session ≡ true → None ≡ sender_state (packing_of_slot seat.slot v.flow) → ⊥
packer_there c v st stands sound place seat at due none =
    let r = seated_at c v st stands place seat at in
    let x : Seated = r.0 in
    let due_now : is_due st.clock x.session ≡ true = sym (row_due st.clock x) ∙ ap (λ (z : Seat). is_row_due st.clock z.session) r.2
    ∙ ap (λ k. is_row_due k seat.session) (sym stands.clock) ∙ due in
    let parts = due_parts st.clock x.session due_now in
    let there : None ≡ Some (told_of x.session) = none ∙ ap (λ k. sender_state (packing_of_slot k v.flow)) (ap (λ (z : Seat). z.slot) (sym r.2))
    ∙ packer_told c v st stands sound place x r.1 parts.0 parts.1 in
    cc

-- reports end no session, and leave what is told of streams
pub report_stays : (c : Config) (st : State) → Stays (report_turn c st) (λ s. cond (is_due st.clock s) (record s { reported = Some st.clock }) s)
report_stays c st s = by (is_due st.clock s)
  where
    by : (b : Bool) → (cond {A = Turn} b (record { sends = report_of c st s; after = Some (record s { reported = Some st.clock }) })
        (record { sends = []; after = Some s })).after ≡ Some (cond b (record s { reported = Some st.clock }) s)
    by true = refl
    by false = refl

turns_any : (p : Session → Bool) (turn : Session → Turn) (f : Session → Session) → Stays turn f → ((s : Session) → p (f s) ≡ p s) → (k : ℕ) (ss : List Session)
    → list_any p (first_turns k turn ss).sessions ≡ list_any p ss
turns_any p turn f stays same zero ss = refl
turns_any p turn f stays same (suc k) [] = refl
turns_any p turn f stays same (suc k) (s ∷ ss) =
    ap (λ o. list_any p (cons_option o (first_turns k turn ss).sessions)) (stays s)
    ∙ ap (λ b. b || list_any p (first_turns k turn ss).sessions) (same s)
    ∙ ap (λ b. p s || b) (turns_any p turn f stays same k ss)

plays_on : (c : Config) (st : State) (number : ℕ) (s : Session)
    → plays_at number (cond (is_due st.clock s) (record s { reported = Some st.clock }) s) ≡ plays_at number s
plays_on c st number s = by (is_due st.clock s)
  where
    by : (b : Bool) → plays_at number (cond b (record s { reported = Some st.clock }) s) ≡ plays_at number s
    by true = refl
    by false = refl

view_on : (c : Config) (st : State) (k : ℕ) (t : Stream)
    → view_of (record st { sessions = (first_turns k (report_turn c st) st.sessions).sessions }) t ≡ view_of st t
view_on c st k t =
    ap (λ b. record (view_of st t) { playing = b })
    (any-filter (λ s. s.stream == t.number) (λ s. s.playing) (first_turns k (report_turn c st) st.sessions).sessions
    ∙ turns_any (plays_at t.number) (report_turn c st) (λ s. cond (is_due st.clock s) (record s { reported = Some st.clock }) s) (report_stays c st)
    (plays_on c st t.number) k st.sessions
    ∙ sym (any-filter (λ s. s.stream == t.number) (λ s. s.playing) st.sessions))

turn_on : (c : Config) (st : State) (k : ℕ) (s : Session)
    → report_turn c (record st { sessions = (first_turns k (report_turn c st) st.sessions).sessions }) s ≡ report_turn c st s
turn_on c st k s =
    ap (λ (ds : List Sent). cond (is_due st.clock s) (turn_with ds (record s { reported = Some st.clock })) (record { sends = []; after = Some s }))
    (by (stream_of st s.stream))
  where
    by : (o : Option Stream)
        → option_map_or (λ t. Report s.id (view_of (record st { sessions = (first_turns k (report_turn c st) st.sessions).sessions }) t)
        (sender_of c st s) ∷ []) o []
        ≡ option_map_or (λ t. Report s.id (view_of st t) (sender_of c st s) ∷ []) o []
    by None = refl
    by (Some t) = ap (λ (w : StreamView). Report s.id w (sender_of c st s) ∷ []) (view_on c st k t)

turns_same : (turn other : Session → Turn) → ((s : Session) → turn s ≡ other s) → (k : ℕ) (ss : List Session) → turn_of k turn ss ≡ turn_of k other ss
turns_same turn other same k [] = refl
turns_same turn other same zero (s ∷ ss) = ap (λ (t : Turn). record { sessions = cons_option t.after ss; sent = t.sends }) (same s)
turns_same turn other same (suc k) (s ∷ ss) = ap (λ (r : Round). record { sessions = s ∷ r.sessions; sent = r.sent }) (turns_same turn other same k ss)

-- one more session had its report
pub reported_more : (c : Config) (v w : Kept) (o m n : Output) (st : State) (k : ℕ)
    → Moved c v o m (after_round st (first_turns k (report_turn c st) st.sessions))
    → Moved c w m n (after_round (record st { sessions = (first_turns k (report_turn c st) st.sessions).sessions })
    (turn_of k (report_turn c (record st { sessions = (first_turns k (report_turn c st) st.sessions).sessions }))
    (first_turns k (report_turn c st) st.sessions).sessions))
    → Moved c w o n (after_round st (first_turns (k + 1) (report_turn c st) st.sessions))
reported_more c v w o m n st k first second =
    let old : List Session = (first_turns k (report_turn c st) st.sessions).sessions in
    let now : State = record st { sessions = old } in
    turned_more c v w o m n st (report_turn c st) (λ s. cond (is_due st.clock s) (record s { reported = Some st.clock }) s) (report_stays c st) k first
    (subst (λ r. Moved c w m n (after_round now r)) (turns_same (report_turn c now) (report_turn c st) (turn_on c st k) k old) second)
