-- HTTP sessions pull and are closed.
use Rattle.std.proofs.Common.{◌≡◌, ℕ, ◌-◌, ◌*◌, ◌==◌, ◌≤◌, ◌&&◌, Bool, true, false, cond, List, [], ◌∷◌, ◌++◌, length, map, find, sum, take, drop, Option}
use Rattle.std.proofs.Common.{Some, None, refl, sym, ap, subst, ◌∙◌, arith, append-nil, length-append, option_and_then}
use Rattle.std.specs.List.{list_any, concat}
use Rattle.std.specs.Option.{option_map, option_map_or}
use Rattle.std.proofs.lemmas.Bool.{or_parts, true≢false, ne_eqb}
use Rattle.std.proofs.lemmas.List.{length-drop}
use Rattle.satip_base.specs.Output.{Output, Wrote}
use Rattle.satip_base.specs.declared.identity.SessionId.{SessionId}
use Rattle.satip_table.specs.declared.session.Seat.{Seat}
use Rattle.satip_table.specs.Sessions.{has_id_of}
use Rattle.satip_table.specs.Living.{Sound}
use Rattle.satip_flow.specs.Subscription.{Subscription, ToAddress, ToQueue, has_slot, pulled, pulled_feed, queue_of, pulled_bytes, WrotePulled}
use Rattle.satip_flow.specs.Subscriptions.{change_slot, of_slot, queue_of_slot}
use Rattle.satip_flow.specs.Sessions.{KeepsRest}
use Rattle.satip_flow.proofs.SessionLemmas.{each_call_keeps_rest}
use Rattle.satip_flow.proofs.Sends.{nothing_sent}
use Rattle.satip_plain.specs.declared.answers.Answer.TheVariants.{Pulled as PulledIs, Closed as ClosedIs}
use Rattle.satip_plain.specs.declared.answers.Pulled.TheVariants.{Bytes, Empty, Gone}
use Rattle.satip_plain.specs.declared.answers.Closed.TheVariants.{Yes, Gone as ClosedGone}
use Rattle.satip_plain.specs.Types.{Config}
use Rattle.satip_plain.specs.State.{Session, Stream, State, same_id, http_session, held}
use Rattle.satip_plain.specs.Sending.{Move, let_go}
use Rattle.satip_plain.specs.Steps.{Outcome, on_pull, on_close, pull_some, hear, end_where, is_session}
use Rattle.satip_state.specs.Kept.{Kept}
use Rattle.satip_state.specs.Seated.{Seated, seat_of, row_of, is_seat, feed_of, packing_of, address_of, subscriber, subscribers}
use Rattle.satip_state.specs.Standing.{StandsFor, Moved, IsKept}
use Rattle.satip_state.specs.Pulling.{pulled_is}
use Rattle.satip_state.proofs.Picking.{any-map, map_one, get_has}
use Rattle.satip_state.proofs.Apart.{Alone, alone_at, slot_itself, id_itself}
use Rattle.satip_state.proofs.Feeds.{picked_of}
use Rattle.satip_state.proofs.Listed.{listed, listed_same, map_listed, subscriber_is, subscribers_map, subscribers_find}
use Rattle.satip_state.proofs.Mapped.{sessions_of, stands_mapped, each_mapped, seated_kept, stands_apart, stream_lives, stream_same, all_kept}
use Rattle.satip_state.proofs.Flushes.{between, changed_between}
use Rattle.satip_state.proofs.Ended.{end_is}
use Rattle.satip_state.proofs.Leaving.{found, found_lives}

-- what an HTTP session with this queue is, once its first packets were pulled
abbrev pub pull_more : Session → List (List ℕ) → Session
pull_more s [] = s
pull_more s (p ∷ ps) = record s { sizes = s.sizes ++ length (take 64 (p ∷ ps)) ∷ [] }

abbrev pub pull_one : Session → Session
pull_one s = cond s.http (pull_more s (held s)) s

more_row : (s : Session) (packets : List (List ℕ)) → row_of (pull_more s packets) ≡ row_of s
unfolding row_of
more_row s [] = refl
more_row s (p ∷ ps) = refl

pull_row : (s : Session) → row_of (pull_one s) ≡ row_of s
pull_row s = by s.http
  where
    by : (b : Bool) → row_of (cond b (pull_more s (held s)) s) ≡ row_of s
    by true = more_row s (held s)
    by false = refl

-- the queue and its bounds
rest_of : (s : Session) → sum s.sizes ≤ length s.picked → KeepsRest s.first s.ssrc (picked_of s) (ToQueue (held s))
rest_of s within = each_call_keeps_rest s.first s.ssrc (picked_of s) (ToQueue (held s)) (refl, within)

more_held : (s : Session) → sum s.sizes ≤ length s.picked → (packets : List (List ℕ)) → held s ≡ packets
    → (drop 64 packets ≡ held (pull_more s packets)) × (sum (pull_more s packets).sizes ≤ length (pull_more s packets).picked)
more_held s within [] same = (sym same, within)
more_held s within (p ∷ ps) same =
    let kept = (rest_of s within).pulled in (
      ap (drop 64) (sym same) ∙ kept.0 ∙ ap (λ ys. drop (sum (s.sizes ++ length (take 64 ys) ∷ [])) s.picked) same,
      subst (λ ys. sum (s.sizes ++ length (take 64 ys) ∷ []) ≤ length s.picked) same kept.1,
    )

queue_pulled : (s : Session) → sum s.sizes ≤ length s.picked → s.http ≡ true → pulled_feed (feed_of s) ≡ feed_of (pull_more s (held s))
unfolding feed_of
queue_pulled s within http =
    ap (λ b. pulled_feed (cond b (ToQueue (held s)) (ToAddress (address_of s) (packing_of s)))) http
    ∙ ap ToQueue (more_held s within (held s) refl).0
    ∙ sym (still (held s))
  where
    still : (packets : List (List ℕ)) → cond (pull_more s packets).http (ToQueue (held (pull_more s packets)))
        (ToAddress (address_of (pull_more s packets)) (packing_of (pull_more s packets))) ≡ ToQueue (held (pull_more s packets))
    still [] = ap (λ b. cond b (ToQueue (held s)) (ToAddress (address_of s) (packing_of s))) http
    still (p ∷ ps) = ap (λ b. cond b (ToQueue (held (pull_more s (p ∷ ps))))
        (ToAddress (address_of (pull_more s (p ∷ ps))) (packing_of (pull_more s (p ∷ ps))))) http

packer_pulled : (s : Session) → s.http ≡ false → pulled_feed (feed_of s) ≡ feed_of s
unfolding feed_of
packer_pulled s rtsp =
    ap (λ b. pulled_feed (cond b (ToQueue (held s)) (ToAddress (address_of s) (packing_of s)))) rtsp
    ∙ sym (ap (λ b. cond b (ToQueue (held s)) (ToAddress (address_of s) (packing_of s))) rtsp)

pull_feed : (s : Session) → IsKept s → pulled_feed (feed_of s) ≡ feed_of (pull_one s)
pull_feed s kept = by s.http refl
  where
    by : (b : Bool) → s.http ≡ b → pulled_feed (feed_of s) ≡ feed_of (cond b (pull_more s (held s)) s)
    by true http = queue_pulled s kept.within http
    by false rtsp = packer_pulled s rtsp

more_kept : (s : Session) → IsKept s → s.http ≡ true → (packets : List (List ℕ)) → held s ≡ packets → IsKept (pull_more s packets)
more_kept s kept http [] same = kept
more_kept s kept http (p ∷ ps) same =
    let more = more_held s kept.within (p ∷ ps) same in
    let few : length (held s) ≤ 4096 = subst (λ b. length (held s) ≤ cond b 4096 6) http kept.few in
    let rest : length (held (pull_more s (p ∷ ps))) ≤ 4096 = omega (arith, few, ap length same, ap length more.0, length-drop 64 (p ∷ ps)) in
    record {
      heard = kept.heard;
      reported = kept.reported;
      first = kept.first;
      within = more.1;
      few = subst (λ b. length (held (pull_more s (p ∷ ps))) ≤ cond b 4096 6) (sym http) rest;
      http = kept.http;
      idle_picked = λ idle. absurd (true≢false (sym (kept.http http) ∙ idle));
      idle_sizes = λ idle. absurd (true≢false (sym (kept.http http) ∙ idle));
    }

pull_kept : (s : Session) → IsKept s → IsKept (pull_one s)
pull_kept s kept = by s.http refl
  where
    by : (b : Bool) → s.http ≡ b → IsKept (cond b (pull_more s (held s)) s)
    by true http = more_kept s kept http (held s) refl
    by false rtsp = kept

-- the session of a slot pulls
abbrev pub pull_seat : Seated → Seated
pull_seat x = record x { session = pull_one x.session }

abbrev pub pull_slot : ℕ → Seated → Seated
pull_slot slot x = cond (is_seat slot x) (pull_seat x) x

pull_slot_slot : (slot : ℕ) (x : Seated) → (pull_slot slot x).slot ≡ x.slot
pull_slot_slot slot x = by (is_seat slot x)
  where
    by : (b : Bool) → (cond b (pull_seat x) x).slot ≡ x.slot
    by true = refl
    by false = refl

pull_slot_row : (slot : ℕ) (x : Seated) → row_of (pull_slot slot x).session ≡ row_of x.session
pull_slot_row slot x = by (is_seat slot x)
  where
    by : (b : Bool) → row_of (cond b (pull_seat x) x).session ≡ row_of x.session
    by true = pull_row x.session
    by false = refl

pull_slot_kept : (slot : ℕ) (x : Seated) → IsKept x.session → IsKept (pull_slot slot x).session
pull_slot_kept slot x kept = by (is_seat slot x)
  where
    by : (b : Bool) → IsKept (cond b (pull_seat x) x).session
    by true = pull_kept x.session kept
    by false = kept

pull_slot_listed : (slot : ℕ) (t : Stream) (x : Seated) → IsKept x.session
    → option_map (λ s. cond (has_slot slot s) (pulled s) s) (subscriber t x) ≡ subscriber t (pull_slot slot x)
pull_slot_listed slot t x kept = map_listed (λ s. cond (has_slot slot s) (pulled s) s) t x ∙ by (is_seat slot x)
  where
    here : Subscription
    here = listed t x (feed_of x.session)

    by : (b : Bool) → cond x.session.playing (Some (cond b (pulled here) here)) None ≡ subscriber t (cond b (pull_seat x) x)
    by true = listed_same t x (pull_seat x) (pulled_feed (feed_of x.session)) refl (pull_row x.session) (pull_feed x.session kept)
    by false = sym (subscriber_is t x)

-- the state with the session pulled
abbrev pub pulled_state : State → (seated : List Seated) → (x : Seated) → Alone seated x → State
pulled_state st seated x alone = record st { sessions = sessions_of alone.before ++ pull_one x.session ∷ sessions_of alone.behind }

pub stands_pulled : (c : Config) (v : Kept) (st : State) (stands : StandsFor c v st) → (x : Seated) (alone : Alone stands.seated x) (flow : List Subscription)
    → flow ≡ change_slot x.slot pulled v.flow → StandsFor c (record v { flow = flow }) (pulled_state st stands.seated x alone)
stands_pulled c v st stands x alone flow changed =
    subst (λ (ss : List Session). StandsFor c (record v { flow = flow }) (record st { sessions = ss })) (changed_between pull_seat stands.seated x alone)
    (stands_mapped c v st stands (pull_slot x.slot) (pull_slot_slot x.slot) (pull_slot_row x.slot)
    (each_mapped (pull_slot x.slot) stands.seated (pull_slot_kept x.slot) (all_kept c v st stands))
    flow
    (changed ∙ ap (λ ss. change_slot x.slot pulled ss) stands.flow
    ∙ subscribers_map (λ s. cond (has_slot x.slot s) (pulled s) s) (pull_slot x.slot) stands.seated st.streams
    (λ y. stream_same y.session (pull_slot x.slot y).session (pull_slot_row x.slot y))
    (λ t here y has e. pull_slot_listed x.slot t y (seated_kept stands.seated y (all_kept c v st stands) has))))

-- the HTTP session with an id
find_such : (p r : Session → Bool) (a : List Session) (s : Session) (b : List Session) → list_any p a ≡ false → p s ≡ true → list_any p b ≡ false
    → find (λ y. p y && r y) (a ++ s ∷ b) ≡ cond (r s) (Some s) None
find_such p r [] s b before here behind = ap (λ c. cond (c && r s) (Some s) (find (λ y. p y && r y) b)) here ∙ ap (λ o. cond (r s) (Some s) o) (none b behind)
  where
    none : (ys : List Session) → list_any p ys ≡ false → find (λ y. p y && r y) ys ≡ None
    none [] e = refl
    none (y ∷ ys) e =
        let parts = or_parts (p y) (list_any p ys) e in
        ap (λ c. cond (c && r y) (Some y) (find (λ z. p z && r z) ys)) parts.0 ∙ none ys parts.1
find_such p r (y ∷ a) s b before here behind =
    let parts = or_parts (p y) (list_any p a) before in
    ap (λ c. cond (c && r y) (Some y) (find (λ z. p z && r z) (a ++ s ∷ b))) parts.0 ∙ find_such p r a s b parts.1 here behind

find_nobody : (p r : Session → Bool) (ss : List Session) → list_any p ss ≡ false → find (λ y. p y && r y) ss ≡ None
find_nobody p r [] e = refl
find_nobody p r (y ∷ ys) e =
    let parts = or_parts (p y) (list_any p ys) e in
    ap (λ c. cond (c && r y) (Some y) (find (λ z. p z && r z) ys)) parts.0 ∙ find_nobody p r ys parts.1

pub http_is : (st : State) (seated : List Seated) (x : Seated) (alone : Alone seated x) → st.sessions ≡ sessions_of seated
    → http_session st x.session.id ≡ cond x.session.http (Some x.session) None
http_is st seated x alone same =
    ap (find (λ s. same_id s.id x.session.id && s.http)) (same ∙ between seated x alone)
    ∙ find_such (is_session x.session.id) (λ s. s.http) (sessions_of alone.before) x.session (sessions_of alone.behind)
    (any-map (λ (y : Seated). y.session) (is_session x.session.id) alone.before ∙ alone.id_before) (id_itself x.session.id)
    (any-map (λ (y : Seated). y.session) (is_session x.session.id) alone.behind ∙ alone.id_behind)

pub http_nobody : (st : State) (id : SessionId) → list_any (is_session id) st.sessions ≡ false → http_session st id ≡ None
http_nobody st id none = find_nobody (is_session id) (λ s. s.http) st.sessions none

row_http : (x : Seated) → (seat_of x).session.http ≡ x.session.http
unfolding row_of
row_http x = refl

-- none where the id's session has another kind, or nobody has it
pub no_http : (c : Config) (v : Kept) (st : State) → StandsFor c v st → Sound v.table → (id : SessionId) (seat : Seat)
    → find (has_id_of id) v.table.seats ≡ Some seat → seat.session.http ≡ false
    → http_session st id ≡ None
no_http c v st stands sound id seat at rtsp =
    let f = found c v st stands id seat at in
    let alone = alone_at stands.seated f.place f.who (stands_apart c v st stands sound) f.got in
    let http : f.who.session.http ≡ false = sym (row_http f.who) ∙ ap (λ (z : Seat). z.session.http) (sym f.seat_is) ∙ rtsp in
    ap (http_session st) f.id_is ∙ http_is st stands.seated f.who alone.alone stands.sessions ∙ ap (λ b. cond b (Some f.who.session) None) http

pub no_session : (c : Config) (v : Kept) (st : State) → StandsFor c v st → (id : SessionId) → None ≡ find (has_id_of id) v.table.seats
    → http_session st id ≡ None
no_session c v st stands id none = http_nobody st id (sym (found_lives c v st stands id None none))

abbrev pub pull_with : State → Option Session → Outcome
pull_with st o = option_map_or (λ s. pull_some st s (held s)) o (record { state = st; answer = PulledIs Gone; reply = []; sent = [] })

abbrev pub close_with : State → SessionId → Option Session → Outcome
close_with st id o = option_map_or (λ s. record {
  state = (end_where (is_session id) st).state;
  answer = ClosedIs Yes;
  reply = [];
  sent =
      (end_where (is_session id) st).sent;
}) o (record { state = st; answer = ClosedIs ClosedGone; reply = []; sent = [] })

pub pull_gone : (st : State) (id : SessionId) → http_session st id ≡ None → on_pull id st ≡ record { state = st; answer = PulledIs Gone; reply = []; sent = [] }
pull_gone st id none = ap (pull_with st) none

pub close_gone : (st : State) (id : SessionId) → http_session st id ≡ None
    → on_close id st ≡ record { state = st; answer = ClosedIs ClosedGone; reply = []; sent = [] }
close_gone st id none = ap (close_with st id) none

pub nothing_written : (o : Output) → Wrote o [] o
nothing_written o = record {
  reply = sym (append-nil o.reply);
  reply_spare = omega arith;
  datagrams = refl;
  datagram_spare = refl;
  count_spare = refl;
}

-- the queue of an HTTP session is its subscriber's
feed_queue : (s : Session) → s.http ≡ true → queue_of (feed_of s) ≡ Some (held s)
unfolding feed_of
feed_queue s http = ap (λ b. queue_of (cond b (ToQueue (held s)) (ToAddress (address_of s) (packing_of s)))) http

pub record Pulls (c : Config) (v : Kept) (st : State) (stands : StandsFor c v st) (id : SessionId) (seat : Seat) : Type 0 where
  pub who : Seated
  pub alone : Alone stands.seated who
  pub id_is : id ≡ who.session.id
  pub slot_is : seat.slot ≡ who.slot
  pub kept : IsKept who.session
  pub http : who.session.http ≡ true
  pub session : http_session st id ≡ Some who.session
  pub queue : queue_of_slot seat.slot v.flow ≡ Some (held who.session)

pub pulls : (c : Config) (v : Kept) (st : State) (stands : StandsFor c v st) → Sound v.table → (id : SessionId) (seat : Seat)
    → find (has_id_of id) v.table.seats ≡ Some seat → seat.session.http ≡ true
    → Pulls c v st stands id seat
pulls c v st stands sound id seat at is_http =
    let f = found c v st stands id seat at in
    let x : Seated = f.who in
    let alone = alone_at stands.seated f.place x (stands_apart c v st stands sound) f.got in
    let kept : IsKept x.session = seated_kept stands.seated x (all_kept c v st stands) (get_has stands.seated f.place x f.got) in
    let http : x.session.http ≡ true = sym (row_http x) ∙ ap (λ (z : Seat). z.session.http) (sym f.seat_is) ∙ is_http in
    let lives = stream_lives c v st stands sound f.place x f.got in
    let it : of_slot x.slot v.flow ≡ Some (listed lives.0 x (feed_of x.session)) =
    ap (of_slot x.slot) stands.flow
    ∙ ap (λ xs. of_slot x.slot (subscribers xs st.streams)) alone.alone.whole
    ∙ subscribers_find x.slot alone.alone.before x alone.alone.behind st.streams alone.alone.slot_before (slot_itself x) alone.alone.slot_behind lives.0 lives.1
    ∙ subscriber_is lives.0 x
    ∙ ap (λ b. cond b (Some (listed lives.0 x (feed_of x.session))) None) (kept.http http) in
    record {
      who = x;
      alone = alone.alone;
      id_is = f.id_is;
      slot_is = f.slot_is;
      kept = kept;
      http = http;
      session = ap (http_session st) f.id_is ∙ http_is st stands.seated x alone.alone stands.sessions ∙ ap (λ b. cond b (Some x.session) None) http;
      queue = ap (λ k. queue_of_slot k v.flow) f.slot_is
          ∙ ap (λ o. option_and_then queue_of (option_map (λ (z : Subscription). z.feed) o)) it ∙ feed_queue x.session http;
    }

-- what was moved, written and answered
wrote_some : (o n : Output) (st : State) (s : Session) (packets : List (List ℕ)) → WrotePulled (Some packets) o n → Wrote o (pull_some st s packets).reply n
wrote_some o n st s [] wrote = wrote
wrote_some o n st s (p ∷ ps) wrote = wrote

pub pull_wrote : (c : Config) (v : Kept) (o n : Output) (st : State) (stands : StandsFor c v st) (id : SessionId) (seat : Seat)
    (p : Pulls c v st stands id seat)
    → WrotePulled (queue_of_slot seat.slot v.flow) o n → Wrote o (on_pull id st).reply n
pull_wrote c v o n st stands id seat p wrote =
    subst (λ (out : Outcome). Wrote o out.reply n) (sym (ap (pull_with st) p.session))
    (wrote_some o n st p.who.session (held p.who.session) (subst (λ q. WrotePulled q o n) p.queue wrote))

answered_some : (st : State) (s : Session) (packets : List (List ℕ)) (bytes : ℕ) → bytes ≡ length (concat (take 64 packets))
    → PulledIs (pulled_is (pulled_bytes (Some packets)) bytes) ≡ (pull_some st s packets).answer
answered_some st s [] bytes same = refl
answered_some st s (p ∷ ps) bytes same =
    let some : (188 * length (take 64 (p ∷ ps)) == 0) ≡ false = ne_eqb (188 * length (take 64 (p ∷ ps))) 0 (λ e. omega (arith, e)) in
    ap (λ b. PulledIs (cond b Empty (Bytes bytes))) some ∙ ap (λ k. PulledIs (Bytes k)) same

pub pull_answered : (c : Config) (v : Kept) (o n : Output) (st : State) (stands : StandsFor c v st) (id : SessionId) (seat : Seat)
    (p : Pulls c v st stands id seat)
    → WrotePulled (queue_of_slot seat.slot v.flow) o n → (moved : Option ℕ) → moved ≡ pulled_bytes (queue_of_slot seat.slot v.flow)
    → PulledIs (pulled_is moved (length n.reply - length o.reply)) ≡ (on_pull id st).answer
pull_answered c v o n st stands id seat p wrote moved same =
    let it : WrotePulled (Some (held p.who.session)) o n = subst (λ q. WrotePulled q o n) p.queue wrote in
    let many : length n.reply - length o.reply ≡ length (concat (take 64 (held p.who.session))) =
    omega (arith, ap length it.reply, length-append o.reply (concat (take 64 (held p.who.session)))) in
    ap (λ m. PulledIs (pulled_is m (length n.reply - length o.reply))) (same ∙ ap pulled_bytes p.queue)
    ∙ answered_some st p.who.session (held p.who.session) (length n.reply - length o.reply) many
    ∙ sym (ap (λ (out : Outcome). out.answer) (ap (pull_with st) p.session))

-- the session was heard of, and its packets are gone
heard_between : (st : State) (clock : ℕ) (id : SessionId) (a : List Session) (s : Session) (b : List Session) (change : Session → Session)
    → list_any (is_session id) a ≡ false → is_session id s ≡ true → list_any (is_session id) b ≡ false
    → ◌≡◌ {A = State} (record st { sessions = map (λ x. cond (is_session id x) (change x) x) (a ++ s ∷ b) }) (record st { sessions = a ++ change s ∷ b })
heard_between st clock id a s b change before here behind =
    ap (λ (ss : List Session). record st { sessions = ss }) (map_one (is_session id) change a s b before here behind)

state_some : (st : State) (s : Session) (a b : List Session) → st.sessions ≡ a ++ s ∷ b → list_any (is_session s.id) a ≡ false
    → list_any (is_session s.id) b ≡ false → (packets : List (List ℕ))
    → hear s.id (record st { sessions = a ++ pull_more s packets ∷ b }) ≡ (pull_some st s packets).state
state_some st s a b same before behind [] = ap (λ (ss : List Session). hear s.id (record st { sessions = ss })) (sym same)
state_some st s a b same before behind (p ∷ ps) =
    heard_between st st.clock s.id a (pull_more s (p ∷ ps)) b (λ x. record x { heard = st.clock }) before (id_itself s.id) behind
    ∙ sym (heard_between st st.clock s.id a s b (λ x. record x { heard = st.clock; sizes = x.sizes ++ length (take 64 (p ∷ ps)) ∷ [] }) before
    (id_itself s.id) behind)
    ∙ ap (λ (ss : List Session). record st {
      sessions =
          map (λ x. cond (is_session s.id x) (record x { heard = st.clock; sizes = x.sizes ++ length (take 64 (p ∷ ps)) ∷ [] }) x) ss;
    }) (sym same)

pub pull_stands : (c : Config) (v w : Kept) (st : State) (stands : StandsFor c v st) (id : SessionId) (seat : Seat) (p : Pulls c v st stands id seat)
    (flow : List Subscription)
    → flow ≡ change_slot seat.slot pulled v.flow → ((now : State) → StandsFor c (record v { flow = flow }) now → StandsFor c w (hear id now))
    → StandsFor c w (on_pull id st).state
pull_stands c v w st stands id seat p flow changed heard =
    let x : Seated = p.who in
    let a : List Session = sessions_of p.alone.before in
    let b : List Session = sessions_of p.alone.behind in
    let now : StandsFor c (record v { flow = flow }) (pulled_state st stands.seated x p.alone) =
    stands_pulled c v st stands x p.alone flow (changed ∙ ap (λ k. change_slot k pulled v.flow) p.slot_is) in
    let is : pull_one x.session ≡ pull_more x.session (held x.session) = ap (λ h. cond h (pull_more x.session (held x.session)) x.session) p.http in
    let state : hear id (pulled_state st stands.seated x p.alone) ≡ (on_pull id st).state =
    ap (λ i. hear i (pulled_state st stands.seated x p.alone)) p.id_is
    ∙ ap (λ (s : Session). hear x.session.id (record st { sessions = a ++ s ∷ b })) is
    ∙ state_some st x.session a b (stands.sessions ∙ between stands.seated x p.alone)
    (any-map (λ (y : Seated). y.session) (is_session x.session.id) p.alone.before ∙ p.alone.id_before)
    (any-map (λ (y : Seated). y.session) (is_session x.session.id) p.alone.behind ∙ p.alone.id_behind) (held x.session)
    ∙ sym (ap (λ (out : Outcome). out.state) (ap (pull_with st) p.session)) in
    subst (λ z. StandsFor c w z) state (heard (pulled_state st stands.seated x p.alone) now)

-- an HTTP session is closed
pub close_is : (c : Config) (v : Kept) (st : State) (stands : StandsFor c v st) (id : SessionId) (seat : Seat) (p : Pulls c v st stands id seat)
    → on_close id st ≡ record { state = (end_where (is_session id) st).state; answer = ClosedIs Yes; reply = []; sent = (end_where (is_session id) st).sent }
close_is c v st stands id seat p = ap (close_with st id) p.session

pub close_silent : (c : Config) (v : Kept) (st : State) (stands : StandsFor c v st) (id : SessionId) (seat : Seat) (p : Pulls c v st stands id seat)
    → (end_where (is_session id) st).sent ≡ []
close_silent c v st stands id seat p =
    ap (λ i. (end_where (is_session i) st).sent) p.id_is
    ∙ ap (λ (m : Move). m.sent) (end_is st stands.seated p.who p.alone stands.sessions)
    ∙ ap (λ b. cond b [] (let_go true st.clock p.who.session).sends) p.http

pub gone_moved : (c : Config) (v : Kept) (o : Output) (st : State) → StandsFor c v st → (out : Outcome)
    → out ≡ record { state = st; answer = ClosedIs ClosedGone; reply = []; sent = [] }
    → Moved c v o o (record { state = out.state; sent = out.sent })
gone_moved c v o st stands out same = subst (λ (z : Outcome). Moved c v o o (record { state = z.state; sent = z.sent })) (sym same)
    (record { stands = stands; sent = nothing_sent o })
