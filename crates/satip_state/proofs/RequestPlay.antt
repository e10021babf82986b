-- A session begins to play.
use Rattle.std.proofs.Common.{◌≡◌, ◌∙◌, ℕ, zero, suc, ◌+◌, ◌-◌, ◌*◌, ◌%◌, ◌<◌, ◌≤◌, ◌==◌, ◌||◌, not, Bool, true, false, cond, List, [], ◌∷◌, ◌++◌, Option}
use Rattle.std.proofs.Common.{None, Some, map, find, length, sum, drop, slice_get, refl, ap, sym, subst, arith, add-zero, mod-eq_of_lt}
use Rattle.std.specs.List.{list_any, list_all}
use Rattle.std.specs.Option.{option_map, option_and_then, option_flatten}
use Rattle.std.proofs.lemmas.Bool.{and_parts, eqb-true, eqb-false, eq-eqb, ne_eqb, true≢false}
use Rattle.std.proofs.lemmas.Option.{same_Some}
use Rattle.satip_base.specs.Lists.{Each}
use Rattle.satip_base.specs.declared.identity.SessionId.{SessionId}
use Rattle.satip_table.specs.declared.session.Seat.{Seat}
use Rattle.satip_table.specs.declared.session.Session.{Session as TableRow}
use Rattle.satip_table.specs.declared.stream.Stream.{Stream as StreamRow}
use Rattle.satip_table.specs.Sessions.{has_id_of, has_slot, played, with_session}
use Rattle.satip_table.specs.Streams.{has_number, is_live}
use Rattle.satip_table.specs.Living.{Living, Sound, CountsRise, SlotsApart}
use Rattle.satip_rtp.specs.Packing.{Packing, packing}
use Rattle.satip_fronts.specs.FrontEnds.{FrontEnds, IsNumbered, Sound as FrontsSound, front_of, is_front, is_place}
use Rattle.satip_tune.specs.declared.frontends.Front.{Front}
use Rattle.satip_flow.specs.declared.place.Place.{Place}
use Rattle.satip_flow.specs.Subscription.{Subscription, Feed, ToAddress, ToQueue, subscription, has_slot as has_slot_of}
use Rattle.satip_flow.specs.Subscriptions.{IsFrontOrNone, put, without}
use Rattle.satip_plain.specs.Types.{Config}
use Rattle.satip_plain.specs.State.{Session, Stream, State, change_where, held, stream_of}
use Rattle.satip_plain.specs.Steps.{is_session, change_session}
use Rattle.satip_state.specs.Kept.{Kept}
use Rattle.satip_state.specs.Seated.{Seated, address_of, feed_of, packing_of, row_of, seat_of, subscriber, subscribers}
use Rattle.satip_state.specs.Standing.{IsKept, StandsFor, stream_in}
use Rattle.satip_state.specs.Subscribing.{new_feed, subscription_of}
use Rattle.satip_state.proofs.RequestLists.{each_weaker, filter_all, none_some}
use Rattle.satip_state.proofs.RequestSeats.{changed_seated, due_same, session_in, sessions_changed, none_of_slot}
use Rattle.satip_state.proofs.RequestSession.{IsChange, agrees, session_changed}
use Rattle.satip_state.proofs.RequestFlow.{MadeAfter, MadeBefore, Rise, each_subscriber, idle_skipped, put_into, sub_place}
use Rattle.satip_state.proofs.RequestStreams.{found_in, rise_in}

-- the subscriber of a slot

pub without_free : (slot : ℕ) (xs : List Subscription) → list_any (has_slot_of slot) (without slot xs) ≡ false
without_free slot [] = refl
without_free slot (x ∷ xs) = by (has_slot_of slot x) refl (without_free slot xs)
  where
    by : (b : Bool) → has_slot_of slot x ≡ b → list_any (has_slot_of slot) (without slot xs) ≡ false
        → list_any (has_slot_of slot) (cond (not b) (x ∷ without slot xs) (without slot xs)) ≡ false
    by true is rest = rest
    by false is rest = ap (λ b. b || list_any (has_slot_of slot) (without slot xs)) is ∙ rest

abbrev place_in : ℕ → TableRow → StreamRow → Place
place_in slot s t = record { slot = slot; stream = t.number; count = s.id.count }

pub subscribed_queue : (slot : ℕ) (s : TableRow) (t : StreamRow) (front : Option ℕ) (old ended new : List Subscription) → s.http ≡ true → front ≡ t.front
    → ended ≡ without slot old
    → new ≡ put (subscription (place_in slot s t) front t.pids (ToQueue [])) ended → new ≡ put (subscription_of slot s t) (without slot old)
unfolding subscription_of new_feed
subscribed_queue slot s t front old ended new http same gone added =
    added ∙ ap (put (subscription (place_in slot s t) front t.pids (ToQueue []))) gone
    ∙ ap (λ f. put (subscription (place_in slot s t) f t.pids (ToQueue [])) (without slot old)) same
    ∙ ap (λ b. put (subscription (place_in slot s t) t.front t.pids
    (cond b (ToQueue []) (ToAddress (record { ip = s.peer.ip; port = s.ports.rtp }) (packing s.ssrc s.first)))) (without slot old)) (sym http)

pub subscribed_address : (slot : ℕ) (s : TableRow) (t : StreamRow) (front : Option ℕ) (old ended new : List Subscription) → s.http ≡ false → front ≡ t.front
    → ended ≡ without slot old
    → new ≡ put (subscription (place_in slot s t) front t.pids (ToAddress (record { ip = s.peer.ip; port = s.ports.rtp }) (packing s.ssrc s.first))) ended
    → new ≡ put (subscription_of slot s t) (without slot old)
unfolding subscription_of new_feed
subscribed_address slot s t front old ended new http same gone added =
    let feed = ToAddress (record { ip = s.peer.ip; port = s.ports.rtp }) (packing s.ssrc s.first) in
    added ∙ ap (put (subscription (place_in slot s t) front t.pids feed)) gone
    ∙ ap (λ f. put (subscription (place_in slot s t) f t.pids feed) (without slot old)) same
    ∙ ap (λ b. put (subscription (place_in slot s t) t.front t.pids (cond b (ToQueue []) feed)) (without slot old)) (sym http)

-- a stream's front end has a number from 1 to 16

number_within : (from f : ℕ) (fronts : List Front) → IsNumbered from fronts → list_any (is_front f) fronts ≡ true → (from ≤ f) × (f < from + length fronts)
number_within from f [] numbered there = absurd (true≢false (sym there))
number_within from f (x ∷ fronts) numbered there = by (x.number == f) refl there (number_within (from + 1) f fronts numbered.1)
  where
    by : (b : Bool) → (x.number == f) ≡ b → (b || list_any (is_front f) fronts) ≡ true
        → (list_any (is_front f) fronts ≡ true → (from + 1 ≤ f) × (f < from + 1 + length fronts)) → (from ≤ f) × (f < from + suc (length fronts))
    by true is there rest = let e = eqb-true x.number f is in (omega (arith, e, numbered.0), omega (arith, e, numbered.0))
    by false is there rest = (omega (arith, (rest there).0), omega (arith, (rest there).1))

place_known : (fronts : List Front) (places : List (Option ℕ)) (i : ℕ) (o : Option ℕ) → list_all (is_place fronts) places ≡ true → slice_get places i ≡ Some o
    → is_place fronts o ≡ true
place_known fronts [] i o all there = absurd (none_some o there)
place_known fronts (p ∷ places) zero o all there = ap (is_place fronts) (sym (same_Some p o there)) ∙ (and_parts _ _ all).0
place_known fronts (p ∷ places) (suc i) o all there = place_known fronts places i o (and_parts _ _ all).1 there

pub front_or_none : (v : FrontEnds) → FrontsSound v → (o : Option ℕ) → is_place v.fronts o ≡ true → IsFrontOrNone o
front_or_none v sound None known = tt
front_or_none v sound (Some f) known =
    let within = number_within 1 f v.fronts sound.numbered known in
    (within.0, omega (arith, within.1, sound.few))

pub front_within : (v : FrontEnds) → FrontsSound v → (number : ℕ) → IsFrontOrNone (front_of v.places number)
unfolding front_of
front_within v sound number = by (number == 0) (slice_get v.places (number - 1)) refl
  where
    flat : (o : Option (Option ℕ)) → slice_get v.places (number - 1) ≡ o → IsFrontOrNone (option_flatten o)
    flat None is = tt
    flat (Some o) is = front_or_none v sound o (place_known v.fronts v.places (number - 1) o sound.places is)

    by : (b : Bool) (o : Option (Option ℕ)) → slice_get v.places (number - 1) ≡ o → IsFrontOrNone (cond b None (option_flatten o))
    by true o is = tt
    by false o is = flat o is

pub stream_is : (c : Config) (v : Kept) (st : State) → StandsFor c v st → (number : ℕ)
    → stream_of st number ≡ option_map stream_in (find (has_number number) v.table.streams)
stream_is c v st s number = ap (find (λ (t : Stream). t.number == number)) (sym s.streams) ∙ found_in number v.table.streams

pub front_is : (c : Config) (v : Kept) (st : State) → StandsFor c v st → (number : ℕ) (row : StreamRow) → find (has_number number) v.table.streams ≡ Some row
    → front_of v.fronts.places number ≡ row.front
unfolding stream_in
front_is c v st s number row found =
    s.places number ∙ ap (option_and_then (λ (t : Stream). t.front)) (stream_is c v st s number ∙ ap (option_map stream_in) found)

pub front_known : (c : Config) (v : Kept) (st : State) → StandsFor c v st → FrontsSound v.fronts → (number : ℕ) (row : StreamRow)
    → find (has_number number) v.table.streams ≡ Some row → IsFrontOrNone row.front
front_known c v st s sound number row found = subst IsFrontOrNone (front_is c v st s number row found) (front_within v.fronts sound number)

-- the session of an id among the others

pub record IsAmong (id : SessionId) (slot : ℕ) (row : TableRow) (seated : List Seated) : Type 0 where
  pub front : List Seated
  pub back : List Seated
  pub it : Seated
  pub whole : seated ≡ front ++ it ∷ back
  pub at : it.slot ≡ slot
  pub its : row_of it.session ≡ row
  pub before : Each (MadeBefore it) front
  pub after : Each (MadeAfter it) back
  pub others : Each (λ y. (y.slot == slot) ≡ false) (front ++ back)

counts_above : (above last : ℕ) (seated : List Seated) → CountsRise above last (map seat_of seated) → Each (λ y. above < y.session.id.count) seated
unfolding row_of
counts_above above last [] rise = tt
counts_above above last (y ∷ ys) rise = (rise.0, each_weaker _ _ (λ z more. omega (arith, more, rise.0)) ys (counts_above y.session.id.count last ys rise.1))

each_at : (P : Seated → Type 0) (front back : List Seated) (x : Seated) → Each P (front ++ x ∷ back) → P x
each_at P [] back x all = all.0
each_at P (y ∷ front) back x all = each_at P front back x all.1

abbrev seat_found : SessionId → List Seated → Option Seat
seat_found id seated = find (has_id_of id) (map seat_of seated)

pub among : (id : SessionId) (slot : ℕ) (row : TableRow) (above last : ℕ) (seated : List Seated) → CountsRise above last (map seat_of seated)
    → SlotsApart (map seat_of seated)
    → seat_found id seated ≡ Some (record { slot = slot; session = row }) → IsAmong id slot row seated
unfolding row_of
among id slot row above last [] rise apart found = absurd (none_some _ found)
among id slot row above last (y ∷ ys) rise apart found = by (is_session id y.session) refl found (among id slot row y.session.id.count last ys rise.1 apart.2)
  where
    here : seat_of y ≡ record { slot = slot; session = row } → IsAmong id slot row (y ∷ ys)
    here is = record {
      front = [];
      back = ys;
      it = y;
      whole = refl;
      at = ap (λ (s : Seat). s.slot) is;
      its = ap (λ (s : Seat). s.session) is;
      before = tt;
      after = counts_above y.session.id.count last ys rise.1;
      others = none_of_slot slot ys (ap (λ (s : Seat). list_any (has_slot s.slot) (map seat_of ys)) (sym is) ∙ apart.1);
    }

    later : IsAmong id slot row ys → IsAmong id slot row (y ∷ ys)
    later r =
        let less : MadeBefore r.it y = each_at (λ z. y.session.id.count < z.session.id.count) r.front r.back r.it
        (subst (Each (λ z. y.session.id.count < z.session.id.count)) r.whole (counts_above y.session.id.count last ys rise.1)) in
        let apart_of : (r.it.slot == y.slot) ≡ false =
        each_at (λ z. (z.slot == y.slot) ≡ false) r.front r.back r.it
        (subst (Each (λ z. (z.slot == y.slot) ≡ false)) r.whole (none_of_slot y.slot ys apart.1)) in
        let differs : r.it.slot ≡ y.slot → ⊥ = eqb-false r.it.slot y.slot apart_of in
        record {
          front = y ∷ r.front;
          back = r.back;
          it = r.it;
          whole = ap (λ zs. y ∷ zs) r.whole;
          at = r.at;
          its = r.its;
          before = (less, r.before);
          after = r.after;
          others = (ne_eqb y.slot slot (λ e. differs (r.at ∙ sym e)), r.others);
        }

    by : (b : Bool) → is_session id y.session ≡ b → cond b (Some (seat_of y)) (seat_found id ys) ≡ Some (record { slot = slot; session = row })
        → (seat_found id ys ≡ Some (record { slot = slot; session = row }) → IsAmong id slot row ys) → IsAmong id slot row (y ∷ ys)
    by true is found rest = here (same_Some (seat_of y) _ found)
    by false is found rest = later (rest found)

-- the others stay as they are
others_same : (slot : ℕ) (f : Session → Session) (ys : List Seated) → Each (λ y. (y.slot == slot) ≡ false) ys → map (changed_seated slot f) ys ≡ ys
others_same slot f [] all = refl
others_same slot f (y ∷ ys) all = ap (λ b. record { slot = y.slot; session = cond b (f y.session) y.session } ∷ map (changed_seated slot f) ys) all.0
    ∙ ap (λ zs. y ∷ zs) (others_same slot f ys all.1)

each_front : {X : Type 0} (P : X → Type 0) (xs ys : List X) → Each P (xs ++ ys) → Each P xs
each_front P [] ys all = tt
each_front P (x ∷ xs) ys all = (all.0, each_front P xs ys all.1)

each_back : {X : Type 0} (P : X → Type 0) (xs ys : List X) → Each P (xs ++ ys) → Each P ys
each_back P [] ys all = all
each_back P (x ∷ xs) ys all = each_back P xs ys all.1

abbrev pub with_it : (id : SessionId) (slot : ℕ) (row : TableRow) (seated : List Seated) → IsAmong id slot row seated → (Session → Session) → List Seated
with_it id slot row seated r f = r.front ++ record { slot = r.it.slot; session = f r.it.session } ∷ r.back

pub changed_it : (id : SessionId) (slot : ℕ) (row : TableRow) (seated : List Seated) (r : IsAmong id slot row seated) (f : Session → Session)
    → map (changed_seated slot f) seated ≡ with_it id slot row seated r f
changed_it id slot row seated r f =
    ap (map (changed_seated slot f)) r.whole
    ∙ split r.front
    ∙ ap (λ zs. zs ++ changed_seated slot f r.it ∷ map (changed_seated slot f) r.back) (others_same slot f r.front (each_front _ r.front r.back r.others))
    ∙ ap (λ zs. r.front ++ changed_seated slot f r.it ∷ zs) (others_same slot f r.back (each_back _ r.front r.back r.others))
    ∙ ap (λ b. r.front ++ record { slot = r.it.slot; session = cond b (f r.it.session) r.it.session } ∷ r.back) (eq-eqb r.it.slot slot r.at)
  where
    split : (front : List Seated) → map (changed_seated slot f) (front ++ r.it ∷ r.back) ≡ map (changed_seated slot f) front
        ++ changed_seated slot f r.it ∷ map (changed_seated slot f) r.back
    split [] = refl
    split (y ∷ ys) = ap (λ zs. changed_seated slot f y ∷ zs) (split ys)

-- what a session that has sent nothing yet is subscribed with

packing_new : (s : Session) → s.picked ≡ [] → s.sizes ≡ [] → s.first < 65536 → packing_of s ≡ packing s.ssrc s.first
unfolding packing_of
packing_new s none unsent within =
    ap (made s.picked) unsent ∙ ap (λ ps. made ps []) none
    ∙ ap (λ n. record { ssrc = s.ssrc; held = []; next = n; datagrams = 0; octets = 0 }) (ap (λ n. n % 65536) (add-zero s.first) ∙ mod-eq_of_lt within)
  where
    made : List (List ℕ) → List ℕ → Packing
    made ps zs = record {
      ssrc = s.ssrc;
      held = drop (sum zs) ps;
      next = (s.first + length zs) % 65536;
      datagrams = length zs % 4294967296;
      octets =
          188 * sum zs % 4294967296;
    }

pub feed_new : (s : Session) → s.picked ≡ [] → s.sizes ≡ [] → s.first < 65536 → feed_of s ≡ new_feed (row_of s)
unfolding feed_of new_feed row_of
feed_new s none unsent within =
    ap (λ p. cond s.http (ToQueue (held s)) (ToAddress (address_of s) p)) (packing_new s none unsent within)
    ∙ ap (λ (ps : List (List ℕ)). cond s.http (ToQueue ps) (ToAddress (address_of s) (packing s.ssrc s.first))) (ap (λ zs. drop (sum zs) s.picked) unsent
    ∙ none)

pub subscriber_new : (slot : ℕ) (s : Session) (row : TableRow) (t : StreamRow) (x : Seated) → x.slot ≡ slot → x.session ≡ s → s.playing ≡ true → s.picked ≡ []
    → s.sizes ≡ [] → s.first < 65536 → row_of s ≡ row
    → subscriber (stream_in t) x ≡ Some (subscription_of slot row t)
unfolding subscriber subscription_of stream_in row_of
subscriber_new slot s row t x at is plays none unsent within its =
    ap (subscriber (stream_in t)) whole ∙ ap (λ b. cond b (Some (made slot s (feed_of s))) None) plays
    ∙ ap (λ f. Some (made slot s f)) (feed_new s none unsent within)
    ∙ ap Some (count (feed_new s none unsent within))
  where
    made : ℕ → Session → Feed → Subscription
    made n y f = record { place = record { slot = n; stream = t.number; count = y.id.count }; front = t.front; pids = t.pids; feed = f }

    whole : x ≡ record { slot = slot; session = s }
    whole = ap (λ n. record { slot = n; session = x.session }) at ∙ ap (λ y. record { slot = slot; session = y }) is

    count : feed_of s ≡ new_feed (row_of s) → made slot s (new_feed (row_of s)) ≡ record {
      place =
          record { slot = slot; stream = t.number; count = row.id.count };
      front = t.front;
      pids = t.pids;
      feed = new_feed row;
    }
    count e = ap (λ (r : TableRow). record {
      place = record { slot = slot; stream = t.number; count = r.id.count };
      front = t.front;
      pids = t.pids;
      feed =
          new_feed r;
    }) its

pub sub_quiet : (t : Stream) (x : Seated) → x.session.playing ≡ false → subscriber t x ≡ None
unfolding subscriber
sub_quiet t x quiet = ap (λ b. cond b
    (Some (record {
      place = record { slot = x.slot; stream = t.number; count = x.session.id.count };
      front = t.front;
      pids = t.pids;
      feed =
          feed_of x.session;
    })) None) quiet

-- an RTSP session plays

pub playing_now : Session → Session
playing_now s = record s { playing = true }

playing_change : IsChange playing_now played
unfolding playing_now played row_of
playing_change = record {
  row = λ s. refl;
  kept = λ s k. record {
    heard = k.heard;
    reported = k.reported;
    first = k.first;
    within = k.within;
    few = k.few;
    http = λ _. refl;
    idle_picked = λ idle. absurd (true≢false idle);
    idle_sizes = λ idle. absurd (true≢false idle);
  };
  stream = λ s. refl;
}

played_same : (slot : ℕ) (row : TableRow) (t : StreamRow) → subscription_of slot (played row) t ≡ subscription_of slot row t
unfolding subscription_of new_feed played
played_same slot row t = refl

pub its_seat : (c : Config) (v : Kept) (st : State) (s : StandsFor c v st) (id : SessionId) (slot : ℕ) (row : TableRow) → Sound v.table
    → find (has_id_of id) v.table.seats ≡ Some (record { slot = slot; session = row }) → IsAmong id slot row s.seated
its_seat c v st s id slot row sound found =
    among id slot row 0 v.table.made s.seated (subst (CountsRise 0 v.table.made) s.seats sound.counts) (subst SlotsApart s.seats sound.slots)
    (ap (find (has_id_of id)) (sym s.seats) ∙ found)

pub seat_is : (seats : List Seat) (id : SessionId) (slot : ℕ) (row : TableRow) → option_map (λ (seat : Seat). seat.slot) (find (has_id_of id) seats) ≡ Some slot
    → option_map (λ (seat : Seat). seat.session) (find (has_id_of id) seats) ≡ Some row
    → find (has_id_of id) seats ≡ Some (record { slot = slot; session = row })
seat_is seats id slot row at its = by (find (has_id_of id) seats) at its
  where
    by : (o : Option Seat) → option_map (λ (seat : Seat). seat.slot) o ≡ Some slot → option_map (λ (seat : Seat). seat.session) o ≡ Some row
        → o ≡ Some (record { slot = slot; session = row })
    by None at its = absurd (none_some slot at)
    by (Some seat) at its = ap (λ n. Some (record { slot = n; session = seat.session })) (same_Some seat.slot slot at)
        ∙ ap (λ r. Some (record { slot = slot; session = r })) (same_Some seat.session row its)

pub plays_already : (c : Config) (o v : Kept) (st : State) (s : StandsFor c v st) (id : SessionId) (slot : ℕ) (row : TableRow) → o ≡ v → Sound o.table
    → find (has_id_of id) o.table.seats ≡ Some (record { slot = slot; session = row }) → row.playing ≡ true
    → StandsFor c v (change_session id (λ x. record x { playing = true }) st)
unfolding playing_now row_of
plays_already c o v st s id slot row same sound found plays =
    let known : Sound v.table = subst (λ (k : Kept). Sound k.table) same sound in
    let seat : find (has_id_of id) v.table.seats ≡ Some (record { slot = slot; session = row }) =
    ap (λ (k : Kept). find (has_id_of id) k.table.seats) (sym same) ∙ found in
    let r = its_seat c v st s id slot row known seat in
    let all = agrees c v st s id slot known (ap (option_map (λ (x : Seat). x.slot)) seat) in
    let playing : r.it.session.playing ≡ true = ap (λ (x : TableRow). x.playing) r.its ∙ plays in
    let it_same : playing_now r.it.session ≡ r.it.session = ap (λ p. record r.it.session { playing = p }) (sym playing) in
    let sessions : change_where (is_session id) playing_now st.sessions ≡ st.sessions =
    ap (change_where (is_session id) playing_now) s.sessions ∙ sessions_changed id slot playing_now s.seated all
    ∙ ap (map session_in) (changed_it id slot row s.seated r playing_now ∙ ap (λ x. r.front ++ record { slot = r.it.slot; session = x } ∷ r.back) it_same
    ∙ sym r.whole)
    ∙ sym s.sessions in
    subst (λ ss. StandsFor c v (record st { sessions = ss })) (sym sessions) s

-- nobody else has the slot
pub none_of_it : (slot : ℕ) (ys : List Seated) (streams : List Stream) → Each (λ y. (y.slot == slot) ≡ false) ys
    → without slot (subscribers ys streams) ≡ subscribers ys streams
none_of_it slot ys streams all = filter_all (λ u. not (has_slot_of slot u)) (subscribers ys streams) (each_subscriber _ ys streams (each_weaker _ _ one ys all))
  where
    one : (y : Seated) → (y.slot == slot) ≡ false → (t : Stream) (u : Subscription) → subscriber t y ≡ Some u → not (has_slot_of slot u) ≡ true
    one y other t u is = ap (λ (p : Place). not (p.slot == slot)) (sub_place t y u is) ∙ ap not other

pub play_stands : (c : Config) (v : Kept) (st : State) (s : StandsFor c v st) (id : SessionId) (slot : ℕ) (row : TableRow) (t : StreamRow) (table : Living)
    (flow : List Subscription) → Sound v.table → find (has_id_of id) v.table.seats ≡ Some (record { slot = slot; session = row })
    → row.playing ≡ false → find (has_number row.stream) v.table.streams ≡ Some t → table ≡ record v.table { seats = with_session id played v.table.seats }
    → flow ≡ put (subscription_of slot row t) (without slot v.flow)
    → StandsFor c (record v { table = table; flow = flow }) (change_session id (λ x. record x { playing = true }) st)
unfolding playing_now row_of
play_stands c v st s id slot row t table flow sound found idle stream is added =
    let r = its_seat c v st s id slot row sound found in
    let all = agrees c v st s id slot sound (ap (option_map (λ (x : Seat). x.slot)) found) in
    let its : row_of r.it.session ≡ row = r.its in
    let quiet : r.it.session.playing ≡ false = ap (λ (x : TableRow). x.playing) its ∙ idle in
    let kept : IsKept r.it.session =
    kept_at r.front r.back r.it (subst (λ (ys : List Seated). Each IsKept (map session_in ys)) r.whole (subst (Each IsKept) s.sessions s.each_session)) in
    let u = subscription_of slot row t in
    let plays : Seated = record { slot = r.it.slot; session = playing_now r.it.session } in
    let there : stream_of st r.it.session.stream ≡ Some (stream_in t) =
    ap (λ (x : TableRow). stream_of st x.stream) its ∙ stream_is c v st s row.stream ∙ ap (option_map stream_in) stream in
    let rise : Rise 0 st.streams = subst (Rise 0) s.streams (rise_in 0 v.table.streams sound.numbers) in
    let new : subscriber (stream_in t) plays ≡ Some u =
    subscriber_new slot (playing_now r.it.session) (played row) t plays r.at refl refl (kept.idle_picked quiet) (kept.idle_sizes quiet) kept.first
    (sym (playing_change.row r.it.session) ∙ ap played its)
    ∙ ap Some (played_same slot row t) in
    session_changed c v st s id slot playing_now played playing_change all table v.dues flow is
    (λ key below. s.dues key below ∙ ap Some (sym (due_same v.timeout slot playing_now key (λ x. refl) s.seated)))
    (added
    ∙ ap (λ us. put u (without slot us)) (s.flow ∙ ap (λ ys. subscribers ys st.streams) r.whole
    ∙ idle_skipped r.front r.back r.it (silent r.it quiet) st.streams)
    ∙ ap (put u) (none_of_it slot (r.front ++ r.back) st.streams r.others)
    ∙ sym (put_into r.front r.back plays u (stream_in t) 0 st.streams rise there new r.before r.after)
    ∙ ap (λ ys. subscribers ys st.streams) (sym (changed_it id slot row s.seated r playing_now)))
  where
    silent : (x : Seated) → x.session.playing ≡ false → (w : Stream) → subscriber w x ≡ None
    silent x quiet w = sub_quiet w x quiet

    kept_at : (front back : List Seated) (x : Seated) → Each IsKept (map session_in (front ++ x ∷ back)) → IsKept x.session
    kept_at [] back x all = all.0
    kept_at (y ∷ front) back x all = kept_at front back x all.1

-- a living session's stream lives

pub housed_in : (c : Config) (v : Kept) (st : State) (s : StandsFor c v st) (id : SessionId) (slot : ℕ) (row : TableRow) → Sound v.table
    → find (has_id_of id) v.table.seats ≡ Some (record { slot = slot; session = row }) → find (has_number row.stream) v.table.streams ≡ None → ⊥
housed_in c v st s id slot row sound found none =
    true≢false (sym (all_at (λ (seat : Seat). is_live v.table.streams seat.session.stream) v.table.seats sound.housed found)
    ∙ none_live row.stream v.table.streams none)
  where
    all_at : (p : Seat → Bool) (seats : List Seat) → list_all p seats ≡ true → find (has_id_of id) seats ≡ Some (record { slot = slot; session = row })
        → p (record { slot = slot; session = row }) ≡ true
    all_at p [] all there = absurd (none_some _ there)
    all_at p (x ∷ xs) all there = by (has_id_of id x) there (all_at p xs (and_parts _ _ all).1)
      where
        by : (b : Bool) → cond b (Some x) (find (has_id_of id) xs) ≡ Some (record { slot = slot; session = row })
            → (find (has_id_of id) xs ≡ Some (record { slot = slot; session = row }) → p (record { slot = slot; session = row }) ≡ true)
            → p (record { slot = slot; session = row }) ≡ true
        by true there rest = ap p (sym (same_Some x _ there)) ∙ (and_parts _ _ all).0
        by false there rest = rest there

    none_live : (number : ℕ) (rows : List StreamRow) → find (has_number number) rows ≡ None → is_live rows number ≡ false
    none_live number [] none = refl
    none_live number (x ∷ xs) none = by (x.number == number) refl none (none_live number xs)
      where
        by : (b : Bool) → (x.number == number) ≡ b → cond b (Some x) (find (has_number number) xs) ≡ None
            → (find (has_number number) xs ≡ None → is_live xs number ≡ false) → (x.number == number || is_live xs number) ≡ false
        by true is none rest = absurd (none_some x (sym none))
        by false is none rest = ap (λ b. b || is_live xs number) is ∙ rest none
