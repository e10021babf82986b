-- The next number of a session, by its packer.
use Rattle.std.proofs.Common.{◌≡◌, ◌∙◌, ◌+◌, ◌%◌, Bool, true, false, cond, List, map, length, find, Option, Some, None, refl, ap, sym, arith}
use Rattle.std.specs.Option.{option_map, option_map_or, option_and_then}
use Rattle.satip_base.specs.declared.identity.SessionId.{SessionId}
use Rattle.satip_table.specs.declared.session.Seat.{Seat}
use Rattle.satip_table.specs.Sessions.{has_id_of}
use Rattle.satip_table.specs.Living.{Sound}
use Rattle.satip_flow.specs.declared.place.SenderState.{SenderState}
use Rattle.satip_flow.specs.Subscription.{Subscription, has_slot, sender_state, packing_of as packing_in}
use Rattle.satip_flow.specs.Subscriptions.{packing_of_slot}
use Rattle.satip_plain.specs.Types.{Config}
use Rattle.satip_plain.specs.State.{Stream, State}
use Rattle.satip_plain.specs.Steps.{is_session, next_number}
use Rattle.satip_state.specs.Kept.{Kept}
use Rattle.satip_state.specs.Seated.{Seated, row_of, seat_of, subscriber, subscribers, feed_of, packing_of}
use Rattle.satip_state.specs.Standing.{StandsFor, IsKept}
use Rattle.satip_state.specs.Looks.{kept_number, sender_in, rtsp_number}
use Rattle.satip_state.proofs.Picking.{find-map, find_place, get_has}
use Rattle.satip_state.proofs.Apart.{alone_at, has_session, slot_itself}
use Rattle.satip_state.proofs.Listed.{subscribers_find}
use Rattle.satip_state.proofs.Mapped.{seated_kept, stands_apart, stream_lives, all_kept}

-- what is told of a subscription's packer
abbrev sender_at : Option Subscription → Option SenderState
sender_at found = sender_state (option_and_then packing_in (option_map (λ (s : Subscription). s.feed) found))

sender_playing : (x : Seated) (t : Stream) → x.session.playing ≡ true → x.session.http ≡ false
    → option_map_or (λ (s : SenderState). s.next) (sender_at (subscriber t x)) x.session.first ≡ next_number x.session
unfolding subscriber feed_of packing_of
sender_playing x t p h = rw (p, h) refl

sender_idle : (x : Seated) (t : Stream) → x.session.playing ≡ false
    → option_map_or (λ (s : SenderState). s.next) (sender_at (subscriber t x)) x.session.first ≡ x.session.first
unfolding subscriber
sender_idle x t p = rw p refl

-- the number of the datagram after those of a session's packer
number_is : (x : Seated) (t : Stream) (subs : List Subscription) → IsKept x.session → find (has_slot x.slot) subs ≡ subscriber t x
    → kept_number (sender_state (packing_of_slot x.slot subs)) (Some (seat_of x)) ≡ rtsp_number (Some x.session)
unfolding row_of
number_is x t subs kept found = by x.session.http x.session.playing refl refl
  where
    at : option_map_or (λ (s : SenderState). s.next) (sender_state (packing_of_slot x.slot subs)) x.session.first ≡ option_map_or
        (λ (s : SenderState). s.next) (sender_at (subscriber t x)) x.session.first
    at = ap (λ o. option_map_or (λ (s : SenderState). s.next) (sender_at o) x.session.first) found

    by : (h p : Bool) → x.session.http ≡ h → x.session.playing ≡ p
        → cond h 0 (option_map_or (λ (s : SenderState). s.next) (sender_state (packing_of_slot x.slot subs)) x.session.first) ≡ cond h 0 (next_number x.session)
    by true p _ _ = refl
    by false true h p = at ∙ sender_playing x t p h
    by false false h p =
        let none : length x.session.sizes ≡ 0 = ap length (kept.idle_sizes p) in
        let same : x.session.first ≡ (x.session.first + length x.session.sizes) % 65536 = omega (arith, none, kept.first) in
        at ∙ sender_idle x t p ∙ same

seat_found : (id : SessionId) (xs : List Seated) → find (has_id_of id) (map seat_of xs) ≡ option_map seat_of (find (has_session id) xs)
unfolding row_of
seat_found id xs = find-map seat_of (has_id_of id) xs

-- the next number of the session of a seat
pub number_looked : (c : Config) (v : Kept) (st : State) (id : SessionId) (seat : Option Seat) → StandsFor c v st → Sound v.table
    → seat ≡ find (has_id_of id) v.table.seats
    → kept_number (sender_in v seat) seat ≡ rtsp_number (find (is_session id) st.sessions)
number_looked c v st id seat stands sound is =
    let kept = is ∙ ap (find (has_id_of id)) stands.seats ∙ seat_found id stands.seated in
    let known = ap (find (is_session id)) stands.sessions ∙ find-map (λ (x : Seated). x.session) (is_session id) stands.seated in
    ap (λ s. kept_number (sender_in v s) s) kept ∙ by (find (has_session id) stands.seated) refl ∙ ap rtsp_number (sym known)
  where
    by : (o : Option Seated) → find (has_session id) stands.seated ≡ o
        → kept_number (sender_in v (option_map seat_of o)) (option_map seat_of o) ≡ rtsp_number (option_map (λ (x : Seated). x.session) o)
    by None found = refl
    by (Some x) found =
        let place = find_place (has_session id) stands.seated x found in
        let at = alone_at stands.seated place.0 x (stands_apart c v st stands sound) place.1 in
        let lives = stream_lives c v st stands sound place.0 x place.1 in
        let kept = seated_kept stands.seated x (all_kept c v st stands) (get_has stands.seated place.0 x place.1) in
        let whole = stands.flow ∙ ap (λ xs. subscribers xs st.streams) at.alone.whole in
        number_is x lives.0 v.flow kept
        (ap (find (has_slot x.slot)) whole ∙ subscribers_find x.slot at.alone.before x at.alone.behind st.streams at.alone.slot_before
        (slot_itself x) at.alone.slot_behind lives.0 lives.1)
