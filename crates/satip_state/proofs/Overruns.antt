-- Which sessions a packet finds with a full queue.
use Rattle.std.proofs.Common.{◌≡◌, ℕ, ◌==◌, ◌&&◌, ◌||◌, Bool, true, false, cond, List, [], ◌∷◌, ◌++◌, filter, Option, Some, None, refl, sym, ap, ◌∙◌}
use Rattle.std.specs.List.{list_any, slice_get, filter_map, flat_map, cons_option}
use Rattle.std.proofs.lemmas.Bool.{or_parts}
use Rattle.satip_base.specs.declared.identity.SessionId.{SessionId}
use Rattle.satip_ts.specs.Packet.{pid_of}
use Rattle.satip_pids.specs.Pids.{has_pid}
use Rattle.satip_table.specs.Living.{Sound}
use Rattle.satip_flow.specs.Subscription.{Subscription, is_full, meets_full}
use Rattle.satip_flow.specs.Subscription.{is_at as stands_at}
use Rattle.satip_flow.specs.Subscriptions.{is_overrun as meets_in}
use Rattle.satip_plain.specs.Types.{Config}
use Rattle.satip_plain.specs.State.{Stream, State, same_id, served_by}
use Rattle.satip_plain.specs.Steps.{picks, is_overrun, overrun}
use Rattle.satip_state.specs.Kept.{Kept}
use Rattle.satip_state.specs.Seated.{Seated, is_seat, feed_of, seated_in, subscriber, subscribers}
use Rattle.satip_state.specs.Standing.{StandsFor, IsKept}
use Rattle.satip_state.proofs.Picking.{any-map, get_has}
use Rattle.satip_state.proofs.Apart.{Alone, AloneAt, alone_at, slot_itself, id_itself}
use Rattle.satip_state.proofs.Listed.{listed, subscriber_is}
use Rattle.satip_state.proofs.Mapped.{sessions_of, seated_kept, stands_apart, all_kept}
use Rattle.satip_state.proofs.Flushes.{between}
use Rattle.satip_state.proofs.Giving.{full_feed}
use Rattle.satip_state.proofs.Streaming.{picked_by, any_agree}
use Rattle.satip_state.proofs.Delivering.{any_filter, any_flat, any_alone, any_and, at_front, stands_same}

-- whether the packet ends the session with this id
abbrev pub ends_by : List ℕ → State → List Stream → SessionId → Bool
ends_by packet st ts id = list_any (λ x. same_id x.id id) (overrun packet st ts)

-- in the plain state
pub ends_is : (packet : List ℕ) (st : State) (seated : List Seated) (ts : List Stream) (x : Seated) (alone : Alone seated x) → st.sessions ≡ sessions_of seated
    → ends_by packet st ts x.session.id ≡ (picked_by ts packet x.session && is_overrun x.session)
ends_is packet st seated ts x alone same =
    any_flat (λ y. same_id y.id x.session.id) (λ t. filter (λ s. picks t packet s && is_overrun s) st.sessions) ts
    ∙ any_agree (λ t. list_any (λ y. same_id y.id x.session.id) (filter (λ s. picks t packet s && is_overrun s) st.sessions))
    (λ t. picks t packet x.session && is_overrun x.session) ts (λ t. one t)
    ∙ any_and (λ t. picks t packet x.session) (is_overrun x.session) ts
  where
    one : (t : Stream) → list_any (λ y. same_id y.id x.session.id) (filter (λ s. picks t packet s && is_overrun s) st.sessions) ≡ (picks t packet x.session
        && is_overrun x.session)
    one t =
        any_filter (λ s. picks t packet s && is_overrun s) (λ y. same_id y.id x.session.id) st.sessions
        ∙ ap (list_any (λ s. (picks t packet s && is_overrun s) && same_id s.id x.session.id)) (same ∙ between seated x alone)
        ∙ any_alone (λ s. same_id s.id x.session.id) (λ s. picks t packet s && is_overrun s) (sessions_of alone.before) x.session (sessions_of alone.behind)
        (any-map (λ (y : Seated). y.session) (λ s. same_id s.id x.session.id) alone.before ∙ alone.id_before) (id_itself x.session.id)
        (any-map (λ (y : Seated). y.session) (λ s. same_id s.id x.session.id) alone.behind ∙ alone.id_behind)

-- in the flow
met_cons : (p : Subscription → Bool) (o : Option Subscription) (ss : List Subscription)
    → list_any p (cons_option o ss) ≡ (list_any p (cons_option o []) || list_any p ss)
met_cons p None ss = refl
met_cons p (Some s) ss = by (p s)
  where
    by : (b : Bool) → (b || list_any p ss) ≡ ((b || false) || list_any p ss)
    by true = refl
    by false = refl

one_met : (front : ℕ) (packet : List ℕ) (slot : ℕ) (t : Stream) (x : Seated) (e : Bool) → is_seat slot x ≡ e
    → list_any (meets_full front packet slot) (cons_option (subscriber t x) []) ≡ (e
    && (x.session.playing && (stands_at front t.front && has_pid t.pids (pid_of packet) && is_full (feed_of x.session))))
one_met front packet slot t x e same = ap (λ o. list_any (meets_full front packet slot) (cons_option o [])) (subscriber_is t x) ∙ opened x.session.playing
  where
    r : Bool
    r = stands_at front t.front && has_pid t.pids (pid_of packet) && is_full (feed_of x.session)

    turned : (a b : Bool) → ((a && b) || false) ≡ (b && (true && a))
    turned true true = refl
    turned true false = refl
    turned false true = refl
    turned false false = refl

    never : (b : Bool) → false ≡ (b && (false && r))
    never true = refl
    never false = refl

    opened : (p : Bool) → list_any (meets_full front packet slot) (cons_option (cond p (Some (listed t x (feed_of x.session))) None) []) ≡ (e && (p && r))
    opened true = ap (λ b. (r && b) || false) same ∙ turned r e
    opened false = never e

none_met : (front : ℕ) (packet : List ℕ) (slot : ℕ) (t : Stream) (xs : List Seated) → list_any (is_seat slot) xs ≡ false
    → list_any (meets_full front packet slot) (filter_map (subscriber t) (seated_in t xs)) ≡ false
none_met front packet slot t [] none = refl
none_met front packet slot t (x ∷ xs) none =
    let parts = or_parts (is_seat slot x) (list_any (is_seat slot) xs) none in
    by (x.session.stream == t.number) parts.0 (none_met front packet slot t xs parts.1)
  where
    by : (b : Bool) → is_seat slot x ≡ false → list_any (meets_full front packet slot) (filter_map (subscriber t) (seated_in t xs)) ≡ false
        → list_any (meets_full front packet slot) (filter_map (subscriber t) (cond b (x ∷ seated_in t xs) (seated_in t xs))) ≡ false
    by true other rest =
        met_cons (meets_full front packet slot) (subscriber t x) (filter_map (subscriber t) (seated_in t xs))
        ∙ ap (λ b. b || list_any (meets_full front packet slot) (filter_map (subscriber t) (seated_in t xs))) (one_met front packet slot t x false other)
        ∙ rest
    by false other rest = rest

stream_met : (front : ℕ) (packet : List ℕ) (slot : ℕ) (t : Stream) (a : List Seated) (x : Seated) (b : List Seated)
    → list_any (is_seat slot) a ≡ false → is_seat slot x ≡ true → list_any (is_seat slot) b ≡ false
    → list_any (meets_full front packet slot) (filter_map (subscriber t) (seated_in t (a ++ x ∷ b)))
    ≡ (x.session.stream == t.number && (x.session.playing && (stands_at front t.front && has_pid t.pids (pid_of packet) && is_full (feed_of x.session))))
stream_met front packet slot t [] x b before here behind = by (x.session.stream == t.number)
  where
    or_nothing : (c : Bool) → (c || false) ≡ c
    or_nothing true = refl
    or_nothing false = refl

    by : (c : Bool) → list_any (meets_full front packet slot) (filter_map (subscriber t) (cond c (x ∷ seated_in t b) (seated_in t b)))
        ≡ (c && (x.session.playing && (stands_at front t.front && has_pid t.pids (pid_of packet) && is_full (feed_of x.session))))
    by true =
        met_cons (meets_full front packet slot) (subscriber t x) (filter_map (subscriber t) (seated_in t b))
        ∙ ap (λ d. list_any (meets_full front packet slot) (cons_option (subscriber t x) []) || d) (none_met front packet slot t b behind)
        ∙ or_nothing (list_any (meets_full front packet slot) (cons_option (subscriber t x) []))
        ∙ one_met front packet slot t x true here
    by false = none_met front packet slot t b behind
stream_met front packet slot t (y ∷ a) x b before here behind =
    let parts = or_parts (is_seat slot y) (list_any (is_seat slot) a) before in
    by (y.session.stream == t.number) parts.0 (stream_met front packet slot t a x b parts.1 here behind)
  where
    result : Bool
    result = x.session.stream == t.number && (x.session.playing && (stands_at front t.front && has_pid t.pids (pid_of packet) && is_full (feed_of x.session)))

    by : (c : Bool) → is_seat slot y ≡ false
        → list_any (meets_full front packet slot) (filter_map (subscriber t) (seated_in t (a ++ x ∷ b))) ≡ result
        → list_any (meets_full front packet slot) (filter_map (subscriber t) (cond c (y ∷ seated_in t (a ++ x ∷ b)) (seated_in t (a ++ x ∷ b)))) ≡ result
    by true other rest =
        met_cons (meets_full front packet slot) (subscriber t y) (filter_map (subscriber t) (seated_in t (a ++ x ∷ b)))
        ∙ ap (λ d. d || list_any (meets_full front packet slot) (filter_map (subscriber t) (seated_in t (a ++ x ∷ b))))
        (one_met front packet slot t y false other)
        ∙ rest
    by false other rest = rest

reordered : (b p a h f : Bool) → (b && (p && (a && h && f))) ≡ ((a && (b && p && h)) && f)
reordered true true true h f = refl
reordered true true false h f = refl
reordered true false true h f = refl
reordered true false false h f = refl
reordered false p true h f = refl
reordered false p false h f = refl

pub flow_met : (front : ℕ) (packet : List ℕ) (seated : List Seated) (ts : List Stream) (x : Seated) (alone : Alone seated x) → IsKept x.session
    → meets_in front packet (subscribers seated ts) x.slot ≡ (picked_by (filter (at_front front) ts) packet x.session && is_overrun x.session)
unfolding subscribers
flow_met front packet seated ts x alone kept =
    ap (λ xs. list_any (meets_full front packet x.slot) (flat_map (λ t. filter_map (subscriber t) (seated_in t xs)) ts)) alone.whole
    ∙ any_flat (meets_full front packet x.slot) (λ t. filter_map (subscriber t) (seated_in t (alone.before ++ x ∷ alone.behind))) ts
    ∙ any_agree (λ t. list_any (meets_full front packet x.slot) (filter_map (subscriber t) (seated_in t (alone.before ++ x ∷ alone.behind))))
    (λ t. (at_front front t && picks t packet x.session) && is_overrun x.session) ts (λ t. one t)
    ∙ any_and (λ t. at_front front t && picks t packet x.session) (is_overrun x.session) ts
    ∙ ap (λ b. b && is_overrun x.session) (sym (any_filter (at_front front) (λ t. picks t packet x.session) ts))
  where
    one : (t : Stream) → list_any (meets_full front packet x.slot) (filter_map (subscriber t) (seated_in t (alone.before ++ x ∷ alone.behind)))
        ≡ ((at_front front t && picks t packet x.session) && is_overrun x.session)
    one t =
        stream_met front packet x.slot t alone.before x alone.behind alone.slot_before (slot_itself x) alone.slot_behind
        ∙ ap (λ a. x.session.stream == t.number && (x.session.playing && (a && has_pid t.pids (pid_of packet) && is_full (feed_of x.session))))
        (stands_same front t.front)
        ∙ ap (λ f. x.session.stream == t.number && (x.session.playing && (at_front front t && has_pid t.pids (pid_of packet) && f))) (full_feed x.session kept)
        ∙ reordered (x.session.stream == t.number) x.session.playing (at_front front t) (has_pid t.pids (pid_of packet)) (is_overrun x.session)

-- both tell the same
pub met_ends : (c : Config) (v : Kept) (st : State) (stands : StandsFor c v st) → Sound v.table → (front : ℕ) (packet : List ℕ) (place : ℕ) (x : Seated)
    → slice_get stands.seated place ≡ Some x
    → meets_in front packet v.flow x.slot ≡ ends_by packet st (served_by st front) x.session.id
met_ends c v st stands sound front packet place x got =
    let at : AloneAt stands.seated place x = alone_at stands.seated place x (stands_apart c v st stands sound) got in
    let kept : IsKept x.session = seated_kept stands.seated x (all_kept c v st stands) (get_has stands.seated place x got) in
    ap (λ ss. meets_in front packet ss x.slot) stands.flow
    ∙ flow_met front packet stands.seated st.streams x at.alone kept
    ∙ sym (ends_is packet st stands.seated (served_by st front) x at.alone stands.sessions)
