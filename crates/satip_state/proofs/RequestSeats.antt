-- One session is changed.
use Rattle.std.proofs.Common.{◌≡◌, ◌∙◌, ℕ, ◌+◌, ◌*◌, ◌≤◌, ◌==◌, ◌||◌, Bool, true, false, cond, List, [], ◌∷◌, Option, None, Some, map, filter, filter_map}
use Rattle.std.proofs.Common.{find, refl, ap, sym, arith}
use Rattle.std.specs.List.{list_any}
use Rattle.std.specs.Option.{option_map}
use Rattle.std.proofs.lemmas.Bool.{eqb-true, eq-eqb, ne_eqb, and_left, and_parts, or_left, or_right, true≢false}
use Rattle.std.proofs.lemmas.Option.{same_Some}
use Rattle.satip_base.specs.Lists.{Each}
use Rattle.satip_base.specs.declared.identity.SessionId.{SessionId}
use Rattle.satip_table.specs.declared.session.Seat.{Seat}
use Rattle.satip_table.specs.declared.session.Session.{Session as TableRow}
use Rattle.satip_table.specs.Sessions.{changed_where, has_id_of, has_slot, with_session}
use Rattle.satip_table.specs.Living.{CountsRise, SlotsApart}
use Rattle.satip_flow.specs.Subscription.{Subscription}
use Rattle.satip_plain.specs.State.{Session, Stream, change_where}
use Rattle.satip_plain.specs.Steps.{is_session}
use Rattle.satip_state.specs.Seated.{Seated, due_of, end_of, is_seat, row_of, seat_of, seated_in, subscriber, subscribers}
use Rattle.satip_state.specs.Standing.{IsKept}
use Rattle.satip_state.proofs.RequestLists.{filter_agree, each_both, each_weaker, filter-map, filter_map-map, filter_map-mapped, filter_map_agree}
use Rattle.satip_state.proofs.RequestLists.{flat_map-mapped, flat_map_agree, each_any, none_some}

-- the session of this slot is changed
abbrev pub changed_seated : ℕ → (Session → Session) → Seated → Seated
changed_seated slot f x = record { slot = x.slot; session = cond (x.slot == slot) (f x.session) x.session }

-- the session of this id has this slot
abbrev pub Agrees : SessionId → ℕ → Seated → Type 0
Agrees id slot x = is_session id x.session ≡ is_seat slot x

abbrev pub session_in : Seated → Session
session_in x = x.session

pub sessions_changed : (id : SessionId) (slot : ℕ) (f : Session → Session) (seated : List Seated) → Each (Agrees id slot) seated
    → change_where (is_session id) f (map session_in seated) ≡ map session_in (map (changed_seated slot f) seated)
sessions_changed id slot f [] all = refl
sessions_changed id slot f (x ∷ xs) all =
    ap (λ b. cond b (f x.session) x.session ∷ change_where (is_session id) f (map session_in xs)) all.0
    ∙ ap (λ ss. cond (x.slot == slot) (f x.session) x.session ∷ ss) (sessions_changed id slot f xs all.1)

seat_changed : (g : TableRow → TableRow) (f : Session → Session) → ((s : Session) → g (row_of s) ≡ row_of (f s)) → (x : Seated) (b : Bool)
    → cond b (record { slot = x.slot; session = g (row_of x.session) }) (seat_of x) ≡ record {
      slot = x.slot;
      session =
          row_of (cond b (f x.session) x.session);
    }
seat_changed g f same x true = ap (λ r. record { slot = x.slot; session = r }) (same x.session)
seat_changed g f same x false = refl

pub seats_changed : (id : SessionId) (slot : ℕ) (f : Session → Session) (g : TableRow → TableRow) → ((s : Session) → g (row_of s) ≡ row_of (f s))
    → (seated : List Seated) → Each (Agrees id slot) seated
    → with_session id g (map seat_of seated) ≡ map seat_of (map (changed_seated slot f) seated)
unfolding changed_where row_of
seats_changed id slot f g same [] all = refl
seats_changed id slot f g same (x ∷ xs) all =
    ap (λ b. cond b (record { slot = x.slot; session = g (row_of x.session) }) (seat_of x) ∷ with_session id g (map seat_of xs)) all.0
    ∙ ap (λ s. s ∷ with_session id g (map seat_of xs)) (seat_changed g f same x (x.slot == slot))
    ∙ ap (λ ss. seat_of (changed_seated slot f x) ∷ ss) (seats_changed id slot f g same xs all.1)

pub kept_changed : (slot : ℕ) (f : Session → Session) → ((s : Session) → IsKept s → IsKept (f s)) → (seated : List Seated) → Each IsKept (map session_in seated)
    → Each IsKept (map session_in (map (changed_seated slot f) seated))
kept_changed slot f keeps [] all = tt
kept_changed slot f keeps (x ∷ xs) all = (by (x.slot == slot), kept_changed slot f keeps xs all.1)
  where
    by : (b : Bool) → IsKept (cond b (f x.session) x.session)
    by true = keeps x.session all.0
    by false = all.0

-- ids and slots

none_of_id : (id : SessionId) (above last : ℕ) (seated : List Seated) → CountsRise above last (map seat_of seated) → id.count ≤ above
    → Each (λ x. is_session id x.session ≡ false) seated
unfolding row_of
none_of_id id above last [] rise few = tt
none_of_id id above last (x ∷ xs) rise few =
    (and_left _ _ (ne_eqb x.session.id.count id.count (λ e. omega (arith, rise.0, e))), none_of_id id x.session.id.count last xs rise.1 (omega (arith, rise.0)))

pub none_of_slot : (slot : ℕ) (seated : List Seated) → list_any (has_slot slot) (map seat_of seated) ≡ false → Each (λ x. is_seat slot x ≡ false) seated
none_of_slot slot [] none = tt
none_of_slot slot (x ∷ xs) none = by (x.slot == slot) refl (none_of_slot slot xs) none
  where
    by : (b : Bool) → (x.slot == slot) ≡ b → (list_any (has_slot slot) (map seat_of xs) ≡ false → Each (λ y. is_seat slot y ≡ false) xs)
        → (b || list_any (has_slot slot) (map seat_of xs)) ≡ false → Each (λ y. is_seat slot y ≡ false) (x ∷ xs)
    by true is rest none = absurd (true≢false none)
    by false is rest none = (is, rest none)

abbrev slot_found : SessionId → List Seated → Option ℕ
slot_found id seated = option_map (λ (seat : Seat). seat.slot) (find (has_id_of id) (map seat_of seated))

slot_there : (id : SessionId) (slot : ℕ) (seated : List Seated) → slot_found id seated ≡ Some slot → list_any (has_slot slot) (map seat_of seated) ≡ true
slot_there id slot [] found = absurd (none_some slot found)
slot_there id slot (x ∷ xs) found = by (has_id_of id (seat_of x)) (slot_there id slot xs) found
  where
    by : (b : Bool) → (slot_found id xs ≡ Some slot → list_any (has_slot slot) (map seat_of xs) ≡ true)
        → option_map (λ (seat : Seat). seat.slot) (cond b (Some (seat_of x)) (find (has_id_of id) (map seat_of xs))) ≡ Some slot
        → list_any (has_slot slot) (map seat_of (x ∷ xs)) ≡ true
    by true rest found = or_left _ _ (eq-eqb x.slot slot (same_Some x.slot slot found))
    by false rest found = or_right _ _ (rest found)

pub agree : (id : SessionId) (slot above last : ℕ) (seated : List Seated) → CountsRise above last (map seat_of seated) → SlotsApart (map seat_of seated)
    → slot_found id seated ≡ Some slot → Each (Agrees id slot) seated
unfolding row_of
agree id slot above last [] rise apart found = absurd (none_some slot found)
agree id slot above last (x ∷ xs) rise apart found = by (is_session id x.session) refl (agree id slot x.session.id.count last xs rise.1 apart.2) found
  where
    same_false : (y : Seated) → (is_session id y.session ≡ false) × (is_seat slot y ≡ false) → Agrees id slot y
    same_false y both = both.0 ∙ sym both.1

    by : (b : Bool) → is_session id x.session ≡ b → (slot_found id xs ≡ Some slot → Each (Agrees id slot) xs)
        → option_map (λ (seat : Seat). seat.slot) (cond b (Some (seat_of x)) (find (has_id_of id) (map seat_of xs))) ≡ Some slot
        → Each (Agrees id slot) (x ∷ xs)
    by true is rest found =
        let at : x.slot ≡ slot = same_Some x.slot slot found in
        let count : x.session.id.count ≡ id.count = eqb-true x.session.id.count id.count (and_parts _ _ is).0 in
        let ids = none_of_id id x.session.id.count last xs rise.1 (omega (arith, count)) in
        let slots = none_of_slot slot xs (ap (λ n. list_any (has_slot n) (map seat_of xs)) (sym at) ∙ apart.1) in
        (is ∙ sym (eq-eqb x.slot slot at), each_weaker _ _ same_false xs (each_both _ _ xs ids slots))
    by false is rest found =
        let there = slot_there id slot xs found in
        let other : x.slot ≡ slot → ⊥ = λ e. true≢false (sym there ∙ ap (λ n. list_any (has_slot n) (map seat_of xs)) (sym e) ∙ apart.1) in
        (is ∙ sym (ne_eqb x.slot slot other), rest found)

-- a session that doesn't live
pub absent : (id : SessionId) (seated : List Seated) → slot_found id seated ≡ None → Each (λ x. is_session id x.session ≡ false) seated
unfolding row_of
absent id [] none = tt
absent id (x ∷ xs) none = by (is_session id x.session) refl (absent id xs) none
  where
    by : (b : Bool) → is_session id x.session ≡ b → (slot_found id xs ≡ None → Each (λ y. is_session id y.session ≡ false) xs)
        → option_map (λ (seat : Seat). seat.slot) (cond b (Some (seat_of x)) (find (has_id_of id) (map seat_of xs))) ≡ None
        → Each (λ y. is_session id y.session ≡ false) (x ∷ xs)
    by true is rest none = absurd (none_some x.slot (sym none))
    by false is rest none = (is, rest none)

pub none_changed : (id : SessionId) (f : Session → Session) (seated : List Seated) → Each (λ x. is_session id x.session ≡ false) seated
    → change_where (is_session id) f (map session_in seated) ≡ map session_in seated
none_changed id f [] all = refl
none_changed id f (x ∷ xs) all =
    ap (λ b. cond b (f x.session) x.session ∷ change_where (is_session id) f (map session_in xs)) all.0
    ∙ ap (λ ss. x.session ∷ ss) (none_changed id f xs all.1)

-- the moments at which sessions end

pub due_same : (timeout slot : ℕ) (f : Session → Session) (key : ℕ) → ((s : Session) → (f s).heard ≡ s.heard) → (seated : List Seated)
    → due_of timeout (map (changed_seated slot f) seated) key ≡ due_of timeout seated key
due_same timeout slot f key same [] = refl
due_same timeout slot f key same (x ∷ xs) = by (x.slot == key) (due_same timeout slot f key same xs)
  where
    ends : (b : Bool) → end_of timeout (record { slot = x.slot; session = cond b (f x.session) x.session }) ≡ end_of timeout x
    ends true = ap (λ n. n + timeout * 1000) (same x.session)
    ends false = refl

    by : (b : Bool) → due_of timeout (map (changed_seated slot f) xs) key ≡ due_of timeout xs key
        → option_map (end_of timeout) (cond b (Some (changed_seated slot f x)) (find (is_seat key) (map (changed_seated slot f) xs))) ≡ option_map
        (end_of timeout) (cond b (Some x) (find (is_seat key) xs))
    by true rest = ap Some (ends (x.slot == slot))
    by false rest = rest

pub due_other : (timeout slot : ℕ) (f : Session → Session) (key : ℕ) → (key ≡ slot → ⊥) → (seated : List Seated)
    → due_of timeout (map (changed_seated slot f) seated) key ≡ due_of timeout seated key
due_other timeout slot f key other [] = refl
due_other timeout slot f key other (x ∷ xs) = by (x.slot == key) refl (due_other timeout slot f key other xs)
  where
    by : (b : Bool) → (x.slot == key) ≡ b → due_of timeout (map (changed_seated slot f) xs) key ≡ due_of timeout xs key
        → option_map (end_of timeout) (cond b (Some (changed_seated slot f x)) (find (is_seat key) (map (changed_seated slot f) xs))) ≡ option_map
        (end_of timeout) (cond b (Some x) (find (is_seat key) xs))
    by true is rest =
        let at : x.slot ≡ key = eqb-true x.slot key is in
        ap (λ b. Some (end_of timeout (record { slot = x.slot; session = cond b (f x.session) x.session }))) (ne_eqb x.slot slot (λ e. other (sym at ∙ e)))
    by false is rest = rest

pub due_here : (timeout slot : ℕ) (f : Session → Session) (heard : ℕ) → ((s : Session) → (f s).heard ≡ heard) → (seated : List Seated)
    → list_any (has_slot slot) (map seat_of seated) ≡ true
    → due_of timeout (map (changed_seated slot f) seated) slot ≡ Some (heard + timeout * 1000)
due_here timeout slot f heard same [] there = absurd (true≢false (sym there))
due_here timeout slot f heard same (x ∷ xs) there = by (x.slot == slot) refl (due_here timeout slot f heard same xs) there
  where
    by : (b : Bool) → (x.slot == slot) ≡ b → (list_any (has_slot slot) (map seat_of xs) ≡ true
        → due_of timeout (map (changed_seated slot f) xs) slot ≡ Some (heard + timeout * 1000)) → (b || list_any (has_slot slot) (map seat_of xs)) ≡ true
        → option_map (end_of timeout) (cond b (Some (changed_seated slot f x)) (find (is_seat slot) (map (changed_seated slot f) xs))) ≡ Some
        (heard + timeout * 1000)
    by true is rest there =
        ap (λ b. Some (end_of timeout (record { slot = x.slot; session = cond b (f x.session) x.session }))) is
        ∙ ap (λ n. Some (n + timeout * 1000)) (same x.session)
    by false is rest there = rest there

pub slot_lives : (id : SessionId) (slot : ℕ) (seated : List Seated) → slot_found id seated ≡ Some slot → list_any (has_slot slot) (map seat_of seated) ≡ true
slot_lives id slot seated found = slot_there id slot seated found

-- the subscribers

pub subscribers_changed : (slot : ℕ) (f : Session → Session) (change : Subscription → Subscription) → ((s : Session) → (f s).stream ≡ s.stream)
    → ((t : Stream) (x : Seated) → subscriber t (changed_seated slot f x) ≡ option_map change (subscriber t x)) → (seated : List Seated) (streams : List Stream)
    → subscribers (map (changed_seated slot f) seated) streams ≡ map change (subscribers seated streams)
unfolding subscribers
subscribers_changed slot f change stays changes seated streams =
    flat_map_agree _ _ streams (each_any _ in_stream streams) ∙ flat_map-mapped change (λ t. filter_map (subscriber t) (seated_in t seated)) streams
  where
    at : (t : Stream) (x : Seated) (b : Bool) → (cond b (f x.session) x.session).stream == t.number ≡ (x.session.stream == t.number)
    at t x true = ap (λ n. n == t.number) (stays x.session)
    at t x false = refl

    in_stream : (t : Stream) → filter_map (subscriber t) (seated_in t (map (changed_seated slot f) seated)) ≡ map change
        (filter_map (subscriber t) (seated_in t seated))
    in_stream t =
        ap (filter_map (subscriber t)) (filter-map (λ x. x.session.stream == t.number) (changed_seated slot f) seated)
        ∙ filter_map-map (subscriber t) (changed_seated slot f) (filter (λ x. (changed_seated slot f x).session.stream == t.number) seated)
        ∙ ap (filter_map (λ x. subscriber t (changed_seated slot f x))) (filter_agree _ _ seated (each_any _ (λ x. at t x (x.slot == slot)) seated))
        ∙ filter_map_agree _ _ (seated_in t seated) (each_any _ (changes t) (seated_in t seated))
        ∙ filter_map-mapped change (subscriber t) (seated_in t seated)
