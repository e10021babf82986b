-- The seated have slots and ids of their own.
use Rattle.std.proofs.Common.{◌≡◌, ℕ, zero, suc, ◌<◌, ◌≤◌, ◌==◌, ◌&&◌, Bool, true, false, List, [], ◌∷◌, ◌++◌, length, map, Some, refl, sym, ap, subst, ◌∙◌}
use Rattle.std.proofs.Common.{arith}
use Rattle.std.specs.List.{list_any, slice_get}
use Rattle.std.proofs.lemmas.Bool.{or_from, and_left, ne_eqb, eq-eqb, and_from}
use Rattle.std.proofs.lemmas.Bool.Decides.{nat_tests}
use Rattle.std.proofs.lemmas.Option.{same_Some}
use Rattle.satip_base.specs.declared.identity.SessionId.{SessionId}
use Rattle.satip_table.specs.declared.session.Seat.{Seat}
use Rattle.satip_table.specs.declared.session.Session.{Session as Row}
use Rattle.satip_table.specs.Sessions.{has_slot}
use Rattle.satip_table.specs.Living.{CountsRise, SlotsApart}
use Rattle.satip_plain.specs.State.{Session, same_id}
use Rattle.satip_plain.specs.Steps.{is_session}
use Rattle.satip_state.specs.Seated.{Seated, seat_of, row_of, is_seat}
use Rattle.satip_state.proofs.Picking.{any_get, any-map}

abbrev pub has_session : SessionId → Seated → Bool
has_session id x = is_session id x.session

pub id_of_row : (s : Session) → (row_of s).id ≡ s.id
unfolding row_of
id_of_row s = refl

-- an id is found by its own
pub id_itself : (id : SessionId) → same_id id id ≡ true
id_itself id = and_from (id.count == id.count) (id.word == id.word) (eq-eqb id.count id.count refl) (eq-eqb id.word id.word refl)

eq_turned : (a b : ℕ) → (a == b) ≡ false → (b == a) ≡ false
eq_turned a b h = grind (arith, nat_tests)

pub eq_turned_round : (a b : ℕ) → (a == b) ≡ (b == a)
eq_turned_round a b = grind (arith, nat_tests)

pub id_turned : (a b : SessionId) → same_id a b ≡ same_id b a
id_turned a b = ap (λ t. t && (a.word == b.word)) (eq_turned_round a.count b.count) ∙ ap (λ t. (b.count == a.count) && t) (eq_turned_round a.word b.word)

-- ids that are found the same are the same
-- no later session has the slot or the id of an earlier one
abbrev pub Apart : List Seated → Type 0
Apart [] = Unit {0}
Apart (x ∷ xs) = (list_any (is_seat x.slot) xs ≡ false) × (list_any (has_session x.session.id) xs ≡ false) × Apart xs

counts_above : (id : SessionId) (above last : ℕ) (xs : List Seated) → CountsRise above last (map seat_of xs) → id.count ≤ above
    → list_any (has_session id) xs ≡ false
unfolding row_of
counts_above id above last [] rise below = refl
counts_above id above last (x ∷ xs) rise below =
    let higher : above < x.session.id.count = rise.0 in
    let differ : (x.session.id.count == id.count) ≡ false = ne_eqb x.session.id.count id.count (λ e. omega (arith, e, higher, below)) in
    or_from (has_session id x) (list_any (has_session id) xs)
    (and_left (x.session.id.count == id.count) (x.session.id.word == id.word) differ)
    (counts_above id x.session.id.count last xs rise.1 (omega (arith, higher, below)))

pub apart_of : (above last : ℕ) (xs : List Seated) → SlotsApart (map seat_of xs) → CountsRise above last (map seat_of xs) → Apart xs
unfolding row_of
apart_of above last [] slots rise = tt
apart_of above last (x ∷ xs) slots rise = (
  sym (any-map seat_of (has_slot x.slot) xs) ∙ slots.1,
  counts_above x.session.id x.session.id.count last xs rise.1 (omega arith),
  apart_of x.session.id.count last xs slots.2 rise.1,
)

-- one who alone has its slot and its id
pub record Alone (seated : List Seated) (x : Seated) : Type 0 where
  pub before : List Seated
  pub behind : List Seated
  pub whole : seated ≡ before ++ x ∷ behind
  pub slot_before : list_any (is_seat x.slot) before ≡ false
  pub slot_behind : list_any (is_seat x.slot) behind ≡ false
  pub id_before : list_any (has_session x.session.id) before ≡ false
  pub id_behind : list_any (has_session x.session.id) behind ≡ false

-- with its place
pub record AloneAt (seated : List Seated) (at : ℕ) (x : Seated) : Type 0 where
  pub alone : Alone seated x
  pub place : length alone.before ≡ at

pub alone_at : (seated : List Seated) (place : ℕ) (x : Seated) → Apart seated → slice_get seated place ≡ Some x → AloneAt seated place x
alone_at [] place x apart got = absurd (cc)
alone_at (y ∷ ys) zero x apart got =
    let same : y ≡ x = same_Some y x got in
    record {
      alone = record {
        before = [];
        behind = ys;
        whole = ap (λ z. z ∷ ys) same;
        slot_before = refl;
        slot_behind = subst (λ z. list_any (is_seat z.slot) ys ≡ false) same apart.0;
        id_before = refl;
        id_behind = subst (λ z. list_any (has_session z.session.id) ys ≡ false) same apart.1;
      };
      place = refl;
    }
alone_at (y ∷ ys) (suc place) x apart got =
    let r = alone_at ys place x apart.2 got in
    let slot : is_seat x.slot y ≡ false = eq_turned x.slot y.slot (any_get (is_seat y.slot) ys place x apart.0 got) in
    let id : has_session x.session.id y ≡ false = id_turned y.session.id x.session.id ∙ any_get (has_session y.session.id) ys place x apart.1 got in
    record {
      alone = record {
        before = y ∷ r.alone.before;
        behind = r.alone.behind;
        whole = ap (λ zs. y ∷ zs) r.alone.whole;
        slot_before = or_from (is_seat x.slot y) (list_any (is_seat x.slot) r.alone.before) slot r.alone.slot_before;
        slot_behind = r.alone.slot_behind;
        id_before = or_from (has_session x.session.id y) (list_any (has_session x.session.id) r.alone.before) id r.alone.id_before;
        id_behind = r.alone.id_behind;
      };
      place = ap suc r.place;
    }

pub slot_itself : (x : Seated) → is_seat x.slot x ≡ true
slot_itself x = eq-eqb x.slot x.slot refl

abbrev pub seat_with : ℕ → Row → Seat
seat_with slot session = record { slot = slot; session = session }
