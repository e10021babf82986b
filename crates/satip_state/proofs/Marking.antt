-- Sessions of marked slots end, one slot after the other.
use Rattle.std.proofs.Common.{◌≡◌, ℕ, ◌+◌, ◌<◌, ◌==◌, ◌&&◌, ◌||◌, not, Bool, true, false, cond, ◌⊎◌, List, [], ◌∷◌, map, filter, find, Some, None, refl, sym}
use Rattle.std.proofs.Common.{ap, subst, ◌∙◌, arith, inl, inr}
use Rattle.std.specs.Int.{bit_at}
use Rattle.std.specs.List.{slice_get}
use Rattle.std.specs.Option.{option_map}
use Rattle.std.proofs.lemmas.Nat.Bits.{bit_at-zero}
use Rattle.std.proofs.lemmas.Bool.{or_cases, and_parts, and_from, eqb-true, eq-eqb, true≢false, cases_Bool, not-true, cases_eq}
use Rattle.std.proofs.lemmas.Option.{same_Some}
use Rattle.satip_plain.proofs.SameIds.{same_id_is}
use Rattle.satip_base.specs.declared.identity.SessionId.{SessionId}
use Rattle.satip_base.specs.Lists.{Each, Has}
use Rattle.satip_base.proofs.Elements.{each_at, each_has}
use Rattle.satip_table.specs.declared.session.Seat.{Seat}
use Rattle.satip_table.specs.Sessions.{has_id_of, has_slot, without}
use Rattle.satip_table.specs.Living.{Sound, SlotsApart}
use Rattle.satip_plain.specs.Types.{Config}
use Rattle.satip_plain.specs.State.{Session, State}
use Rattle.satip_plain.specs.Steps.{end_where, is_session}
use Rattle.satip_state.specs.Kept.{Kept}
use Rattle.satip_state.specs.Seated.{Seated, seat_of}
use Rattle.satip_state.specs.Standing.{StandsFor}
use Rattle.satip_state.specs.Ending.{EndedMarked, IsMarked}
use Rattle.satip_state.proofs.Picking.{find_place, get_has, get-map, map_some}
use Rattle.satip_state.proofs.Apart.{id_itself}
use Rattle.satip_state.proofs.Swept.{each_filter}
use Rattle.satip_state.proofs.Ended.{filter_passing}
use Rattle.satip_state.proofs.Endings.{lose, end_loses, lose_then, lose_same}
use Rattle.satip_state.proofs.Expiring.{has_get, lacks, filter_has, slot_low, id_at}

filter_in : {X : Type 0} (p : X → Bool) (xs : List X) (x : X) → Has x (filter p xs) → Has x xs
filter_in p [] x has = has
filter_in p (y ∷ ys) x has = by (p y) has (λ h. filter_in p ys x h)
  where
    by : (b : Bool) → Has x (cond b (y ∷ filter p ys) (filter p ys)) → (Has x (filter p ys) → Has x ys) → (x ≡ y) ⊎ Has x ys
    by true (inl same) rest = inl same
    by true (inr h) rest = inr (rest h)
    by false h rest = inr (rest h)

-- one slot more is clear
next_clear : (seats : List Seat) (ends : SessionId → Bool) (slot : ℕ) → Each (λ seat. seat.slot < slot → ends seat.session.id ≡ false) seats
    → ((seat : Seat) → Has seat seats → seat.slot ≡ slot → ends seat.session.id ≡ false)
    → Each (λ seat. seat.slot < slot + 1 → ends seat.session.id ≡ false) seats
next_clear seats ends slot clear here = each_has (λ seat. seat.slot < slot + 1 → ends seat.session.id ≡ false) seats (λ seat has below.
    elim (cases_eq seat.slot slot) [
      | inl same ↦ here seat has same
      | inr differ ↦ each_at (λ z. z.slot < slot → ends z.session.id ≡ false) seats seat clear has (less seat.slot slot below differ)
    ])
  where
    less : (m n : ℕ) → m < n + 1 → (m ≡ n → ⊥) → m < n
    less m n below differ = omega (arith, below, differ)

bit_clear : (n : ℕ) (b : Bool) → (n == 1) ≡ false → n ≡ cond b 1 0 → b ≡ false
bit_clear n true e same = absurd (true≢false (sym (eq-eqb n 1 same) ∙ e))
bit_clear n false e same = refl

bit_set : (n : ℕ) (b : Bool) → (n == 1) ≡ true → n ≡ cond b 1 0 → b ≡ true
bit_set n true e same = refl
bit_set n false e same = absurd (omega (arith, eqb-true n 1 e, same))

pub unmarked : (c : Config) (v : Kept) (st : State) (ends : SessionId → Bool) (marks slot : ℕ) → EndedMarked c v st ends marks slot
    → (bit_at marks slot == 1) ≡ false
    → EndedMarked c v st ends marks (slot + 1)
unmarked c v st ends marks slot e bit = record {
  who = e.who;
  some = e.some;
  stands = e.stands;
  marked = e.marked;
  clear = next_clear v.table.seats ends slot e.clear (λ seat has same.
      bit_clear (bit_at marks slot) (ends seat.session.id) bit (ap (bit_at marks) (sym same) ∙ each_at (IsMarked marks ends) v.table.seats seat e.marked has));
}

none_has : (slot : ℕ) (seats : List Seat) (seat : Seat) → None ≡ find (has_slot slot) seats → Has seat seats → seat.slot ≡ slot → ⊥
none_has slot [] seat none has same = has
none_has slot (y ∷ ys) seat none has same = by (has_slot slot y) refl none has (λ n h. none_has slot ys seat n h same)
  where
    by : (b : Bool) → has_slot slot y ≡ b → None ≡ cond b (Some y) (find (has_slot slot) ys) → (seat ≡ y) ⊎ Has seat ys
        → (None ≡ find (has_slot slot) ys → Has seat ys → ⊥) → ⊥
    by true e n h rest = absurd (cc)
    by false e n (inl it) rest = true≢false (sym (eq-eqb y.slot slot (ap (λ (z : Seat). z.slot) (sym it) ∙ same)) ∙ e)
    by false e n (inr h) rest = rest n h

pub nobody_marked : (c : Config) (v : Kept) (st : State) (ends : SessionId → Bool) (marks slot : ℕ) → EndedMarked c v st ends marks slot
    → None ≡ find (has_slot slot) v.table.seats
    → EndedMarked c v st ends marks (slot + 1)
nobody_marked c v st ends marks slot e none = record {
  who = e.who;
  some = e.some;
  stands = e.stands;
  marked = e.marked;
  clear = next_clear v.table.seats ends slot e.clear (λ seat has same. absurd (none_has slot v.table.seats seat none has same));
}

-- where no slot is marked, nobody is left to end
pub none_marked : (c : Config) (v : Kept) (st : State) (ends : SessionId → Bool) (marks slot : ℕ) → marks ≡ 0 → EndedMarked c v st ends marks slot
    → EndedMarked c v st ends marks 64
none_marked c v st ends marks slot none e = record {
  who = e.who;
  some = e.some;
  stands = e.stands;
  marked = e.marked;
  clear = each_has (λ z. z.slot < 64 → ends z.session.id ≡ false) v.table.seats (λ seat has below.
      let bit : 0 ≡ cond (ends seat.session.id) 1 0 =
      sym (bit_at-zero seat.slot) ∙ ap (λ m. bit_at m seat.slot) (sym none) ∙ each_at (IsMarked marks ends) v.table.seats seat e.marked has in
      bit_clear 0 (ends seat.session.id) refl bit);
}

-- who has a slot is alone with it
slots_once : (seats : List Seat) (slot : ℕ) (seat other : Seat) → SlotsApart seats → find (has_slot slot) seats ≡ Some seat → Has other seats
    → other.slot ≡ slot → other ≡ seat
slots_once [] slot seat other apart found has same = absurd has
slots_once (y ∷ ys) slot seat other apart found has same = by (has_slot slot y) refl found has (λ f h. slots_once ys slot seat other apart.2 f h same)
  where
    by : (b : Bool) → has_slot slot y ≡ b → cond b (Some y) (find (has_slot slot) ys) ≡ Some seat → (other ≡ y) ⊎ Has other ys
        → (find (has_slot slot) ys ≡ Some seat → Has other ys → other ≡ seat) → other ≡ seat
    by true e f (inl it) rest = it ∙ same_Some y seat f
    by true e f (inr h) rest =
        let differ : has_slot y.slot other ≡ false = lacks (has_slot y.slot) ys other apart.1 h in
        absurd (true≢false (sym (eq-eqb other.slot y.slot (same ∙ sym (eqb-true y.slot slot e))) ∙ differ))
    by false e f (inl it) rest = absurd (true≢false (sym (eq-eqb y.slot slot (ap (λ (z : Seat). z.slot) (sym it) ∙ same)) ∙ e))
    by false e f (inr h) rest = rest f h

pub marked_ended : (c : Config) (v w : Kept) (st : State) (ends : SessionId → Bool) (marks slot : ℕ) (e : EndedMarked c v st ends marks slot) → Sound v.table
    → (seat : Seat)
    → find (has_slot slot) v.table.seats ≡ Some seat → (bit_at marks slot == 1) ≡ true
    → StandsFor c w (end_where (is_session seat.session.id) (end_where e.who st).state).state → w.table.seats ≡ without seat.session.id v.table.seats
    → EndedMarked c w st ends marks (slot + 1)
marked_ended c v w st ends marks slot e sound seat found bit after seats =
    let now : State = (end_where e.who st).state in
    let id : SessionId = seat.session.id in
    let p = find_place (has_slot slot) v.table.seats seat found in
    let own : seat.slot ≡ slot = eqb-true seat.slot slot p.2 in
    let its : ends id ≡ true = bit_set (bit_at marks slot) (ends id) bit (ap (bit_at marks) (sym own)
    ∙ each_at (IsMarked marks ends) v.table.seats seat e.marked (get_has v.table.seats p.0 seat p.1)) in
    let one : Session → Bool = λ s. is_session id s && ends s.id in
    let same : (s : Session) → Has s (lose e.who st).sessions → is_session id s ≡ one s = λ s has.
    elim (cases_Bool (is_session id s)) [
      | inl holds ↦ holds ∙ sym (and_from (is_session id s) (ends s.id) holds (ap ends (same_id_is s.id id holds) ∙ its))
      | inr fails ↦ fails ∙ sym (ap (λ b. b && ends s.id) fails)
    ] in
    let both : Session → Bool = λ s. e.who s || one s in
    let is_state : (end_where (is_session id) now).state ≡ (end_where both st).state =
    ap (λ z. (end_where (is_session id) z).state) (end_loses e.who st)
    ∙ end_loses (is_session id) (lose e.who st)
    ∙ lose_same (is_session id) one (lose e.who st) same
    ∙ lose_then e.who one st
    ∙ sym (end_loses both st) in
    record {
      who = both;
      some = λ s h. elim (or_cases (e.who s) (one s) h) [ inl first ↦ e.some s first | inr other ↦ (and_parts (is_session id s) (ends s.id) other).1 ];
      stands = subst (λ z. StandsFor c w z) is_state after;
      marked = subst (Each (IsMarked marks ends)) (sym seats) (each_filter (IsMarked marks ends) (λ z. not (has_id_of id z)) v.table.seats e.marked);
      clear = subst (Each (λ z. z.slot < slot + 1 → ends z.session.id ≡ false)) (sym seats)
          (next_clear (without id v.table.seats) ends slot
          (each_filter (λ z. z.slot < slot → ends z.session.id ≡ false) (λ z. not (has_id_of id z)) v.table.seats e.clear)
          (λ other has at.
          let it : other ≡ seat =
          slots_once v.table.seats slot seat other sound.slots found (filter_in (λ z. not (has_id_of id z)) v.table.seats other has) at in
          let not_it : has_id_of id other ≡ false = not-true (has_id_of id other) (filter_passing (λ z. not (has_id_of id z)) v.table.seats other has) in
          absurd (true≢false (sym (ap (λ (z : Seat). has_id_of id z) it ∙ id_itself id) ∙ not_it))));
    }

-- in the end all are gone that were to end
pub all_marked : (c : Config) (w : Kept) (st : State) (ends : SessionId → Bool) (marks : ℕ) → Sound w.table → EndedMarked c w st ends marks 64
    → StandsFor c w (end_where (λ s. ends s.id) st).state
all_marked c w st ends marks sound e =
    let low : (k : ℕ) (seat : Seat) → slice_get w.table.seats k ≡ Some seat → seat.slot < 64 = λ k seat got. slot_low w.table.seats k seat sound.slots got in
    let gone : (s : Session) → Has s (lose e.who st).sessions → ends s.id ≡ false = λ s has.
    let now : StandsFor c w (lose e.who st) = subst (λ z. StandsFor c w z) (end_loses e.who st) e.stands in
    let r = has_get (map (λ (x : Seated). x.session) now.seated) s (subst (λ ss. Has s ss) now.sessions has) in
    let y = map_some (λ (x : Seated). x.session) (slice_get now.seated r.0) s (sym (get-map (λ (x : Seated). x.session) now.seated r.0) ∙ r.1) in
    let at : slice_get w.table.seats r.0 ≡ Some (seat_of y.0) = ap (λ ss. slice_get ss r.0) now.seats ∙ get-map seat_of now.seated r.0
    ∙ ap (option_map seat_of) y.1 in
    let clear : ends (seat_of y.0).session.id ≡ false =
    each_at (λ z. z.slot < 64 → ends z.session.id ≡ false) w.table.seats (seat_of y.0) e.clear (get_has w.table.seats r.0 (seat_of y.0) at)
    (low r.0 (seat_of y.0) at) in
    ap (λ (x : Session). ends x.id) (sym y.2) ∙ ap ends (sym (id_at y.0)) ∙ clear in
    let same : (s : Session) → Has s st.sessions → e.who s ≡ ends s.id = λ s has.
    elim (cases_Bool (e.who s)) [
      | inl holds ↦ holds ∙ sym (e.some s holds)
      | inr fails ↦ fails ∙ sym (gone s (filter_has (λ x. not (e.who x)) st.sessions s has (ap not fails)))
    ] in
    subst (λ z. StandsFor c w z) (end_loses e.who st ∙ lose_same e.who (λ s. ends s.id) st same ∙ sym (end_loses (λ s. ends s.id) st)) e.stands

-- nobody ended yet
pub nobody_yet : (c : Config) (v : Kept) (st : State) (ends : SessionId → Bool) (marks : ℕ) → StandsFor c v st → StandsFor c v (end_where (λ s. false) st).state
    → Each (IsMarked marks ends) v.table.seats → EndedMarked c v st ends marks 0
nobody_yet c v st ends marks stands after marked = record {
  who = λ s. false;
  some = λ s h. absurd (true≢false (sym h));
  stands = after;
  marked = marked;
  clear = each_has (λ z. z.slot < 0 → ends z.session.id ≡ false) v.table.seats (λ seat has below. absurd (omega (arith, below)));
}
