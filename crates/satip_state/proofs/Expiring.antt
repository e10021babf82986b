-- Sessions end that weren't heard of for the timeout, one after the other.
use Rattle.std.proofs.Common.{◌≡◌, ℕ, zero, suc, ◌+◌, ◌*◌, ◌<◌, ◌≤◌, ◌&&◌, ◌||◌, not, Bool, true, false, cond, List, [], ◌∷◌, ◌++◌, length, filter, find}
use Rattle.std.proofs.Common.{Option, Some, None, refl, sym, ap, subst, ◌∙◌, arith, inl, inr}
use Rattle.std.specs.List.{list_any, slice_get}
use Rattle.std.specs.Option.{option_map}
use Rattle.std.proofs.lemmas.Bool.{or_parts, or_cases, and_parts, eqb-true, true≢false, le-leb, lt-leb, cases_Bool, and_from}
use Rattle.std.proofs.lemmas.Option.{same_Some}
use Rattle.satip_base.specs.Lists.{Has}
use Rattle.satip_table.specs.declared.session.Seat.{Seat}
use Rattle.satip_table.specs.Sessions.{has_id_of, has_slot}
use Rattle.satip_table.specs.Living.{Sound, SlotsApart}
use Rattle.satip_timer.specs.Deadlines.{IsNextDue, NoneDue, HasDeadline}
use Rattle.satip_fronts.specs.FrontEnds.{Sound as FrontsSound}
use Rattle.satip_plain.specs.Types.{Config}
use Rattle.satip_plain.specs.State.{Session, State}
use Rattle.satip_plain.specs.Streams.{sweep}
use Rattle.satip_plain.specs.Steps.{is_expired, is_session, end_where}
use Rattle.satip_state.specs.Kept.{Kept}
use Rattle.satip_state.specs.Seated.{Seated, seat_of, row_of, is_seat, due_of, end_of}
use Rattle.satip_state.specs.Standing.{StandsFor}
use Rattle.satip_state.proofs.Picking.{find_place, find_one, get-map, any-map, find-map, map_some, map_nothing}
use Rattle.satip_state.proofs.Apart.{AloneAt, alone_at, slot_itself, id_itself}
use Rattle.satip_state.proofs.Mapped.{sessions_of, stands_apart}
use Rattle.satip_state.proofs.Flushes.{seated_at, between}
use Rattle.satip_state.proofs.Swept.{filter_all, any_from_get}
use Rattle.satip_state.proofs.Ended.{swept_same}
use Rattle.satip_state.proofs.Endings.{lose, end_loses, lose_then, lose_same}

module _ {X : Type 0} where
  pub has_get : (xs : List X) (x : X) → Has x xs → (k : ℕ) × (slice_get xs k ≡ Some x)
  has_get [] x has = absurd has
  has_get (y ∷ ys) x (inl same) = (zero, ap Some (sym same))
  has_get (y ∷ ys) x (inr has) = let r = has_get ys x has in (suc r.0, r.1)

  pub lacks : (p : X → Bool) (xs : List X) (x : X) → list_any p xs ≡ false → Has x xs → p x ≡ false
  lacks p [] x none has = absurd has
  lacks p (y ∷ ys) x none (inl same) = let parts = or_parts (p y) (list_any p ys) none in ap p same ∙ parts.0
  lacks p (y ∷ ys) x none (inr has) = let parts = or_parts (p y) (list_any p ys) none in lacks p ys x parts.1 has

  -- of a list with one of which p holds, between others, that one alone
  pub only_one : (p : X → Bool) (a : List X) (x : X) (b : List X) (y : X) → list_any p a ≡ false → list_any p b ≡ false → Has y (a ++ x ∷ b) → p y ≡ true
      → y ≡ x
  only_one p [] x b y before behind (inl same) e = same
  only_one p [] x b y before behind (inr has) e = absurd (true≢false (sym e ∙ lacks p b y behind has))
  only_one p (z ∷ a) x b y before behind (inl same) e =
      let parts = or_parts (p z) (list_any p a) before in absurd (true≢false (sym e ∙ ap p same ∙ parts.0))
  only_one p (z ∷ a) x b y before behind (inr has) e =
      let parts = or_parts (p z) (list_any p a) before in only_one p a x b y parts.1 behind has e

  pub filter_has : (p : X → Bool) (xs : List X) (x : X) → Has x xs → p x ≡ true → Has x (filter p xs)
  filter_has p [] x has e = has
  filter_has p (y ∷ ys) x has e = by (p y) refl has (λ h. filter_has p ys x h e)
    where
      by : (b : Bool) → p y ≡ b → Has x (y ∷ ys) → (Has x ys → Has x (filter p ys)) → Has x (cond b (y ∷ filter p ys) (filter p ys))
      by true f (inl same) rest = inl same
      by true f (inr h) rest = inr (rest h)
      by false f (inl same) rest = absurd (true≢false (sym e ∙ ap p same ∙ f))
      by false f (inr h) rest = rest h

get_low : {X : Type 0} (xs : List X) (k : ℕ) (x : X) → slice_get xs k ≡ Some x → k < length xs
get_low [] k x got = absurd (cc)
get_low (y ∷ ys) zero x got = omega arith
get_low (y ∷ ys) (suc k) x got = let rest = get_low ys k x got in omega (arith, rest)

pub slot_low : (seats : List Seat) (k : ℕ) (seat : Seat) → SlotsApart seats → slice_get seats k ≡ Some seat → seat.slot < 64
slot_low [] k seat apart got = absurd (cc)
slot_low (y ∷ ys) zero seat apart got = subst (λ (z : Seat). z.slot < 64) (same_Some y seat got) apart.0
slot_low (y ∷ ys) (suc k) seat apart got = slot_low ys k seat apart.2 got

pub low_slot : (c : Config) (v : Kept) (st : State) (stands : StandsFor c v st) → Sound v.table → (k : ℕ) (x : Seated) → slice_get stands.seated k ≡ Some x
    → x.slot < 64
low_slot c v st stands sound k x got =
    slot_low v.table.seats k (seat_of x) sound.slots (ap (λ seats. slice_get seats k) stands.seats ∙ get-map seat_of stands.seated k
    ∙ ap (option_map seat_of) got)

-- the deadline of a session that is seated
pub deadline : (c : Config) (v : Kept) (st : State) (stands : StandsFor c v st) → Sound v.table → (k : ℕ) (x : Seated) → slice_get stands.seated k ≡ Some x
    → HasDeadline v.dues x.slot (x.session.heard + v.timeout * 1000)
deadline c v st stands sound k x got =
    let at : AloneAt stands.seated k x = alone_at stands.seated k x (stands_apart c v st stands sound) got in
    stands.dues x.slot (low_slot c v st stands sound k x got)
    ∙ ap (λ xs. Some (due_of v.timeout xs x.slot)) at.alone.whole
    ∙ ap (λ o. Some (option_map (end_of v.timeout) o)) (find_one (is_seat x.slot) at.alone.before x at.alone.behind at.alone.slot_before (slot_itself x))

-- sessions of which some ended, none of them too early
pub record EndedSome (c : Config) (w : Kept) (st : State) : Type 0 where
  pub who : Session → Bool
  pub some : (s : Session) → who s ≡ true → is_expired c st.clock s ≡ true
  pub stands : StandsFor c w (lose who st)

pub none_yet : (c : Config) (v : Kept) (st : State) → StandsFor c v st → Sound v.table → FrontsSound v.fronts → EndedSome c v st
none_yet c v st stands sound fronts =
    let all : filter (λ (s : Session). true) st.sessions ≡ st.sessions = filter_all (λ (s : Session). true) st.sessions (λ s has. refl) in
    record {
      who = λ s. false;
      some = λ s e. absurd (true≢false (sym e));
      stands = subst (λ now. StandsFor c v now)
          (sym (ap (λ (ss : List Session). sweep (record st { sessions = ss })) all ∙ swept_same c v st stands sound fronts)) stands;
    }

-- who has the slot of a seat that was found
slot_seat : (slot : ℕ) (v : Kept) (seat : Seat) → find (has_slot slot) v.table.seats ≡ Some seat
    → (place : ℕ) × (slice_get v.table.seats place ≡ Some seat) × (has_slot slot seat ≡ true)
slot_seat slot v seat found = find_place (has_slot slot) v.table.seats seat found

pub id_at : (x : Seated) → (seat_of x).session.id ≡ x.session.id
unfolding row_of
id_at x = refl

-- one more ended, whose deadline passed
pub one_more_ended : (c : Config) (v w : Kept) (st : State) → Sound v.table → (e : EndedSome c v st) (slot : ℕ) (seat : Seat)
    → find (has_slot slot) v.table.seats ≡ Some seat
    → IsNextDue v.clock v.dues slot
    → StandsFor c w (end_where (is_session seat.session.id) (lose e.who st)).state → EndedSome c w st
one_more_ended c v w st sound e slot seat found next after =
    let now : State = lose e.who st in
    let p = slot_seat slot v seat found in
    let r = seated_at c v now e.stands p.0 seat p.1 in
    let x : Seated = r.0 in
    let at : AloneAt e.stands.seated p.0 x = alone_at e.stands.seated p.0 x (stands_apart c v now e.stands sound) r.1 in
    let id : seat.session.id ≡ x.session.id = ap (λ (z : Seat). z.session.id) (sym r.2) ∙ id_at x in
    let own : x.slot ≡ slot = ap (λ (z : Seat). z.slot) r.2 ∙ eqb-true seat.slot slot p.2 in
    let due : HasDeadline v.dues slot (x.session.heard + v.timeout * 1000) =
    subst (λ k. HasDeadline v.dues k (x.session.heard + v.timeout * 1000)) own (deadline c v now e.stands sound p.0 x r.1) in
    let moment : next.moment ≡ x.session.heard + v.timeout * 1000 =
    same_Some next.moment (x.session.heard + v.timeout * 1000)
    (same_Some (Some next.moment) (Some (x.session.heard + v.timeout * 1000)) (sym next.its ∙ due)) in
    let early : x.session.heard + c.timeout * 1000 ≤ st.clock =
    subst (λ k. k ≤ st.clock) (ap (λ t. x.session.heard + t * 1000) e.stands.timeout)
    (subst (λ k. x.session.heard + v.timeout * 1000 ≤ k) e.stands.clock (subst (λ k. k ≤ v.clock) moment next.passed)) in
    let expired : is_expired c st.clock x.session ≡ true = le-leb (x.session.heard + c.timeout * 1000) st.clock early in
    let ends : Session → Bool = λ s. is_session x.session.id s && is_expired c st.clock s in
    let same : (s : Session) → Has s now.sessions → is_session x.session.id s ≡ ends s = λ s has.
    elim (cases_Bool (is_session x.session.id s)) [
      | inl holds ↦
          let it : s ≡ x.session = only_one (is_session x.session.id) (sessions_of at.alone.before) x.session (sessions_of at.alone.behind) s
          (any-map (λ (y : Seated). y.session) (is_session x.session.id) at.alone.before ∙ at.alone.id_before)
          (any-map (λ (y : Seated). y.session) (is_session x.session.id) at.alone.behind ∙ at.alone.id_behind)
          (subst (λ ss. Has s ss) (e.stands.sessions ∙ between e.stands.seated x at.alone) has) holds in
          holds ∙ sym (and_from (is_session x.session.id s) (is_expired c st.clock s) holds (ap (is_expired c st.clock) it ∙ expired))
      | inr fails ↦ fails ∙ sym (ap (λ b. b && is_expired c st.clock s) fails)
    ] in
    record {
      who = λ s. e.who s || ends s;
      some = λ s h. elim (or_cases (e.who s) (ends s) h) [
        | inl one ↦ e.some s one
        | inr other ↦
            (and_parts (is_session x.session.id s) (is_expired c st.clock s) other).1
      ];
      stands = subst (λ z. StandsFor c w z)
          (ap (λ i. (end_where (is_session i) now).state) id ∙ end_loses (is_session x.session.id) now ∙ lose_same (is_session x.session.id) ends now same
          ∙ lose_then e.who ends st)
          after;
    }

-- a due slot has a session
pub due_seated : (c : Config) (v : Kept) (st : State) → (e : EndedSome c v st) (slot : ℕ) → slot < 64 → IsNextDue v.clock v.dues slot
    → None ≡ find (has_slot slot) v.table.seats → ⊥
due_seated c v st e slot low next none =
    let nobody : find (is_seat slot) e.stands.seated ≡ None =
    map_nothing seat_of (find (is_seat slot) e.stands.seated) (sym (find-map seat_of (has_slot slot) e.stands.seated)
    ∙ ap (find (has_slot slot)) (sym e.stands.seats) ∙ sym none) in
    let due : Some (Some next.moment) ≡ Some None = sym next.its ∙ e.stands.dues slot low ∙ ap (λ o. Some (option_map (end_of v.timeout) o)) nobody in
    let apart : Some next.moment ≡ None = same_Some (Some next.moment) None due in
    cc

-- where no deadline passed, all ended that were to end
pub all_ended : (c : Config) (v : Kept) (st : State) → Sound v.table → (e : EndedSome c v st) → NoneDue v.clock v.dues
    → StandsFor c v (end_where (is_expired c st.clock) st).state
all_ended c v st sound e none =
    let now : State = lose e.who st in
    let fresh : (s : Session) → Has s now.sessions → is_expired c st.clock s ≡ false = λ s has.
    let r = has_get (sessions_of e.stands.seated) s (subst (λ ss. Has s ss) e.stands.sessions has) in
    let y = map_some (λ (x : Seated). x.session) (slice_get e.stands.seated r.0) s (sym (get-map (λ (x : Seated). x.session) e.stands.seated r.0) ∙ r.1) in
    let later : v.clock < y.0.session.heard + v.timeout * 1000 =
    none y.0.slot (y.0.session.heard + v.timeout * 1000) (deadline c v now e.stands sound r.0 y.0 y.1) in
    let late : st.clock < y.0.session.heard + c.timeout * 1000 =
    subst (λ k. st.clock < k) (ap (λ t. y.0.session.heard + t * 1000) e.stands.timeout)
    (subst (λ k. k < y.0.session.heard + v.timeout * 1000) e.stands.clock later) in
    ap (is_expired c st.clock) (sym y.2) ∙ lt-leb (y.0.session.heard + c.timeout * 1000) st.clock late in
    let same : (s : Session) → Has s st.sessions → e.who s ≡ is_expired c st.clock s = λ s has.
    elim (cases_Bool (e.who s)) [
      | inl holds ↦ holds ∙ sym (e.some s holds)
      | inr fails ↦ fails ∙ sym (fresh s (filter_has (λ x. not (e.who x)) st.sessions s has (ap not fails)))
    ] in
    subst (λ z. StandsFor c v z) (lose_same e.who (is_expired c st.clock) st same ∙ sym (end_loses (is_expired c st.clock) st)) e.stands

-- a key with a deadline is one of the keys
pub key_low : (dues : List (Option ℕ)) (now slot : ℕ) → length dues ≡ 64 → IsNextDue now dues slot → slot < 64
key_low dues now slot long next = subst (λ n. slot < n) long (get_low dues slot (Some next.moment) next.its)

-- a slot's seat lives
pub slot_lives : (slot : ℕ) (seats : List Seat) (seat : Seat) → find (has_slot slot) seats ≡ Some seat → list_any (has_id_of seat.session.id) seats ≡ true
slot_lives slot seats seat found =
    let p = find_place (has_slot slot) seats seat found in
    any_from_get (has_id_of seat.session.id) seats p.0 seat p.1 (id_itself seat.session.id)
