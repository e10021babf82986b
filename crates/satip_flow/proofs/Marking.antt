-- Slots are marked exactly where their subscribers select, when the subscribers change.
use Rattle.std.proofs.Common.{ℕ, ◌≡◌, ◌≢◌, ◌+◌, ◌-◌, ◌^◌, ◌<◌, ◌≤◌, zero, suc, Bool, true, false, cond, eqb, ◌&&◌, ◌||◌, List, [], ◌∷◌, length, map, take, get_or, max, min, bit_or, bit_and, Option, Some, None, option_map, inl, inr, ◌⊎◌, w64, refl, sym, ap, subst, ◌∙◌, arith}
use Rattle.std.proofs.lemmas.List.{take_all}
use Rattle.std.proofs.lemmas.List.Folds.{list_any_more}
use Rattle.std.proofs.lemmas.Bool.{or_parts, and_right, cases_eq, cases_lt, eq-eqb, ne_eqb, eqb-true}
use Rattle.std.proofs.lemmas.Nat.Bits.{bit_at_or, bit_at_and, bit_at_not, bit_at-lt, bit_at-zero}
use Rattle.std.specs.Int.{bit_at, bit_not}
use Rattle.std.specs.List.{list_any}
use Rattle.satip_pids.specs.Pids.{Pids, has_pid}
use Rattle.satip_flow.specs.Subscription.{Subscription, has_slot, is_at, is_of, takes, changed}
use Rattle.satip_flow.specs.Subscriptions.{SlotsApart, IsFrontOrNone, of_slot, put, without}
use Rattle.satip_flow.specs.Rows.{bit, marks, holds_of, with_slots, IsExact, IsMarked, AreSlotsOf, IsGroup, Shows, KeepsSlots, SamePids, IsAlike, IsLike}
use Rattle.satip_flow.proofs.Slots.{read_same, slot_below, none_found, not_after}
use Rattle.satip_flow.proofs.Sends.{max-marks}
use Rattle.satip_flow.proofs.SlotMaps.{same_one, Passing, passing, at_slot, found_at, of_map, made_from, of_put_same, of_put_other, of_without_same, of_without_other}
use Rattle.satip_flow.proofs.Rewriting.{with_kept, with_shown}

pub bit_true : (t : Bool) → bit t ≡ 1 → t ≡ true
bit_true true h = refl
bit_true false h = absurd (omega (arith, h))

-- a change that keeps the place, the front end and the PIDs
pub record KeepsChoice (f : Subscription → Subscription) : Type 0 where
  pub place : (s : Subscription) → (f s).place ≡ s.place
  pub front : (s : Subscription) → (f s).front ≡ s.front
  pub pids : (s : Subscription) → (f s).pids ≡ s.pids

pub marked_map : (rows : List ℕ) (known : ℕ) (f : Subscription → Subscription) (xs : List Subscription) → KeepsChoice f → IsMarked rows known xs
    → IsMarked rows known (map f xs)
marked_map rows known f xs keeps marked = record {
  fronts = λ slot s e.
      let made = made_from f (of_slot slot xs) s (sym (of_map slot f keeps.place xs) ∙ e) in
      subst (λ o. IsFrontOrNone o) (sym (keeps.front made.from) ∙ ap (λ s. s.front) made.made) (marked.fronts slot made.from made.is);
  exact = λ front pid slot low below. marked.exact front pid slot low below
      ∙ ap bit (sym (ap (λ o. holds_of (takes front pid) o) (of_map slot f keeps.place xs) ∙ same front pid (of_slot slot xs)));
  alike = λ j k s t j_below k_below j_is k_is stream j_known k_known.
      let a = made_from f (of_slot j xs) s (sym (of_map j f keeps.place xs) ∙ j_is) in
      let b = made_from f (of_slot k xs) t (sym (of_map k f keeps.place xs) ∙ k_is) in
      let a_place = sym (keeps.place a.from) ∙ ap (λ s. s.place) a.made in
      let b_place = sym (keeps.place b.from) ∙ ap (λ s. s.place) b.made in
      let streams = ap (λ p. p.stream) a_place ∙ stream ∙ sym (ap (λ p. p.stream) b_place) in
      let both = marked.alike j k a.from b.from j_below k_below a.is b.is streams j_known k_known in
      let a_front = sym (keeps.front a.from) ∙ ap (λ s. s.front) a.made in
      let b_front = sym (keeps.front b.from) ∙ ap (λ s. s.front) b.made in
      let a_pids = sym (keeps.pids a.from) ∙ ap (λ s. s.pids) a.made in
      let b_pids = sym (keeps.pids b.from) ∙ ap (λ s. s.pids) b.made in (
        sym a_front ∙ both.0 ∙ b_front,
        λ pid h. sym (ap (λ p. has_pid p pid) a_pids) ∙ both.1 pid h ∙ ap (λ p. has_pid p pid) b_pids,
      );
}
  where
    same : (front pid : ℕ) (o : Option Subscription) → holds_of (takes front pid) (option_map f o) ≡ holds_of (takes front pid) o
    same front pid None = refl
    same front pid (Some s) =
        ap (λ x. is_at front x && has_pid (f s).pids pid) (keeps.front s) ∙ ap (λ p. is_at front s.front && has_pid p pid) (keeps.pids s)

-- the mask of one slot
abbrev pub IsOne : ℕ → ℕ → Type 0
IsOne own slot = (k : ℕ) → bit_at own k ≡ cond (eqb slot k) 1 0

pub one_is : (own slot k : ℕ) → IsOne own slot → slot ≡ k → bit_at own k ≡ 1
one_is own slot k one same = one k ∙ ap (λ t. cond t 1 0) (eq-eqb slot k same)

none_is : (own slot k : ℕ) → IsOne own slot → slot ≢ k → bit_at own k ≡ 0
none_is own slot k one differs = one k ∙ ap (λ t. cond t 1 0) (ne_eqb slot k differs)

pub is_own : (own slot k : ℕ) → IsOne own slot → bit_at own k ≡ 1 → slot ≡ k
is_own own slot k one h = eqb-true slot k (bit_true (eqb slot k) (sym (one k) ∙ h))

pub own_shown : (rows : List ℕ) (own slot : ℕ) (xs : List Subscription) (s : Subscription) → IsOne own slot → of_slot slot xs ≡ Some s → IsExact rows xs
    → Shows rows own s.front s.pids
own_shown rows own slot xs s one is exact = λ f pid k low below h.
    exact f pid k low below ∙ ap (λ o. bit (holds_of (takes f pid) o)) (ap (λ n. of_slot n xs) (sym (is_own own slot k one h)) ∙ is)

pub nobody_shown : (rows : List ℕ) (own slot : ℕ) (xs : List Subscription) (pids : Pids) → IsOne own slot → list_any (has_slot slot) xs ≡ false
    → IsExact rows xs → Shows rows own None pids
nobody_shown rows own slot xs pids one free exact = λ f pid k low below h.
    exact f pid k low below
    ∙ ap (λ o. bit (holds_of (takes f pid) o)) (ap (λ n. of_slot n xs) (sym (is_own own slot k one h)) ∙ none_found slot xs free)

-- one more
pub marked_put : (old new : List ℕ) (known own : ℕ) (xs : List Subscription) (s : Subscription) → own < 2 ^ 64 → IsOne own s.place.slot
    → list_any (has_slot s.place.slot) xs ≡ false → IsFrontOrNone s.front → Shows new own s.front s.pids → KeepsSlots own old new
    → (t : Bool) → (t ≡ true → IsLike known xs s.place.stream s.front s.pids) → IsMarked old known xs → IsMarked new (with_slots own t known) (put s xs)
marked_put old new known own xs s fits one free front shows keeps t like marked = record {
  fronts = λ k t e.
      elim (cases_eq s.place.slot k) [
        | inl same ↦ subst (λ s. IsFrontOrNone s.front) (same_one s t (sym (of_put_same k s xs free same) ∙ e)) front
        | inr differs ↦ marked.fronts k t (sym (of_put_other k s xs free differs) ∙ e)
      ];
  exact = λ f pid k low below.
      elim (cases_eq s.place.slot k) [
        | inl same ↦
            shows f pid k low below (one_is own s.place.slot k one same)
            ∙ sym (ap (λ o. bit (holds_of (takes f pid) o)) (of_put_same k s xs free same))
        | inr differs ↦
            keeps f pid k low below (none_is own s.place.slot k one differs) ∙ marked.exact f pid k low below
            ∙ sym (ap (λ o. bit (holds_of (takes f pid) o)) (of_put_other k s xs free differs))
      ];
  alike = λ j k a b j_below k_below j_is k_is stream j_known k_known.
      elim (cases_eq s.place.slot j) [
        | inl j_own ↦
            let a_is : s ≡ a = same_one s a (sym (of_put_same j s xs free j_own) ∙ j_is) in
            elim (cases_eq s.place.slot k) [
              | inl k_own ↦
                  let b_is : s ≡ b = same_one s b (sym (of_put_same k s xs free k_own) ∙ k_is) in
                  let both : a ≡ b = sym a_is ∙ b_is in
                  (ap (λ s. s.front) both, λ pid h. ap (λ s. has_pid s.pids pid) both)
              | inr k_other ↦
                  let ours = like (own_known j j_own j_below j_known) k b k_below (sym (of_put_other k s xs free k_other) ∙ k_is)
                  (sym stream ∙ sym (ap (λ s. s.place.stream) a_is)) (old_known k k_other k_below k_known) in
                  (sym (ours.0 ∙ ap (λ s. s.front) a_is), λ pid h. sym (ours.1 pid h ∙ ap (λ s. has_pid s.pids pid) a_is))
            ]
        | inr j_other ↦
            let a_old = sym (of_put_other j s xs free j_other) ∙ j_is in
            let a_known = old_known j j_other j_below j_known in
            elim (cases_eq s.place.slot k) [
              | inl k_own ↦
                  let b_is : s ≡ b = same_one s b (sym (of_put_same k s xs free k_own) ∙ k_is) in
                  let ours = like (own_known k k_own k_below k_known) j a j_below a_old (stream ∙ sym (ap (λ s. s.place.stream) b_is)) a_known in
                  (ours.0 ∙ ap (λ s. s.front) b_is, λ pid h. ours.1 pid h ∙ ap (λ s. has_pid s.pids pid) b_is)
              | inr k_other ↦
                  marked.alike j k a b j_below k_below a_old (sym (of_put_other k s xs free k_other) ∙ k_is) stream a_known
                  (old_known k k_other k_below k_known)
            ]
      ];
}
  where
    old_known : (j : ℕ) → s.place.slot ≢ j → j < 64 → bit_at (with_slots own t known) j ≡ 1 → bit_at known j ≡ 1
    old_known j differs below h = sym (with_kept own known j t fits below (none_is own s.place.slot j one differs)) ∙ h

    own_known : (j : ℕ) → s.place.slot ≡ j → j < 64 → bit_at (with_slots own t known) j ≡ 1 → t ≡ true
    own_known j same below h = bit_true t (sym (with_shown own known j t fits below (one_is own s.place.slot j one same)) ∙ h)

-- one less
still_there : (slot k : ℕ) (xs : List Subscription) (t : Subscription) → of_slot k (without slot xs) ≡ Some t → of_slot k xs ≡ Some t
still_there slot k xs t e =
    elim (cases_eq k slot) [
      | inl same ↦
          let none : None ≡ Some t = sym (of_without_same slot xs) ∙ ap (λ n. of_slot n (without slot xs)) (sym same) ∙ e in
          absurd (cc)
      | inr differs ↦ sym (of_without_other slot k xs differs) ∙ e
    ]

pub marked_without : (old new : List ℕ) (known own slot : ℕ) (xs : List Subscription) (pids : Pids) → IsOne own slot → Shows new own None pids
    → KeepsSlots own old new → IsMarked old known xs → IsMarked new known (without slot xs)
marked_without old new known own slot xs pids one shows keeps marked = record {
  fronts = λ k t e. marked.fronts k t (still_there slot k xs t e);
  exact = λ f pid k low below.
      elim (cases_eq slot k) [
        | inl same ↦
            shows f pid k low below (one_is own slot k one same)
            ∙ sym (ap (λ o. bit (holds_of (takes f pid) o)) (ap (λ n. of_slot n (without slot xs)) (sym same) ∙ of_without_same slot xs))
        | inr differs ↦
            keeps f pid k low below (none_is own slot k one differs) ∙ marked.exact f pid k low below
            ∙ sym (ap (λ o. bit (holds_of (takes f pid) o)) (of_without_other slot k xs (λ same. differs (sym same))))
      ];
  alike = λ j k a b j_below k_below j_is k_is. marked.alike j k a b j_below k_below (still_there slot j xs a j_is) (still_there slot k xs b k_is);
}

-- the slots of a stream are marked anew, but those left
pub record IsRemarked (at left slots : ℕ) (front : Option ℕ) (pids : Pids) (old new : List ℕ) (xs : List Subscription) : Type 0 where
  pub within : (k : ℕ) → k < 64 → bit_at left k ≡ 1 → bit_at slots k ≡ 1
  pub passed : (i : ℕ) (d : Subscription) → i < at → i < length xs → bit_at left (get_or xs i d).place.slot ≡ 0
  pub done : (f pid k : ℕ) → pid < 8192 → k < 64 → bit_at slots k ≡ 1 → bit_at left k ≡ 0
      → bit_at (marks new f pid) k ≡ bit (is_at f front && has_pid pids pid)
  pub waiting : (f pid k : ℕ) → pid < 8192 → k < 64 → bit_at left k ≡ 1 → bit_at (marks new f pid) k ≡ bit_at (marks old f pid) k
  pub others : KeepsSlots slots old new

pub remarked_none : (slots : ℕ) (front : Option ℕ) (pids : Pids) (rows : List ℕ) (xs : List Subscription) → IsRemarked 0 slots slots front pids rows rows xs
remarked_none slots front pids rows xs = record {
  within = λ k below h. h;
  passed = λ i d h inside. absurd (omega (arith, h));
  done = λ f pid k low below one none. absurd (omega (arith, one, none));
  waiting = λ f pid k low below h. refl;
  others = λ f pid k low below h. refl;
}

pub remarked_passed : (at left slots : ℕ) (front : Option ℕ) (pids : Pids) (old new : List ℕ) (xs : List Subscription) (e : Subscription)
    → bit_at left (get_or xs at e).place.slot ≢ 1 → IsRemarked at left slots front pids old new xs
    → IsRemarked (at + 1) left slots front pids old new xs
remarked_passed at left slots front pids old new xs e other so_far = record {
  within = so_far.within;
  passed = λ i d h inside.
      elim (cases_eq i at) [
        | inl same ↦
            let slot = (get_or xs at e).place.slot in
            let here : (get_or xs i d).place.slot ≡ slot =
            ap (λ s. s.place.slot) (read_same xs i d e inside ∙ ap (λ n. get_or xs n e) same) in
            ap (λ n. bit_at left n) here ∙ omega (arith, other, bit_at-lt left slot)
        | inr differs ↦ so_far.passed i d (omega (arith, h, differs)) inside
      ];
  done = so_far.done;
  waiting = so_far.waiting;
  others = so_far.others;
}

pub remarked_more : (at left slots : ℕ) (front : Option ℕ) (pids : Pids) (old now new : List ℕ) (xs : List Subscription) (e : Subscription)
    (same known slot : ℕ) → SlotsApart xs → same < 2 ^ 64 → slot ≡ (get_or xs at e).place.slot → IsGroup same left known slot
    → Shows new same front pids → KeepsSlots same now new → IsRemarked at left slots front pids old now xs
    → IsRemarked (at + 1) (bit_and left (bit_not w64 same)) slots front pids old new xs
remarked_more at left slots front pids old now new xs e same known slot apart fits is group shows keeps so_far = record {
  within = λ k below h. so_far.within k below (omega (arith, left_bit k below, h, bit_at-lt left k));
  passed = λ i d h inside.
      let below = slot_below xs apart i d inside in
      elim (cases_eq i at) [
        | inl at_same ↦
            let here : slot ≡ (get_or xs i d).place.slot =
            is ∙ sym (ap (λ s. s.place.slot) (read_same xs i d e inside ∙ ap (λ n. get_or xs n e) at_same)) in
            let one : bit_at same (get_or xs i d).place.slot ≡ 1 = ap (λ n. bit_at same n) (sym here) ∙ group.own in
            omega (arith, left_bit (get_or xs i d).place.slot below, one)
        | inr differs ↦
            let none = so_far.passed i d (omega (arith, h, differs)) inside in
            omega (arith, left_bit (get_or xs i d).place.slot below, none)
      ];
  done = λ f pid k low below one none.
      elim (cases_eq (bit_at same k) 1) [
        | inl h ↦ shows f pid k low below h
        | inr h ↦
            let zeros : bit_at same k ≡ 0 = omega (arith, h, bit_at-lt same k) in
            keeps f pid k low below zeros
            ∙ so_far.done f pid k low below one (omega (arith, left_bit k below, none, zeros, bit_at-lt left k))
      ];
  waiting = λ f pid k low below h.
      let zeros : bit_at same k ≡ 0 = omega (arith, left_bit k below, h, bit_at-lt same k) in
      keeps f pid k low below zeros ∙ so_far.waiting f pid k low below (omega (arith, left_bit k below, h, bit_at-lt left k));
  others = λ f pid k low below h.
      let zeros : bit_at same k ≡ 0 =
      elim (cases_eq (bit_at same k) 1) [
        | inl one ↦
            let contrary = so_far.within k below (group.among k below one) in
            absurd (omega (arith, contrary, h))
        | inr none ↦ omega (arith, none, bit_at-lt same k)
      ] in
      keeps f pid k low below zeros ∙ so_far.others f pid k low below h;
}
  where
    left_bit : (k : ℕ) → k < 64 → bit_at (bit_and left (bit_not w64 same)) k ≡ min (bit_at left k) (1 - bit_at same k)
    left_bit k below = bit_at_and left (bit_not w64 same) k ∙ ap (λ n. min (bit_at left k) n) (bit_at_not w64 same k fits below)

-- a slot of a stream has a subscriber of it
in_stream : (slots stream k : ℕ) (xs : List Subscription) → AreSlotsOf slots stream xs → k < 64 → bit_at slots k ≡ 1
    → Passing (is_of stream) (of_slot k xs)
in_stream slots stream k xs are below one =
    passing (is_of stream) (of_slot k xs) (bit_true (holds_of (is_of stream) (of_slot k xs)) (sym (are k below) ∙ one))

-- a group has one front end and one set
pub group_shown : (at left slots stream : ℕ) (front : Option ℕ) (pids : Pids) (old now : List ℕ) (xs : List Subscription) (s : Subscription)
    (same known slot : ℕ) → AreSlotsOf slots stream xs → slot < 64 → of_slot slot xs ≡ Some s → IsMarked old known xs
    → IsRemarked at left slots front pids old now xs → IsGroup same left known slot → Shows now same s.front s.pids
group_shown at left slots stream front pids old now xs s same known slot are slot_below is marked so_far group = λ f pid k low below one.
    let in_left = group.among k below one in
    let who = in_stream slots stream k xs are below (so_far.within k below in_left) in
    let ours = in_stream slots stream slot xs are slot_below (so_far.within slot slot_below (group.among slot slot_below group.own)) in
    let ours_is : ours.one ≡ s = same_one ours.one s (sym ours.is ∙ is) in
    so_far.waiting f pid k low below in_left ∙ marked.exact f pid k low below
    ∙ ap (λ o. bit (holds_of (takes f pid) o)) who.is
    ∙ elim (cases_eq k slot) [
      | inl here ↦
          let whole : who.one ≡ s = same_one who.one s (sym who.is ∙ ap (λ n. of_slot n xs) here ∙ is) in
          ap (λ t. bit (takes f pid t)) whole
      | inr differs ↦
          let knows = group.others k below one differs in
          let stream_k = eqb-true who.one.place.stream stream who.passes in
          let stream_s = ap (λ t. t.place.stream) (sym ours_is) ∙ eqb-true ours.one.place.stream stream ours.passes in
          let both = marked.alike k slot who.one s below slot_below who.is is (stream_k ∙ sym stream_s) knows.0 knows.1 in
          ap (λ o. bit (is_at f o && has_pid who.one.pids pid)) both.0 ∙ ap (λ t. bit (is_at f s.front && t)) (both.1 pid low)
    ]

-- at last none is left
pub remarked_all : (at left slots stream : ℕ) (front : Option ℕ) (pids : Pids) (old new : List ℕ) (xs : List Subscription)
    → length xs ≤ at → AreSlotsOf slots stream xs → IsRemarked at left slots front pids old new xs → Shows new slots front pids
remarked_all at left slots stream front pids old new xs all are so_far = λ f pid k low below one.
    let who = in_stream slots stream k xs are below one in
    let found = found_at k xs who.one who.is in
    let here : (get_or xs found.at who.one).place.slot ≡ k = ap (λ s. s.place.slot) (found.is who.one) ∙ found.has in
    let none = ap (λ n. bit_at left n) (sym here) ∙ so_far.passed found.at who.one (omega (arith, found.within, all)) found.within in
    so_far.done f pid k low below one none

changed_place : (stream : ℕ) (front : Option ℕ) (pids : Pids) (s : Subscription) → (changed stream front pids s).place ≡ s.place
changed_place stream front pids s = each (is_of stream s)
  where
    each : (t : Bool) → (cond t (record s { front = front; pids = pids }) s).place ≡ s.place
    each true = refl
    each false = refl

changed_on : (stream : ℕ) (front : Option ℕ) (pids : Pids) (s : Subscription) → is_of stream s ≡ true
    → changed stream front pids s ≡ record s { front = front; pids = pids }
changed_on stream front pids s e = ap (λ t. cond t (record s { front = front; pids = pids }) s) e

changed_off : (stream : ℕ) (front : Option ℕ) (pids : Pids) (s : Subscription) → is_of stream s ≡ false → changed stream front pids s ≡ s
changed_off stream front pids s e = ap (λ t. cond t (record s { front = front; pids = pids }) s) e

-- a stream's subscribers are changed
pub marked_changed : (old new : List ℕ) (known slots stream : ℕ) (front : Option ℕ) (pids : Pids) (xs : List Subscription) → IsFrontOrNone front
    → AreSlotsOf slots stream xs → Shows new slots front pids → KeepsSlots slots old new → IsMarked old known xs
    → IsMarked new (bit_or known slots) (map (changed stream front pids) xs)
marked_changed old new known slots stream front pids xs within are shows keeps marked = record {
  fronts = λ k t e.
      let made = made_from change (of_slot k xs) t (sym (of_map k change (changed_place stream front pids) xs) ∙ e) in
      subst (λ s. IsFrontOrNone s.front) made.made (front_of made.from (is_of stream made.from) refl (marked.fronts k made.from made.is));
  exact = λ f pid k low below.
      exact_of f pid k low below (of_slot k xs) refl
      ∙ sym (ap (λ o. bit (holds_of (takes f pid) o)) (of_map k change (changed_place stream front pids) xs));
  alike = λ j k s t j_below k_below j_is k_is same j_known k_known.
      let a = made_from change (of_slot j xs) s (sym (of_map j change (changed_place stream front pids) xs) ∙ j_is) in
      let b = made_from change (of_slot k xs) t (sym (of_map k change (changed_place stream front pids) xs) ∙ k_is) in
      let a_stream : a.from.place.stream ≡ s.place.stream =
      sym (ap (λ p. p.stream) (changed_place stream front pids a.from)) ∙ ap (λ s. s.place.stream) a.made in
      let b_stream : b.from.place.stream ≡ t.place.stream =
      sym (ap (λ p. p.stream) (changed_place stream front pids b.from)) ∙ ap (λ s. s.place.stream) b.made in
      let streams = a_stream ∙ same ∙ sym b_stream in
      let both = alike_of j k a.from b.from j_below k_below a.is b.is streams j_known k_known (is_of stream a.from) refl in (
        ap (λ s. s.front) (sym a.made) ∙ both.0 ∙ ap (λ s. s.front) b.made,
        λ pid h. ap (λ s. has_pid s.pids pid) (sym a.made) ∙ both.1 pid h ∙ ap (λ s. has_pid s.pids pid) b.made,
      );
}
  where
    change : Subscription → Subscription
    change = changed stream front pids

    front_of : (s : Subscription) (t : Bool) → is_of stream s ≡ t → IsFrontOrNone s.front → IsFrontOrNone (changed stream front pids s).front
    front_of s true e h = subst (λ s. IsFrontOrNone s.front) (sym (changed_on stream front pids s e)) within
    front_of s false e h = subst (λ s. IsFrontOrNone s.front) (sym (changed_off stream front pids s e)) h

    off : (k : ℕ) (s : Subscription) → k < 64 → of_slot k xs ≡ Some s → is_of stream s ≡ false → bit_at slots k ≡ 0
    off k s below is e = are k below ∙ ap (λ o. bit (holds_of (is_of stream) o)) is ∙ ap bit e

    exact_of : (f pid k : ℕ) → pid < 8192 → k < 64 → (o : Option Subscription) → of_slot k xs ≡ o
        → bit_at (marks new f pid) k ≡ bit (holds_of (takes f pid) (option_map (changed stream front pids) o))
    exact_of f pid k low below None is =
        let none = are k below ∙ ap (λ o. bit (holds_of (is_of stream) o)) is in
        keeps f pid k low below none ∙ marked.exact f pid k low below ∙ ap (λ o. bit (holds_of (takes f pid) o)) is
    exact_of f pid k low below (Some s) is = each (is_of stream s) refl
      where
        each : (t : Bool) → is_of stream s ≡ t → bit_at (marks new f pid) k ≡ bit (takes f pid (changed stream front pids s))
        each true e =
            let one = are k below ∙ ap (λ o. bit (holds_of (is_of stream) o)) is ∙ ap bit e in
            shows f pid k low below one ∙ ap (λ s. bit (takes f pid s)) (sym (changed_on stream front pids s e))
        each false e =
            keeps f pid k low below (off k s below is e) ∙ marked.exact f pid k low below
            ∙ ap (λ o. bit (holds_of (takes f pid) o)) is ∙ ap (λ s. bit (takes f pid s)) (sym (changed_off stream front pids s e))

    alike_of : (j k : ℕ) (a b : Subscription) → j < 64 → k < 64 → of_slot j xs ≡ Some a → of_slot k xs ≡ Some b
        → a.place.stream ≡ b.place.stream → bit_at (bit_or known slots) j ≡ 1 → bit_at (bit_or known slots) k ≡ 1 → (t : Bool) → is_of stream a ≡ t
        → ((changed stream front pids a).front ≡ (changed stream front pids b).front)
        × SamePids (changed stream front pids a).pids (changed stream front pids b).pids
    alike_of j k a b j_below k_below a_is b_is streams j_known k_known true e =
        let b_on = changed_on stream front pids b (ap (λ n. eqb n stream) (sym streams) ∙ e) in
        let a_on = changed_on stream front pids a e in (
          ap (λ s. s.front) a_on ∙ sym (ap (λ s. s.front) b_on),
          λ pid h. ap (λ s. has_pid s.pids pid) a_on ∙ sym (ap (λ s. has_pid s.pids pid) b_on),
        )
    alike_of j k a b j_below k_below a_is b_is streams j_known k_known false e =
        let b_e = ap (λ n. eqb n stream) (sym streams) ∙ e in
        let b_off = changed_off stream front pids b b_e in
        let a_off = changed_off stream front pids a e in
        let j_old : bit_at known j ≡ 1 = omega (arith, bit_at_or known slots j, j_known, off j a j_below a_is e) in
        let k_old : bit_at known k ≡ 1 = omega (arith, bit_at_or known slots k, k_known, off k b k_below b_is b_e) in
        let both = marked.alike j k a b j_below k_below a_is b_is streams j_old k_old in (
          ap (λ s. s.front) a_off ∙ both.0 ∙ sym (ap (λ s. s.front) b_off),
          λ pid h. ap (λ s. has_pid s.pids pid) a_off ∙ both.1 pid h ∙ sym (ap (λ s. has_pid s.pids pid) b_off),
        )

-- the slots of the first subscribers of a stream
abbrev pub SlotsTo : ℕ → ℕ → ℕ → List Subscription → Type 0
SlotsTo n slots stream xs = (k : ℕ) → bit_at slots k ≡ bit (list_any (λ s. is_of stream s && has_slot k s) (take n xs))

pub slots_none : (stream : ℕ) (xs : List Subscription) → SlotsTo 0 0 stream xs
slots_none stream xs = λ k. bit_at-zero k

pub slots_more : (n slots own stream : ℕ) (xs : List Subscription) (e : Subscription) → n < length xs
    → ((k : ℕ) → bit_at own k ≡ cond (is_of stream (get_or xs n e) && eqb (get_or xs n e).place.slot k) 1 0) → SlotsTo n slots stream xs
    → SlotsTo (n + 1) (bit_or slots own) stream xs
slots_more n slots own stream xs e within one so_far = λ k.
    let test : Subscription → Bool = λ s. is_of stream s && has_slot k s in
    bit_at_or slots own k
    ∙ ap (λ m. max m (bit_at own k)) (so_far k)
    ∙ ap (λ m. max (bit (list_any test (take n xs))) m) (one k)
    ∙ max-marks (list_any test (take n xs)) (test (get_or xs n e))
    ∙ ap bit (sym (list_any_more test xs n e within))

none_both : (p : Subscription → Bool) (slot : ℕ) (xs : List Subscription) → list_any (has_slot slot) xs ≡ false
    → list_any (λ s. p s && has_slot slot s) xs ≡ false
none_both p slot [] h = refl
none_both p slot (x ∷ xs) h =
    let (lacks, none) = or_parts (has_slot slot x) (list_any (has_slot slot) xs) h in
    ap (λ t. t || list_any (λ s. p s && has_slot slot s) xs) (and_right (p x) (has_slot slot x) lacks) ∙ none_both p slot xs none

any_of : (p : Subscription → Bool) (slot : ℕ) (xs : List Subscription) → SlotsApart xs
    → list_any (λ s. p s && has_slot slot s) xs ≡ holds_of p (of_slot slot xs)
any_of p slot [] apart = refl
any_of p slot (x ∷ xs) (below, apart, rest) = each (has_slot slot x) refl (any_of p slot xs rest)
  where
    last : (a r : Bool) → r ≡ false → ((a && true) || r) ≡ a
    last true r h = refl
    last false r h = h

    each : (t : Bool) → has_slot slot x ≡ t → list_any (λ s. p s && has_slot slot s) xs ≡ holds_of p (of_slot slot xs)
        → ((p x && t) || list_any (λ s. p s && has_slot slot s) xs) ≡ holds_of p (cond t (Some x) (of_slot slot xs))
    each true e ih = last (p x) (list_any (λ s. p s && has_slot slot s) xs) (none_both p slot xs (not_after slot x xs apart e))
    each false e ih = ap (λ t. t || list_any (λ s. p s && has_slot slot s) xs) (and_right (p x) false refl) ∙ ih

pub slots_all : (n slots stream : ℕ) (xs : List Subscription) → length xs ≤ n → SlotsApart xs → SlotsTo n slots stream xs → AreSlotsOf slots stream xs
slots_all n slots stream xs all apart so_far = λ k below.
    so_far k ∙ ap (λ ys. bit (list_any (λ s. is_of stream s && has_slot k s) ys)) (take_all n xs all) ∙ ap bit (any_of (is_of stream) k xs apart)

-- none of the first subscribers is of the stream and known to be alike
abbrev pub NoneKnown : ℕ → ℕ → ℕ → List Subscription → Type 0
NoneKnown n known stream xs = (i : ℕ) (d : Subscription) → i < n → i < length xs → (get_or xs i d).place.stream ≡ stream
    → bit_at known (get_or xs i d).place.slot ≢ 1

pub known_none : (n known stream : ℕ) (front : Option ℕ) (pids : Pids) (xs : List Subscription) → length xs ≤ n → NoneKnown n known stream xs
    → IsLike known xs stream front pids
known_none n known stream front pids xs all none = λ slot s below is same one.
    let found = found_at slot xs s is in
    let here = found.is s in
    absurd (none found.at s (omega (arith, found.within, all)) found.within (ap (λ s. s.place.stream) here ∙ same)
    (ap (λ s. bit_at known s.place.slot) here ∙ ap (λ n. bit_at known n) found.has ∙ one))

pub known_more : (n known stream : ℕ) (xs : List Subscription) (e : Subscription)
    → ((get_or xs n e).place.stream ≡ stream → bit_at known (get_or xs n e).place.slot ≢ 1) → NoneKnown n known stream xs
    → NoneKnown (n + 1) known stream xs
known_more n known stream xs e other so_far = λ i d lt within same.
    elim (cases_eq i n) [
      | inl here ↦
          let one : get_or xs i d ≡ get_or xs n e = read_same xs i d e within ∙ ap (λ k. get_or xs k e) here in
          subst (λ s. bit_at known s.place.slot ≢ 1) (sym one) (other (ap (λ s. s.place.stream) (sym one) ∙ same))
      | inr differs ↦ so_far i d (omega (arith, lt, differs)) within same
    ]

-- one that is known stands for the others
pub known_one : (n known stream : ℕ) (front : Option ℕ) (pids : Pids) (xs : List Subscription) (e : Subscription) → SlotsApart xs → n < length xs
    → IsAlike known xs → (get_or xs n e).place.stream ≡ stream → bit_at known (get_or xs n e).place.slot ≡ 1 → (get_or xs n e).front ≡ front
    → SamePids (get_or xs n e).pids pids → IsLike known xs stream front pids
known_one n known stream front pids xs e apart within alike same one front_is pids_is = λ slot s below is stream_is bit_is.
    let own = get_or xs n e in
    let both = alike slot own.place.slot s own below (slot_below xs apart n e within) is (at_slot xs n e apart within) (stream_is ∙ sym same) bit_is one in
    (both.0 ∙ front_is, λ pid h. both.1 pid h ∙ pids_is pid h)
