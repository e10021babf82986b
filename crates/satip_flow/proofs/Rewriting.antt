-- The bits of words that are written for other slots, front ends and PIDs.
use Rattle.std.proofs.Common.{ℕ, ◌≡◌, ◌≢◌, ◌+◌, ◌-◌, ◌*◌, ◌^◌, ◌<◌, ◌≤◌, zero, suc, Bool, true, false, cond, eqb, ◌&&◌, List, [], length, get_or, set, Option, Some, None, inl, inr, ◌⊎◌, w64, refl, sym, ap, subst, ◌∙◌, arith}
use Rattle.std.proofs.lemmas.Bool.{cases_eq, cases_lt, eq-eqb, ne_eqb}
use Rattle.std.proofs.lemmas.List.{get_or-set_same, get_or-set_other}
use Rattle.std.proofs.lemmas.Nat.Bits.{bit_at_or, bit_at_and, bit_at_not, bit_at-lt}
use Rattle.std.specs.Int.{bit_at, bit_not}
use Rattle.satip_pids.specs.Pids.{Pids, Only, has_pid}
use Rattle.satip_flow.specs.Subscription.{is_at}
use Rattle.satip_flow.specs.Subscriptions.{IsFrontOrNone}
use Rattle.satip_flow.specs.Rows.{bit, marks, with_slots, rewritten, IsRewritten, Shows, KeepsSlots}

pub with_shown : (slots word slot : ℕ) (is : Bool) → slots < 2 ^ 64 → slot < 64 → bit_at slots slot ≡ 1 → bit_at (with_slots slots is word) slot ≡ bit is
with_shown slots word slot true fits below one = omega (arith, bit_at_or word slots slot, one, bit_at-lt word slot)
with_shown slots word slot false fits below one =
    omega (arith, bit_at_and word (bit_not w64 slots) slot, bit_at_not w64 slots slot fits below, one)

pub with_kept : (slots word slot : ℕ) (is : Bool) → slots < 2 ^ 64 → slot < 64 → bit_at slots slot ≡ 0
    → bit_at (with_slots slots is word) slot ≡ bit_at word slot
with_kept slots word slot true fits below none = omega (arith, bit_at_or word slots slot, none, bit_at-lt word slot)
with_kept slots word slot false fits below none =
    omega (arith, bit_at_and word (bit_not w64 slots) slot, bit_at_not w64 slots slot fits below, none, bit_at-lt word slot)

rewritten_shown : (slots word slot : ℕ) (was is : Bool) → slots < 2 ^ 64 → slot < 64 → bit_at slots slot ≡ 1 → bit_at word slot ≡ bit was
    → bit_at (rewritten slots (bit was) (bit is) word) slot ≡ bit is
rewritten_shown slots word slot true true fits below one h = h
rewritten_shown slots word slot false false fits below one h = h
rewritten_shown slots word slot true false fits below one h = with_shown slots word slot false fits below one
rewritten_shown slots word slot false true fits below one h = with_shown slots word slot true fits below one

rewritten_kept : (slots word slot : ℕ) (was is : Bool) → slots < 2 ^ 64 → slot < 64 → bit_at slots slot ≡ 0
    → bit_at (rewritten slots (bit was) (bit is) word) slot ≡ bit_at word slot
rewritten_kept slots word slot true true fits below none = refl
rewritten_kept slots word slot false false fits below none = refl
rewritten_kept slots word slot true false fits below none = with_kept slots word slot false fits below none
rewritten_kept slots word slot false true fits below none = with_kept slots word slot true fits below none

-- the words of one front end are written
abbrev pub WritesFront : ℕ → Option ℕ → Pids → Pids → List ℕ → List ℕ → Type 0
WritesFront slots front p q a b = (at pid : ℕ) → pid < 8192
    → marks b at pid ≡ cond (is_at at front) (rewritten slots (bit (has_pid p pid)) (bit (has_pid q pid)) (marks a at pid)) (marks a at pid)

pub written_shows : (slots : ℕ) (front : Option ℕ) (p q : Pids) (a b : List ℕ) → slots < 2 ^ 64 → WritesFront slots front p q a b
    → Shows a slots front p → Shows b slots front q
written_shows slots front p q a b fits written before = λ f pid slot low below one.
    ap (λ w. bit_at w slot) (written f pid low) ∙ each f pid slot below one (is_at f front) (before f pid slot low below one)
  where
    each : (f pid slot : ℕ) → slot < 64 → bit_at slots slot ≡ 1 → (t : Bool) → bit_at (marks a f pid) slot ≡ bit (t && has_pid p pid)
        → bit_at (cond t (rewritten slots (bit (has_pid p pid)) (bit (has_pid q pid)) (marks a f pid)) (marks a f pid)) slot ≡ bit (t && has_pid q pid)
    each f pid slot below one true h = rewritten_shown slots (marks a f pid) slot (has_pid p pid) (has_pid q pid) fits below one h
    each f pid slot below one false h = h

pub written_keeps : (slots : ℕ) (front : Option ℕ) (p q : Pids) (a b : List ℕ) → slots < 2 ^ 64 → WritesFront slots front p q a b
    → KeepsSlots slots a b
written_keeps slots front p q a b fits written = λ f pid slot low below none.
    ap (λ w. bit_at w slot) (written f pid low) ∙ each f pid slot below none (is_at f front)
  where
    each : (f pid slot : ℕ) → slot < 64 → bit_at slots slot ≡ 0 → (t : Bool)
        → bit_at (cond t (rewritten slots (bit (has_pid p pid)) (bit (has_pid q pid)) (marks a f pid)) (marks a f pid)) slot ≡ bit_at (marks a f pid) slot
    each f pid slot below none true = rewritten_kept slots (marks a f pid) slot (has_pid p pid) (has_pid q pid) fits below none
    each f pid slot below none false = refl

pub keeps_both : (slots : ℕ) (a b c : List ℕ) → KeepsSlots slots a b → KeepsSlots slots b c → KeepsSlots slots a c
keeps_both slots a b c first second = λ f pid slot low below none. second f pid slot low below none ∙ first f pid slot low below none

-- a slot that is marked for no PID is marked at no front end
pub none_shown : (rows : List ℕ) (slots : ℕ) (own front : Option ℕ) → Shows rows slots own (Only []) → Shows rows slots front (Only [])
none_shown rows slots own front shows = λ f pid slot low below one. shows f pid slot low below one ∙ each (is_at f own) (is_at f front)
  where
    each : (t u : Bool) → bit (t && false) ≡ bit (u && false)
    each true true = refl
    each true false = refl
    each false true = refl
    each false false = refl

-- words that are written one behind the other
pub rewritten_none : (start slots : ℕ) (was is : ℕ → ℕ) (rows : List ℕ) → IsRewritten 0 start slots was is rows rows
rewritten_none start slots was is rows = record {
  words = λ i h. absurd (omega (arith, h));
  before = λ at h. refl;
  behind = λ at h. refl;
}

pub rewritten_same : (count start slots : ℕ) (was is : ℕ → ℕ) (rows : List ℕ) → ((i : ℕ) → i < count → was i ≡ is i)
    → IsRewritten count start slots was is rows rows
rewritten_same count start slots was is rows same = record {
  words = λ i h.
      let word = get_or rows (start + i) 0 in
      sym (ap (λ t. cond t word (with_slots slots (eqb (is i) 1) word)) (eq-eqb (was i) (is i) (same i h)));
  before = λ at h. refl;
  behind = λ at h. refl;
}

pub rewritten_set : (at slots was is : ℕ) (rows : List ℕ) → at < length rows → was ≢ is
    → IsRewritten 1 at slots (λ i. was) (λ i. is) rows (set rows at (with_slots slots (eqb is 1) (get_or rows at 0)))
rewritten_set at slots was is rows within differs =
    let new = with_slots slots (eqb is 1) (get_or rows at 0) in
    record {
      words = λ i h.
          let here : at + i ≡ at = omega (arith, h) in
          ap (λ n. get_or (set rows at new) n 0) here ∙ get_or-set_same rows at new 0 within
          ∙ sym (ap (λ n. rewritten slots was is (get_or rows n 0)) here
          ∙ ap (λ t. cond t (get_or rows at 0) new) (ne_eqb was is differs));
      before = λ n h. get_or-set_other rows at n new 0 (omega (arith, h));
      behind = λ n h. get_or-set_other rows at n new 0 (omega (arith, h));
    }

pub rewritten_more : (n m start next slots : ℕ) (was is was_next is_next : ℕ → ℕ) (a b c : List ℕ) → next ≡ start + n
    → ((i : ℕ) → i < m → was_next i ≡ was (n + i)) → ((i : ℕ) → i < m → is_next i ≡ is (n + i))
    → IsRewritten n start slots was is a b → IsRewritten m next slots was_next is_next b c → IsRewritten (n + m) start slots was is a c
rewritten_more n m start next slots was is was_next is_next a b c follows was_same is_same first second = record {
  words = λ i h.
      elim (cases_lt i n) [
        | inl lt ↦ second.before (start + i) (omega (arith, follows, lt)) ∙ first.words i lt
        | inr ge ↦
            let j : ℕ = i - n in
            let split : n + j ≡ i = omega (arith, ge) in
            let place : next + j ≡ start + i = omega (arith, follows, ge) in
            let low : j < m = omega (arith, h, ge) in
            ap (λ k. get_or c k 0) (sym place) ∙ second.words j low
            ∙ ap (λ k. rewritten slots (was_next j) (is_next j) (get_or b k 0)) place
            ∙ ap (λ w. rewritten slots (was_next j) (is_next j) w) (first.behind (start + i) (omega (arith, ge)))
            ∙ ap (λ w. rewritten slots w (is_next j) (get_or a (start + i) 0)) (was_same j low ∙ ap was split)
            ∙ ap (λ w. rewritten slots (was i) w (get_or a (start + i) 0)) (is_same j low ∙ ap is split)
      ];
  before = λ at h. second.before at (omega (arith, follows, h)) ∙ first.before at h;
  behind = λ at h. second.behind at (omega (arith, follows, h)) ∙ first.behind at (omega (arith, h));
}

-- the words of a front end
pub front_written : (slots front start : ℕ) (p q : Pids) (a b : List ℕ) → 1 ≤ front → start ≡ 8192 * (front - 1)
    → IsRewritten 8192 start slots (λ pid. bit (has_pid p pid)) (λ pid. bit (has_pid q pid)) a b → WritesFront slots (Some front) p q a b
front_written slots front start p q a b low is written = λ at pid h. each at pid h
  where
    each : (at pid : ℕ) → pid < 8192
        → marks b at pid ≡ cond (eqb front at) (rewritten slots (bit (has_pid p pid)) (bit (has_pid q pid)) (marks a at pid)) (marks a at pid)
    each zero pid h = sym (ap (λ t. cond t (rewritten slots (bit (has_pid p pid)) (bit (has_pid q pid)) 0) 0) (ne_eqb front zero (omega (arith, low))))
    each (suc f) pid h =
        let old = get_or a (8192 * f + pid) 0 in
        let new = rewritten slots (bit (has_pid p pid)) (bit (has_pid q pid)) old in
        elim (cases_eq front (suc f)) [
          | inl same ↦
              let place : start + pid ≡ 8192 * f + pid = omega (arith, is, same) in
              ap (λ n. get_or b n 0) (sym place) ∙ written.words pid h
              ∙ ap (λ n. rewritten slots (bit (has_pid p pid)) (bit (has_pid q pid)) (get_or a n 0)) place
              ∙ sym (ap (λ t. cond t new old) (eq-eqb front (suc f) same))
          | inr differs ↦
              elsewhere f pid h differs ∙ sym (ap (λ t. cond t new old) (ne_eqb front (suc f) differs))
        ]
      where
        elsewhere : (f pid : ℕ) → pid < 8192 → (front ≡ suc f → ⊥) → get_or b (8192 * f + pid) 0 ≡ get_or a (8192 * f + pid) 0
        elsewhere f pid h differs =
            elim (cases_lt (8192 * f + pid) start) [
              | inl lt ↦ written.before (8192 * f + pid) lt
              | inr ge ↦
                  let past : front ≤ f = omega (arith, is, ge, h, low, differs) in
                  written.behind (8192 * f + pid) (omega (arith, is, past, low))
            ]

-- sets with the same words select the same PIDs
pub same_more : (n a b : ℕ) (p q : Pids) → ((i : ℕ) → i < 64 → bit_at a i ≡ bit (has_pid p (64 * n + i)))
    → ((i : ℕ) → i < 64 → bit_at b i ≡ bit (has_pid q (64 * n + i))) → a ≡ b → ((pid : ℕ) → pid < 64 * n → has_pid p pid ≡ has_pid q pid)
    → (pid : ℕ) → pid < 64 * (n + 1) → has_pid p pid ≡ has_pid q pid
same_more n a b p q p_bits q_bits same so_far = λ pid h.
    elim (cases_lt pid (64 * n)) [
      | inl lt ↦ so_far pid lt
      | inr ge ↦
          let i : ℕ = pid - 64 * n in
          let low : i < 64 = omega (arith, h, ge) in
          let split : 64 * n + i ≡ pid = omega (arith, ge) in
          let bits : bit (has_pid p (64 * n + i)) ≡ bit (has_pid q (64 * n + i)) =
          sym (p_bits i low) ∙ ap (λ w. bit_at w i) same ∙ q_bits i low in
          subst (λ k. has_pid p k ≡ has_pid q k) split (each (has_pid p (64 * n + i)) (has_pid q (64 * n + i)) bits)
    ]
  where
    each : (t u : Bool) → bit t ≡ bit u → t ≡ u
    each true true h = refl
    each false false h = refl
    each true false h = absurd (omega (arith, h))
    each false true h = absurd (omega (arith, h))
