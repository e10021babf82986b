-- What the bits of a set say of the list of its numbers.
use Rattle.std.proofs.Common.{◌≡◌, ◌≢◌, ℕ, zero, suc, ◌+◌, ◌-◌, ◌*◌, ◌/◌, ◌%◌, ◌^◌, ◌<◌, ◌≤◌, ◌==◌, ◌||◌, ◌&&◌, not, inl, inr, Bool, true, false, cond, List, [], ◌∷◌, length, get_or, set, replicate, bit_or, bit_and, refl, sym, ap, ◌∙◌, subst, arith, w64, All, Option, Some, None, MatchOption, take, ◌++◌, if◌then◌else◌}
use Rattle.std.specs.Int.{bit_at, bit_not, trailing_zeros}
use Rattle.std.proofs.lemmas.Nat.{shr-shr, shr_le}
use Rattle.std.proofs.lemmas.Bool.{cases_eq, cases_lt, eq-eqb, ne_eqb, false≢true}
use Rattle.std.proofs.lemmas.Bool.Decides.{nat_tests}
use Rattle.std.proofs.lemmas.Grind.{get_or-set_at}
use Rattle.std.proofs.lemmas.List.{get_or-set_other, get_or-replicate, take_more}
use Rattle.std.proofs.lemmas.Nat.Bits.{bit_at-lt, bit_at_set_same, bit_at_set_other, bit_at_clear_same, bit_at_clear_other, bit_at-zero, bit_at_ones, bit_at_above, bit_at-trailing_zeros}
use Rattle.std.proofs.lemmas.List.Elements.{All-nil, All-cons}
use Rattle.satip_pids.specs.Rising.{IsRising, has_number, put, without}
use Rattle.satip_pids.specs.Bits.{has_bit, members_from, members_above, members, HasNoneFrom, IsNextFrom, IsListed}
use Rattle.satip_pids.proofs.RisingLists.{rising_weaker, rising-put, rising-filter, has-put}
use Rattle.satip_pids.proofs.Sets.{has-filter}

-- ---- rising lists by the numbers that they have

-- a list has its first number
there : (x : ℕ) (xs : List ℕ) → has_number (x ∷ xs) x ≡ true
there x xs = rw (eq-eqb x x refl) refl

-- a rising list has no number below its low end
pub absent_below : (low : ℕ) (xs : List ℕ) (n : ℕ) → IsRising low xs → n < low → has_number xs n ≡ false
absent_below low [] n up lt = refl
absent_below low (x ∷ xs) n up lt =
    let differs : x ≡ n → ⊥ = λ e. absurd (omega (arith, up.0)) in
    rw (ne_eqb x n differs) (absent_below (suc x) xs n up.1 (omega (arith, up.0)))

-- two rising lists that have the same numbers begin with the same one
first_le : (x y : ℕ) (xs ys : List ℕ) → IsRising (suc y) ys → ((n : ℕ) → has_number (x ∷ xs) n ≡ has_number (y ∷ ys) n) → y ≤ x
first_le x y xs ys up same =
    elim (cases_lt x y) [
      | inl lt ↦ absurd (false≢true (sym (absent_below y (y ∷ ys) x (omega arith, up) lt) ∙ sym (same x) ∙ there x xs))
      | inr le ↦ le
    ]

-- and have the same others
after_first : (x y n : ℕ) (a b : Bool) → (x ≡ n → ⊥) → x ≡ y → (x == n || a) ≡ (y == n || b) → a ≡ b
after_first x y n a b differs e same =
    let x_not : (x == n) ≡ false = ne_eqb x n differs in
    let y_not : (y == n) ≡ false = ne_eqb y n (λ f. differs (e ∙ f)) in
    ap (λ t. t || a) (sym x_not) ∙ same ∙ ap (λ t. t || b) y_not

-- two rising lists that have the same numbers are equal
pub same_numbers : (low : ℕ) (xs ys : List ℕ) → IsRising low xs → IsRising low ys → ((n : ℕ) → has_number xs n ≡ has_number ys n) → xs ≡ ys
same_numbers low [] [] up vp same = refl
same_numbers low [] (y ∷ ys) up vp same = absurd (false≢true (same y ∙ there y ys))
same_numbers low (x ∷ xs) [] up vp same = absurd (false≢true (sym (same x) ∙ there x xs))
same_numbers low (x ∷ xs) (y ∷ ys) up vp same =
    let x_le : y ≤ x = first_le x y xs ys vp.1 same in
    let y_le : x ≤ y = first_le y x ys xs up.1 (λ n. sym (same n)) in
    let e : x ≡ y = omega arith in
    let vp_x : IsRising (suc x) ys = subst (λ a. IsRising (suc a) ys) (sym e) vp.1 in
    let tails : (n : ℕ) → has_number xs n ≡ has_number ys n = λ n.
    elim (cases_eq x n) [
      | inl f ↦ absent_below (suc x) xs n up.1 (omega arith) ∙ sym (absent_below (suc x) ys n vp_x (omega arith))
      | inr differs ↦ after_first x y n (has_number xs n) (has_number ys n) differs e (same n)
    ] in
    ap (λ a. a ∷ xs) e ∙ ap (λ rest. y ∷ rest) (same_numbers (suc x) xs ys up.1 vp_x tails)

-- a number that wasn't there is one more
pub length-put_absent : (n : ℕ) (xs : List ℕ) → has_number xs n ≡ false → length (put n xs) ≡ length xs + 1
length-put_absent n [] absent = omega arith
length-put_absent n (x ∷ xs) absent = grind (arith, nat_tests, absent, length-put_absent n xs)

-- a list without its first number, and with it
drop_first : (n x : ℕ) (xs : List ℕ) → n ≡ x → without (x ∷ xs) (n ∷ []) ≡ without xs (n ∷ [])
drop_first n x xs e = rw (eq-eqb n x e) refl

keep_first : (n x : ℕ) (xs : List ℕ) → (n ≡ x → ⊥) → without (x ∷ xs) (n ∷ []) ≡ x ∷ without xs (n ∷ [])
keep_first n x xs differs = rw (ne_eqb n x differs) refl

-- a list has no number that it neither begins with nor has behind that
not_first : (n x : ℕ) (xs : List ℕ) → has_number (x ∷ xs) n ≡ false → n ≡ x → ⊥
not_first n x xs absent e = false≢true (sym absent ∙ ap (has_number (x ∷ xs)) e ∙ there x xs)

behind_first : (n x : ℕ) (xs : List ℕ) → (n ≡ x → ⊥) → has_number (x ∷ xs) n ≡ has_number xs n
behind_first n x xs differs = rw (ne_eqb x n (λ e. differs (sym e))) refl

-- without a number that isn't there a list is as it was
without_absent : (n : ℕ) (xs : List ℕ) → has_number xs n ≡ false → without xs (n ∷ []) ≡ xs
without_absent n [] absent = refl
without_absent n (x ∷ xs) absent =
    let differs : n ≡ x → ⊥ = not_first n x xs absent in
    keep_first n x xs differs ∙ ap (λ rest. x ∷ rest) (without_absent n xs (sym (behind_first n x xs differs) ∙ absent))

-- without one that is there it has one less
pub length-without_there : (n low : ℕ) (xs : List ℕ) → IsRising low xs → has_number xs n ≡ true → length (without xs (n ∷ [])) + 1 ≡ length xs
length-without_there n low [] up has = absurd (false≢true has)
length-without_there n low (x ∷ xs) up has =
    elim (cases_eq n x) [
      | inl e ↦
          let same : without xs (n ∷ []) ≡ xs = without_absent n xs (absent_below (suc x) xs n up.1 (omega arith)) in
          omega (arith, ap length (drop_first n x xs e ∙ same))
      | inr differs ↦
          omega (arith, ap length (keep_first n x xs differs), length-without_there n (suc x) xs up.1 (sym (behind_first n x xs differs) ∙ has))
    ]

-- ---- the numbers of words

step_yes : (ws : List ℕ) (low count : ℕ) → has_bit ws low ≡ true → members_from ws low (suc count) ≡ low ∷ members_from ws (suc low) count
unfolding members_from
step_yes ws low count has = ap (λ b. cond b (low ∷ members_from ws (suc low) count) (members_from ws (suc low) count)) has

step_no : (ws : List ℕ) (low count : ℕ) → has_bit ws low ≡ false → members_from ws low (suc count) ≡ members_from ws (suc low) count
unfolding members_from
step_no ws low count absent = ap (λ b. cond b (low ∷ members_from ws (suc low) count) (members_from ws (suc low) count)) absent

rising_cases : (b : Bool) (low : ℕ) (rest : List ℕ) → IsRising (suc low) rest → IsRising low (cond b (low ∷ rest) rest)
rising_cases true low rest up = (omega arith, up)
rising_cases false low rest up = rising_weaker low (suc low) rest (omega arith) up

rising-members_from : (ws : List ℕ) (low count : ℕ) → IsRising low (members_from ws low count)
unfolding members_from
rising-members_from ws low zero = tt
rising-members_from ws low (suc count) = rising_cases (has_bit ws low) low (members_from ws (suc low) count) (rising-members_from ws (suc low) count)

pub rising-members : (ws : List ℕ) → IsRising 0 (members ws)
unfolding members
rising-members ws = rising-members_from ws 0 8192

-- what a list with or without its low end has
has_cases : (b h : Bool) (low n : ℕ) (rest : List ℕ) → (low ≡ n → h ≡ b) → ((low ≡ n → ⊥) → has_number rest n ≡ h) → (low ≡ n → has_number rest n ≡ false)
    → has_number (cond b (low ∷ rest) rest) n ≡ h
has_cases true h low n rest at other none =
    elim (cases_eq low n) [
      | inl e ↦ rw (eq-eqb low n e) (sym (at e))
      | inr differs ↦ rw (ne_eqb low n differs) (other differs)
    ]
has_cases false h low n rest at other none =
    elim (cases_eq low n) [ inl e ↦ none e ∙ sym (at e) | inr differs ↦ other differs ]

has-members_from : (ws : List ℕ) (low count n : ℕ) → low ≤ n → n < low + count → has_number (members_from ws low count) n ≡ has_bit ws n
unfolding members_from
has-members_from ws low zero n le lt = absurd (omega arith)
has-members_from ws low (suc count) n le lt =
    has_cases (has_bit ws low) (has_bit ws n) low n (members_from ws (suc low) count)
    (λ e. ap (has_bit ws) (sym e))
    (λ differs. has-members_from ws (suc low) count n (omega arith) (omega arith))
    (λ e. absent_below (suc low) (members_from ws (suc low) count) n (rising-members_from ws (suc low) count) (omega arith))

none_above : (ws : List ℕ) (low count n : ℕ) → low + count ≤ n → has_number (members_from ws low count) n ≡ false
unfolding members_from
none_above ws low zero n le = refl
none_above ws low (suc count) n le =
    has_cases (has_bit ws low) false low n (members_from ws (suc low) count)
    (λ e. absurd (omega arith))
    (λ differs. none_above ws (suc low) count n (omega arith))
    (λ e. absurd (omega arith))

pub has-members : (ws : List ℕ) (n : ℕ) → n < 8192 → has_number (members ws) n ≡ has_bit ws n
unfolding members
has-members ws n lt = has-members_from ws 0 8192 n (omega arith) (omega arith)

pub absent-members : (ws : List ℕ) (n : ℕ) → 8192 ≤ n → has_number (members ws) n ≡ false
unfolding members
absent-members ws n le = none_above ws 0 8192 n (omega arith)

-- ---- one bit more and one less

or_false : (a : Bool) → (a || false) ≡ a
or_false true = refl
or_false false = refl

and_false : (a : Bool) → (a && false) ≡ false
and_false true = refl
and_false false = refl

and_true : (a : Bool) → (a && true) ≡ a
and_true true = refl
and_true false = refl

or_groups : (a b c : Bool) → ((a || b) || c) ≡ (a || (b || c))
or_groups true b c = refl
or_groups false b c = refl

and_groups : (a b c : Bool) → ((a && b) && c) ≡ (a && (b && c))
and_groups true b c = refl
and_groups false b c = refl

not_both : (a b : Bool) → (not a && not b) ≡ not (a || b)
not_both true b = refl
not_both false b = refl

-- one more bit is one more number
pub members-put : (ws us : List ℕ) (pid : ℕ) → pid < 8192 → ((n : ℕ) → has_bit us n ≡ (pid == n || has_bit ws n)) → members us ≡ put pid (members ws)
members-put ws us pid below bits =
    same_numbers 0 (members us) (put pid (members ws)) (rising-members us) (rising-put 0 pid (members ws) (omega arith) (rising-members ws)) (λ n.
    elim (cases_lt n 8192) [
      | inl lt ↦ has-members us n lt ∙ bits n ∙ ap (λ b. pid == n || b) (sym (has-members ws n lt)) ∙ sym (has-put pid n (members ws))
      | inr ge ↦
          let none : has_number (put pid (members ws)) n ≡ false =
          has-put pid n (members ws) ∙ ap (λ b. b || has_number (members ws) n) (ne_eqb pid n (λ e. absurd (omega arith))) ∙ absent-members ws n ge in
          absent-members us n ge ∙ sym none
    ])

-- one bit less is one number less
pub members-without : (ws us : List ℕ) (pid : ℕ) → ((n : ℕ) → n < 8192 → has_bit us n ≡ (has_bit ws n && not (pid == n)))
    → members us ≡ without (members ws) (pid ∷ [])
members-without ws us pid bits =
    let kept : ℕ → Bool = λ n. not (has_number (pid ∷ []) n) in
    same_numbers 0 (members us) (without (members ws) (pid ∷ [])) (rising-members us) (rising-filter kept 0 (members ws) (rising-members ws)) (λ n.
    elim (cases_lt n 8192) [
      | inl lt ↦
          has-members us n lt ∙ bits n lt ∙ ap (λ b. has_bit ws n && not b) (sym (or_false (pid == n))) ∙ ap (λ b. b && kept n) (sym (has-members ws n lt))
          ∙ sym (has-filter kept n (members ws))
      | inr ge ↦
          absent-members us n ge ∙ sym (has-filter kept n (members ws) ∙ ap (λ b. b && kept n) (absent-members ws n ge))
    ])

-- ---- the least number from a number on

-- numbers whose bit isn't set are passed over
pass : (ws : List ℕ) (passed low count high left : ℕ) → count ≡ passed + left → high ≡ low + passed → ((n : ℕ) → low ≤ n → n < high → has_bit ws n ≡ false)
    → members_from ws low count ≡ members_from ws high left
pass ws zero low count high left e f clear =
    let same_low : low ≡ high = omega arith in
    let same_count : count ≡ left = omega arith in
    ap (λ p. members_from ws p count) same_low ∙ ap (λ k. members_from ws high k) same_count
pass ws (suc passed) low zero high left e f clear = absurd (omega arith)
pass ws (suc passed) low (suc count) high left e f clear =
    step_no ws low count (clear low (omega arith) (omega arith))
    ∙ pass ws passed (suc low) count high left (omega arith) (omega arith) (λ n le lt. clear n (omega arith) lt)

pub above_none : (ws : List ℕ) (low : ℕ) → low ≤ 8192 → HasNoneFrom ws low → members_above ws low ≡ []
unfolding members_above members_from
above_none ws low within none =
    pass ws (8192 - low) low (8192 - low) 8192 0 (omega arith) (omega arith) none.clear

pub above_next : (ws : List ℕ) (low next : ℕ) → IsNextFrom ws low next → members_above ws low ≡ next ∷ members_above ws (next + 1)
unfolding members_above
above_next ws low next is =
    let to_next : members_from ws low (8192 - low) ≡ members_from ws next (suc (8192 - (next + 1))) =
    pass ws (next - low) low (8192 - low) next (suc (8192 - (next + 1))) (omega (arith, is.from, is.below)) (omega (arith, is.from)) is.clear in
    let behind : suc next ≡ next + 1 = omega arith in
    to_next ∙ step_yes ws next (8192 - (next + 1)) is.is_set ∙ ap (λ low. next ∷ members_from ws low (8192 - (next + 1))) behind

pub members_are : (ws : List ℕ) → members ws ≡ members_above ws 0
unfolding members members_above
members_are ws = refl

pub members_none : (ws : List ℕ) → HasNoneFrom ws 0 → members ws ≡ []
members_none ws none = members_are ws ∙ above_none ws 0 (omega arith) none

below_cases : (b : Bool) (low : ℕ) (rest : List ℕ) → low < 8192 → All (λ pid. pid < 8192) rest → All (λ pid. pid < 8192) (cond b (low ∷ rest) rest)
below_cases true low rest lt all = All-cons (λ pid. pid < 8192) low rest lt all
below_cases false low rest lt all = all

-- each number is below 8192
all_below : (ws : List ℕ) (low count : ℕ) → low + count ≤ 8192 → All (λ pid. pid < 8192) (members_from ws low count)
unfolding members_from
all_below ws low zero le = All-nil (λ pid. pid < 8192)
all_below ws low (suc count) le =
    below_cases (has_bit ws low) low (members_from ws (suc low) count) (omega arith) (all_below ws (suc low) count (omega arith))

pub below-members : (ws : List ℕ) → All (λ pid. pid < 8192) (members ws)
unfolding members
below-members ws = all_below ws 0 8192 (omega arith)

-- ---- words

set_bit : (word bit other : ℕ) → bit < 64 → (bit ≡ other → ⊥) → bit_at (bit_or word (1 * 2 ^ bit % 2 ^ 64)) other ≡ bit_at word other
set_bit word bit other within differs = bit_at_set_other w64 word bit within other (λ e. differs (sym e))

-- the word of a number with its bit set
pub has_bit-set : (ws : List ℕ) (pid : ℕ) → length ws ≡ 128 → pid < 8192 → (n : ℕ)
    → has_bit (set ws (pid / 64) (bit_or (get_or ws (pid / 64) 0) (1 * 2 ^ (pid % 64) % 2 ^ 64))) n ≡ (pid == n || has_bit ws n)
has_bit-set ws pid size below n =
    let at = pid / 64 in
    let word = bit_or (get_or ws at 0) (1 * 2 ^ (pid % 64) % 2 ^ 64) in
    let within : at < length ws = omega arith in
    let bit_within : pid % 64 < 64 = omega arith in
    elim (cases_eq pid n) [
      | inl e ↦
          let place : n / 64 ≡ at = ap (λ k. k / 64) (sym e) in
          let bit : n % 64 ≡ pid % 64 = ap (λ k. k % 64) (sym e) in
          let read : get_or (set ws at word) (n / 64) 0 ≡ word = get_or-set_at ws at (n / 64) word 0 place within in
          let one : bit_at word (n % 64) ≡ 1 = ap (bit_at word) bit ∙ bit_at_set_same w64 (get_or ws at 0) (pid % 64) bit_within in
          ap (λ w. bit_at w (n % 64) == 1) read ∙ ap (λ b. b == 1) one ∙ ap (λ t. t || has_bit ws n) (sym (eq-eqb pid n e))
      | inr differs ↦
          let not_it : (has_bit ws n) ≡ (pid == n || has_bit ws n) = ap (λ t. t || has_bit ws n) (sym (ne_eqb pid n differs)) in
          elim (cases_eq (n / 64) at) [
            | inl place ↦
                let bits_differ : pid % 64 ≡ n % 64 → ⊥ = λ same. differs (omega arith) in
                ap (λ w. bit_at w (n % 64) == 1) (get_or-set_at ws at (n / 64) word 0 place within)
                ∙ ap (λ b. b == 1) (set_bit (get_or ws at 0) (pid % 64) (n % 64) bit_within bits_differ)
                ∙ ap (λ j. bit_at (get_or ws j 0) (n % 64) == 1) (sym place) ∙ not_it
            | inr apart ↦
                ap (λ w. bit_at w (n % 64) == 1) (get_or-set_other ws at (n / 64) word 0 apart) ∙ not_it
          ]
    ]

-- the word of a number with its bit cleared
pub has_bit-clear : (ws : List ℕ) (pid : ℕ) → length ws ≡ 128 → pid < 8192 → (n : ℕ)
    → has_bit (set ws (pid / 64) (bit_and (get_or ws (pid / 64) 0) (bit_not w64 (1 * 2 ^ (pid % 64) % 2 ^ 64)))) n ≡ (has_bit ws n && not (pid == n))
has_bit-clear ws pid size below n =
    let at = pid / 64 in
    let word = bit_and (get_or ws at 0) (bit_not w64 (1 * 2 ^ (pid % 64) % 2 ^ 64)) in
    let within : at < length ws = omega arith in
    let bit_within : pid % 64 < 64 = omega arith in
    elim (cases_eq pid n) [
      | inl e ↦
          let place : n / 64 ≡ at = ap (λ k. k / 64) (sym e) in
          let bit : n % 64 ≡ pid % 64 = ap (λ k. k % 64) (sym e) in
          let read : get_or (set ws at word) (n / 64) 0 ≡ word = get_or-set_at ws at (n / 64) word 0 place within in
          let none : bit_at word (n % 64) ≡ 0 = ap (bit_at word) bit ∙ bit_at_clear_same w64 (get_or ws at 0) (pid % 64) bit_within in
          ap (λ w. bit_at w (n % 64) == 1) read ∙ ap (λ b. b == 1) none ∙ sym (and_false (has_bit ws n))
          ∙ ap (λ t. has_bit ws n && not t) (sym (eq-eqb pid n e))
      | inr differs ↦
          let not_it : (has_bit ws n) ≡ (has_bit ws n && not (pid == n)) =
          sym (and_true (has_bit ws n)) ∙ ap (λ t. has_bit ws n && not t) (sym (ne_eqb pid n differs)) in
          elim (cases_eq (n / 64) at) [
            | inl place ↦
                let bits_differ : n % 64 ≡ pid % 64 → ⊥ = λ same. differs (omega arith) in
                ap (λ w. bit_at w (n % 64) == 1) (get_or-set_at ws at (n / 64) word 0 place within)
                ∙ ap (λ b. b == 1) (bit_at_clear_other w64 (get_or ws at 0) (pid % 64) bit_within (n % 64) (omega arith) bits_differ)
                ∙ ap (λ j. bit_at (get_or ws j 0) (n % 64) == 1) (sym place) ∙ not_it
            | inr apart ↦
                ap (λ w. bit_at w (n % 64) == 1) (get_or-set_other ws at (n / 64) word 0 apart) ∙ not_it
          ]
    ]

-- words of zeros, and of ones
pub none_set : (n : ℕ) → n < 8192 → has_bit (replicate 128 0) n ≡ false
none_set n lt =
    let place : n / 64 < 128 = omega arith in
    ap (λ w. bit_at w (n % 64) == 1) (get_or-replicate 128 (n / 64) 0 0 place) ∙ ap (λ b. b == 1) (bit_at-zero (n % 64))

pub all_set : (n : ℕ) → n < 8192 → has_bit (replicate 128 18446744073709551615) n ≡ true
all_set n lt =
    let place : n / 64 < 128 = omega arith in
    ap (λ w. bit_at w (n % 64) == 1) (get_or-replicate 128 (n / 64) 18446744073709551615 0 place) ∙ ap (λ b. b == 1) (bit_at_ones 64 (n % 64) (omega arith))

-- ---- the least number from a number on, as words have it

one_not_zero : (a : ℕ) → a ≡ 1 → a ≡ 0 → ⊥
one_not_zero a e f = omega arith

zero_bits : (word i : ℕ) → word ≡ 0 → (bit_at word i == 1) ≡ false
zero_bits word i e = ap (λ w. bit_at w i == 1) e ∙ ap (λ b. b == 1) (bit_at-zero i)

-- a word of zeros is passed over
pub word_passed : (ws : List ℕ) (low at : ℕ) → get_or ws at 0 ≡ 0 → ((n : ℕ) → low ≤ n → n < 64 * at → has_bit ws n ≡ false) → (n : ℕ) → low ≤ n
    → n < 64 * (at + 1) → has_bit ws n ≡ false
word_passed ws low at zeros clear n le lt =
    elim (cases_lt n (64 * at)) [
      | inl before ↦ clear n le before
      | inr from ↦
          let place : n / 64 ≡ at = omega arith in
          ap (λ j. bit_at (get_or ws j 0) (n % 64) == 1) place ∙ zero_bits (get_or ws at 0) (n % 64) zeros
    ]

-- the lowest bit of what is left of a word from its bit `skip` on
pub next_in_word : (ws : List ℕ) (low at skip word rest lowest : ℕ) → at < 128 → skip < 64 → low ≤ 64 * at + skip → get_or ws at 0 ≡ word → word < 2 ^ 64
    → rest ≡ word / 2 ^ skip → 0 < rest → lowest ≡ trailing_zeros w64 rest → ((n : ℕ) → low ≤ n → n < 64 * at + skip → has_bit ws n ≡ false)
    → IsNextFrom ws low (64 * at + skip + lowest)
next_in_word ws low at skip word rest lowest within skip_within le is_word fits is_rest some is_lowest clear =
    let rest_fits : rest < 2 ^ 64 = omega (arith, shr_le word skip, is_rest, fits) in
    let found = bit_at-trailing_zeros w64 rest some rest_fits in
    let bit_of : (i : ℕ) → bit_at rest i ≡ bit_at word (skip + i) = λ i. ap (λ x. bit_at x i) is_rest ∙ ap (λ x. x % 2) (shr-shr word skip i) in
    let one : bit_at word (skip + lowest) ≡ 1 = sym (bit_of lowest) ∙ ap (bit_at rest) is_lowest ∙ found.1 in
    let inside : skip + lowest < 64 =
    elim (cases_lt (skip + lowest) 64) [
      | inl lt ↦ lt
      | inr ge ↦ absurd (one_not_zero (bit_at word (skip + lowest)) one (bit_at_above word 64 (skip + lowest) fits ge))
    ] in
    let place : (64 * at + skip + lowest) / 64 ≡ at = omega arith in
    let bit : (64 * at + skip + lowest) % 64 ≡ skip + lowest = omega arith in
    let bits_at : (n : ℕ) → n / 64 ≡ at → has_bit ws n ≡ (bit_at word (n % 64) == 1) =
    λ n e. ap (λ j. bit_at (get_or ws j 0) (n % 64) == 1) e ∙ ap (λ w. bit_at w (n % 64) == 1) is_word in
    record {
      from = omega arith;
      below = omega arith;
      is_set = bits_at (64 * at + skip + lowest) place ∙ ap (λ i. bit_at word i == 1) bit ∙ ap (λ b. b == 1) one;
      clear = λ n from lt.
          elim (cases_lt n (64 * at + skip)) [
            | inl before ↦ clear n from before
            | inr behind ↦
                let here : n / 64 ≡ at = omega arith in
                let left : ℕ = n % 64 - skip in
                let split : n % 64 ≡ skip + left = omega arith in
                let zero_there : bit_at rest left ≡ 0 = found.2 left (omega arith) in
                bits_at n here ∙ ap (λ i. bit_at word i == 1) split ∙ ap (λ b. b == 1) (sym (bit_of left) ∙ zero_there)
          ];
    }

-- passing over more numbers finds what is found behind them
pub next_later : (ws : List ℕ) (low high : ℕ) (next : Option ℕ) → low ≤ high → ((n : ℕ) → low ≤ n → n < high → has_bit ws n ≡ false)
    → MatchOption next (HasNoneFrom ws high) (IsNextFrom ws high) → MatchOption next (HasNoneFrom ws low) (IsNextFrom ws low)
next_later ws low high None le clear none =
    record { clear = λ n from lt. elim (cases_lt n high) [ inl before ↦ clear n from before | inr behind ↦ none.clear n behind lt ] }
next_later ws low high (Some next) le clear is = record {
  from = omega (arith, is.from);
  below = is.below;
  is_set = is.is_set;
  clear = λ n from lt. elim (cases_lt n high) [ inl before ↦ clear n from before | inr behind ↦ is.clear n behind lt ];
}

-- what is left of a word is passed over where it is zeros
pub rest_passed : (ws : List ℕ) (low : ℕ) → get_or ws (low / 64) 0 / 2 ^ (low % 64) ≡ 0 → (n : ℕ) → low ≤ n → n < 64 * (low / 64 + 1) → has_bit ws n ≡ false
rest_passed ws low zeros n le lt =
    let word = get_or ws (low / 64) 0 in
    let here : n / 64 ≡ low / 64 = omega arith in
    let left : ℕ = n % 64 - low % 64 in
    let split : n % 64 ≡ low % 64 + left = omega arith in
    let same : bit_at word (low % 64 + left) ≡ bit_at (word / 2 ^ (low % 64)) left = sym (ap (λ x. x % 2) (shr-shr word (low % 64) left)) in
    ap (λ j. bit_at (get_or ws j 0) (n % 64) == 1) here ∙ ap (λ i. bit_at word i == 1) split ∙ ap (λ b. b == 1) same
    ∙ zero_bits (word / 2 ^ (low % 64)) left zeros

-- ---- how many there are

there_again : (pid n : ℕ) (ws : List ℕ) → has_bit ws pid ≡ true → has_bit ws n ≡ (pid == n || has_bit ws n)
there_again pid n ws has =
    elim (cases_eq pid n) [
      | inl e ↦ ap (has_bit ws) (sym e) ∙ has ∙ ap (λ t. t || has_bit ws n) (sym (eq-eqb pid n e))
      | inr differs ↦ ap (λ t. t || has_bit ws n) (sym (ne_eqb pid n differs))
    ]

pub members-put_there : (ws : List ℕ) (pid : ℕ) → pid < 8192 → has_bit ws pid ≡ true → members ws ≡ put pid (members ws)
members-put_there ws pid below has = members-put ws ws pid below (λ n. there_again pid n ws has)

absent_again : (pid n : ℕ) (ws : List ℕ) → has_bit ws pid ≡ false → has_bit ws n ≡ (has_bit ws n && not (pid == n))
absent_again pid n ws absent =
    elim (cases_eq pid n) [
      | inl e ↦ ap (has_bit ws) (sym e) ∙ absent ∙ sym (and_false (has_bit ws n)) ∙ ap (λ t. has_bit ws n && not t) (sym (eq-eqb pid n e))
      | inr differs ↦ sym (and_true (has_bit ws n)) ∙ ap (λ t. has_bit ws n && not t) (sym (ne_eqb pid n differs))
    ]

pub members-without_absent : (ws : List ℕ) (pid : ℕ) → has_bit ws pid ≡ false → members ws ≡ without (members ws) (pid ∷ [])
members-without_absent ws pid absent = members-without ws ws pid (λ n lt. absent_again pid n ws absent)

-- a number that wasn't there is counted
pub length_more : (ws : List ℕ) (count pid : ℕ) → IsListed ws count → pid < 8192 → has_bit ws pid ≡ false → length (put pid (members ws)) ≡ count + 1
length_more ws count pid listed below absent =
    length-put_absent pid (members ws) (has-members ws pid below ∙ absent) ∙ ap (λ n. n + 1) listed.counted

pub listed_more : (ws us : List ℕ) (count pid : ℕ) → IsListed ws count → pid < 8192 → has_bit ws pid ≡ false → (count ≡ 256 → ⊥)
    → members us ≡ put pid (members ws) → IsListed us (count + 1)
listed_more ws us count pid listed below absent free same = record {
  few = omega (arith, listed.few);
  counted = ap length same ∙ length_more ws count pid listed below absent;
}

-- and one that is taken out is not
pub length_less : (ws : List ℕ) (count pid : ℕ) → IsListed ws count → pid < 8192 → has_bit ws pid ≡ true → length (without (members ws) (pid ∷ [])) + 1 ≡ count
length_less ws count pid listed below has =
    length-without_there pid 0 (members ws) (rising-members ws) (has-members ws pid below ∙ has) ∙ listed.counted

pub listed_less : (ws us : List ℕ) (count pid : ℕ) → IsListed ws count → pid < 8192 → has_bit ws pid ≡ true → members us ≡ without (members ws) (pid ∷ [])
    → IsListed us (count - 1)
listed_less ws us count pid listed below has same = record {
  few = omega (arith, listed.few);
  counted = omega (arith, ap length same, length_less ws count pid listed below has);
}

-- ---- one number more of those that are taken out

has_number-push : (ns : List ℕ) (n m : ℕ) → has_number (ns ++ n ∷ []) m ≡ (has_number ns m || (n == m))
has_number-push [] n m = or_false (n == m)
has_number-push (k ∷ ns) n m = ap (λ t. k == m || t) (has_number-push ns n m) ∙ sym (or_groups (k == m) (has_number ns m) (n == m))

pub without_more : (ws ns : List ℕ) (i : ℕ) → i < length ns
    → without (without (members ws) (take i ns)) (get_or ns i 0 ∷ []) ≡ without (members ws) (take (i + 1) ns)
without_more ws ns i lt =
    let xs = members ws in
    let n = get_or ns i 0 in
    let first : ℕ → Bool = λ m. not (has_number (take i ns) m) in
    let last : ℕ → Bool = λ m. not (has_number (n ∷ []) m) in
    let both : ℕ → Bool = λ m. not (has_number (take (i + 1) ns) m) in
    let up : IsRising 0 xs = rising-members ws in
    let tests : (m : ℕ) → (first m && last m) ≡ both m = λ m.
    not_both (has_number (take i ns) m) (has_number (n ∷ []) m) ∙ ap (λ t. not (has_number (take i ns) m || t)) (or_false (n == m))
    ∙ ap not (sym (has_number-push (take i ns) n m)) ∙ ap (λ l. not (has_number l m)) (sym (take_more ns i 0 lt)) in
    same_numbers 0 (without (without xs (take i ns)) (n ∷ [])) (without xs (take (i + 1) ns))
    (rising-filter last 0 (without xs (take i ns)) (rising-filter first 0 xs up)) (rising-filter both 0 xs up) (λ m.
    has-filter last m (without xs (take i ns)) ∙ ap (λ t. t && last m) (has-filter first m xs) ∙ and_groups (has_number xs m) (first m) (last m)
    ∙ ap (λ t. has_number xs m && t) (tests m) ∙ sym (has-filter both m xs))

-- without no number a list is as it was
pub without_none : (xs : List ℕ) → xs ≡ without xs []
without_none [] = refl
without_none (x ∷ xs) = ap (λ rest. x ∷ rest) (without_none xs)

one_or_zero : (b : ℕ) → b < 2 → b ≡ (if b == 1 then 1 else 0)
one_or_zero b lt = grind (arith, nat_tests, lt)

-- a bit of a word tells whether it is set
pub bit_of_word : (ws : List ℕ) (at i : ℕ) → i < 64 → bit_at (get_or ws at 0) i ≡ (if has_bit ws (64 * at + i) then 1 else 0)
bit_of_word ws at i below =
    let place : at ≡ (64 * at + i) / 64 = omega arith in
    let bit : i ≡ (64 * at + i) % 64 = omega arith in
    let one : ℕ → ℕ → ℕ = λ j k. if bit_at (get_or ws j 0) k == 1 then 1 else 0 in
    one_or_zero (bit_at (get_or ws at 0) i) (bit_at-lt (get_or ws at 0) i) ∙ ap (λ j. one j i) place ∙ ap (λ k. one ((64 * at + i) / 64) k) bit
