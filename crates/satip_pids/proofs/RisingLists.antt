-- What putting numbers into rising lists and taking them out leaves.
use Rattle.std.proofs.Common.{◌≡◌, ℕ, zero, suc, ◌+◌, ◌<◌, ◌≤◌, Bool, true, false, ◌||◌, ◌==◌, cond, nat_lt, if◌then◌else◌, List, [], ◌∷◌, ◌++◌, take, drop, length, get_or, Result, Ok, Err, IfOk, IfErr, filter, insert, nat_cmp, refl, sym, ap, ◌∙◌, arith}
use Rattle.std.specs.List.Sorted.{IsBinarySearchResult}
use Rattle.std.proofs.lemmas.Bool.{ltb-true, ltb-false}
use Rattle.std.proofs.lemmas.Bool.Decides.{nat_tests}
use Rattle.std.proofs.lemmas.List.{take-append-drop}
use Rattle.std.proofs.lemmas.List.Sorted.{searched}
use Rattle.std.proofs.lemmas.List.Sums.{fold_more, fold-append}
use Rattle.satip_pids.specs.Rising.{IsRising, has_number, put, put_all, IsThere, GoesAt}

or_swap : (a b c : Bool) → (a || (b || c)) ≡ (b || (a || c))
or_swap true true c = refl
or_swap true false c = refl
or_swap false b c = refl

or_again : (a b : Bool) → (a || b) ≡ (a || (a || b))
or_again true b = refl
or_again false b = refl

or_false : (a : Bool) → (a || false) ≡ a
or_false true = refl
or_false false = refl

or_move : (a b c : Bool) → ((a || b) || c) ≡ (b || (a || c))
or_move true true c = refl
or_move true false c = refl
or_move false b c = refl

-- every number of a rising list is at least its low end
pub rising_at : (low : ℕ) (xs : List ℕ) (i : ℕ) → IsRising low xs → i < length xs → low ≤ get_or xs i 0
rising_at low [] i up lt = absurd (omega (arith, lt))
rising_at low (x ∷ xs) zero up lt = up.0
rising_at low (x ∷ xs) (suc i) up lt = omega (arith, up.0, rising_at (suc x) xs i up.1 (omega (arith, lt)))

-- a rising list doesn't fall
pub rising_le : (low : ℕ) (xs : List ℕ) → IsRising low xs → (i j : ℕ) → i ≤ j → j < length xs → get_or xs i 0 ≤ get_or xs j 0
rising_le low [] up i j le lt = absurd (omega (arith, lt))
rising_le low (x ∷ xs) up zero zero le lt = omega arith
rising_le low (x ∷ xs) up zero (suc j) le lt = omega (arith, rising_at (suc x) xs j up.1 (omega (arith, lt)))
rising_le low (x ∷ xs) up (suc i) zero le lt = absurd (omega (arith, le))
rising_le low (x ∷ xs) up (suc i) (suc j) le lt = rising_le (suc x) xs up.1 i j (omega (arith, le)) (omega (arith, lt))

-- a list that has a number at a place has it
pub has_at : (xs : List ℕ) (n i : ℕ) → i < length xs → get_or xs i 0 ≡ n → has_number xs n ≡ true
has_at [] n i lt e = absurd (omega (arith, lt))
has_at (x ∷ xs) n zero lt e = grind (arith, nat_tests, e)
has_at (x ∷ xs) n (suc i) lt e = grind (arith, nat_tests, has_at xs n i (omega (arith, lt)) e)

-- putting it there again changes nothing
pub put_there : (low : ℕ) (xs : List ℕ) (n i : ℕ) → IsRising low xs → i < length xs → get_or xs i 0 ≡ n → put n xs ≡ xs
put_there low [] n i up lt e = absurd (omega (arith, lt))
put_there low (x ∷ xs) n zero up lt e = grind (arith, nat_tests, e)
put_there low (x ∷ xs) n (suc i) up lt e =
    let above : suc x ≤ get_or xs i 0 = rising_at (suc x) xs i up.1 (omega (arith, lt)) in
    grind (arith, nat_tests, e, above, put_there (suc x) xs n i up.1 (omega (arith, lt)) e)

-- the numbers before a place are lower and those from there on higher
pub record IsGap (xs : List ℕ) (n i : ℕ) : Type 0 where
  pub within : i ≤ length xs
  pub lower : (k : ℕ) → k < i → get_or xs k 0 < n
  pub higher : (k : ℕ) → i ≤ k → k < length xs → n < get_or xs k 0

gap_tail : (x : ℕ) (xs : List ℕ) (n i : ℕ) → IsGap (x ∷ xs) n (suc i) → IsGap xs n i
gap_tail x xs n i gap = record {
  within = omega (arith, gap.within);
  lower = λ k lt. gap.lower (suc k) (omega (arith, lt));
  higher = λ k le lt. gap.higher (suc k) (omega (arith, le)) (omega (arith, lt));
}

-- a number goes into its gap
pub put_gap : (xs : List ℕ) (n i : ℕ) → IsGap xs n i → put n xs ≡ insert xs i n
put_gap [] n zero gap = refl
put_gap [] n (suc i) gap = absurd (omega (arith, gap.within))
put_gap (x ∷ xs) n zero gap = grind (arith, nat_tests, gap.higher 0)
put_gap (x ∷ xs) n (suc i) gap = grind (arith, nat_tests, gap.lower 0, put_gap xs n i (gap_tail x xs n i gap))

-- and isn't in the list
pub absent_gap : (xs : List ℕ) (n i : ℕ) → IsGap xs n i → has_number xs n ≡ false
absent_gap [] n i gap = refl
absent_gap (x ∷ xs) n zero gap =
    let tail : IsGap xs n zero = record {
      within = omega arith;
      lower = λ k lt. absurd (omega (arith, lt));
      higher = λ k le lt. gap.higher (suc k) (omega arith) (omega (arith, lt));
    } in
    grind (arith, nat_tests, gap.higher 0, absent_gap xs n zero tail)
absent_gap (x ∷ xs) n (suc i) gap = grind (arith, nat_tests, gap.lower 0, absent_gap xs n i (gap_tail x xs n i gap))

-- what a binary search finds in a rising list
pub placed : (low : ℕ) (xs : List ℕ) (n : ℕ) (r : Result ℕ ℕ) → IsRising low xs → IsBinarySearchResult (λ y. nat_cmp y n) xs r
    → IfOk r (λ place. IsThere xs n) × IfErr r (GoesAt xs n)
placed low xs n (Ok i) up found =
    let at = searched xs n (Ok i) found (rising_le low xs up) in
    (record { had = has_at xs n i at.0 at.1; same = put_there low xs n i up at.0 at.1 }, tt)
placed low xs n (Err i) up missed =
    let at = searched xs n (Err i) missed (rising_le low xs up) in
    let gap : IsGap xs n i = record { within = at.0; lower = at.1; higher = at.2 } in
    (tt, record { absent = absent_gap xs n i gap; within = at.0; inserted = put_gap xs n i gap })

-- putting a number never makes a list shorter, and adds at most one
pub length-put : (n : ℕ) (xs : List ℕ) → length xs ≤ length (put n xs)
length-put n [] = omega arith
length-put n (x ∷ xs) = grind (arith, nat_tests, length-put n xs)

pub length-put_all : (ns xs : List ℕ) → length xs ≤ length (put_all xs ns)
length-put_all [] xs = omega arith
length-put_all (n ∷ ns) xs = omega (arith, length-put n xs, length-put_all ns (put n xs))

-- one more number is put
pub put_all_more : (xs ns : List ℕ) (i : ℕ) → i < length ns → put_all xs (take (i + 1) ns) ≡ put (get_or ns i 0) (put_all xs (take i ns))
put_all_more xs ns i lt = fold_more (λ ys n. put n ys) xs ns i 0 lt

-- what the first numbers of a list leave is no longer than what all of them do
pub length-put_all-take : (xs ns : List ℕ) (i : ℕ) → length (put_all xs (take i ns)) ≤ length (put_all xs ns)
length-put_all-take xs ns i =
    let apart : put_all xs (take i ns ++ drop i ns) ≡ put_all (put_all xs (take i ns)) (drop i ns) =
    fold-append (λ ys n. put n ys) xs (take i ns) (drop i ns) in
    let whole : length (put_all xs (take i ns ++ drop i ns)) ≡ length (put_all xs ns) = ap (λ l. length (put_all xs l)) (take-append-drop i ns) in
    omega (arith, ap length apart, whole, length-put_all (drop i ns) (put_all xs (take i ns)))

-- the three cases of putting a number before, behind or onto the first
rising_cases : (low n x : ℕ) (xs : List ℕ) (a b : Bool) → nat_lt n x ≡ a → nat_lt x n ≡ b → low ≤ n → IsRising low (x ∷ xs)
    → (x < n → IsRising (suc x) (put n xs)) → IsRising low (if a then n ∷ x ∷ xs else if b then x ∷ put n xs else x ∷ xs)
rising_cases low n x xs true b p q le up later =
    let before : n < x = ltb-true n x p in
    (le, (omega arith, up.1))
rising_cases low n x xs false true p q le up later = (up.0, later (ltb-true x n q))
rising_cases low n x xs false false p q le up later = up

-- a rising list stays one
pub rising-put : (low n : ℕ) (xs : List ℕ) → low ≤ n → IsRising low xs → IsRising low (put n xs)
rising-put low n [] le up = (le, tt)
rising-put low n (x ∷ xs) le up =
    rising_cases low n x xs (nat_lt n x) (nat_lt x n) refl refl le up (λ behind. rising-put (suc x) n xs (omega arith) up.1)

has_cases : (n m x : ℕ) (xs : List ℕ) (a b : Bool) → nat_lt n x ≡ a → nat_lt x n ≡ b → has_number (put n xs) m ≡ (n == m || has_number xs m)
    → has_number (if a then n ∷ x ∷ xs else if b then x ∷ put n xs else x ∷ xs) m ≡ (n == m || (x == m || has_number xs m))
has_cases n m x xs true b p q later = refl
has_cases n m x xs false true p q later = ap (λ r. x == m || r) later ∙ or_swap (x == m) (n == m) (has_number xs m)
has_cases n m x xs false false p q later =
    let same : x ≡ n = omega (arith, ltb-false n x p, ltb-false x n q) in
    rw same (or_again (n == m) (has_number xs m))

-- what is put is there, beside what was
pub has-put : (n m : ℕ) (xs : List ℕ) → has_number (put n xs) m ≡ (n == m || has_number xs m)
has-put n m [] = refl
has-put n m (x ∷ xs) = has_cases n m x xs (nat_lt n x) (nat_lt x n) refl refl (has-put n m xs)

-- a list with another's numbers put into it has the numbers of both
pub has-put_all : (m : ℕ) (ns xs : List ℕ) → has_number (put_all xs ns) m ≡ (has_number xs m || has_number ns m)
has-put_all m [] xs = sym (or_false (has_number xs m))
has-put_all m (n ∷ ns) xs =
    has-put_all m ns (put n xs) ∙ ap (λ r. r || has_number ns m) (has-put n m xs) ∙ or_move (n == m) (has_number xs m) (has_number ns m)

pub rising-put_all : (ns xs : List ℕ) → IsRising 0 xs → IsRising 0 (put_all xs ns)
rising-put_all [] xs up = up
rising-put_all (n ∷ ns) xs up = rising-put_all ns (put n xs) (rising-put 0 n xs (omega arith) up)

-- a filter keeps a rising list one
pub rising_weaker : (low high : ℕ) (xs : List ℕ) → low ≤ high → IsRising high xs → IsRising low xs
rising_weaker low high [] le up = tt
rising_weaker low high (x ∷ xs) le up = (omega (arith, up.0), up.1)

filter_cases : (test : ℕ → Bool) (low x : ℕ) (xs : List ℕ) (b : Bool) → low ≤ x → IsRising (suc x) (filter test xs)
    → IsRising low (cond b (x ∷ filter test xs) (filter test xs))
filter_cases test low x xs true le up = (le, up)
filter_cases test low x xs false le up = rising_weaker low (suc x) (filter test xs) (omega arith) up

pub rising-filter : (test : ℕ → Bool) (low : ℕ) (xs : List ℕ) → IsRising low xs → IsRising low (filter test xs)
rising-filter test low [] up = tt
rising-filter test low (x ∷ xs) up = filter_cases test low x xs (test x) up.0 (rising-filter test (suc x) xs up.1)
