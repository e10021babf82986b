-- Rows of PIDs stay rows.
use Rattle.std.proofs.Common.{ℕ, ◌<◌, ◌≤◌, Bool, List, [], ◌∷◌, length, All, true, false, not, cond, ◌≡◌, ◌&&◌, ◌||◌, ◌==◌, filter, nat_lt, if◌then◌else◌, refl, sym, ap, ◌∙◌, arith}
use Rattle.std.proofs.lemmas.List.Elements.{All-nil, All-cons, All-head, All-tail, All-filter}
use Rattle.std.proofs.lemmas.List.Filters.{length-filter_both}
use Rattle.std.proofs.lemmas.Bool.{eqb-true, false≢true}
use Rattle.satip_pids.specs.Rising.{has_number, put, put_all, without}
use Rattle.satip_pids.specs.Pids.{IsPidRow}
use Rattle.satip_pids.proofs.RisingLists.{rising-put_all, rising-filter}

all_put_cases : (P : ℕ → Type 0) (n x : ℕ) (xs : List ℕ) (a b : Bool) → P n → All P (x ∷ xs) → All P (put n xs)
    → All P (if a then n ∷ x ∷ xs else if b then x ∷ put n xs else x ∷ xs)
all_put_cases P n x xs true b p all later = All-cons P n (x ∷ xs) p all
all_put_cases P n x xs false true p all later = All-cons P x (put n xs) (All-head P x xs all) later
all_put_cases P n x xs false false p all later = all

-- what holds of each number and of the one that is put
pub All-put : (P : ℕ → Type 0) (n : ℕ) (xs : List ℕ) → P n → All P xs → All P (put n xs)
All-put P n [] p all = All-cons P n [] p all
All-put P n (x ∷ xs) p all = all_put_cases P n x xs (nat_lt n x) (nat_lt x n) p all (All-put P n xs p (All-tail P x xs all))

pub All-put_all : (P : ℕ → Type 0) (ns xs : List ℕ) → All P ns → All P xs → All P (put_all xs ns)
All-put_all P [] xs every all = all
All-put_all P (n ∷ ns) xs every all = All-put_all P ns (put n xs) (All-tail P n ns every) (All-put P n xs (All-head P n ns every) all)

pub IsPidRow-put_all : (xs ns : List ℕ) → IsPidRow xs → All (λ pid. pid < 8192) ns → length (put_all xs ns) ≤ 256 → IsPidRow (put_all xs ns)
IsPidRow-put_all xs ns row below few = record {
  rising = rising-put_all ns xs row.rising;
  few = few;
  below = All-put_all (λ pid. pid < 8192) ns xs below row.below;
}

pub IsPidRow-without : (xs ns : List ℕ) → IsPidRow xs → IsPidRow (without xs ns)
IsPidRow-without xs ns row = record {
  rising = rising-filter (λ x. not (has_number ns x)) 0 xs row.rising;
  few = omega (arith, row.few, length-filter_both (λ x. not (has_number ns x)) (λ x. not (not (has_number ns x))) (λ x. refl) xs);
  below = All-filter (λ x. not (has_number ns x)) (λ pid. pid < 8192) xs row.below;
}

pub IsPidRow-nil : IsPidRow []
IsPidRow-nil = record { rising = tt; few = omega arith; below = All-nil (λ pid. pid < 8192) }

kept_cases : (e t h r : Bool) → (e ≡ true → t ≡ true) → r ≡ (h && t) → (e || r) ≡ ((e || h) && t)
kept_cases true t h r same later = sym (same refl)
kept_cases false t h r same later = later

dropped_cases : (e t h r : Bool) → (e ≡ true → t ≡ false) → r ≡ (h && t) → r ≡ ((e || h) && t)
dropped_cases true true h r same later = absurd (false≢true (sym (same refl)))
dropped_cases true false true r same later = later
dropped_cases true false false r same later = later
dropped_cases false t h r same later = later

has_filter_cases : (test : ℕ → Bool) (m x : ℕ) (xs : List ℕ) (b : Bool) → test x ≡ b → has_number (filter test xs) m ≡ (has_number xs m && test m)
    → has_number (cond b (x ∷ filter test xs) (filter test xs)) m ≡ ((x == m || has_number xs m) && test m)
has_filter_cases test m x xs true passes later =
    kept_cases (x == m) (test m) (has_number xs m) (has_number (filter test xs) m) (λ same. ap test (sym (eqb-true x m same)) ∙ passes) later
has_filter_cases test m x xs false passes later =
    dropped_cases (x == m) (test m) (has_number xs m) (has_number (filter test xs) m) (λ same. ap test (sym (eqb-true x m same)) ∙ passes) later

-- a filtered list has the numbers that pass
pub has-filter : (test : ℕ → Bool) (m : ℕ) (xs : List ℕ) → has_number (filter test xs) m ≡ (has_number xs m && test m)
has-filter test m [] = refl
has-filter test m (x ∷ xs) = has_filter_cases test m x xs (test x) refl (has-filter test m xs)
