-- The first place of a byte, as a search tells it.
use Rattle.std.proofs.Common.{◌≡◌, ℕ, ◌≤◌, ◌<◌, Bool, true, false, List, Option, Some, None, length, position, nat_lt, refl, arith}
use Rattle.std.specs.List.{position_or_len}
use Rattle.std.proofs.lemmas.Bool.Decides.{nat_tests}
use Rattle.std.proofs.lemmas.List.Sums.{position_or_len_is}
use Rattle.std.proofs.lemmas.Bool.{false_from_ne_true}
use Rattle.memchr.specs.Find.{IsFirstByte}

is_within : (m n : ℕ) → m < n → nat_lt m n ≡ true
is_within m n h = grind (arith, nat_tests)

is_behind : (m n : ℕ) → n ≤ m → nat_lt m n ≡ false
is_behind m n h = grind (arith, nat_tests)

pub first_place : (p : ℕ → Bool) (text : List ℕ) (r : Option ℕ) → IsFirstByte p text r → r ≡ position p text
first_place p text None h =
    let e : position_or_len p text ≡ length text =
    position_or_len_is p text (length text) 0 (omega arith) (λ k l. false_from_ne_true _ (h k (omega arith) l)) (λ l. absurd (omega (arith, l))) in
    rw (is_behind (position_or_len p text) (length text) (omega (arith, e))) refl
first_place p text (Some k) h =
    let high : k < length text = h.0.high in
    let e : position_or_len p text ≡ k =
    position_or_len_is p text k 0 (omega (arith, high)) (λ j l. false_from_ne_true _ (h.0.before j (omega arith) l)) (λ l. h.1) in
    rw (is_within (position_or_len p text) (length text) (omega (arith, e, high)), e) refl
