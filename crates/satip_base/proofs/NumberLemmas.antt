-- How large a read number is, and how long a printed one.
use Rattle.std.proofs.Common.{◌≡◌, ◌≢◌, ◌-◌, ℕ, ◌+◌, ◌*◌, ◌^◌, ◌<◌, ◌≤◌, true, false, List, [], ◌∷◌, length, take, drop, get_or, None, arith, decimal, refl, suc, zero, lit<}
use Rattle.std.specs.List.{list_all, slice_split}
use Rattle.std.specs.Char.{is_ascii_digit, digit_value}
use Rattle.std.specs.Str.Parse.{digits_value, AllDigits}
use Rattle.std.proofs.lemmas.Bool.Decides.{nat_tests}
use Rattle.std.proofs.lemmas.Grind.{common_steps}
use Rattle.std.proofs.lemmas.List.Splits.{length-slice_split}
use Rattle.std.proofs.lemmas.Str.Parse.{numerals_by_value, digits_value_short, tells_digits}
use Rattle.std.proofs.Math.Nat.{pow-le-pow_right}
use Rattle.std.proofs.lemmas.Int.Digits.{digits_value-lt, digits_value_more}
use Rattle.std.proofs.lemmas.List.Folds.{list_all_more}
use Rattle.std.proofs.lemmas.Fmt.{length-decimal-le, decimal_nonempty}
use Rattle.satip_base.specs.Numbers.{is_dot, ip_of_parts}
use Rattle.satip_base.specs.Texts.{is_id_digit}

-- a text that passes the test of its bytes is one of digits
AllDigits-from_decimal : (ds : List ℕ) → list_all is_ascii_digit ds ≡ true → AllDigits 10 ds
AllDigits-from_decimal [] h = tt
AllDigits-from_decimal (d ∷ ds) h = grind (arith, nat_tests, AllDigits-from_decimal ds)

AllDigits-from_id : (ds : List ℕ) → list_all is_id_digit ds ≡ true → AllDigits 16 ds
AllDigits-from_id [] h = tt
AllDigits-from_id (d ∷ ds) h = grind (arith, nat_tests, AllDigits-from_id ds)

-- twenty digits write a number below 10 ^ 20
pub digits_value-below : (ds : List ℕ) → list_all is_ascii_digit ds ≡ true → length ds ≤ 20 → digits_value 10 ds < 10 ^ 20
digits_value-below ds h short =
    digits_value_short (numerals_by_value _ tells_digits) ds 20 (AllDigits-from_decimal ds h) short

-- eight digits of an id write a number of 32 bits
pub half-below : (ds : List ℕ) → list_all is_id_digit ds ≡ true → length ds ≤ 8 → digits_value 16 ds < 16 ^ 8
half-below ds h short =
    let below : digits_value 16 ds < 16 ^ length ds = digits_value-lt 16 ds (AllDigits-from_id ds h) in
    let room : 16 ^ length ds ≤ 16 ^ 8 = pow-le-pow_right (lit< tt) short in
    omega arith

-- the digits read so far write a number below 10 ^ 20
pub digits_value-room : (bs : List ℕ) (i : ℕ) → list_all is_ascii_digit (take i bs) ≡ true → length bs ≤ 20
    → digits_value 10 (take i bs) < 10 ^ 20
digits_value-room bs i h short =
    digits_value-below (take i bs) h (grind (arith, common_steps))

pub half-room : (bs : List ℕ) (i : ℕ) → list_all is_id_digit (take i bs) ≡ true → length bs ≤ 8
    → digits_value 16 (take i bs) < 16 ^ 8
half-room bs i h short = half-below (take i bs) h (grind (arith, common_steps))

-- one more digit
pub list_all-digit_more : (bs : List ℕ) (i : ℕ) → i < length bs → list_all is_ascii_digit (take i bs) ≡ true
    → is_ascii_digit (get_or bs i 0) ≡ true → list_all is_ascii_digit (take (i + 1) bs) ≡ true
list_all-digit_more bs i inside h here = let e = list_all_more is_ascii_digit bs i 0 inside in grind (arith, nat_tests, e)

pub digits_value-digit_more : (bs : List ℕ) (i : ℕ) → i < length bs → is_ascii_digit (get_or bs i 0) ≡ true
    → digits_value 10 (take (i + 1) bs) ≡ digits_value 10 (take i bs) * 10 + (get_or bs i 0 - 48)
digits_value-digit_more bs i inside here =
    let e = digits_value_more 10 bs i inside in
    let v : digit_value (get_or bs i 0) ≡ get_or bs i 0 - 48 = grind (arith, nat_tests) in
    rw e (rw v refl)

pub list_all-id_more : (bs : List ℕ) (i : ℕ) → i < length bs → list_all is_id_digit (take i bs) ≡ true
    → is_id_digit (get_or bs i 0) ≡ true → list_all is_id_digit (take (i + 1) bs) ≡ true
list_all-id_more bs i inside h here = let e = list_all_more is_id_digit bs i 0 inside in grind (arith, nat_tests, e)

-- what reading one more decimal digit needs
pub ruleset decimal_steps = (digits_value-room, list_all-digit_more, digits_value-digit_more)

-- what reading one more digit of an id needs
pub ruleset id_steps = (half-below, half-room, list_all-id_more, digits_value_more)

-- how long the text of a number is
pub length-decimal_u8 : (n : ℕ) → n < 256 → length (decimal n) ≤ 3
length-decimal_u8 n h = length-decimal-le 3 n (omega arith) (omega arith) (omega arith)

pub length-decimal_u16 : (n : ℕ) → n < 2 ^ 16 → length (decimal n) ≤ 5
length-decimal_u16 n h = length-decimal-le 5 n (omega arith) (omega arith) (omega arith)

pub length-decimal_u32 : (n : ℕ) → n < 2 ^ 32 → length (decimal n) ≤ 10
length-decimal_u32 n h = length-decimal-le 10 n (omega arith) (omega arith) (omega arith)

pub length-decimal_u64 : (n : ℕ) → n < 2 ^ 64 → length (decimal n) ≤ 20
length-decimal_u64 n h = length-decimal-le 20 n (omega arith) (omega arith) h

pub length-decimal_positive : (n : ℕ) → n < 2 ^ 64 → 1 ≤ length (decimal n)
length-decimal_positive n h = let p : 0 < length (decimal n) = decimal_nonempty n h in omega arith

-- a text is cut at its first dot
pub slice_split_at_dot : (bs : List ℕ) (i : ℕ) → i < length bs → ((k : ℕ) → k < i → get_or bs k 0 ≡ 46 → ⊥)
    → get_or bs i 0 ≡ 46 → slice_split is_dot bs ≡ take i bs ∷ slice_split is_dot (drop 1 (drop i bs))
slice_split_at_dot [] i inside before here = absurd (omega arith)
slice_split_at_dot (b ∷ bs) zero inside before here = rw here refl
slice_split_at_dot (b ∷ bs) (suc i) inside before here =
    let rest = slice_split_at_dot bs i (omega arith) (λ k h. before (suc k) (omega arith)) here in
    let other : is_dot b ≡ false = grind (arith, nat_tests, before 0 (omega arith)) in
    rw (other, rest) refl

-- a text without a dot is one part
pub slice_split_no_dot : (bs : List ℕ) → ((k : ℕ) → k < length bs → get_or bs k 0 ≡ 46 → ⊥)
    → slice_split is_dot bs ≡ bs ∷ []
slice_split_no_dot [] none = refl
slice_split_no_dot (b ∷ bs) none =
    let rest = slice_split_no_dot bs (λ k h. none (suc k) (omega arith)) in
    let other : is_dot b ≡ false = grind (arith, nat_tests, none 0 (omega arith)) in
    rw (other, rest) refl

past_four : (a b c d : List ℕ) (parts : List (List ℕ)) → length parts ≢ 0 → ip_of_parts (a ∷ b ∷ c ∷ d ∷ parts) ≡ None
past_four a b c d [] some = absurd (some refl)
past_four a b c d (e ∷ parts) some = refl

-- five parts or more are no address
pub ip_of_five_parts : (a b c d bs : List ℕ) → ip_of_parts (a ∷ b ∷ c ∷ d ∷ slice_split is_dot bs) ≡ None
ip_of_five_parts a b c d bs =
    let some : length (slice_split is_dot bs) ≢ 0 = omega (arith, length-slice_split is_dot bs) in
    past_four a b c d (slice_split is_dot bs) some

-- the bounds of the texts of numbers, for a writer that needs room
pub ruleset digit_bounds = (length-decimal_u8, length-decimal_u16, length-decimal_u32, length-decimal_u64, length-decimal_positive)
