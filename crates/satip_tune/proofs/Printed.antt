-- What is printed is read again.
use Rattle.std.proofs.Common.{◌≡◌, ℕ, zero, suc, ◌+◌, ◌-◌, ◌*◌, ◌/◌, ◌%◌, ◌^◌, ◌<◌, ◌≤◌, Bool, true, false, ◌&&◌, List, [], ◌∷◌, ◌++◌, length, decimal, None, Some, Ok, if◌then◌else◌, nat_le, refl, ap, subst, nat_eq, append-nil, ◌∙◌, arith, rules}
use Rattle.std.specs.Char.{is_ascii_digit, digit_value}
use Rattle.std.specs.List.{list_all, list_any, slice_split}
use Rattle.std.specs.Str.Parse.{digits_value}
use Rattle.std.proofs.lemmas.Bool.{le-leb}
use Rattle.std.proofs.lemmas.Bool.Decides.{nat_tests}
use Rattle.std.proofs.lemmas.Str.Parse.{IsNumeralModel, numerals_by_value}
use Rattle.std.proofs.lemmas.Fmt.{digits_decimal, digits_value-decimal, decimal_nonempty, length-decimal-le}
use Rattle.satip_base.specs.Numbers.{number_of}
use Rattle.satip_tune.specs.Pieces.{is_byte}
use Rattle.satip_tune.specs.Frequency.{thousandths_of, allowed_frequency, frequency_from, frequency_of_parts, frequency_of, three_digits, without_end_zeros, fraction_text, frequency_text}
use Rattle.satip_tune.proofs.Places.{slice_split-no, slice_split-join}

own : IsNumeralModel (λ ds. list_all is_ascii_digit ds ≡ true) (digits_value 10)
own = numerals_by_value _ (search rules)

-- a printed number is one of digits
pub list_all-decimal : (n : ℕ) → n < 2 ^ 64 → list_all is_ascii_digit (decimal n) ≡ true
list_all-decimal n h = digits_decimal own n h

all-true : (a b c d : Bool) (v : ℕ) → a ≡ true → b ≡ true → c ≡ true → d ≡ true → (if a && b && c && d then Some v else None) ≡ Some v
all-true true true true true v ha hb hc hd = refl
all-true false b c d v ha hb hc hd = absurd (cc)
all-true true false c d v ha hb hc hd = absurd (cc)
all-true true true false d v ha hb hc hd = absurd (cc)
all-true true true true false v ha hb hc hd = absurd (cc)

-- a printed number is read again
pub number_of-decimal : (max n : ℕ) → n < 2 ^ 64 → n ≤ max → number_of max (decimal n) ≡ Some n
unfolding number_of
number_of-decimal max n h within =
    let value : digits_value 10 (decimal n) ≡ n = digits_value-decimal own n h in
    let some : 0 < length (decimal n) = decimal_nonempty n h in
    let short : length (decimal n) ≤ 20 = length-decimal-le 20 n (omega arith) (omega arith) h in
    all-true (nat_le 1 (length (decimal n))) (nat_le (length (decimal n)) 20) (list_all is_ascii_digit (decimal n))
    (nat_le (digits_value 10 (decimal n)) max) (digits_value 10 (decimal n))
    (le-leb _ _ (omega arith)) (le-leb _ _ short) (list_all-decimal n h) (le-leb _ _ (omega arith)) ∙ ap Some value

-- digits have no dot
pub no-dot : (ds : List ℕ) → list_all is_ascii_digit ds ≡ true → list_any (is_byte 46) ds ≡ false
no-dot [] h = refl
no-dot (d ∷ ds) h = grind (arith, nat_tests, no-dot ds)

digit_value-digit : (d : ℕ) → is_ascii_digit d ≡ true → digit_value d ≡ d - 48
digit_value-digit d h = grind (arith, nat_tests)

glyph : (d : ℕ) → d < 10 → is_ascii_digit (48 + d) ≡ true
glyph d h = grind (arith, nat_tests)

glyph_value : (d : ℕ) → d < 10 → digit_value (48 + d) ≡ d
glyph_value d h = let v : digit_value (48 + d) ≡ 48 + d - 48 = digit_value-digit (48 + d) (glyph d h) in omega (arith, v)

-- one, two or three digits after the dot
one-digit : (a : ℕ) → a < 10 → thousandths_of ((48 + a) ∷ []) ≡ Some (a * 100)
one-digit a ha = rw (glyph a ha, glyph_value a ha) (ap Some (omega arith))

two-digits : (a b : ℕ) → a < 10 → b < 10 → thousandths_of ((48 + a) ∷ (48 + b) ∷ []) ≡ Some (a * 100 + b * 10)
two-digits a b ha hb = rw (glyph a ha, glyph b hb, glyph_value a ha, glyph_value b hb) (ap Some (omega arith))

three-digits : (a b c : ℕ) → a < 10 → b < 10 → c < 10
    → thousandths_of ((48 + a) ∷ (48 + b) ∷ (48 + c) ∷ []) ≡ Some (a * 100 + b * 10 + c)
three-digits a b c ha hb hc =
    rw (glyph a ha, glyph b hb, glyph c hc, glyph_value a ha, glyph_value b hb, glyph_value c hc) (ap Some (omega arith))

trim-none : (x y z : ℕ) → is_byte 48 z ≡ false → without_end_zeros (x ∷ y ∷ z ∷ []) ≡ x ∷ y ∷ z ∷ []
trim-none x y z h = rw h refl

trim-one : (x y z : ℕ) → is_byte 48 z ≡ true → is_byte 48 y ≡ false → without_end_zeros (x ∷ y ∷ z ∷ []) ≡ x ∷ y ∷ []
trim-one x y z h i = rw (h, i) refl

trim-two : (x y z : ℕ) → is_byte 48 z ≡ true → is_byte 48 y ≡ true → is_byte 48 x ≡ false
    → without_end_zeros (x ∷ y ∷ z ∷ []) ≡ x ∷ []
trim-two x y z h i j = rw (h, i, j) refl

not-zero : (d : ℕ) → is_byte 48 (48 + suc d) ≡ false
not-zero d = grind (arith, nat_tests)

-- the digits of a rest, without the zeros at their end, have its value, and are digits
pub record HasValue (ds : List ℕ) (k : ℕ) : Type 0 where
  pub value : thousandths_of ds ≡ Some k
  pub digits : list_all is_ascii_digit ds ≡ true

trimmed : (a b c : ℕ) → a < 10 → b < 10 → c < 10 → 0 < a * 100 + b * 10 + c
    → HasValue (without_end_zeros ((48 + a) ∷ (48 + b) ∷ (48 + c) ∷ [])) (a * 100 + b * 10 + c)
trimmed a b (suc c) ha hb hc some = rw (trim-none (48 + a) (48 + b) (48 + suc c) (not-zero c)) (record {
  value = three-digits a b (suc c) ha hb hc;
  digits = rw (glyph a ha, glyph b hb, glyph (suc c) hc) refl;
})
trimmed a (suc b) zero ha hb hc some = rw (trim-one (48 + a) (48 + suc b) 48 refl (not-zero b)) (record {
  value = two-digits a (suc b) ha hb ∙ ap Some (omega arith);
  digits = rw (glyph a ha, glyph (suc b) hb) refl;
})
trimmed (suc a) zero zero ha hb hc some = rw (trim-two (48 + suc a) 48 48 refl refl (not-zero a)) (record {
  value = one-digit (suc a) ha ∙ ap Some (omega arith);
  digits = rw (glyph (suc a) ha) refl;
})
trimmed zero zero zero ha hb hc some = absurd (omega arith)

trimmed_rest : (k : ℕ) → 0 < k → k < 1000 → HasValue (without_end_zeros (three_digits k)) k
trimmed_rest k some few =
    let P : ℕ → Type 0 = λ n. HasValue (without_end_zeros (three_digits k)) n in
    let whole : k / 100 * 100 + k / 10 % 10 * 10 + k % 10 ≡ k = omega arith in
    subst P whole (trimmed (k / 100) (k / 10 % 10) (k % 10) (omega arith) (omega arith) (omega arith) (omega arith))

allowed : (k : ℕ) → 1000 ≤ k → k ≤ 99999999 → allowed_frequency k ≡ Ok k
allowed k low high = rw (le-leb 1000 k low, le-leb k 99999999 high) refl

frequency_of-whole : (m : ℕ) → 1000 ≤ m * 1000 → m * 1000 ≤ 99999999 → frequency_of (decimal m ++ []) ≡ Ok (m * 1000)
unfolding frequency_of
frequency_of-whole m low high =
    let digits : list_all is_ascii_digit (decimal m) ≡ true = list_all-decimal m (omega arith) in
    let pieces : slice_split (is_byte 46) (decimal m ++ []) ≡ decimal m ∷ [] =
    ap (slice_split (is_byte 46)) (append-nil (decimal m)) ∙ slice_split-no (is_byte 46) (decimal m) (no-dot (decimal m) digits) in
    let none : m * 1000 + 0 ≡ m * 1000 = omega arith in
    ap frequency_of_parts pieces
    ∙ ap (λ mhz. frequency_from mhz (Some 0)) (number_of-decimal 18446744073709551615 m (omega arith) (omega arith))
    ∙ ap allowed_frequency none ∙ allowed (m * 1000) low high

frequency_of-rest : (m k : ℕ) (ds : List ℕ) → HasValue ds k → 1000 ≤ m * 1000 + k → m * 1000 + k ≤ 99999999
    → frequency_of (decimal m ++ (46 ∷ ds)) ≡ Ok (m * 1000 + k)
unfolding frequency_of
frequency_of-rest m k ds has low high =
    let digits : list_all is_ascii_digit (decimal m) ≡ true = list_all-decimal m (omega arith) in
    let pieces : slice_split (is_byte 46) (decimal m ++ (46 ∷ ds)) ≡ decimal m ∷ ds ∷ [] =
    slice_split-join (is_byte 46) (decimal m) 46 ds (no-dot (decimal m) digits) refl
    ∙ ap (λ (parts : List (List ℕ)). decimal m ∷ parts) (slice_split-no (is_byte 46) ds (no-dot ds has.digits)) in
    ap frequency_of_parts pieces
    ∙ ap (λ mhz. frequency_from mhz (thousandths_of ds)) (number_of-decimal 18446744073709551615 m (omega arith) (omega arith))
    ∙ ap (λ khz. frequency_from (Some m) khz) has.value ∙ allowed (m * 1000 + k) low high

read-fraction : (m k : ℕ) → k < 1000 → 1000 ≤ m * 1000 + k → m * 1000 + k ≤ 99999999
    → frequency_of (decimal m ++ fraction_text k) ≡ Ok (m * 1000 + k)
read-fraction m zero few low high =
    let none : m * 1000 ≡ m * 1000 + 0 = omega arith in
    frequency_of-whole m (omega arith) (omega arith) ∙ ap Ok none
read-fraction m (suc k) few low high =
    let some : nat_eq (suc k) 0 ≡ false = grind (arith, nat_tests) in
    rw some (frequency_of-rest m (suc k) _ (trimmed_rest (suc k) (omega arith) few) low high)

-- a printed frequency is read again
pub frequency_printed : (khz : ℕ) → 1000 ≤ khz → khz ≤ 99999999 → frequency_of (frequency_text khz) ≡ Ok khz
unfolding frequency_text
frequency_printed khz low high =
    let whole : khz / 1000 * 1000 + khz % 1000 ≡ khz = omega arith in
    read-fraction (khz / 1000) (khz % 1000) (omega arith) (omega arith) (omega arith) ∙ ap Ok whole
