-- Texts without CR and LF.
use Rattle.std.proofs.Common.{◌≡◌, ◌∙◌, ℕ, zero, suc, ◌+◌, ◌/◌, ◌%◌, ◌≤◌, ◌==◌, Bool, true, false, cond, List, [], ◌∷◌, ◌++◌, get_or, take, arith, refl}
use Rattle.std.specs.Prelude.{codes, decimal, nat_lt}
use Rattle.std.specs.Fmt.{digit_glyph, digits, digits_onto}
use Rattle.std.specs.Int.{to_be_bytes, w32}
use Rattle.std.specs.List.{list_all}
use Rattle.std.proofs.lemmas.Bool.{and_parts, and_from}
use Rattle.std.proofs.lemmas.Bool.Decides.{nat_tests}
use Rattle.std.proofs.lemmas.List.Folds.{list_all-append}
use Rattle.hex.specs.Hex.{encode_lower, encode_with, lower_digits}
use Rattle.satip_base.specs.Texts.{address_text, half_text, id_text}
use Rattle.satip_base.specs.declared.identity.SessionId.{SessionId}
use Rattle.satip_tunnel_laws.specs.Pieces.{is_plain}

abbrev pub IsPlain : List ℕ → Type 0
IsPlain bytes = list_all is_plain bytes ≡ true

pub plain-append : (a b : List ℕ) → IsPlain a → IsPlain b → IsPlain (a ++ b)
plain-append a b plain_a plain_b = list_all-append is_plain a b ∙ and_from (list_all is_plain a) (list_all is_plain b) plain_a plain_b

pub plain-cons : (b : ℕ) (bs : List ℕ) → is_plain b ≡ true → IsPlain bs → IsPlain (b ∷ bs)
plain-cons b bs one rest = and_from (is_plain b) (list_all is_plain bs) one rest

pub plain_take : (n : ℕ) (bytes : List ℕ) → IsPlain bytes → IsPlain (take n bytes)
plain_take zero bytes plain = refl
plain_take (suc n) [] plain = refl
plain_take (suc n) (b ∷ bs) plain =
    let both = and_parts (is_plain b) (list_all is_plain bs) plain in
    plain-cons b (take n bs) both.0 (plain_take n bs both.1)

-- numbers, however large

digit_plain : (c : ℕ) → 48 ≤ c → is_plain c ≡ true
digit_plain c high = grind (arith, nat_tests)

glyph_plain : (d : ℕ) → is_plain (digit_glyph false d) ≡ true
glyph_plain d = by (nat_lt d 10)
  where
    by : (b : Bool) → is_plain (cond b (48 + d) (87 + d)) ≡ true
    by true = digit_plain (48 + d) (omega arith)
    by false = digit_plain (87 + d) (omega arith)

either_plain : (b : Bool) (xs ys : List ℕ) → IsPlain xs → IsPlain ys → IsPlain (cond b xs ys)
either_plain true xs ys p q = p
either_plain false xs ys p q = q

digits_plain : (k n : ℕ) (more : List ℕ) → IsPlain more → IsPlain (digits_onto k 10 false n more)
digits_plain zero n more plain = plain
digits_plain (suc k) n more plain =
    let next : List ℕ = digit_glyph false (n % 10) ∷ more in
    let longer : IsPlain next = plain-cons (digit_glyph false (n % 10)) more (glyph_plain (n % 10)) plain in
    either_plain (n / 10 == 0) next (digits_onto k 10 false (n / 10) next) longer (digits_plain k (n / 10) next longer)

pub plain_decimal : (n : ℕ) → IsPlain (decimal n)
unfolding digits
plain_decimal n = digits_plain 64 n [] refl

-- addresses

pub plain_address : (ip : ℕ) → IsPlain (address_text ip)
unfolding address_text
plain_address ip =
    let dot : List ℕ = codes "." in
    let a : List ℕ = decimal (ip / 16777216) in
    let b : List ℕ = decimal (ip / 65536 % 256) in
    let c : List ℕ = decimal (ip / 256 % 256) in
    let d : List ℕ = decimal (ip % 256) in
    let first : IsPlain (a ++ dot) = plain-append a dot (plain_decimal (ip / 16777216)) refl in
    let second : IsPlain (((a ++ dot) ++ b) ++ dot) =
    plain-append ((a ++ dot) ++ b) dot (plain-append (a ++ dot) b first (plain_decimal (ip / 65536 % 256))) refl in
    let third : IsPlain (((((a ++ dot) ++ b) ++ dot) ++ c) ++ dot) =
    plain-append ((((a ++ dot) ++ b) ++ dot) ++ c) dot
    (plain-append (((a ++ dot) ++ b) ++ dot) c second (plain_decimal (ip / 256 % 256))) refl in
    plain-append (((((a ++ dot) ++ b) ++ dot) ++ c) ++ dot) d third (plain_decimal (ip % 256))

-- ids

element_plain : (xs : List ℕ) (i : ℕ) → IsPlain xs → is_plain (get_or xs i 0) ≡ true
element_plain [] i plain = refl
element_plain (x ∷ xs) zero plain = (and_parts (is_plain x) (list_all is_plain xs) plain).0
element_plain (x ∷ xs) (suc i) plain = element_plain xs i (and_parts (is_plain x) (list_all is_plain xs) plain).1

hex_plain : (bytes : List ℕ) → IsPlain (encode_lower bytes)
unfolding encode_with
hex_plain [] = refl
hex_plain (b ∷ bs) =
    let high : ℕ = get_or lower_digits (b / 16) 0 in
    let low : ℕ = get_or lower_digits (b % 16) 0 in
    plain-cons high (low ∷ encode_lower bs) (element_plain lower_digits (b / 16) refl)
    (plain-cons low (encode_lower bs) (element_plain lower_digits (b % 16) refl) (hex_plain bs))

pub plain_id : (id : SessionId) → IsPlain (id_text id)
unfolding id_text
plain_id id =
    plain-append (half_text id.count) (half_text id.word) (hex_plain (to_be_bytes w32 id.count)) (hex_plain (to_be_bytes w32 id.word))
