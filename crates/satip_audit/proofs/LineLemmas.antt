-- Words of a line: what is written is read again.
use Rattle.std.proofs.Common.{◌≡◌, ℕ, ◌<◌, ◌^◌, Bool, true, false, ◌||◌, List, [], ◌∷◌, decimal, None, Some, refl, sym, ap, ◌∙◌, arith}
use Rattle.std.specs.Char.{is_ascii_digit}
use Rattle.std.specs.List.{list_all, list_any}
use Rattle.std.proofs.lemmas.Bool.{eqb-true, and_parts}
use Rattle.std.proofs.lemmas.List.Sums.{list_all-from_AllPass}
use Rattle.std.specs.Prelude.{◌==◌}
use Rattle.hex.specs.Hex.{IsBytes, encode_lower, is_hex_digit}
use Rattle.hex.proofs.HexLemmas.{decode_of-encode_lower, decode_of-ok}
use Rattle.satip_base.specs.Numbers.{number_of}
use Rattle.satip_tune.proofs.Printed.{list_all-decimal, number_of-decimal}
use Rattle.satip_audit.specs.Cuts.{is_byte}

lacks_by : (at x : ℕ) (q : ℕ → Bool) → q at ≡ false → q x ≡ true → (b more : Bool) → (x == at) ≡ b → more ≡ false → (b || more) ≡ false
lacks_by at x q never here true more is none =
    let wrong : true ≡ false = sym here ∙ ap q (eqb-true x at is) ∙ never in
    cc wrong
lacks_by at x q never here false more is none = none

-- a byte that doesn't pass a test isn't among bytes that do
lacks : (at : ℕ) (q : ℕ → Bool) → q at ≡ false → (xs : List ℕ) → list_all q xs ≡ true → list_any (is_byte at) xs ≡ false
lacks at q never [] h = refl
lacks at q never (x ∷ xs) h =
    let both = and_parts (q x) (list_all q xs) h in
    lacks_by at x q never both.0 (x == at) (list_any (is_byte at) xs) refl (lacks at q never xs both.1)

pub no_space : (n : ℕ) → n < 2 ^ 64 → list_any (is_byte 32) (decimal n) ≡ false
no_space n h = lacks 32 is_ascii_digit refl (decimal n) (list_all-decimal n h)

pub no_end : (n : ℕ) → n < 2 ^ 64 → list_any (is_byte 10) (decimal n) ≡ false
no_end n h = lacks 10 is_ascii_digit refl (decimal n) (list_all-decimal n h)

pub digits_without_end : (bytes : List ℕ) → IsBytes bytes → list_any (is_byte 10) (encode_lower bytes) ≡ false
digits_without_end bytes are =
    lacks 10 is_hex_digit refl (encode_lower bytes)
    (list_all-from_AllPass is_hex_digit (encode_lower bytes) (decode_of-ok (encode_lower bytes) bytes (decode_of-encode_lower bytes are)).1)

abbrev pub most : ℕ
most = 18446744073709551615

-- the digits of a number are read as it
pub number_read : (digits : List ℕ) (n : ℕ) → n < 2 ^ 64 → digits ≡ decimal n → number_of most digits ≡ Some n
number_read digits n h e = ap (number_of most) e ∙ number_of-decimal most n h (omega (arith, h))

pub none_read : (digits : List ℕ) (n : ℕ) → n < 2 ^ 64 → digits ≡ decimal n → None ≡ number_of most digits → ⊥
none_read digits n h e none = let wrong : None ≡ Some n = none ∙ number_read digits n h e in cc wrong

pub same_number : (digits : List ℕ) (n m : ℕ) → n < 2 ^ 64 → digits ≡ decimal n → Some m ≡ number_of most digits → m ≡ n
same_number digits n m h e some = let same : Some m ≡ Some n = some ∙ number_read digits n h e in cc same
