-- How long the text of an address and of a session's id are.
use Rattle.std.proofs.Common.{◌≡◌, ℕ, ◌+◌, ◌*◌, ◌^◌, ◌<◌, ◌≤◌, ◌/◌, ◌%◌, [], ◌∷◌, length, length-append, arith, decimal, refl, true, Some, suc, zero, slice_index, ap, ◌∙◌}
use Rattle.satip_base.specs.declared.identity.SessionId.{SessionId}
use Rattle.satip_base.specs.Texts.{address_text, id_text, half_text, half_of, id_of, is_id_digit}
use Rattle.satip_base.proofs.NumberLemmas.{length-decimal_u8, length-decimal_positive}
use Rattle.hex.specs.Hex.{encode_with, lower_digits}
use Rattle.std.specs.Char.{digit_value}

-- an address takes 7 to 15 bytes
pub length-address_text-le : (ip : ℕ) → ip < 2 ^ 32 → length (address_text ip) ≤ 15
unfolding address_text
length-address_text-le ip h =
    let a : length (decimal (ip / 16777216)) ≤ 3 = length-decimal_u8 _ (omega arith) in
    let b : length (decimal (ip / 65536 % 256)) ≤ 3 = length-decimal_u8 _ (omega arith) in
    let c : length (decimal (ip / 256 % 256)) ≤ 3 = length-decimal_u8 _ (omega arith) in
    let d : length (decimal (ip % 256)) ≤ 3 = length-decimal_u8 _ (omega arith) in
    omega (arith, length-append {A = ℕ})

pub length-address_text-ge : (ip : ℕ) → ip < 2 ^ 32 → 7 ≤ length (address_text ip)
unfolding address_text
length-address_text-ge ip h =
    let a : 1 ≤ length (decimal (ip / 16777216)) = length-decimal_positive _ (omega arith) in
    let b : 1 ≤ length (decimal (ip / 65536 % 256)) = length-decimal_positive _ (omega arith) in
    let c : 1 ≤ length (decimal (ip / 256 % 256)) = length-decimal_positive _ (omega arith) in
    let d : 1 ≤ length (decimal (ip % 256)) = length-decimal_positive _ (omega arith) in
    omega (arith, length-append {A = ℕ})

-- a session's id takes 16 bytes
pub length-id_text : (id : SessionId) → length (id_text id) ≡ 16
unfolding id_text encode_with
length-id_text id = refl

-- a printed digit is a digit, and reads as its value
record IsReadBack (v : ℕ) : Type 0 where
  is_digit : is_id_digit (slice_index lower_digits v) ≡ true
  value : digit_value (slice_index lower_digits v) ≡ v

digit_read : (v : ℕ) → v < 16 → IsReadBack v
digit_read zero h = record { is_digit = refl; value = refl }
digit_read (suc zero) h = record { is_digit = refl; value = refl }
digit_read (suc (suc zero)) h = record { is_digit = refl; value = refl }
digit_read (suc (suc (suc zero))) h = record { is_digit = refl; value = refl }
digit_read (suc (suc (suc (suc zero)))) h = record { is_digit = refl; value = refl }
digit_read (suc (suc (suc (suc (suc zero))))) h = record { is_digit = refl; value = refl }
digit_read (suc (suc (suc (suc (suc (suc zero)))))) h = record { is_digit = refl; value = refl }
digit_read (suc (suc (suc (suc (suc (suc (suc zero))))))) h = record { is_digit = refl; value = refl }
digit_read (suc (suc (suc (suc (suc (suc (suc (suc zero)))))))) h = record { is_digit = refl; value = refl }
digit_read (suc (suc (suc (suc (suc (suc (suc (suc (suc zero))))))))) h = record { is_digit = refl; value = refl }
digit_read (suc (suc (suc (suc (suc (suc (suc (suc (suc (suc zero)))))))))) h = record { is_digit = refl; value = refl }
digit_read (suc (suc (suc (suc (suc (suc (suc (suc (suc (suc (suc zero))))))))))) h = record { is_digit = refl; value = refl }
digit_read (suc (suc (suc (suc (suc (suc (suc (suc (suc (suc (suc (suc zero)))))))))))) h = record { is_digit = refl; value = refl }
digit_read (suc (suc (suc (suc (suc (suc (suc (suc (suc (suc (suc (suc (suc zero))))))))))))) h = record { is_digit = refl; value = refl }
digit_read (suc (suc (suc (suc (suc (suc (suc (suc (suc (suc (suc (suc (suc (suc zero)))))))))))))) h = record { is_digit = refl; value = refl }
digit_read (suc (suc (suc (suc (suc (suc (suc (suc (suc (suc (suc (suc (suc (suc (suc zero))))))))))))))) h = record { is_digit = refl; value = refl }
digit_read (suc (suc (suc (suc (suc (suc (suc (suc (suc (suc (suc (suc (suc (suc (suc (suc n)))))))))))))))) h = absurd (omega arith)

-- eight printed digits, read again
half_of_eight : (a b c d e f g i : ℕ)
    → IsReadBack a → IsReadBack b → IsReadBack c → IsReadBack d → IsReadBack e → IsReadBack f → IsReadBack g → IsReadBack i
    → half_of (slice_index lower_digits a ∷ slice_index lower_digits b ∷ slice_index lower_digits c ∷ slice_index lower_digits d
    ∷ slice_index lower_digits e ∷ slice_index lower_digits f ∷ slice_index lower_digits g ∷ slice_index lower_digits i ∷ [])
    ≡ Some (a * 268435456 + b * 16777216 + c * 1048576 + d * 65536 + e * 4096 + f * 256 + g * 16 + i)
half_of_eight a b c d e f g i p q r s t u v w =
    rw (p.is_digit, q.is_digit, r.is_digit, s.is_digit, t.is_digit, u.is_digit, v.is_digit, w.is_digit)
    (rw (p.value, q.value, r.value, s.value, t.value, u.value, v.value, w.value) (ap (λ (n : ℕ). Some n) (omega arith)))

-- the digits' values make up the number
value_from_nibbles : (n : ℕ) → n < 2 ^ 32 →
    (n / 16777216 % 256 / 16) * 268435456 + (n / 16777216 % 256 % 16) * 16777216 + (n / 65536 % 256 / 16) * 1048576
    + (n / 65536 % 256 % 16) * 65536 + (n / 256 % 256 / 16) * 4096 + (n / 256 % 256 % 16) * 256
    + (n % 256 / 16) * 16 + (n % 256 % 16) ≡ n
value_from_nibbles n h = omega arith

-- half of an id, printed and read again
half_of-half_text : (n : ℕ) → n < 2 ^ 32 → half_of (half_text n) ≡ Some n
unfolding encode_with
half_of-half_text n h =
    let a = digit_read (n / 16777216 % 256 / 16) (omega arith) in
    let b = digit_read (n / 16777216 % 256 % 16) (omega arith) in
    let c = digit_read (n / 65536 % 256 / 16) (omega arith) in
    let d = digit_read (n / 65536 % 256 % 16) (omega arith) in
    let e = digit_read (n / 256 % 256 / 16) (omega arith) in
    let f = digit_read (n / 256 % 256 % 16) (omega arith) in
    let g = digit_read (n % 256 / 16) (omega arith) in
    let i = digit_read (n % 256 % 16) (omega arith) in
    half_of_eight _ _ _ _ _ _ _ _ a b c d e f g i
    ∙ ap (λ (m : ℕ). Some m) (value_from_nibbles n h)

-- an id is read back as it was printed
pub id_of-id_text : (id : SessionId) → id.count < 2 ^ 32 → id.word < 2 ^ 32 → id_of (id_text id) ≡ Some id
unfolding id_of id_text encode_with
id_of-id_text id small_count small_word =
    rw (half_of-half_text id.count small_count, half_of-half_text id.word small_word) refl

-- what printing an id needs
pub ruleset printed_ids = (id_of-id_text, length-id_text)

-- the bounds of these texts, for a writer that needs room
pub ruleset text_bounds = (length-address_text-le, length-address_text-ge, length-id_text)
