-- The bits of a word behind a place.
use Rattle.std.proofs.Common.{ℕ, ◌≡◌, ◌+◌, ◌-◌, ◌^◌, ◌/◌, ◌%◌, ◌<◌, ◌≤◌, inl, inr, w64, sym, ap, ◌∙◌, arith}
use Rattle.std.proofs.lemmas.Bool.{cases_lt}
use Rattle.std.proofs.lemmas.Nat.{shr-shr, shr_le}
use Rattle.std.proofs.lemmas.Nat.Bits.{bit_at-zero, bit_at_above, bit_at-trailing_zeros}
use Rattle.std.specs.Int.{bit_at, trailing_zeros}
use Rattle.satip_flow.specs.Bits.{IsNextBit}

behind_bit : (word from left : ℕ) → bit_at (word / 2 ^ from) left ≡ bit_at word (from + left)
behind_bit word from left = ap (λ x. x % 2) (shr-shr word from left)

-- none is set
pub none_behind : (word from : ℕ) → from ≤ 64 → word / 2 ^ from ≡ 0 → IsNextBit word from 64
none_behind word from h zeros = record {
  behind = h;
  within = omega arith;
  is_set = λ below. absurd (omega (arith, below));
  clear = λ n le lt.
      let left : ℕ = n - from in
      let split : n ≡ from + left = omega (arith, le) in
      ap (λ i. bit_at word i) split ∙ sym (behind_bit word from left) ∙ ap (λ w. bit_at w left) zeros ∙ bit_at-zero left;
}

-- the lowest that is
pub lowest_behind : (word from rest lowest : ℕ) → word < 2 ^ 64 → rest ≡ word / 2 ^ from → 0 < rest → lowest ≡ trailing_zeros w64 rest
    → IsNextBit word from (from + lowest)
lowest_behind word from rest lowest fits is some is_lowest =
    let rest_fits : rest < 2 ^ 64 = omega (arith, shr_le word from, is, fits) in
    let found = bit_at-trailing_zeros w64 rest some rest_fits in
    let bit_of : (i : ℕ) → bit_at rest i ≡ bit_at word (from + i) = λ i. ap (λ x. bit_at x i) is ∙ behind_bit word from i in
    let one : bit_at word (from + lowest) ≡ 1 = sym (bit_of lowest) ∙ ap (bit_at rest) is_lowest ∙ found.1 in
    let inside : from + lowest < 64 =
    elim (cases_lt (from + lowest) 64) [
      | inl lt ↦ lt
      | inr ge ↦
          let none = bit_at_above word 64 (from + lowest) fits ge in
          absurd (omega (arith, one, none))
    ] in
    record {
      behind = omega arith;
      within = omega (arith, inside);
      is_set = λ below. one;
      clear = λ n le lt.
          let left : ℕ = n - from in
          let split : n ≡ from + left = omega (arith, le) in
          let zero_there : bit_at rest left ≡ 0 = found.2 left (omega (arith, le, lt, is_lowest)) in
          ap (λ i. bit_at word i) split ∙ sym (bit_of left) ∙ zero_there;
    }
