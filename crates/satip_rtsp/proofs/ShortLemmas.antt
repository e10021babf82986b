-- Bytes copied to the front of a zeroed array.
use Rattle.std.proofs.Common.{◌≡◌, ℕ, ◌-◌, ◌≤◌, min, List, ◌++◌, length, take, drop, replicate, arith, sym, ap, ◌∙◌, length-append, length-drop}
use Rattle.std.proofs.lemmas.List.{drop-replicate, length-replicate, length-take, take_min}
use Rattle.std.proofs.Math.Seq.{drop-append_seam, take-append_seam}
use Rattle.satip_query.specs.Packed.{IsPacked}

-- what an array holds after its first bytes were copied from a text
pub record Holds (text places : List ℕ) (count : ℕ) : Type 0 where
  pub packed : IsPacked 128 places count
  pub first : take count places ≡ take 128 text

length-front : (text front : List ℕ) (count : ℕ) → count ≡ min (length text) 128 → front ≡ take count text → length front ≡ count
length-front text front count is same = omega (arith, ap length same, length-take count text)

take-short : (text : List ℕ) (count : ℕ) → count ≡ min (length text) 128 → take count text ≡ take 128 text
take-short text count is =
    let turned : count ≡ min 128 (length text) = omega arith in
    ap (λ n. take n text) turned ∙ take_min 128 text

pub holds_first : (text front : List ℕ) (count : ℕ) → count ≡ min (length text) 128 → front ≡ take count text
    → Holds text (front ++ drop count (replicate 128 0)) count
holds_first text front count is same =
    let long : length front ≡ count = length-front text front count is same in
    let zeros : List ℕ = replicate 128 0 in
    let blank : ℕ = 0 in
    let long_zeros : length zeros ≡ 128 = length-replicate 128 blank in
    let rest : List ℕ = drop count zeros in
    let size_rest : length rest ≡ 128 - count = length-drop count zeros ∙ ap (λ n. n - count) long_zeros in
    let few : count ≤ 128 = omega arith in
    record {
      packed = record {
        within = few;
        size = omega (arith, length-append front rest, long, size_rest);
        blank = ap (λ n. drop n (front ++ rest)) (sym long) ∙ drop-append_seam front rest ∙ drop-replicate count 128 0;
      };
      first = ap (λ n. take n (front ++ rest)) (sym long) ∙ take-append_seam front rest ∙ same ∙ take-short text count is;
    }
