-- Pieces in two lists that are read as one, and a ring whose first bytes are gone.
use Rattle.std.proofs.Common.{◌≡◌, ℕ, ◌+◌, ◌-◌, ◌≤◌, List, ◌++◌, length, take, drop, arith}
use Rattle.std.proofs.lemmas.List.{places, same_lists}
use Rattle.satip_interleave.specs.Rings.{turned, overwritten}

-- a piece behind the first list
pub overwritten_behind : (first second piece : List ℕ) (at : ℕ) → length first ≤ at → at + length piece ≤ length first + length second
    → first ++ overwritten (at - length first) piece second ≡ overwritten at piece (first ++ second)
overwritten_behind first second piece at behind room = same_lists _ _ (grind (arith, places)) (λ k d h. grind (arith, places))

-- a piece whose front ends the first list, and whose rest begins the second
pub overwritten_across : (first second front back piece : List ℕ) (at : ℕ) → at + length front ≡ length first → length back ≤ length second
    → piece ≡ front ++ back
    → overwritten at front first ++ overwritten 0 back second ≡ overwritten at piece (first ++ second)
overwritten_across first second front back piece at ends room parts = same_lists _ _ (grind (arith, places)) (λ k d h. grind (arith, places))

-- a ring that begins some bytes later, where that is before its end
pub turned_before : (bytes : List ℕ) (start count len : ℕ) → count ≤ len → len ≤ length bytes → start + count ≤ length bytes
    → take (len - count) (turned (start + count) bytes) ≡ drop count (take len (turned start bytes))
turned_before bytes start count len within limit before = same_lists _ _ (grind (arith, places)) (λ k d h. grind (arith, places))

-- and where it is around its end
pub turned_around : (bytes : List ℕ) (start count len place : ℕ) → count ≤ len → len ≤ length bytes → start ≤ length bytes
    → place + length bytes ≡ start + count
    → take (len - count) (turned place bytes) ≡ drop count (take len (turned start bytes))
turned_around bytes start count len place within limit inside around = same_lists _ _ (grind (arith, places)) (λ k d h. grind (arith, places))
