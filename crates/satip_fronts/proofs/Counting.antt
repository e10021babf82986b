-- The counts of the streams at each front end.
use Rattle.std.proofs.Common.{◌≡◌, ◌∙◌, ℕ, ◌+◌, ◌<◌, Bool, true, false, cond, List, Option, None, count_by, get_or, length, replicate, take, refl, ap, sym}
use Rattle.std.proofs.Common.{arith}
use Rattle.std.proofs.lemmas.List.{get_or-replicate}
use Rattle.std.proofs.lemmas.List.Sums.{count_by_more_no, count_by_more_yes}
use Rattle.satip_fronts.specs.Rows.{AreCounted, is_at}

-- nobody is counted where no stream is anywhere
pub none_counted : (places : List (Option ℕ)) → places ≡ replicate 64 None → AreCounted places (replicate 16 0)
none_counted places none k within = get_or-replicate 16 k 0 0 within ∙ sym (ap (λ ps. count_by (is_at (k + 1)) ps) none)

-- one place more
pub counted_one : (places : List (Option ℕ)) (i k : ℕ) (d : Option ℕ) → i < length places
    → count_by (is_at (k + 1)) (take (i + 1) places) ≡ count_by (is_at (k + 1)) (take i places) + cond (is_at (k + 1) (get_or places i d)) 1 0
counted_one places i k d inside = each (is_at (k + 1) (get_or places i d)) refl
  where
    each : (b : Bool) → is_at (k + 1) (get_or places i d) ≡ b
        → count_by (is_at (k + 1)) (take (i + 1) places) ≡ count_by (is_at (k + 1)) (take i places) + cond b 1 0
    each true here = count_by_more_yes (is_at (k + 1)) places i d inside here
    each false here = count_by_more_no (is_at (k + 1)) places i d inside here ∙ omega arith
