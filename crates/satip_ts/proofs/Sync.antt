-- Lemmas on the bytes from the next sync byte on.
use Rattle.std.proofs.Common.{ℕ, ◌≡◌, ◌+◌, ◌<◌, ◌≤◌, Bool, true, false, not, cond, eqb, List, [], ◌∷◌, ◌++◌, length, drop, get_or, Some, None, unwrap_or, position, ltb, refl, sym, ap, ◌∙◌, arith, add-one, add_comm}
use Rattle.std.proofs.lemmas.Bool.Decides.{nat_tests}
use Rattle.std.proofs.lemmas.List.Sums.{prefix_len-le-length}
use Rattle.std.specs.List.{position_or_len}
use Rattle.satip_ts.specs.Recording.{from_sync}

-- what stands there begins with the sync byte
pub from_sync-first : (text : List ℕ) → 0 < length (from_sync text) → get_or (from_sync text) 0 0 ≡ 71
from_sync-first [] h = absurd (omega (arith, h))
from_sync-first (b ∷ bs) h = each (eqb b 71) refl (from_sync-first bs) h
  where
    each : (t : Bool) → eqb b 71 ≡ t → (0 < length (from_sync bs) → get_or (from_sync bs) 0 0 ≡ 71)
        → 0 < length (cond t (b ∷ bs) (from_sync bs)) → get_or (cond t (b ∷ bs) (from_sync bs)) 0 0 ≡ 71
    each true e ih k = grind (arith, nat_tests)
    each false e ih k = ih k

-- it is what is left behind the first place of a sync byte
pub from_sync-position : (text : List ℕ) → from_sync text ≡ drop (position_or_len (λ b. eqb b 71) text) text
from_sync-position [] = refl
from_sync-position (b ∷ bs) = each (eqb b 71) (from_sync-position bs)
  where
    each : (t : Bool) → from_sync bs ≡ drop (position_or_len (λ b. eqb b 71) bs) bs
        → cond t (b ∷ bs) (from_sync bs) ≡ drop (cond (not t) (1 + position_or_len (λ b. eqb b 71) bs) 0) (b ∷ bs)
    each true ih = refl
    each false ih = rw add_comm (rw add-one ih)

-- it is not longer than the text
pub length-from_sync : (text : List ℕ) → length (from_sync text) ≤ length text
length-from_sync [] = omega arith
length-from_sync (b ∷ bs) = each (eqb b 71) (length-from_sync bs)
  where
    each : (t : Bool) → length (from_sync bs) ≤ length bs → length (cond t (b ∷ bs) (from_sync bs)) ≤ length (b ∷ bs)
    each true ih = omega arith
    each false ih = omega (arith, ih)

-- more bytes behind it
pub from_sync-append : (text more : List ℕ) → from_sync (from_sync text ++ more) ≡ from_sync (text ++ more)
from_sync-append [] more = refl
from_sync-append (b ∷ bs) more = each (eqb b 71) refl (from_sync-append bs more)
  where
    each : (t : Bool) → eqb b 71 ≡ t → from_sync (from_sync bs ++ more) ≡ from_sync (bs ++ more)
        → from_sync (cond t (b ∷ bs) (from_sync bs) ++ more) ≡ cond t (b ∷ (bs ++ more)) (from_sync (bs ++ more))
    each true e ih = ap (λ t. cond t (b ∷ (bs ++ more)) (from_sync (bs ++ more))) e
    each false e ih = ih

-- a text with a sync byte keeps what stands behind it
pub from_sync-append_found : (text more : List ℕ) → 0 < length (from_sync text) → from_sync (text ++ more) ≡ from_sync text ++ more
from_sync-append_found [] more h = absurd (omega (arith, h))
from_sync-append_found (b ∷ bs) more h = each (eqb b 71) (from_sync-append_found bs more) h
  where
    each : (t : Bool) → (0 < length (from_sync bs) → from_sync (bs ++ more) ≡ from_sync bs ++ more)
        → 0 < length (cond t (b ∷ bs) (from_sync bs)) → cond t (b ∷ (bs ++ more)) (from_sync (bs ++ more)) ≡ cond t (b ∷ bs) (from_sync bs) ++ more
    each true ih k = refl
    each false ih k = ih k

-- what is left behind the place that a search for the sync byte answers, or behind all bytes
pub from_sync-drop : (text : List ℕ) (k : ℕ) → k ≡ unwrap_or (position (λ b. eqb b 71) text) (length text) → drop k text ≡ from_sync text
from_sync-drop text k e = each (ltb n (length text)) refl e
  where
    n : ℕ
    n = position_or_len (λ b. eqb b 71) text

    each : (t : Bool) → ltb n (length text) ≡ t → k ≡ unwrap_or (cond t (Some n) None) (length text) → drop k text ≡ from_sync text
    each true found is = ap (λ i. drop i text) is ∙ sym (from_sync-position text)
    each false none is =
        let same : length text ≡ n = grind (arith, nat_tests, prefix_len-le-length (λ b. not (eqb b 71)) text) in
        ap (λ i. drop i text) (is ∙ same) ∙ sym (from_sync-position text)
