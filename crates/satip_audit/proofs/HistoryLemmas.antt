-- The history of entries of which each place is named once.
use Rattle.std.proofs.Common.{◌≡◌, ℕ, zero, suc, ◌+◌, ◌<◌, ◌≤◌, Bool, true, false, cond, List, [], ◌∷◌, ◌++◌, length, map, filter, get_or, refl, sym, ap, ◌∙◌, subst, arith, ⊎_elim}
use Rattle.std.specs.Prelude.{◌==◌, slice_get}
use Rattle.std.proofs.lemmas.Bool.{eqb-true, eqb-false}
use Rattle.satip_base.specs.Lists.{Each, Has}
use Rattle.satip_plain.specs.Histories.{Item}
use Rattle.satip_audit.specs.declared.index.Spot.{Spot}
use Rattle.satip_audit.specs.Places.{Counts, times}
use Rattle.satip_audit.specs.Spots.{places_of}
use Rattle.satip_audit.specs.Journals.{Entered, IsNote, IsPlaced, Note, Placed, Start}
use Rattle.satip_audit.specs.Verdicts.{at_place, entered, in_order, item, places_in}
use Rattle.satip_audit.proofs.PlaceLemmas.{times_more, times_other, times_same}

-- entries of right lines are within their types
pub placed_of : (notes : List Note) (p : Placed) → Each IsNote notes → Has p (entered notes) → IsPlaced p
placed_of [] p right has = absurd has
placed_of (Start now ∷ notes) p right has = placed_of notes p right.1 has
placed_of (Entered q ∷ notes) p right has =
    ⊎_elim (λ (same : p ≡ q). subst IsPlaced (sym same) right.0) (λ (more : Has p (entered notes)). placed_of notes p right.1 more) has

-- an entry's place is named
named : (entries : List Placed) (p : Placed) → Has p entries → 1 ≤ times (places_in entries) p.place
named [] p has = absurd has
named (x ∷ xs) p has =
    ⊎_elim
    (λ (same : p ≡ x).
    let e = times_same (places_in xs) x.place p.place (ap (λ (z : Placed). z.place) (sym same)) in
    omega (arith, e))
    (λ (more : Has p xs).
    let rest = named xs p more in
    let grows = times_more (places_in xs) x.place p.place in
    omega (arith, rest, grows))
    has

none_by : (x : Placed) (xs : List Placed) (q : ℕ) (b : Bool) → (x.place == q) ≡ b → times (places_in (x ∷ xs)) q ≡ 0
    → (times (places_in xs) q ≡ 0 → at_place q xs ≡ [])
    → map item (cond b (x ∷ filter (λ (p : Placed). p.place == q) xs) (filter (λ (p : Placed). p.place == q) xs)) ≡ []
none_by x xs q true is none rest = let e = times_same (places_in xs) x.place q (eqb-true x.place q is) in absurd (omega (arith, none, e))
none_by x xs q false is none rest = let e = times_other (places_in xs) x.place q (eqb-false x.place q is) in rest (sym e ∙ none)

none_at : (entries : List Placed) (q : ℕ) → times (places_in entries) q ≡ 0 → at_place q entries ≡ []
none_at [] q none = refl
none_at (x ∷ xs) q none = none_by x xs q (x.place == q) refl none (λ rest. none_at xs q rest)

one_by : (x : Placed) (xs : List Placed) (p : Placed) (b : Bool) → (x.place == p.place) ≡ b → times (places_in (x ∷ xs)) p.place ≤ 1 → Has p (x ∷ xs)
    → (times (places_in xs) p.place ≤ 1 → Has p xs → at_place p.place xs ≡ item p ∷ [])
    → map item (cond b (x ∷ filter (λ (z : Placed). z.place == p.place) xs) (filter (λ (z : Placed). z.place == p.place) xs)) ≡ item p ∷ []
one_by x xs p true is once has rest =
    let e = times_same (places_in xs) x.place p.place (eqb-true x.place p.place is) in
    let none : times (places_in xs) p.place ≡ 0 = omega (arith, e, once) in
    ⊎_elim
    (λ (same : p ≡ x). ap (λ (l : List Item). item x ∷ l) (none_at xs p.place none) ∙ ap (λ (z : Placed). item z ∷ []) (sym same))
    (λ (more : Has p xs). let some = named xs p more in absurd (omega (arith, some, none)))
    has
one_by x xs p false is once has rest =
    let other = eqb-false x.place p.place is in
    let e = times_other (places_in xs) x.place p.place other in
    ⊎_elim
    (λ (same : p ≡ x). absurd (other (ap (λ (z : Placed). z.place) (sym same))))
    (λ (more : Has p xs). rest (omega (arith, e, once)) more)
    has

-- the only entry of its place
pub one_at : (entries : List Placed) (p : Placed) → times (places_in entries) p.place ≤ 1 → Has p entries → at_place p.place entries ≡ item p ∷ []
one_at [] p once has = absurd has
one_at (x ∷ xs) p once has = one_by x xs p (x.place == p.place) refl once has (λ few more. one_at xs p few more)

-- one entry has this place
pub record One (entries : List Placed) (place : ℕ) : Type 0 where
  pub entry : Placed
  pub is : at_place place entries ≡ item entry ∷ []

module _ (entries : List Placed) (n : ℕ) (one : (k : ℕ) → k < n → One entries k) where
  first_is : (count from : ℕ) (o : One entries from) → in_order from (suc count) entries ≡ item o.entry ∷ in_order (suc from) count entries
  first_is count from o = ap (λ (l : List Item). l ++ in_order (suc from) count entries) o.is

  pub in_order_length : (count from : ℕ) → from + count ≤ n → length (in_order from count entries) ≡ count
  in_order_length zero from far = refl
  in_order_length (suc count) from far =
      let o = one from (omega (arith, far)) in
      let rest = in_order_length count (suc from) (omega (arith, far)) in
      let e = ap (λ (l : List Item). length l) (first_is count from o) in
      omega (arith, e, rest)

  pub in_order_get : (count from i : ℕ) → from + count ≤ n → i < count → slice_get (in_order from count entries) i ≡ slice_get (at_place (from + i) entries) 0
  in_order_get zero from i far less = absurd (omega (arith, less))
  in_order_get (suc count) from zero far less =
      let o = one from (omega (arith, far)) in
      let here : from + 0 ≡ from = omega arith in
      ap (λ (l : List Item). slice_get l 0) (first_is count from o) ∙ sym (ap (λ (l : List Item). slice_get l 0) o.is)
      ∙ ap (λ (k : ℕ). slice_get (at_place k entries) 0) (sym here)
  in_order_get (suc count) from (suc i) far less =
      let o = one from (omega (arith, far)) in
      let there : suc from + i ≡ from + suc i = omega arith in
      ap (λ (l : List Item). slice_get l (suc i)) (first_is count from o) ∙ in_order_get count (suc from) i (omega (arith, far)) (omega (arith, less))
      ∙ ap (λ (k : ℕ). slice_get (at_place k entries) 0) there

-- spots whose places count up
pub counts_at : (first : ℕ) (spots : List Spot) (k : ℕ) (d : Spot) → Counts first (places_of spots) → k < length spots → (get_or spots k d).place ≡ first + k
counts_at first [] k d counts less = absurd (omega (arith, less))
counts_at first (s ∷ spots) zero d counts less = let here = counts.0 in omega (arith, here)
counts_at first (s ∷ spots) (suc k) d counts less =
    let rest = counts_at (suc first) spots k d counts.1 (omega (arith, less)) in
    omega (arith, rest)
