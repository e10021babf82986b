-- Records by place, read in an order of places.
use Rattle.std.proofs.Common.{◌≡◌, ◌∙◌, ℕ, ◌<◌, ◌==◌, ◌||◌, not, Bool, true, false, cond, zero, suc, List, [], ◌∷◌, ◌++◌, length, get_or, set, map, filter}
use Rattle.std.proofs.Common.{take, drop, refl, ap, sym, arith, find, None, Some}
use Rattle.std.specs.List.{list_any, insert, slice_get}
use Rattle.std.proofs.lemmas.Bool.{eqb-true, eqb-false, eq-eqb, or_left, or_right, or_parts}
use Rattle.std.proofs.lemmas.Option.{same_Some}
use Rattle.std.proofs.lemmas.List.{get_or-set_same, get_or-set_other, map-append, take-map, drop-map}
use Rattle.satip_table.specs.Placed.{in_order, is_there}

pub there_first : (place : ℕ) (order : List ℕ) → is_there place (place ∷ order) ≡ true
there_first place order = or_left _ _ (eq-eqb place place refl)

pub there_at : (order : List ℕ) (k place : ℕ) → slice_get order k ≡ Some place → is_there place order ≡ true
there_at [] k place at = cc
there_at (j ∷ order) zero place at = or_left _ _ (eq-eqb place j (sym (same_Some j place at)))
there_at (j ∷ order) (suc k) place at = or_right _ _ (there_at order k place at)

pub there_get : (order : List ℕ) (k : ℕ) → k < length order → is_there (get_or order k 0) order ≡ true
there_get [] k below = absurd (omega arith)
there_get (j ∷ order) zero below = or_left _ _ (eq-eqb j j refl)
there_get (j ∷ order) (suc k) below = or_right _ _ (there_get order k (omega arith))

module _ {X : Type 0} (d : X) where
  -- the test tells the record at this place from the others in order
  abbrev pub Tells : (X → Bool) → List X → ℕ → List ℕ → Type 0
  Tells test items place order = (k : ℕ) → is_there k order ≡ true → test (get_or items k d) ≡ (place == k)

  tells_rest : (test : X → Bool) (items : List X) (place k : ℕ) (order : List ℕ) → Tells test items place (k ∷ order) → Tells test items place order
  tells_rest test items place k order tells = λ j there. tells j (or_right _ _ there)

  write_one : (test : X → Bool) (g : X → X) (items : List X) (place k : ℕ) (y : X) → place < length items → test (get_or items k d) ≡ (place == k)
      → y ≡ g (get_or items place d)
      → get_or (set items place y) k d ≡ cond (test (get_or items k d)) (g (get_or items k d)) (get_or items k d)
  write_one test g items place k y below tells made = each (place == k) refl
    where
      each : (b : Bool) → (place == k) ≡ b → get_or (set items place y) k d ≡ cond (test (get_or items k d)) (g (get_or items k d)) (get_or items k d)
      each true same =
          let here : place ≡ k = eqb-true place k same in
          ap (λ n. get_or (set items place y) n d) (sym here) ∙ get_or-set_same items place y d below ∙ made ∙ ap (λ n. g (get_or items n d)) here
          ∙ sym (ap (λ b. cond b (g (get_or items k d)) (get_or items k d)) (tells ∙ same))
      each false apart =
          get_or-set_other items place k y d (λ e. eqb-false place k apart (sym e))
          ∙ sym (ap (λ b. cond b (g (get_or items k d)) (get_or items k d)) (tells ∙ apart))

  -- the record at a place is changed
  pub written : (test : X → Bool) (g : X → X) (items : List X) (place : ℕ) (y : X) (order : List ℕ) → place < length items → Tells test items place order
      → y ≡ g (get_or items place d)
      → in_order d (set items place y) order ≡ map (λ x. cond (test x) (g x) x) (in_order d items order)
  written test g items place y [] below tells made = refl
  written test g items place y (k ∷ order) below tells made =
      ap (λ x. x ∷ in_order d (set items place y) order) (write_one test g items place k y below (tells k (there_first k order)) made)
      ∙ ap (λ xs. cond (test (get_or items k d)) (g (get_or items k d)) (get_or items k d) ∷ xs)
      (written test g items place y order below (tells_rest test items place k order tells) made)

  -- a record that isn't in the order is written
  pub untouched : (items : List X) (place : ℕ) (y : X) (order : List ℕ) → is_there place order ≡ false
      → in_order d (set items place y) order ≡ in_order d items order
  untouched items place y [] free = refl
  untouched items place y (k ∷ order) free =
      let parts = or_parts _ _ free in
      ap (λ x. x ∷ in_order d (set items place y) order) (get_or-set_other items place k y d (λ e. eqb-false place k parts.0 (sym e)))
      ∙ ap (λ xs. get_or items k d ∷ xs) (untouched items place y order parts.1)

  -- a place leaves the order
  pub dropped : (test : X → Bool) (items : List X) (place : ℕ) (order : List ℕ) → Tells test items place order
      → in_order d items (filter (λ k. not (place == k)) order) ≡ filter (λ x. not (test x)) (in_order d items order)
  dropped test items place [] tells = refl
  dropped test items place (k ∷ order) tells =
      each (place == k) (test (get_or items k d)) (tells k (there_first k order)) (dropped test items place order (tells_rest test items place k order tells))
    where
      each : (b t : Bool) → t ≡ b → in_order d items (filter (λ j. not (place == j)) order) ≡ filter (λ x. not (test x)) (in_order d items order)
          → in_order d items (cond (not b) (k ∷ filter (λ j. not (place == j)) order) (filter (λ j. not (place == j)) order)) ≡ cond (not t)
          (get_or items k d ∷ filter (λ x. not (test x)) (in_order d items order)) (filter (λ x. not (test x)) (in_order d items order))
      each true true same rest = rest
      each true false same rest = cc
      each false true same rest = cc
      each false false same rest = ap (λ xs. get_or items k d ∷ xs) rest

  -- the record at a place that is there is found, and no other
  pub found_at : (test : X → Bool) (items : List X) (place : ℕ) (order : List ℕ) → Tells test items place order → is_there place order ≡ true
      → find test (in_order d items order) ≡ Some (get_or items place d)
  found_at test items place [] tells there = cc
  found_at test items place (k ∷ order) tells there =
      each (place == k) (test (get_or items k d)) refl (tells k (there_first k order)) there
      (found_at test items place order (tells_rest test items place k order tells))
    where
      each : (b t : Bool) → (place == k) ≡ b → t ≡ b → (b || is_there place order) ≡ true
          → (is_there place order ≡ true → find test (in_order d items order) ≡ Some (get_or items place d))
          → cond t (Some (get_or items k d)) (find test (in_order d items order)) ≡ Some (get_or items place d)
      each true true same is some rest = ap (λ n. Some (get_or items n d)) (sym (eqb-true place k same))
      each true false same is some rest = cc
      each false true same is some rest = cc
      each false false same is some rest = rest some

  pub any_at : (test : X → Bool) (items : List X) (place : ℕ) (order : List ℕ) → Tells test items place order
      → list_any test (in_order d items order) ≡ is_there place order
  any_at test items place [] tells = refl
  any_at test items place (k ∷ order) tells =
      ap (λ b. b || list_any test (in_order d items order)) (tells k (there_first k order))
      ∙ ap (λ b. (place == k) || b) (any_at test items place order (tells_rest test items place k order tells))

  -- no record is found where none passes
  pub none_at : (test : X → Bool) (items : List X) (order : List ℕ) → ((k : ℕ) → is_there k order ≡ true → test (get_or items k d) ≡ false)
      → (find test (in_order d items order) ≡ None) × (list_any test (in_order d items order) ≡ false)
  none_at test items [] fails = (refl, refl)
  none_at test items (k ∷ order) fails =
      let rest = none_at test items order (λ j there. fails j (or_right _ _ there)) in (
        ap (λ b. cond b (Some (get_or items k d)) (find test (in_order d items order))) (fails k (there_first k order)) ∙ rest.0,
        ap (λ b. b || list_any test (in_order d items order)) (fails k (there_first k order)) ∙ rest.1,
      )

  -- a place comes into the order
  pub placed_in : (items : List X) (order : List ℕ) (place k : ℕ)
      → in_order d items (insert order place k) ≡ insert (in_order d items order) place (get_or items k d)
  placed_in items order place k =
      map-append (λ j. get_or items j d) (take place order) (k ∷ drop place order)
      ∙ ap (λ xs. xs ++ get_or items k d ∷ map (λ j. get_or items j d) (drop place order)) (sym (take-map (λ j. get_or items j d) place order))
      ∙ ap (λ xs. take place (in_order d items order) ++ get_or items k d ∷ xs) (sym (drop-map (λ j. get_or items j d) place order))
