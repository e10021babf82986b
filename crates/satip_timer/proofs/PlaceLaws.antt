-- Keys and their places once two keys are exchanged.
use Rattle.std.proofs.Common.{◌≡◌, ◌≢◌, ◌∙◌, ◌<◌, ◌≤◌, ◌+◌, ◌*◌, ℕ, List, Option, Some, None, length, replicate, set, slice_index, slice_get, unwrap_or, ap, sym, subst, arith, inl, inr, ◌⊎◌}
use Rattle.std.proofs.lemmas.Bool.{cases_eq, cases_lt}
use Rattle.std.proofs.lemmas.List.{get_or-set_same, get_or-set_other, get_or-replicate, length-replicate, length-set}
use Rattle.std.proofs.lemmas.Option.{slice_get-get_or, slice_get_past, slice_get_within, get_or_from_slice_get, same_Some}
use Rattle.satip_timer.specs.Heaps.{Swaps}
use Rattle.satip_timer.specs.Placed.{rank, IsDue, Paired}

-- one value is written
pub record Writes (f g : ℕ → ℕ) (at y : ℕ) : Type 0 where
  pub here : g at ≡ y
  pub others : (i : ℕ) → i ≢ at → g i ≡ f i

writes_set : (xs : List ℕ) (at y : ℕ) → at < length xs → Writes (slice_index xs) (slice_index (set xs at y)) at y
writes_set xs at y within = record {
  here = get_or-set_same xs at y 0 within;
  others = λ i other. get_or-set_other xs at i y 0 other;
}

pub writes_put : (xs ys : List ℕ) (at y : ℕ) → at < length xs → ys ≡ set xs at y → Writes (slice_index xs) (slice_index ys) at y
writes_put xs ys at y within e = subst (λ zs. Writes (slice_index xs) (slice_index zs) at y) (sym e) (writes_set xs at y within)

pub swaps_writes : (f g h : ℕ → ℕ) (a b : ℕ) → Writes f g a (f b) → Writes g h b (f a) → Swaps f h a b
swaps_writes f g h a b one two = record {
  first = each (cases_eq a b);
  second = two.here;
  others = λ i aside beside. two.others i beside ∙ one.others i aside;
}
  where
    each : (a ≡ b) ⊎ (a ≢ b) → h a ≡ f b
    each (inl same) = ap h same ∙ two.here ∙ ap f same
    each (inr apart) = two.others a apart ∙ one.here

-- the keys of two places are exchanged, and so are the places of these keys
module _ (k l p q : ℕ → ℕ) (a b : ℕ) (in_a : a < 64) (in_b : b < 64) (pairs : Paired k p) (keys : Swaps k l a b) (places : Swaps p q (k b) (k a)) where
  pub at_a : q (k b) ≡ a
  at_a = places.first ∙ pairs.own a in_a

  pub at_b : q (k a) ≡ b
  at_b = places.second ∙ pairs.own b in_b

  swapped_place : (i : ℕ) → i < 64 → (l i < 64) × (q (l i) ≡ i)
  swapped_place i below = first (cases_eq i a)
    where
      second : i ≢ a → (i ≡ b) ⊎ (i ≢ b) → (l i < 64) × (q (l i) ≡ i)
      second aside (inl same) =
          let key : l i ≡ k a = ap l same ∙ keys.second in
          (omega (arith, pairs.key a in_a), ap q key ∙ at_b ∙ sym same)
      second aside (inr beside) =
          let key : l i ≡ k i = keys.others i aside beside in (
            omega (arith, pairs.key i below),
            ap q key
                ∙ places.others (k i) (λ e. beside (sym (pairs.own i below) ∙ ap p e ∙ pairs.own b in_b))
                (λ e. aside (sym (pairs.own i below) ∙ ap p e ∙ pairs.own a in_a))
                ∙ pairs.own i below,
          )

      first : (i ≡ a) ⊎ (i ≢ a) → (l i < 64) × (q (l i) ≡ i)
      first (inl same) =
          let key : l i ≡ k b = ap l same ∙ keys.first in
          (omega (arith, pairs.key b in_b), ap q key ∙ at_a ∙ sym same)
      first (inr aside) = second aside (cases_eq i b)

  swapped_key : (key : ℕ) → key < 64 → (q key < 64) × (l (q key) ≡ key)
  swapped_key key below = first (cases_eq key (k b))
    where
      second : key ≢ k b → (key ≡ k a) ⊎ (key ≢ k a) → (q key < 64) × (l (q key) ≡ key)
      second beside (inl same) =
          let moved : q key ≡ b = ap q same ∙ at_b in
          (omega arith, ap l moved ∙ keys.second ∙ sym same)
      second beside (inr aside) =
          let stays : q key ≡ p key = places.others key beside aside in
          let within : p key < 64 = pairs.place key below in
          let found : k (p key) ≡ key = pairs.found key below in (
            omega arith,
            ap l stays ∙ keys.others (p key) (λ e. aside (sym found ∙ ap k e)) (λ e. beside (sym found ∙ ap k e)) ∙ found,
          )

      first : (key ≡ k b) ⊎ (key ≢ k b) → (q key < 64) × (l (q key) ≡ key)
      first (inl same) =
          let moved : q key ≡ a = ap q same ∙ at_a in
          (omega arith, ap l moved ∙ keys.first ∙ sym same)
      first (inr beside) = second beside (cases_eq key (k a))

  pub swapped : Paired l q
  swapped = record {
    key = λ i below. (swapped_place i below).0;
    place = λ key below. (swapped_key key below).0;
    own = λ i below. (swapped_place i below).1;
    found = λ key below. (swapped_key key below).1;
  }

-- a key with a deadline is one of 64
pub due_below : (dues : List (Option ℕ)) (key : ℕ) → length dues ≡ 64 → IsDue dues key → key < 64
due_below dues key whole due = omega (arith, whole, slice_get_within dues key (Some due.0) due.1)

-- once the deadline of one key was changed, the others have theirs
pub get_set_other : (dues : List (Option ℕ)) (key other : ℕ) (due : Option ℕ) → other ≢ key → slice_get (set dues key due) other ≡ slice_get dues other
get_set_other dues key other due apart = each (cases_lt other (length dues))
  where
    each : (other < length dues) ⊎ (length dues ≤ other) → slice_get (set dues key due) other ≡ slice_get dues other
    each (inl below) =
        slice_get-get_or (set dues key due) other None (omega (arith, length-set dues key due))
        ∙ ap Some (get_or-set_other dues key other due None apart)
        ∙ sym (slice_get-get_or dues other None below)
    each (inr past) = slice_get_past (set dues key due) other (omega (arith, length-set dues key due)) ∙ sym (slice_get_past dues other past)

pub get_set_same : (dues : List (Option ℕ)) (key : ℕ) (due : Option ℕ) → key < length dues → slice_get (set dues key due) key ≡ Some due
get_set_same dues key due below =
    slice_get-get_or (set dues key due) key None (omega (arith, length-set dues key due)) ∙ ap Some (get_or-set_same dues key due None below)

pub due_still : (dues : List (Option ℕ)) (key other : ℕ) (due : Option ℕ) → other ≢ key → IsDue (set dues key due) other → IsDue dues other
due_still dues key other due apart its = (its.0, sym (get_set_other dues key other due apart) ∙ its.1)

pub due_before : (dues : List (Option ℕ)) (key other : ℕ) (due : Option ℕ) → other ≢ key → IsDue dues other → IsDue (set dues key due) other
due_before dues key other due apart its = (its.0, get_set_other dues key other due apart ∙ its.1)

pub not_due : (dues : List (Option ℕ)) (key : ℕ) → slice_get dues key ≡ Some None → IsDue dues key → ⊥
not_due dues key none its = let wrong : ◌≡◌ {A = Option ℕ} None (Some its.0) = same_Some None (Some its.0) (sym none ∙ its.1) in cc

pub same_rank : (dues : List (Option ℕ)) (key other : ℕ) (due : Option ℕ) → other ≢ key → rank dues other ≡ rank (set dues key due) other
same_rank dues key other due apart = ap (λ o. unwrap_or o 0 * 64 + other) (sym (get_or-set_other dues key other due None apart))

-- where each key stands at the place of its number, no key has a deadline yet
pub none_due : (key : ℕ) → IsDue (replicate 64 None) key → ⊥
none_due key its = let wrong : ◌≡◌ {A = Option ℕ} None (Some its.0) =
    sym (get_or-replicate 64 key None None
    (omega (arith, slice_get_within (replicate 64 None) key (Some its.0) its.1, length-replicate {A = Option ℕ} 64 None)))
    ∙ get_or_from_slice_get (replicate 64 None) key (Some its.0) None its.1 in cc

pub paired_same : (k : ℕ → ℕ) → ((i : ℕ) → i < 64 → k i ≡ i) → Paired k k
paired_same k same = record {
  key = λ i below. omega (arith, same i below);
  place = λ i below. omega (arith, same i below);
  own = λ i below. ap k (same i below) ∙ same i below;
  found = λ i below. ap k (same i below) ∙ same i below;
}
