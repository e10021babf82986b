-- The steps of a heap.
use Rattle.std.proofs.Common.{◌≡◌, ◌≢◌, ◌∙◌, ◌<◌, ◌≤◌, ◌+◌, ◌-◌, ◌*◌, ℕ, Bool, true, false, List, Option, Some, None, length, set, slice_get, slice_index, refl, ap, sym, subst, arith, inl, inr, ◌⊎◌, nat_lt, MatchBool}
use Rattle.std.proofs.lemmas.Bool.{cases_eq, cases_lt, ltb-true, ltb-false}
use Rattle.std.proofs.lemmas.List.{length-set}
use Rattle.std.proofs.lemmas.Option.{slice_get_within}
use Rattle.satip_timer.specs.declared.heap.Heap.{Heap}
use Rattle.satip_timer.specs.Heaps.{IsHeapBut, IsHeapAround, Swaps}
use Rattle.satip_timer.specs.Placed.{rank, ranks, IsDue, Moved, Paired, Placed, Sound}
use Rattle.satip_timer.proofs.HeapLaws.{around, longer}
use Rattle.satip_timer.proofs.PlaceLaws.{due_before, due_below, due_still, get_set_same, not_due, same_rank, swapped, swaps_writes, writes_put}

-- of two moments that differ the earlier has the lesser rank
pub earlier : (m l x y a b : ℕ) → m ≡ x → l ≡ y → m ≢ l → a < 64 → b < 64 → MatchBool (nat_lt m l) (x * 64 + a < y * 64 + b) (y * 64 + b ≤ x * 64 + a)
earlier m l x y a b same_m same_l apart in_a in_b = each (nat_lt m l) refl
  where
    each : (t : Bool) → nat_lt m l ≡ t → MatchBool t (x * 64 + a < y * 64 + b) (y * 64 + b ≤ x * 64 + a)
    each true e = omega (arith, ltb-true m l e)
    each false e = omega (arith, ltb-false m l e)

-- two writes to each list exchange two keys
pub moved : (h m n : Heap) (a b : ℕ) → a < 64 → b < 64 → length h.keys ≡ 64 → length h.places ≡ 64 → Paired (slice_index h.keys) (slice_index h.places)
    → m.keys ≡ set h.keys a (slice_index h.keys b) → m.places ≡ set h.places (slice_index h.keys b) a
    → n.keys ≡ set m.keys b (slice_index h.keys a) → n.places ≡ set m.places (slice_index h.keys a) b → Moved h n a b
moved h m n a b in_a in_b long_keys long_places pairs keys_m places_m keys_n places_n = record {
  keys = keys;
  places = places;
  pairs = swapped (slice_index h.keys) (slice_index n.keys) (slice_index h.places) (slice_index n.places) a b in_a in_b pairs keys places;
}
  where
    keys : Swaps (slice_index h.keys) (slice_index n.keys) a b
    keys = swaps_writes (slice_index h.keys) (slice_index m.keys) (slice_index n.keys) a b
        (writes_put h.keys m.keys a (slice_index h.keys b) (omega arith) keys_m)
        (writes_put m.keys n.keys b (slice_index h.keys a) (omega (arith, ap length keys_m, length-set h.keys a (slice_index h.keys b))) keys_n)

    places : Swaps (slice_index h.places) (slice_index n.places) (slice_index h.keys b) (slice_index h.keys a)
    places = swaps_writes (slice_index h.places) (slice_index m.places) (slice_index n.places) (slice_index h.keys b) (slice_index h.keys a)
        (writes_put h.places m.places (slice_index h.keys b) (slice_index h.places (slice_index h.keys a)) (omega (arith, pairs.key b in_b))
        (places_m ∙ ap (λ x. set h.places (slice_index h.keys b) x) (sym (pairs.own a in_a))))
        (writes_put m.places n.places (slice_index h.keys a) (slice_index h.places (slice_index h.keys b))
        (omega (arith, pairs.key a in_a, ap length places_m, length-set h.places (slice_index h.keys b) a))
        (places_n ∙ ap (λ x. set m.places (slice_index h.keys a) x) (sym (pairs.own b in_b))))

-- the ranks are exchanged with the keys
pub moved_ranks : (dues : List (Option ℕ)) (h n : Heap) (a b : ℕ) → Moved h n a b → Swaps (ranks dues h) (ranks dues n) a b
moved_ranks dues h n a b move = record {
  first = ap (rank dues) move.keys.first;
  second = ap (rank dues) move.keys.second;
  others = λ i aside beside. ap (rank dues) (move.keys.others i aside beside);
}

-- both places are below the count: the same keys are in the heap
pub moved_within : (dues : List (Option ℕ)) (h n : Heap) (a b : ℕ) → a < h.count → b < h.count → n.count ≡ h.count → Moved h n a b → Placed dues h
    → Placed dues n
moved_within dues h n a b in_a in_b count move placed = record {
  whole = placed.whole;
  room = omega (arith, placed.room);
  pairs = move.pairs;
  due = λ i below. due i (omega arith) (cases_eq i a) (cases_eq i b);
  within = λ key its. within key its (cases_eq key (slice_index h.keys b)) (cases_eq key (slice_index h.keys a));
}
  where
    due : (i : ℕ) → i < h.count → (i ≡ a) ⊎ (i ≢ a) → (i ≡ b) ⊎ (i ≢ b) → IsDue dues (slice_index n.keys i)
    due i below (inl same) _ = subst (IsDue dues) (sym (ap (slice_index n.keys) same ∙ move.keys.first)) (placed.due b in_b)
    due i below (inr aside) (inl same) = subst (IsDue dues) (sym (ap (slice_index n.keys) same ∙ move.keys.second)) (placed.due a in_a)
    due i below (inr aside) (inr beside) = subst (IsDue dues) (sym (move.keys.others i aside beside)) (placed.due i below)

    within : (key : ℕ) → IsDue dues key → (key ≡ slice_index h.keys b) ⊎ (key ≢ slice_index h.keys b)
        → (key ≡ slice_index h.keys a) ⊎ (key ≢ slice_index h.keys a) → slice_index n.places key < n.count
    within key its (inl same) _ = omega (arith, placed.room, ap (slice_index n.places) same, move.places.first, placed.pairs.own a (omega (arith, placed.room)))
    within key its (inr beside) (inl same) =
        omega (arith, placed.room, ap (slice_index n.places) same, move.places.second, placed.pairs.own b (omega (arith, placed.room)))
    within key its (inr beside) (inr aside) = omega (arith, placed.within key its, move.places.others key beside aside)

-- a key has got a deadline: it is exchanged with the first key that has none, and counts
module _ (dues : List (Option ℕ)) (h n : Heap) (key : ℕ) (before : Sound (set dues key None) h) (its : IsDue dues key) where
  add_whole : length dues ≡ 64
  add_whole = omega (arith, before.placed.whole, length-set dues key None)

  add_below : key < 64
  add_below = due_below dues key add_whole its

  add_apart : (i : ℕ) → i < h.count → slice_index h.keys i ≢ key
  add_apart i below e = not_due (set dues key None) key (get_set_same dues key None (omega (arith, add_whole, add_below)))
      (subst (IsDue (set dues key None)) e (before.placed.due i below))

  -- its place is not below the count, so there is room
  pub add_place : (h.count ≤ slice_index h.places key) × (slice_index h.places key < 64)
  add_place = (each (cases_lt (slice_index h.places key) h.count), before.placed.pairs.place key add_below)
    where
      each : (slice_index h.places key < h.count) ⊎ (h.count ≤ slice_index h.places key) → h.count ≤ slice_index h.places key
      each (inl below) = absurd (add_apart (slice_index h.places key) below (before.placed.pairs.found key add_below))
      each (inr past) = past

  module _ (move : Moved h n (slice_index h.places key) h.count) (count : n.count ≡ h.count + 1) where
    add_old : (i : ℕ) → i < h.count → slice_index n.keys i ≡ slice_index h.keys i
    add_old i below = move.keys.others i (omega (arith, add_place.0)) (omega arith)

    add_last : slice_index n.keys h.count ≡ key
    add_last = move.keys.second ∙ before.placed.pairs.found key add_below

    pub add_placed : Placed dues n
    add_placed = record {
      whole = add_whole;
      room = omega (arith, add_place);
      pairs = move.pairs;
      due = λ i below. due i (cases_eq i h.count) below;
      within = λ other passes. within other passes (cases_eq other key);
    }
      where
        due : (i : ℕ) → (i ≡ h.count) ⊎ (i ≢ h.count) → i < n.count → IsDue dues (slice_index n.keys i)
        due i (inl end) below = subst (IsDue dues) (sym (ap (slice_index n.keys) end ∙ add_last)) its
        due i (inr inside) below =
            let old : i < h.count = omega arith in
            subst (IsDue dues) (sym (add_old i old)) (due_still dues key (slice_index h.keys i) None (add_apart i old) (before.placed.due i old))

        within : (other : ℕ) → IsDue dues other → (other ≡ key) ⊎ (other ≢ key) → slice_index n.places other < n.count
        within other passes (inl same) =
            let here : slice_index n.places (slice_index n.keys h.count) ≡ h.count = move.pairs.own h.count (omega (arith, add_place)) in
            omega (arith, here, ap (slice_index n.places) (same ∙ sym add_last))
        within other passes (inr apart) =
            let old : slice_index h.places other < h.count = before.placed.within other (due_before dues key other None apart passes) in
            let found : slice_index h.keys (slice_index h.places other) ≡ other = before.placed.pairs.found other (due_below dues other add_whole passes) in
            let here : slice_index n.places (slice_index n.keys (slice_index h.places other)) ≡ slice_index h.places other =
            move.pairs.own (slice_index h.places other) (omega (arith, add_place)) in
            omega (arith, here, ap (slice_index n.places) (add_old (slice_index h.places other) old ∙ found))

    pub add_heap : IsHeapBut (ranks dues n) n.count h.count
    add_heap = subst (λ c. IsHeapBut (ranks dues n) c h.count) (sym count)
        (longer (ranks (set dues key None) h) (ranks dues n) h.count before.heap
        (λ i below. ap (rank dues) (add_old i below) ∙ same_rank dues key (slice_index h.keys i) None (add_apart i below)))

-- a key has another deadline
module _ (dues : List (Option ℕ)) (h : Heap) (key moment : ℕ) (before : Sound (set dues key (Some moment)) h) (its : IsDue dues key) where
  change_whole : length dues ≡ 64
  change_whole = omega (arith, before.placed.whole, length-set dues key (Some moment))

  change_below : key < 64
  change_below = due_below dues key change_whole its

  change_was : IsDue (set dues key (Some moment)) key
  change_was = (moment, get_set_same dues key (Some moment) (omega (arith, change_whole, change_below)))

  pub change_place : slice_index h.places key < h.count
  change_place = before.placed.within key change_was

  change_apart : (i : ℕ) → i < h.count → i ≢ slice_index h.places key → slice_index h.keys i ≢ key
  change_apart i below other e = other (sym (before.placed.pairs.own i (omega (arith, before.placed.room))) ∙ ap (slice_index h.places) e)

  pub change_placed : Placed dues h
  change_placed = record {
    whole = change_whole;
    room = before.placed.room;
    pairs = before.placed.pairs;
    due = λ i below. due i below (cases_eq (slice_index h.keys i) key);
    within = λ other passes. within other passes (cases_eq other key);
  }
    where
      due : (i : ℕ) → i < h.count → (slice_index h.keys i ≡ key) ⊎ (slice_index h.keys i ≢ key) → IsDue dues (slice_index h.keys i)
      due i below (inl same) = subst (IsDue dues) (sym same) its
      due i below (inr apart) = due_still dues key (slice_index h.keys i) (Some moment) apart (before.placed.due i below)

      within : (other : ℕ) → IsDue dues other → (other ≡ key) ⊎ (other ≢ key) → slice_index h.places other < h.count
      within other passes (inl same) = omega (arith, change_place, ap (slice_index h.places) same)
      within other passes (inr apart) = before.placed.within other (due_before dues key other (Some moment) apart passes)

  pub change_heap : IsHeapAround (ranks dues h) h.count (slice_index h.places key)
  change_heap = around (ranks (set dues key (Some moment)) h) (ranks dues h) h.count (slice_index h.places key) before.heap
      (λ i below other. same_rank dues key (slice_index h.keys i) (Some moment) (change_apart i below other))

-- a key has no deadline any more: it is exchanged with the last that has one, and doesn't count
module _ (dues : List (Option ℕ)) (h n : Heap) (key moment : ℕ) (before : Sound (set dues key (Some moment)) h) (none : slice_get dues key ≡ Some None) where
  drop_whole : length dues ≡ 64
  drop_whole = omega (arith, before.placed.whole, length-set dues key (Some moment))

  drop_below : key < 64
  drop_below = omega (arith, drop_whole, slice_get_within dues key None none)

  pub drop_place : slice_index h.places key < h.count
  drop_place = before.placed.within key (moment, get_set_same dues key (Some moment) (omega (arith, drop_whole, drop_below)))

  drop_apart : (i : ℕ) → i < h.count → i ≢ slice_index h.places key → slice_index h.keys i ≢ key
  drop_apart i below other e = other (sym (before.placed.pairs.own i (omega (arith, before.placed.room))) ∙ ap (slice_index h.places) e)

  module _ (move : Moved h n (slice_index h.places key) (h.count - 1)) (count : n.count ≡ h.count - 1) where
    drop_last : slice_index n.keys (h.count - 1) ≡ key
    drop_last = move.keys.second ∙ before.placed.pairs.found key drop_below

    drop_gone : slice_index n.places key ≡ h.count - 1
    drop_gone = ap (slice_index n.places) (sym drop_last) ∙ move.pairs.own (h.count - 1) (omega (arith, before.placed.room, drop_place))

    drop_old : (i : ℕ) → i < n.count → i ≢ slice_index h.places key → slice_index n.keys i ≡ slice_index h.keys i
    drop_old i below other = move.keys.others i other (omega arith)

    drop_other : (i : ℕ) → i < n.count → slice_index n.keys i ≢ key
    drop_other i below e =
        let here : slice_index n.places (slice_index n.keys i) ≡ i = move.pairs.own i (omega (arith, before.placed.room)) in
        let wrong : i ≡ h.count - 1 = sym here ∙ ap (slice_index n.places) e ∙ drop_gone in
        omega arith

    pub drop_placed : Placed dues n
    drop_placed = record {
      whole = drop_whole;
      room = omega (arith, before.placed.room);
      pairs = move.pairs;
      due = λ i below. due_still dues key (slice_index n.keys i) (Some moment) (drop_other i below) (due i below (cases_eq i (slice_index h.places key)));
      within = λ other passes. within other passes (cases_eq (slice_index n.places other) (h.count - 1));
    }
      where
        due : (i : ℕ) → i < n.count → (i ≡ slice_index h.places key) ⊎ (i ≢ slice_index h.places key)
            → IsDue (set dues key (Some moment)) (slice_index n.keys i)
        due i below (inl here) = subst (IsDue (set dues key (Some moment))) (sym (ap (slice_index n.keys) here ∙ move.keys.first))
            (before.placed.due (h.count - 1) (omega (arith, drop_place)))
        due i below (inr other) = subst (IsDue (set dues key (Some moment))) (sym (drop_old i below other)) (before.placed.due i (omega arith))

        within : (other : ℕ) → IsDue dues other → (slice_index n.places other ≡ h.count - 1) ⊎ (slice_index n.places other ≢ h.count - 1)
            → slice_index n.places other < n.count
        within other passes (inl end) =
            let found : slice_index n.keys (slice_index n.places other) ≡ other = move.pairs.found other (due_below dues other drop_whole passes) in
            let same : other ≡ key = sym found ∙ ap (slice_index n.keys) end ∙ drop_last in
            absurd (not_due dues key none (subst (IsDue dues) same passes))
        within other passes (inr inside) = each (cases_lt (slice_index n.places other) h.count)
          where
            each : (slice_index n.places other < h.count) ⊎ (h.count ≤ slice_index n.places other) → slice_index n.places other < n.count
            each (inl below) = omega arith
            each (inr past) =
                let small : other < 64 = due_below dues other drop_whole passes in
                let old : slice_index h.places other < h.count =
                before.placed.within other (due_before dues key other (Some moment) (λ e. inside (ap (slice_index n.places) e ∙ drop_gone)) passes) in
                let found : slice_index n.keys (slice_index n.places other) ≡ other = move.pairs.found other small in
                let key_there : slice_index n.keys (slice_index n.places other) ≡ slice_index h.keys (slice_index n.places other) =
                move.keys.others (slice_index n.places other) (omega (arith, drop_place)) inside in
                let own : slice_index h.places (slice_index h.keys (slice_index n.places other)) ≡ slice_index n.places other =
                before.placed.pairs.own (slice_index n.places other) (move.pairs.place other small) in
                absurd (omega (arith, own, ap (slice_index h.places) (sym key_there ∙ found)))

    pub drop_heap : IsHeapAround (ranks dues n) n.count (slice_index h.places key)
    drop_heap = around (ranks (set dues key (Some moment)) h) (ranks dues n) n.count (slice_index h.places key) (λ i pos below. before.heap i pos (omega arith))
        (λ i below other. ap (rank dues) (drop_old i below other) ∙ same_rank dues key (slice_index h.keys i) (Some moment) (drop_apart i (omega arith) other))
