-- The key whose deadline comes first is the one at the root.
use Rattle.std.proofs.Common.{◌≡◌, ◌∙◌, ◌<◌, ◌≤◌, ◌+◌, ◌*◌, ℕ, List, Option, Some, None, length, get_or, set, slice_get, slice_index, unwrap_or, is_some, true, false, refl, ap, sym, subst, arith}
use Rattle.std.proofs.lemmas.List.{set-set, set-get_or}
use Rattle.std.proofs.lemmas.Bool.{true≢false}
use Rattle.std.proofs.lemmas.Option.{get_or_from_slice_get, slice_get_read}
use Rattle.satip_timer.specs.declared.heap.Heap.{Heap}
use Rattle.satip_timer.specs.Deadlines.{HasDeadline, IsNextDue, NoneDue}
use Rattle.satip_timer.specs.Placed.{rank, ranks, IsDue, Sound}
use Rattle.satip_timer.proofs.HeapLaws.{root_first}
use Rattle.satip_timer.proofs.PlaceLaws.{due_below, get_set_same, not_due}

has_rank : (dues : List (Option ℕ)) (key moment : ℕ) → HasDeadline dues key moment → rank dues key ≡ moment * 64 + key
has_rank dues key moment its = ap (λ o. unwrap_or o 0 * 64 + key) (get_or_from_slice_get dues key (Some moment) None its)

-- no key is in an empty heap
pub empty_none : (now : ℕ) (dues : List (Option ℕ)) (h : Heap) → Sound dues h → h.count ≡ 0 → NoneDue now dues
empty_none now dues h sound empty key moment its =
    let within : slice_index h.places key < h.count = sound.placed.within key (moment, its) in
    absurd (omega arith)

module _ (now : ℕ) (dues : List (Option ℕ)) (h : Heap) (key moment : ℕ) (sound : Sound dues h) (some : 0 < h.count) (root : key ≡ slice_index h.keys 0) where
  pub root_due : IsDue dues key
  root_due = subst (IsDue dues) (sym root) (sound.placed.due 0 some)

  pub root_below : key < 64
  root_below = due_below dues key sound.placed.whole root_due

  module _ (has : HasDeadline dues key moment) where
    least : (other later : ℕ) → HasDeadline dues other later → moment * 64 + key ≤ later * 64 + other
    least other later its =
        let first = root_first (ranks dues h) h.count sound.heap (slice_index h.places other) (sound.placed.within other (later, its)) in
        let found : slice_index h.keys (slice_index h.places other) ≡ other =
        sound.placed.pairs.found other (due_below dues other sound.placed.whole (later, its)) in
        omega (arith, first, ap (rank dues) found, has_rank dues other later its, has_rank dues key moment has, ap (rank dues) root)

    pub root_next : moment ≤ now → IsNextDue now dues key
    root_next passed = record {
      moment = moment;
      its = has;
      passed = passed;
      least = λ other later its. omega (arith, least other later its, root_below, due_below dues other sound.placed.whole (later, its));
      first = λ other later its below. omega (arith, least other later its, root_below);
    }

    pub root_later : now < moment → NoneDue now dues
    root_later later other its has_other = omega (arith, least other its has_other, root_below, due_below dues other sound.placed.whole (its, has_other))

-- a deadline as it was read
module _ (dues : List (Option ℕ)) (key : ℕ) (due : Option ℕ) (read : due ≡ get_or dues key due) (below : key < length dues) where
  pub read_get : slice_get dues key ≡ Some due
  read_get = slice_get_read dues (length dues) key due refl below read

  pub read_due : (moment : ℕ) → due ≡ Some moment → HasDeadline dues key moment
  read_due moment some = read_get ∙ ap Some some

  pub read_none : due ≡ None → IsDue dues key → ⊥
  read_none none its = not_due dues key (read_get ∙ ap Some none) its

  -- the heap was as it is where only this deadline was changed, to what the list now has
  module _ (h : Heap) (now : List (Option ℕ)) (to : Option ℕ) (changed : now ≡ set dues key to) (sound : Sound dues h) where
    changed_back : Sound (set now key due) h
    changed_back =
        let back : set (set dues key to) key due ≡ dues = set-set dues key to due ∙ ap (λ o. set dues key o) read ∙ set-get_or dues key due in
        subst (λ ds. Sound ds h) (sym (ap (λ ds. set ds key due) changed ∙ back)) sound

    pub was_none : is_some due ≡ false → Sound (set now key None) h
    was_none none = each due refl none
      where
        each : (o : Option ℕ) → due ≡ o → is_some o ≡ false → Sound (set now key None) h
        each None is _ = subst (λ o. Sound (set now key o) h) is changed_back
        each (Some moment) is wrong = absurd (true≢false wrong)

    pub was_some : is_some due ≡ true → (moment : ℕ) × Sound (set now key (Some moment)) h
    was_some some = each due refl some
      where
        each : (o : Option ℕ) → due ≡ o → is_some o ≡ true → (moment : ℕ) × Sound (set now key (Some moment)) h
        each None is wrong = absurd (true≢false (sym wrong))
        each (Some moment) is _ = (moment, subst (λ o. Sound (set now key o) h) is changed_back)

pub set_due : (dues now : List (Option ℕ)) (key moment : ℕ) → now ≡ set dues key (Some moment) → key < length dues → IsDue now key
set_due dues now key moment changed below = (moment, ap (λ ds. slice_get ds key) changed ∙ get_set_same dues key (Some moment) below)
