-- What a step up or down leaves of a heap.
use Rattle.std.proofs.Common.{◌≡◌, ◌≢◌, ◌<◌, ◌≤◌, ◌+◌, ◌*◌, ℕ, zero, suc, ap, arith, inl, inr, ◌⊎◌}
use Rattle.std.proofs.lemmas.Bool.{cases_eq}
use Rattle.satip_timer.specs.Heaps.{parent, IsHeap, IsAcross, IsHeapBut, IsHeapUnder, IsHeapAround, Swaps, IsFirstChild}

-- the first place has the least number
pub root_first : (r : ℕ → ℕ) (count : ℕ) → IsHeap r count → (i : ℕ) → i < count → r 0 ≤ r i
root_first r count heap i below = bounded (suc i) i (omega arith) below
  where
    bounded : (bound i : ℕ) → i < bound → i < count → r 0 ≤ r i
    bounded zero i under below = absurd (omega arith)
    bounded (suc bound) zero under below = omega arith
    bounded (suc bound) (suc i) under below =
        let step : r (parent (suc i)) ≤ r (suc i) = heap (suc i) (omega arith) below in
        let rest : r 0 ≤ r (parent (suc i)) = bounded bound (parent (suc i)) (omega arith) (omega arith) in
        omega arith

-- one step up
module _ (r s : ℕ → ℕ) (count at : ℕ) (up : 0 < at) (within : at < count) (heap : IsHeapBut r count at) (less : r at < r (parent at))
    (swap : Swaps r s at (parent at)) where
  risen_pair : (i : ℕ) → 0 < i → i < count → i ≢ parent at → s (parent i) ≤ s i
  risen_pair i pos below apart = first (cases_eq i at)
    where
      third : i ≢ at → parent i ≢ at → (parent i ≡ parent at) ⊎ (parent i ≢ parent at) → s (parent i) ≤ s i
      third other aside (inl same) =
          let pair : r (parent i) ≤ r i = heap.pairs i pos below other in
          omega (arith, ap s same, ap r same, swap.others i other apart)
      third other aside (inr beside) =
          let pair : r (parent i) ≤ r i = heap.pairs i pos below other in
          omega (arith, swap.others i other apart, swap.others (parent i) aside beside)

      second : i ≢ at → (parent i ≡ at) ⊎ (parent i ≢ at) → s (parent i) ≤ s i
      second other (inl same) =
          let over : r (parent at) ≤ r i = heap.across i pos below same up in
          omega (arith, ap s same, swap.others i other apart)
      second other (inr aside) = third other aside (cases_eq (parent i) (parent at))

      first : (i ≡ at) ⊎ (i ≢ at) → s (parent i) ≤ s i
      first (inl same) = omega (arith, ap s same, ap (λ k. s (parent k)) same)
      first (inr other) = second other (cases_eq (parent i) at)

  risen_across : IsAcross s count (parent at)
  risen_across i pos below under higher = each (cases_eq i at)
    where
      top : s (parent (parent at)) ≡ r (parent (parent at))
      top = swap.others (parent (parent at)) (omega arith) (omega arith)

      over : r (parent (parent at)) ≤ r (parent at)
      over = heap.pairs (parent at) higher (omega arith) (omega arith)

      each : (i ≡ at) ⊎ (i ≢ at) → s (parent (parent at)) ≤ s i
      each (inl same) = omega (arith, top, over, ap s same)
      each (inr other) =
          let pair : r (parent i) ≤ r i = heap.pairs i pos below other in
          omega (arith, top, over, ap r under, swap.others i other (omega arith))

  pub risen : IsHeapBut s count (parent at)
  risen = record { pairs = risen_pair; across = risen_across }

-- one step down, to the first child
module _ (r s : ℕ → ℕ) (count at child : ℕ) (heap : IsHeapUnder r count at) (first : IsFirstChild r count at child) (less : r child < r at)
    (swap : Swaps r s at child) where
  sunk_pair : (i : ℕ) → 0 < i → i < count → parent i ≢ child → s (parent i) ≤ s i
  sunk_pair i pos below apart = here (cases_eq i at)
    where
      last : i ≢ at → i ≢ child → (parent i ≡ at) ⊎ (parent i ≢ at) → s (parent i) ≤ s i
      last other beside (inl same) =
          let least : r child ≤ r i = first.least i pos below same in
          omega (arith, ap s same, swap.others i other beside)
      last other beside (inr aside) =
          let pair : r (parent i) ≤ r i = heap.pairs i pos below aside in
          omega (arith, swap.others i other beside, swap.others (parent i) aside apart)

      there : i ≢ at → (i ≡ child) ⊎ (i ≢ child) → s (parent i) ≤ s i
      there other (inl same) = omega (arith, ap s same, ap (λ k. s (parent k)) same, ap s first.under)
      there other (inr beside) = last other beside (cases_eq (parent i) at)

      here : (i ≡ at) ⊎ (i ≢ at) → s (parent i) ≤ s i
      here (inl same) =
          let higher : 0 < at = omega arith in
          let over : r (parent at) ≤ r child = heap.across child first.after first.within first.under higher in
          omega (arith, ap s same, ap (λ k. s (parent k)) same, swap.others (parent at) (omega arith) (omega (arith, first.under)))
      here (inr other) = there other (cases_eq i child)

  sunk_across : IsAcross s count child
  sunk_across i pos below under higher =
      let pair : r (parent i) ≤ r i = heap.pairs i pos below (omega (arith, first.under)) in
      omega (arith, ap r under, ap s first.under, swap.others i (omega (arith, first.under)) (omega arith))

  pub sunk : IsHeapUnder s count child
  sunk = record { pairs = sunk_pair; across = sunk_across }

-- where the steps end
pub risen_enough : (r : ℕ → ℕ) (count at : ℕ) → IsHeapBut r count at → (0 < at → r (parent at) ≤ r at) → IsHeap r count
risen_enough r count at heap enough i pos below = each (cases_eq i at)
  where
    each : (i ≡ at) ⊎ (i ≢ at) → r (parent i) ≤ r i
    each (inl same) =
        let up : r (parent at) ≤ r at = enough (omega arith) in
        omega (arith, ap r same, ap (λ k. r (parent k)) same)
    each (inr other) = heap.pairs i pos below other

pub at_bottom : (r : ℕ → ℕ) (count at : ℕ) → IsHeapUnder r count at → count ≤ 2 * at + 1 → IsHeap r count
at_bottom r count at heap bottom i pos below = heap.pairs i pos below (omega arith)

pub sunk_enough : (r : ℕ → ℕ) (count at child : ℕ) → IsHeapUnder r count at → IsFirstChild r count at child → r at ≤ r child → IsHeap r count
sunk_enough r count at child heap first enough i pos below = each (cases_eq (parent i) at)
  where
    each : (parent i ≡ at) ⊎ (parent i ≢ at) → r (parent i) ≤ r i
    each (inl same) =
        let least : r child ≤ r i = first.least i pos below same in
        omega (arith, ap r same)
    each (inr aside) = heap.pairs i pos below aside

-- one number has changed: where it is less than its parent's it may only rise, and else only sink
pub around : (r s : ℕ → ℕ) (count at : ℕ) → IsHeap r count → ((i : ℕ) → i < count → i ≢ at → s i ≡ r i) → IsHeapAround s count at
around r s count at heap same = record {
  pairs = λ i pos below other aside.
      let pair : r (parent i) ≤ r i = heap i pos below in
      omega (arith, same i below other, same (parent i) (omega arith) aside);
  across = λ i pos below under higher.
      let lower : r (parent i) ≤ r i = heap i pos below in
      let upper : r (parent at) ≤ r at = heap at higher (omega arith) in
      omega (arith, ap r under, same i below (omega arith), same (parent at) (omega arith) (omega arith));
}

pub may_rise : (r : ℕ → ℕ) (count at : ℕ) → 0 < at → IsHeapAround r count at → r at < r (parent at) → IsHeapBut r count at
may_rise r count at up heap less = record {
  pairs = λ i pos below other. each i pos below other (cases_eq (parent i) at);
  across = heap.across;
}
  where
    each : (i : ℕ) → 0 < i → i < count → i ≢ at → (parent i ≡ at) ⊎ (parent i ≢ at) → r (parent i) ≤ r i
    each i pos below other (inl same) =
        let over : r (parent at) ≤ r i = heap.across i pos below same up in
        omega (arith, ap r same)
    each i pos below other (inr aside) = heap.pairs i pos below other aside

pub may_sink : (r : ℕ → ℕ) (count at : ℕ) → IsHeapAround r count at → (0 < at → r (parent at) ≤ r at) → IsHeapUnder r count at
may_sink r count at heap enough = record {
  pairs = λ i pos below aside. each i pos below aside (cases_eq i at);
  across = heap.across;
}
  where
    each : (i : ℕ) → 0 < i → i < count → parent i ≢ at → (i ≡ at) ⊎ (i ≢ at) → r (parent i) ≤ r i
    each i pos below aside (inl same) =
        let up : r (parent at) ≤ r at = enough (omega arith) in
        omega (arith, ap r same, ap (λ k. r (parent k)) same)
    each i pos below aside (inr other) = heap.pairs i pos below other aside

-- one more number at the end
pub longer : (r s : ℕ → ℕ) (count : ℕ) → IsHeap r count → ((i : ℕ) → i < count → s i ≡ r i) → IsHeapBut s (count + 1) count
longer r s count heap same = record {
  pairs = λ i pos below other.
      let pair : r (parent i) ≤ r i = heap i pos (omega arith) in
      omega (arith, same i (omega arith), same (parent i) (omega arith));
  across = λ i pos below under higher. absurd (omega arith);
}

-- the number that has changed is behind the others
pub at_end : (r : ℕ → ℕ) (count at : ℕ) → count ≤ at → IsHeapAround r count at → IsHeap r count
at_end r count at past heap i pos below = heap.pairs i pos below (omega arith) (omega arith)
