-- A binary heap, as the function from its places to the numbers there.
use Rattle.std.specs.Prelude.{◌≡◌, ◌≢◌, ◌<◌, ◌≤◌, ◌-◌, ◌/◌, ℕ}

-- the place above this one; 0 has none
abbrev pub parent : ℕ → ℕ
parent place = (place - 1) / 2

-- no place below the count has a lesser number than its parent
abbrev pub IsHeap : (ℕ → ℕ) → ℕ → Type 0
IsHeap at count = (i : ℕ) → 0 < i → i < count → at (parent i) ≤ at i

-- the parent of this place has no greater number than the children of the place
abbrev pub IsAcross : (ℕ → ℕ) → ℕ → ℕ → Type 0
IsAcross at count place =
    (i : ℕ) → 0 < i → i < count → parent i ≡ place → 0 < place → at (parent place) ≤ at i

-- a heap, except that this place may have a lesser number than its parent
pub record IsHeapBut (at : ℕ → ℕ) (count place : ℕ) : Type 0 where
  pub pairs : (i : ℕ) → 0 < i → i < count → i ≢ place → at (parent i) ≤ at i
  pub across : IsAcross at count place

-- a heap, except that this place may have a greater number than its children
pub record IsHeapUnder (at : ℕ → ℕ) (count place : ℕ) : Type 0 where
  pub pairs : (i : ℕ) → 0 < i → i < count → parent i ≢ place → at (parent i) ≤ at i
  pub across : IsAcross at count place

-- a heap, except for the number at this place
pub record IsHeapAround (at : ℕ → ℕ) (count place : ℕ) : Type 0 where
  pub pairs : (i : ℕ) → 0 < i → i < count → i ≢ place → parent i ≢ place
      → at (parent i) ≤ at i
  pub across : IsAcross at count place

-- this child has the least number of the children of a place
pub record IsFirstChild (at : ℕ → ℕ) (count place child : ℕ) : Type 0 where
  pub after : 0 < child
  pub within : child < count
  pub under : parent child ≡ place
  pub least : (i : ℕ) → 0 < i → i < count → parent i ≡ place → at child ≤ at i

-- the values of two places are exchanged
pub record Swaps (before after : ℕ → ℕ) (a b : ℕ) : Type 0 where
  pub first : after a ≡ before b
  pub second : after b ≡ before a
  pub others : (i : ℕ) → i ≢ a → i ≢ b → after i ≡ before i
