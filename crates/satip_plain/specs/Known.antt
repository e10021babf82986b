-- What a caller knows of the history, and how that grows.
use Rattle.std.specs.Prelude.{◌≡◌, ℕ, ◌⊎◌, List, [], ◌∷◌, ◌++◌}
use Rattle.satip_plain.specs.Histories.{Item}

-- the entries that the caller has seen, its own entries, and the count of entries of the history that it has seen;
-- the count is larger if the history has entries of other kinds too
pub record Known : Type 0 where
  pub seen : List Item
  pub own : List Item
  pub length : ℕ

-- the second entries contain the first, in the same order
abbrev pub AreAmong : List Item → List Item → Type 0
AreAmong new [] = new ≡ []
AreAmong new (e ∷ es) = AreAmong new es ⊎ ((rest : List Item) × (new ≡ e ∷ rest) × AreAmong rest es)

-- the entries seen grew and end with the new entry, which is the caller's own
pub record Adds (k l : Known) (new : Item) : Type 0 where
  pub between : List Item
  pub seen : l.seen ≡ (k.seen ++ between) ++ new ∷ []
  pub own : l.own ≡ k.own ++ new ∷ []

-- the entries seen may have grown; the caller's own are the same as before
pub record AddsNone (k l : Known) : Type 0 where
  pub more : List Item
  pub seen : l.seen ≡ k.seen ++ more
  pub own : l.own ≡ k.own

-- the entries seen grew; the new entries are the caller's own, and are among the added ones in the same order
pub record AddsAll (k l : Known) (new : List Item) : Type 0 where
  pub more : List Item
  pub seen : l.seen ≡ k.seen ++ more
  pub among : AreAmong new more
  pub own : l.own ≡ k.own ++ new
