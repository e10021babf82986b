-- A cell and a pass, as contracts see them.
use Rattle.std.specs.Prelude.{◌≡◌, ℕ, ◌+◌, ◌<◌, Bool, false, List, [], ◌∷◌, ◌++◌, length, Option, Some}
use Rattle.atomic_table.specs.Seated.{TableId}
use Rattle.satip_base.specs.declared.entry.Entry.{Entry}
use Rattle.satip_base.specs.declared.entry.Taken.{Taken}
use Rattle.satip_base.specs.Lists.{Has}
use Rattle.satip_base.specs.History.{own_of, entries}
use Rattle.satip_turn.specs.declared.view.Row.{Row}
use Rattle.satip_turn.specs.declared.view.View.{View}
use Rattle.satip_turn.specs.Views.{row, numbers_of}
use Rattle.satip_turn.specs.Faithful.{IsFaithful}
use Rattle.satip_turn.specs.Steps.{longer}

-- the identity of the cell, and the setting of the value with which it was created
pub record Cell (C : Type 0) : Type 0 where
  pub identity : TableId
  pub setting : C

-- a pass: its cell and that cell's setting; whether it holds the turn; its caller number; the prefix of the history that it has seen; its own entries;
-- a row of each pass joined into it; the numbers of the passes split off from it or from a pass joined into it;
-- the counts of tries that found the turn taken and of looks at the whole history; that history at the last look
pub record Shown (E A O C : Type 0) : Type 0 where
  pub cell : TableId
  pub setting : Option C
  pub turn : Bool
  pub number : ℕ
  pub seen : List (Entry E A O)
  pub own : List (Entry E A O)
  pub kept : List (Row E A O)
  pub made : List ℕ
  pub met : ℕ
  pub looks : ℕ
  pub looked : List (Entry E A O)

-- the view of a seat, as a pass shows it
abbrev pub shown : {E A O C : Type 0} → TableId → View E A O C → Shown E A O C
shown cell v = record {
  cell = cell;
  setting = v.setting;
  turn = v.turn;
  number = v.number;
  seen = v.seen;
  own = v.own;
  kept = v.kept;
  made = v.made;
  met = v.met;
  looks = v.looks;
  looked = v.looked;
}

-- the pass belongs to the cell
pub record IsOf {E A O C : Type 0} (p : Shown E A O C) (k : Cell C) : Type 0 where
  pub cell : p.cell ≡ k.identity
  pub setting : p.setting ≡ Some k.setting

-- the first pass of a cell: caller 0, with nothing seen
abbrev pub first_pass : {E A O C : Type 0} → Cell C → Shown E A O C
first_pass k = record {
  cell = k.identity;
  setting = Some k.setting;
  turn = false;
  number = 0;
  seen = [];
  own = [];
  kept = [];
  made = [];
  met = 0;
  looks = 0;
  looked = [];
}

-- the caller number, the kept rows and the numbers of the passes made are the same
pub record Keeps {E A O C : Type 0} (p q : Shown E A O C) : Type 0 where
  pub number : q.number ≡ p.number
  pub kept : q.kept ≡ p.kept
  pub made : q.made ≡ p.made

-- the history seen is legal and short, and its entries of the pass and of each pass joined into it are exactly their own
abbrev pub Knows : {E A O C : Type 0} → (List (Entry E A O) → Type 0) → Shown E A O C → Type 0
Knows legal p = IsFaithful legal p.number p.seen p.own p.kept p.made

-- the pass had the turn: it looked once at the whole history, of which it had seen a prefix, and added these entries directly after it
pub record Turned {E A O C : Type 0} (p q : Shown E A O C) (new : List (Entry E A O)) : Type 0 where
  pub between : List (Entry E A O)
  pub looked : q.looked ≡ p.seen ++ between
  pub seen : q.seen ≡ q.looked ++ new
  pub own : q.own ≡ p.own ++ new
  pub looks : q.looks ≡ p.looks + 1

-- the pass looked once at the whole history, of which it had seen a prefix, and has now seen exactly that
pub record Looked {E A O C : Type 0} (p q : Shown E A O C) : Type 0 where
  pub between : List (Entry E A O)
  pub looked : q.looked ≡ p.seen ++ between
  pub seen : q.seen ≡ q.looked
  pub own : q.own ≡ p.own
  pub looks : q.looks ≡ p.looks + 1

-- the pass had one turn for `made` entries, which are those that were taken
pub record Bursts {E A O C : Type 0} (has_taken : List (Taken E A O) → Type 0) (p q : Shown E A O C) (made : ℕ) : Type 0 where
  pub taken : List (Taken E A O)
  pub has : has_taken taken
  pub count : length taken ≡ made
  pub turned : Turned p q (entries p.number taken)

-- the pass found the turn taken once, and nothing else changed
abbrev pub met_once : {E A O C : Type 0} → Shown E A O C → Shown E A O C
met_once p = record p { met = p.met + 1 }

-- the number isn't of the pass or of one joined into it; the pass made no pass with it, and saw no entry of it
pub record IsUnused {E A O C : Type 0} (p : Shown E A O C) (n : ℕ) : Type 0 where
  pub positive : 0 < n
  pub not_held : ¬ (Has n (p.number ∷ numbers_of p.kept))
  pub not_made : ¬ (Has n p.made)
  pub not_seen : own_of n p.seen ≡ []

-- the pass after it made a pass of this number
abbrev pub with_made : {E A O C : Type 0} → Shown E A O C → ℕ → Shown E A O C
with_made p n = record p { made = p.made ++ n ∷ [] }

-- a new pass of this number: it has seen what its parent has, and made no call
abbrev pub newborn : {E A O C : Type 0} → Shown E A O C → ℕ → Shown E A O C
newborn p n = record {
  cell = p.cell;
  setting = p.setting;
  turn = false;
  number = n;
  seen = p.seen;
  own = [];
  kept = [];
  made = [];
  met = 0;
  looks = 0;
  looked = [];
}

-- the pass after another was joined into it
abbrev pub joined : {E A O C : Type 0} → Shown E A O C → Shown E A O C → Shown E A O C
joined p q = record p {
  seen = longer p.seen q.seen;
  kept = p.kept ++ row q.number q.own ∷ q.kept;
  made = p.made ++ q.made;
}
