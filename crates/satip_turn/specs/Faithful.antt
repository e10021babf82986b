-- Facts that hold of each pass between its calls.
use Rattle.std.specs.Prelude.{◌≡◌, ℕ, ◌^◌, ◌<◌, List, [], ◌∷◌, length, Some}
use Rattle.satip_base.specs.declared.entry.Entry.{Entry}
use Rattle.satip_base.specs.Lists.{Each, Has}
use Rattle.satip_base.specs.History.{own_of}
use Rattle.satip_turn.specs.declared.view.Row.{Row}
use Rattle.satip_turn.specs.declared.view.View.{View}
use Rattle.satip_turn.specs.Views.{numbers_of}

-- the rows' entries are those of their numbers in h
abbrev pub AreOwnIn : {E A O : Type 0} → List (Entry E A O) → List (Row E A O) → Type 0
AreOwnIn h rs = Each (λ r. own_of r.number h ≡ r.own) rs

-- no number is in the list twice
abbrev pub AreApart : List ℕ → Type 0
AreApart [] = Unit {0}
AreApart (n ∷ ns) = ¬ (Has n ns) × AreApart ns

-- the history seen is legal, of at most 2^64 - 1 entries; its entries of the pass and of each pass joined into it are exactly their own;
-- if the first pass has joined all passes that it made, the caller of each entry is joined into it
pub record IsFaithful {E A O : Type 0} (legal : List (Entry E A O) → Type 0) (number : ℕ) (seen own : List (Entry E A O)) (kept : List (Row E A O)) (made : List ℕ) : Type 0 where
  pub lawful : legal seen
  pub short : length seen < 2 ^ 64
  pub own_is : own_of number seen ≡ own
  pub kept_are : AreOwnIn seen kept
  pub apart : AreApart (number ∷ numbers_of kept)
  pub covered : number ≡ 0 → Each (λ n. Has n (numbers_of kept)) made → Each (λ e. Has e.caller (0 ∷ numbers_of kept)) seen

-- the same facts of a view
pub record IsSound {E A O C : Type 0} (legal : C → List (Entry E A O) → Type 0) (v : View E A O C) : Type 0 where
  pub of : C
  pub setting : v.setting ≡ Some of
  pub faithful : IsFaithful (legal of) v.number v.seen v.own v.kept v.made
