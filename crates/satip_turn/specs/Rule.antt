-- The rule of the cell's table.
use Rattle.std.specs.Prelude.{◌≡◌, ◌⊎◌, ℕ, ◌+◌, ◌^◌, ◌<◌, ◌==◌, Bool, true, false, List, [], ◌∷◌, ◌++◌, length, Some, nat_lt}
use mathlib.Core.Option.{some}
use lib.ListN.{get_elem?}
use Rattle.atomic_table.specs.Table.{State}
use Rattle.std.specs.declared.boxed.Box.{Box}
use Rattle.satip_base.specs.declared.entry.Entry.{Entry}
use Rattle.satip_base.specs.Lists.{Each, Has, Begins}
use Rattle.satip_turn.specs.declared.view.View.{View}
use Rattle.satip_turn.specs.declared.view.Content.{Content}
use Rattle.satip_turn.specs.declared.view.Content.TheVariants.{Home}
use Rattle.satip_turn.specs.Views.{held, holders, numbers}
use Rattle.satip_turn.specs.Faithful.{AreOwnIn}

-- the setting of the value in a box
abbrev pub in_box : {C X Z : Type 0} → (X → C) → Box X Z → C
in_box setting_of b = setting_of b.value

-- the value in the box stands for the history
abbrev pub stands_in_box : {H X Z : Type 0} → (X → H → Type 0) → Box X Z → H → Type 0
stands_in_box stands b h = stands b.value h

-- 1 if the test holds, else 0
abbrev pub one_if : Bool → ℕ
one_if true = 1
one_if false = 0

-- the count of n in a list
abbrev pub times : ℕ → List ℕ → ℕ
times n [] = 0
times n (x ∷ xs) = one_if (x == n) + times n xs

-- the sum of f over the list
abbrev pub total : {T : Type 0} → (T → ℕ) → List T → ℕ
total f [] = 0
total f (x ∷ xs) = f x + total f xs

-- the rule for a view that isn't spent, with this history and this count of numbers
pub record IsGood {E A O C : Type 0} (legal : C → List (Entry E A O) → Type 0) (c : C) (log : List (Entry E A O)) (count : ℕ) (v : View E A O C) : Type 0 where
  pub setting : v.setting ≡ Some c
  pub begins : Begins v.seen log
  pub lawful : legal c v.seen
  pub in_log : AreOwnIn log (held v ++ v.drawn)
  pub in_seen : AreOwnIn v.seen (held v ++ v.drawn)
  pub made : Each (λ n. n < count) v.made
  pub heard : Each (λ h. Begins h v.seen) v.heard

-- a view that answers for a lesser number has made n
pub record HasParent {E A O C : Type 0} (views : List (View E A O C)) (n : ℕ) : Type 0 where
  pub number : ℕ
  pub lesser : number < n
  pub seat : ℕ
  pub view : View E A O C
  pub at : get_elem? views seat ≡ some view
  pub holds : Has number (holders view)
  pub made : Has n view.made

-- the rule for all views
pub record AreViews {E A O C : Type 0} (legal : C → List (Entry E A O) → Type 0) (c : C) (log : List (Entry E A O)) (count : ℕ) (views : List (View E A O C)) : Type 0 where
  pub below : Each (λ e. e.caller < count) log
  pub good : (j : ℕ) (v : View E A O C) → get_elem? views j ≡ some v → v.spent ≡ false → IsGood legal c log count v
  pub once : (n : ℕ) → total (λ v. times n (numbers v)) views ≡ one_if (nat_lt n count)
  pub parents : (n : ℕ) → 0 < n → n < count → HasParent views n

-- no view holds the turn, and the value in the slot stands for the history
pub record IsFree {E A O C X : Type 0} (setting_of : X → C) (stands : X → List (Entry E A O) → Type 0) (c : C) (log : List (Entry E A O)) (s : State (Content X E A O) (View E A O C)) : Type 0 where
  pub value : X
  pub home : s.homes ≡ some (Home value) ∷ []
  pub setting : setting_of value ≡ c
  pub stands_for : stands value log
  pub nobody : (j : ℕ) (v : View E A O C) → get_elem? s.views j ≡ some v → v.turn ≡ false

-- exactly one view holds the turn, and it knows the whole history
pub record IsBusy {E A O C : Type 0} (log : List (Entry E A O)) (views : List (View E A O C)) : Type 0 where
  pub seat : ℕ
  pub view : View E A O C
  pub at : get_elem? views seat ≡ some view
  pub turn : view.turn ≡ true
  pub whole : view.whole ≡ log
  pub alone : (j : ℕ) (v : View E A O C) → get_elem? views j ≡ some v → v.turn ≡ true → j ≡ seat

-- the rule of the table: word 0 is the turn, word 1 the length of the one history
pub record Kept {E A O C X : Type 0} (setting_of : X → C) (legal : C → List (Entry E A O) → Type 0) (stands : X → List (Entry E A O) → Type 0) (c : C) (s : State (Content X E A O) (View E A O C)) : Type 0 where
  pub log : List (Entry E A O)
  pub count : ℕ
  pub turn : ℕ
  pub words : s.words ≡ turn ∷ length log ∷ []
  pub fits : length log < 2 ^ 64
  pub lawful : legal c log
  pub views : AreViews legal c log count s.views
  pub held : ((turn ≡ 0) × IsFree setting_of stands c log s) ⊎ ((turn ≡ 1) × IsBusy log s.views)
