-- The rule of all views where one of them changes.
use Rattle.std.proofs.Common.{◌≡◌, ◌≢◌, ℕ, zero, suc, ◌<◌, ◌≤◌, false, nat_lt, List, [], ◌∷◌, set, refl, sym, ◌∙◌, subst, ⊎_elim, lt_of_not-le, arith}
use Rattle.std.proofs.lemmas.Bool.Decides.{eqb_tells}
use mathlib.Core.Option.{some, some-ne-none}
use lib.ListN.{get_elem?}
use native.Mathlib.Decide.{dec_le}
use Rattle.atomic_table.proofs.Lists.{at_set, set_else}
use Rattle.satip_base.specs.declared.entry.Entry.{Entry}
use Rattle.satip_base.specs.Lists.{Each, Has}
use Rattle.satip_turn.specs.declared.view.View.{View}
use Rattle.satip_turn.specs.Views.{holders, numbers}
use Rattle.satip_turn.specs.Rule.{one_if, times, total, IsGood, HasParent, AreViews}
use Rattle.satip_turn.proofs.Counts.{total_set, same_at}

pub set_there : {T : Type 0} (xs : List T) (j : ℕ) (v w : T) → get_elem? xs j ≡ some v → get_elem? (set xs j w) j ≡ some w
set_there [] j v w e = absurd (some-ne-none v (sym e))
set_there (x ∷ xs) zero v w e = refl
set_there (x ∷ xs) (suc j) v w e = set_there xs j v w e

-- a parent stays one where its view goes on to answer for its numbers and to have made what it made
pub parent_moves : {E A O C : Type 0} (views : List (View E A O C)) (j : ℕ) (v w : View E A O C) → get_elem? views j ≡ some v
    → ((n : ℕ) → Has n (holders v) → Has n (holders w)) → ((n : ℕ) → Has n v.made → Has n w.made)
    → (n : ℕ) → HasParent views n → HasParent (set views j w) n
parent_moves {E} {A} {O} {C} views j v w at holds made n p = ⊎_elim
    (λ t.
    let at' : get_elem? views j ≡ some p.view = subst (λ i. get_elem? views i ≡ some p.view) t.1 p.at in
    let is : p.view ≡ v = same_at views j p.view v at' at in
    record {
      number = p.number;
      lesser = p.lesser;
      seat = j;
      view = w;
      at = set_there views j v w at;
      holds = holds p.number (subst (λ (u : View E A O C). Has p.number (holders u)) is p.holds);
      made = made n (subst (λ (u : View E A O C). Has n u.made) is p.made);
    })
    (λ t. record {
      number = p.number;
      lesser = p.lesser;
      seat = p.seat;
      view = p.view;
      at = set_else views j p.seat w t.1 ∙ p.at;
      holds = p.holds;
      made = p.made;
    })
    (eqb_tells p.seat j)

module _ {E A O C : Type 0} (legal : C → List (Entry E A O) → Type 0) (c : C) (log log' : List (Entry E A O)) (count count' : ℕ) (views : List (View E A O C))
    (j : ℕ) (v w : View E A O C) where
  -- a view changes, and so may the history and the count
  pub moves : AreViews legal c log count views → get_elem? views j ≡ some v
      → Each (λ e. e.caller < count') log'
      → ((i : ℕ) (u : View E A O C) → i ≢ j → get_elem? views i ≡ some u → u.spent ≡ false → IsGood legal c log count u → IsGood legal c log' count' u)
      → (w.spent ≡ false → IsGood legal c log' count' w)
      → ((n : ℕ) → total (λ u. times n (numbers u)) (set views j w) ≡ one_if (nat_lt n count'))
      → ((n : ℕ) → Has n (holders v) → Has n (holders w)) → ((n : ℕ) → Has n v.made → Has n w.made)
      → ((n : ℕ) → 0 < n → count ≤ n → n < count' → HasParent (set views j w) n)
      → AreViews legal c log' count' (set views j w)
  moves all at below others good once holds made born = record {
    below = below;
    good = λ i u e live. ⊎_elim
        (λ (t : (i ≡ j) × (w ≡ u)). subst (IsGood legal c log' count') t.1 (good (subst (λ (x : View E A O C). x.spent ≡ false) (sym t.1) live)))
        (λ (t : (i ≢ j) × (get_elem? views i ≡ some u)). others i u t.0 t.1 live (all.good i u t.1 live))
        (at_set views j i w u e);
    once = once;
    parents = λ n positive less. parent n positive less (dec_le count n);
  }
    where
      parent : (n : ℕ) → 0 < n → n < count' → Dec (count ≤ n) → HasParent (set views j w) n
      parent n positive less (yes le) = born n positive le less
      parent n positive less (no gt) = parent_moves views j v w at holds made n (all.parents n positive (lt_of_not-le gt))

module _ {E A O C : Type 0} (legal : C → List (Entry E A O) → Type 0) (c : C) (log : List (Entry E A O)) (count : ℕ) (views : List (View E A O C)) (j : ℕ)
    (v w : View E A O C) where
  -- a view changes, and the history and all numbers stay
  pub moves_alone : AreViews legal c log count views → get_elem? views j ≡ some v
      → (w.spent ≡ false → IsGood legal c log count w)
      → ((n : ℕ) → times n (numbers w) ≡ times n (numbers v))
      → ((n : ℕ) → Has n (holders v) → Has n (holders w)) → ((n : ℕ) → Has n v.made → Has n w.made)
      → AreViews legal c log count (set views j w)
  moves_alone all at good same holds made =
      moves legal c log log count count views j v w all at all.below (λ i u apart e live g. g) good
      (λ n.
      let s = total_set (λ (u : View E A O C). times n (numbers u)) views j v w at in
      let o = all.once n in let q = same n in omega arith)
      holds made (λ n positive le less. absurd (omega arith))
