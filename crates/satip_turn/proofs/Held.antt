-- Who holds the turn, where a view changes.
use Rattle.std.proofs.Common.{◌≡◌, ◌≢◌, ℕ, Bool, true, false, true≢false, List, [], ◌∷◌, ◌++◌, length, set, refl, sym, ap, ◌∙◌, subst, ⊎_elim, arith}
use Rattle.std.proofs.lemmas.Bool.{false_from_ne_true}
use mathlib.Core.Option.{some}
use lib.ListN.{get_elem?}
use Rattle.atomic_table.proofs.Lists.{at_set, set_else, at_snoc}
use Rattle.satip_base.specs.declared.entry.Entry.{Entry}
use Rattle.satip_turn.specs.declared.view.View.{View}
use Rattle.satip_turn.specs.Rule.{IsBusy}
use Rattle.satip_turn.proofs.Counts.{same_at}
use Rattle.satip_turn.proofs.Moves.{set_there}

-- a test that is both
pub both_ways : {P : Type 0} (b : Bool) → b ≡ true → b ≡ false → P
both_ways b t f = absurd (true≢false (sym t ∙ f))

pub no_turn : {E A O C : Type 0} (views : List (View E A O C)) (j : ℕ) (w : View E A O C)
    → ((i : ℕ) (u : View E A O C) → i ≢ j → get_elem? views i ≡ some u → u.turn ≡ false) → w.turn ≡ false
    → (i : ℕ) (u : View E A O C) → get_elem? (set views j w) i ≡ some u → u.turn ≡ false
no_turn {E} {A} {O} {C} views j w others mine i u e = ⊎_elim
    (λ (t : (i ≡ j) × (w ≡ u)). subst (λ (x : View E A O C). x.turn ≡ false) t.1 mine)
    (λ (t : (i ≢ j) × (get_elem? views i ≡ some u)). others i u t.0 t.1)
    (at_set views j i w u e)

module _ {E A O C : Type 0} (log log' : List (Entry E A O)) (views : List (View E A O C)) (j : ℕ) (v w : View E A O C) (b : IsBusy log views)
    (at : get_elem? views j ≡ some v) where
  -- the view that holds the turn is the holder's
  pub holder_is : v.turn ≡ true → b.view ≡ v
  holder_is holds = same_at views j b.view v (subst (λ i. get_elem? views i ≡ some b.view) (sym (b.alone j v at holds)) b.at) at

  pub holder_knows : v.turn ≡ true → v.whole ≡ log
  holder_knows holds = ap (λ (u : View E A O C). u.whole) (sym (holder_is holds)) ∙ b.whole

  -- another view changes
  pub busy_stays : v.turn ≡ false → w.turn ≡ false → IsBusy log (set views j w)
  busy_stays idle idle' = record {
    seat = b.seat;
    view = b.view;
    at = set_else views j b.seat w
        (λ same.
        let is : b.view ≡ v = same_at views j b.view v (subst (λ i. get_elem? views i ≡ some b.view) same b.at) at in
        both_ways v.turn (ap (λ (u : View E A O C). u.turn) (sym is) ∙ b.turn) idle)
        ∙ b.at;
    turn = b.turn;
    whole = b.whole;
    alone = λ i u e holds. ⊎_elim
        (λ (t : (i ≡ j) × (w ≡ u)). both_ways w.turn (ap (λ (x : View E A O C). x.turn) t.1 ∙ holds) idle')
        (λ (t : (i ≢ j) × (get_elem? views i ≡ some u)). b.alone i u t.1 holds)
        (at_set views j i w u e);
  }

  -- the holder's view changes, and it still holds the turn
  pub busy_moves : v.turn ≡ true → w.turn ≡ true → w.whole ≡ log' → IsBusy log' (set views j w)
  busy_moves holds holds' whole = record {
    seat = j;
    view = w;
    at = set_there views j v w at;
    turn = holds';
    whole = whole;
    alone = λ i u e turn. ⊎_elim
        (λ (t : (i ≡ j) × (w ≡ u)). t.0)
        (λ (t : (i ≢ j) × (get_elem? views i ≡ some u)). b.alone i u t.1 turn ∙ sym (b.alone j v at holds))
        (at_set views j i w u e);
  }

  -- the holder gives it up, and then nobody holds it
  pub nobody_holds : v.turn ≡ true → w.turn ≡ false → (i : ℕ) (u : View E A O C) → get_elem? (set views j w) i ≡ some u → u.turn ≡ false
  nobody_holds holds idle = no_turn views j w
      (λ i u apart e. false_from_ne_true u.turn (λ turn. apart (b.alone i u e turn ∙ sym (b.alone j v at holds)))) idle

-- the holder is new, where nobody held the turn
pub busy_begins : {E A O C : Type 0} (log : List (Entry E A O)) (views : List (View E A O C)) (j : ℕ) (v w : View E A O C)
    → ((i : ℕ) (u : View E A O C) → get_elem? views i ≡ some u → u.turn ≡ false) → get_elem? views j ≡ some v
    → w.turn ≡ true → w.whole ≡ log → IsBusy log (set views j w)
busy_begins {E} {A} {O} {C} log views j v w nobody at holds whole = record {
  seat = j;
  view = w;
  at = set_there views j v w at;
  turn = holds;
  whole = whole;
  alone = λ i u e turn. ⊎_elim
      (λ (t : (i ≡ j) × (w ≡ u)). t.0)
      (λ (t : (i ≢ j) × (get_elem? views i ≡ some u)). both_ways u.turn turn (nobody i u t.1))
      (at_set views j i w u e);
}

-- one more view, which doesn't hold it
pub busy_grows : {E A O C : Type 0} (log : List (Entry E A O)) (views : List (View E A O C)) (w : View E A O C) → IsBusy log views → w.turn ≡ false
    → IsBusy log (views ++ w ∷ [])
busy_grows {E} {A} {O} {C} log views w b idle = record {
  seat = b.seat;
  view = b.view;
  at = Rattle.atomic_table.proofs.Lists.at_longer views (w ∷ []) b.seat b.view b.at;
  turn = b.turn;
  whole = b.whole;
  alone = λ i u e turn. ⊎_elim
      (λ (t : get_elem? views i ≡ some u). b.alone i u t turn)
      (λ (t : w ≡ u). both_ways w.turn (ap (λ (x : View E A O C). x.turn) t ∙ turn) idle)
      (at_snoc views w u i e);
}

-- a list of one place, once that is set
pub only_place : {T : Type 0} (hs : List T) (x : T) → length hs ≡ 1 → set hs 0 x ≡ x ∷ []
only_place [] x e = absurd (omega arith)
only_place (h ∷ []) x e = refl
only_place (h ∷ k ∷ hs) x e = absurd (omega arith)
