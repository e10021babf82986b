-- A counter's history with one more entry, for the tests.
use Rattle.std.proofs.Common.{◌≡◌, ◌∙◌, ℕ, List, [], ◌∷◌, ◌++◌, append-nil, length, ap, refl, sym}
use Rattle.satip_base.specs.declared.entry.Entry.{Entry}
use Rattle.satip_turn.specs.Shown.{Shown, joined}
use Rattle.satip_turn.specs.Views.{row}
use Rattle.satip_sharing_tests.specs.Counted.{more, sum_after, IsCounted, KeepsOne}

pub counted_more : (a : ℕ) (h : List (Entry ℕ ℕ (Unit {0}))) (e : Entry ℕ ℕ (Unit {0})) → IsCounted a h → e.answer ≡ more (sum_after a h) e.event
    → IsCounted a (h ++ e ∷ [])
counted_more a [] e right is = (is, tt)
counted_more a (x ∷ xs) e right is = (right.0, counted_more (more a x.event) xs e right.1 is)

pub sum_after-push : (a : ℕ) (h : List (Entry ℕ ℕ (Unit {0}))) (e : Entry ℕ ℕ (Unit {0})) → sum_after a (h ++ e ∷ []) ≡ more (sum_after a h) e.event
sum_after-push a [] e = refl
sum_after-push a (x ∷ xs) e = sum_after-push (more a x.event) xs e

-- a pass that made one entry was joined into the one that had made it
pub keeps_one : {E A O C : Type 0} → (o a b n : Shown E A O C) (number : ℕ) → a.kept ≡ o.kept → a.made ≡ o.made ++ number ∷ [] → b.number ≡ number
    → length b.own ≡ 1 → b.kept ≡ [] → b.made ≡ [] → n ≡ joined a b → KeepsOne o n
keeps_one o a b n number kept made is one none_kept none_made join = record {
  row = row b.number b.own;
  kept = ap (λ x. x.kept) join ∙ ap (λ k. k ++ row b.number b.own ∷ b.kept) kept ∙ ap (λ k. o.kept ++ row b.number b.own ∷ k) none_kept;
  made = ap (λ x. x.made) join ∙ ap (λ m. m ++ b.made) made ∙ ap (λ m. (o.made ++ number ∷ []) ++ m) none_made ∙ append-nil (o.made ++ number ∷ [])
      ∙ ap (λ k. o.made ++ k ∷ []) (sym is);
  one = one;
}
