-- Lemmas on `times` and `total`.
use Rattle.std.proofs.Common.{◌≡◌, ◌≢◌, ℕ, zero, suc, ◌+◌, ◌≤◌, ◌==◌, List, [], ◌∷◌, ◌++◌, set, refl, sym, ap, ◌∙◌, inl, inr, ⊎_elim, arith}
use Rattle.std.proofs.lemmas.Bool.Decides.{eqb_tells}
use mathlib.Core.Option.{some, some-injective, some-ne-none}
use lib.ListN.{get_elem?}
use Rattle.satip_base.specs.Lists.{Has}
use Rattle.satip_turn.specs.Faithful.{AreApart}
use Rattle.satip_turn.specs.Rule.{one_if, times, total}

pub times-append : (n : ℕ) (xs ys : List ℕ) → times n (xs ++ ys) ≡ times n xs + times n ys
times-append n [] ys = omega arith
times-append n (x ∷ xs) ys = let e = times-append n xs ys in omega arith

pub one_if_same : (x n : ℕ) → x ≡ n → one_if (x == n) ≡ 1
one_if_same x n e = ⊎_elim (λ t. ap one_if t.0) (λ t. absurd (t.1 e)) (eqb_tells x n)

pub one_if_other : (x n : ℕ) → x ≢ n → one_if (x == n) ≡ 0
one_if_other x n e = ⊎_elim (λ t. absurd (e t.1)) (λ t. ap one_if t.0) (eqb_tells x n)

pub has_times : (n : ℕ) (xs : List ℕ) → Has n xs → 1 ≤ times n xs
has_times n [] h = absurd h
has_times n (x ∷ xs) h = ⊎_elim (λ (e : n ≡ x). let o = one_if_same x n (sym e) in omega arith) (λ (t : Has n xs). let o = has_times n xs t in omega arith) h

pub times_has : (n : ℕ) (xs : List ℕ) → 1 ≤ times n xs → Has n xs
times_has n [] h = absurd (omega arith)
times_has n (x ∷ xs) h = ⊎_elim (λ t. inl (sym t.1)) (λ t. let o : one_if (x == n) ≡ 0 = ap one_if t.0 in inr (times_has n xs (omega arith))) (eqb_tells x n)

pub times_apart : (xs : List ℕ) → ((n : ℕ) → times n xs ≤ 1) → AreApart xs
times_apart [] h = tt
times_apart (x ∷ xs) h = (
  (λ (again : Has x xs). let a = has_times x xs again in let b = one_if_same x x refl in let c = h x in absurd (omega arith)),
  times_apart xs (λ n. let c = h n in omega arith),
)

pub total_set : {T : Type 0} (f : T → ℕ) (xs : List T) (j : ℕ) (v w : T) → get_elem? xs j ≡ some v → total f (set xs j w) + f v ≡ total f xs + f w
total_set f [] j v w e = absurd (some-ne-none v (sym e))
total_set f (x ∷ xs) zero v w e = let s : f x ≡ f v = ap f (some-injective x v e) in omega arith
total_set f (x ∷ xs) (suc j) v w e = let s = total_set f xs j v w e in omega arith

pub total-push : {T : Type 0} (f : T → ℕ) (xs : List T) (w : T) → total f (xs ++ w ∷ []) ≡ total f xs + f w
total-push f [] w = omega arith
total-push f (x ∷ xs) w = let s = total-push f xs w in omega arith

pub total_at : {T : Type 0} (f : T → ℕ) (xs : List T) (j : ℕ) (v : T) → get_elem? xs j ≡ some v → f v ≤ total f xs
total_at f [] j v e = absurd (some-ne-none v (sym e))
total_at f (x ∷ xs) zero v e = let s : f x ≡ f v = ap f (some-injective x v e) in omega arith
total_at f (x ∷ xs) (suc j) v e = let s = total_at f xs j v e in omega arith

-- two elements at one place where both count
pub one_place : {T : Type 0} (f : T → ℕ) (xs : List T) (i j : ℕ) (u v : T) → get_elem? xs i ≡ some u → get_elem? xs j ≡ some v → total f xs ≤ 1 → 1 ≤ f u
    → 1 ≤ f v → i ≡ j
one_place f [] i j u v a b le fu fv = absurd (some-ne-none u (sym a))
one_place f (x ∷ xs) zero zero u v a b le fu fv = refl
one_place f (x ∷ xs) zero (suc j) u v a b le fu fv =
    let s : f x ≡ f u = ap f (some-injective x u a) in let t = total_at f xs j v b in absurd (omega arith)
one_place f (x ∷ xs) (suc i) zero u v a b le fu fv =
    let s : f x ≡ f v = ap f (some-injective x v b) in let t = total_at f xs i u a in absurd (omega arith)
one_place f (x ∷ xs) (suc i) (suc j) u v a b le fu fv = ap suc (one_place f xs i j u v a b (omega arith) fu fv)

-- one element is at one place
pub same_at : {T : Type 0} (xs : List T) (j : ℕ) (u v : T) → get_elem? xs j ≡ some u → get_elem? xs j ≡ some v → u ≡ v
same_at xs j u v a b = some-injective u v (sym a ∙ b)
