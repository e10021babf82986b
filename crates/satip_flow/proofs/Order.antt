-- A subscriber is put in order.
use Rattle.std.proofs.Common.{ℕ, ◌≡◌, ◌+◌, ◌<◌, ◌≤◌, suc, Bool, true, false, cond, List, [], ◌∷◌, ◌++◌, length, take, drop, get_or, refl, sym, ap, ◌∙◌, arith, add-one, drop-cons, append_assoc}
use Rattle.std.proofs.lemmas.List.{take_more, drop_all}
use Rattle.std.proofs.lemmas.List.Sums.{sum_by-cons}
use Rattle.std.specs.List.{insert, count_by}
use Rattle.satip_flow.specs.Subscription.{Subscription}
use Rattle.satip_flow.specs.Subscriptions.{comes_before, put}

-- it is put among the subscribers behind the first n
pub PutBehind : Subscription → List Subscription → ℕ → Type 0
PutBehind s xs n = put s xs ≡ take n xs ++ put s (drop n xs)

put_next : (s x : Subscription) (xs : List Subscription) (t : Bool) → comes_before s.place x.place ≡ t → put s (x ∷ xs) ≡ cond t (s ∷ x ∷ xs) (x ∷ put s xs)
put_next s x xs t e = ap (λ b. cond b (s ∷ x ∷ xs) (x ∷ put s xs)) e

-- the next one stands before it
pub put_later : (s : Subscription) (xs : List Subscription) (i : ℕ) (d : Subscription) → i < length xs → comes_before s.place (get_or xs i d).place ≡ false
    → put s xs ≡ take i xs ++ put s (drop i xs) → put s xs ≡ take (i + 1) xs ++ put s (drop (i + 1) xs)
put_later s xs i d h later so_far =
    let x = get_or xs i d in
    so_far
    ∙ ap (λ rest. take i xs ++ put s rest) (drop-cons xs i d h)
    ∙ ap (λ rest. take i xs ++ rest) (put_next s x (drop (suc i) xs) false later)
    ∙ sym (append_assoc (take i xs) (x ∷ []) (put s (drop (suc i) xs)))
    ∙ ap (λ front. front ++ put s (drop (suc i) xs)) (sym (take_more xs i d h))
    ∙ ap (λ n. take (i + 1) xs ++ put s (drop n xs)) (sym (add-one i))

-- it stands before the next one
pub put_here : (s : Subscription) (xs : List Subscription) (i : ℕ) (d : Subscription) → i < length xs → comes_before s.place (get_or xs i d).place ≡ true
    → put s xs ≡ take i xs ++ put s (drop i xs) → put s xs ≡ insert xs i s
put_here s xs i d h here so_far =
    let x = get_or xs i d in
    so_far
    ∙ ap (λ rest. take i xs ++ put s rest) (drop-cons xs i d h)
    ∙ ap (λ rest. take i xs ++ rest) (put_next s x (drop (suc i) xs) true here)
    ∙ ap (λ rest. take i xs ++ s ∷ rest) (sym (drop-cons xs i d h))

-- it stands behind all
pub put_last : (s : Subscription) (xs : List Subscription) (n : ℕ) → length xs ≤ n → put s xs ≡ take n xs ++ put s (drop n xs) → put s xs ≡ insert xs n s
put_last s xs n h so_far =
    so_far
    ∙ ap (λ rest. take n xs ++ put s rest) (drop_all n xs h)
    ∙ ap (λ rest. take n xs ++ s ∷ rest) (sym (drop_all n xs h))

-- it counts as one more
pub count-put : (p : Subscription → Bool) (s : Subscription) (xs : List Subscription) → count_by p (put s xs) ≡ count_by p xs + cond (p s) 1 0
count-put p s [] = refl
count-put p s (x ∷ xs) = each (comes_before s.place x.place) (count-put p s xs)
  where
    value : Subscription → ℕ
    value y = cond (p y) 1 0

    each : (t : Bool) → count_by p (put s xs) ≡ count_by p xs + cond (p s) 1 0
        → count_by p (cond t (s ∷ x ∷ xs) (x ∷ put s xs)) ≡ count_by p (x ∷ xs) + cond (p s) 1 0
    each true ih = omega (arith, sum_by-cons (λ y. cond (p y) 1 0) s (x ∷ xs))
    each false ih = omega (arith, ih, sum_by-cons (λ y. cond (p y) 1 0) x xs, sum_by-cons (λ y. cond (p y) 1 0) x (put s xs))
