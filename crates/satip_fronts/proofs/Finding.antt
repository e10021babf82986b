-- A look-up by a loop over a list.
use Rattle.std.proofs.Common.{◌≡◌, ◌∙◌, ℕ, ◌+◌, ◌<◌, ◌≤◌, Bool, true, false, cond, List, None, Some, find, length, get_or, drop, ap, sym}
use Rattle.std.proofs.lemmas.List.{at_drop_more, at_drop_all}

-- the element that passes is what is looked for
pub find_here : {X : Type 0} (p : X → Bool) (xs : List X) (i : ℕ) (d : X) → i < length xs → find p (drop i xs) ≡ find p xs → p (get_or xs i d) ≡ true
    → Some (get_or xs i d) ≡ find p xs
find_here p xs i d below so_far passes =
    let here = at_drop_more (find p) xs i d below in
    let taken = ap (λ b. cond b (Some (get_or xs i d)) (find p (drop (i + 1) xs))) passes in
    sym taken ∙ sym here ∙ so_far

-- where it fails, the look-up goes on behind it
pub find_further : {X : Type 0} (p : X → Bool) (xs : List X) (i : ℕ) (d : X) → i < length xs → find p (drop i xs) ≡ find p xs → p (get_or xs i d) ≡ false
    → find p (drop (i + 1) xs) ≡ find p xs
find_further p xs i d below so_far fails =
    let here = at_drop_more (find p) xs i d below in
    let passed = ap (λ b. cond b (Some (get_or xs i d)) (find p (drop (i + 1) xs))) fails in
    sym passed ∙ sym here ∙ so_far

-- at the end none has passed
pub find_none : {X : Type 0} (p : X → Bool) (xs : List X) (i : ℕ) → length xs ≤ i → find p (drop i xs) ≡ find p xs → None ≡ find p xs
find_none p xs i past so_far = sym (at_drop_all (find p) xs i past) ∙ so_far
