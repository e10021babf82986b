use Rattle.std.proofs.Common.{append-nil, ◌≡◌, ◌∙◌, ℕ, ◌+◌, ◌<◌, List, ◌++◌, length, get_or, set, map, take, drop, ap, arith}
use Rattle.std.proofs.lemmas.List.{drop_all, get_or_default, take_all}
use Rattle.std.specs.List.{refill}
use Rattle.std.proofs.lemmas.List.Edits.{map_over_more}

-- one more element of a list is replaced by what f makes of it
pub map_step : {X : Type 0} (f : X → X) (xs ys : List X) (i : ℕ) (y d : X) → i < length xs → length ys ≡ length xs → ys ≡ map f (take i xs) ++ drop i xs
    → y ≡ f (get_or ys i d) → set ys i y ≡ map f (take (i + 1) xs) ++ drop (i + 1) xs
map_step f xs ys i y d below long so_far made =
    let inside : i < length ys = omega arith in
    ap (λ z. set ys i z) made ∙ map_over_more f xs ys i (get_or ys i d) below so_far (get_or_default ys i d _ inside)

-- a list of the same length is written over the whole
pub refill_same : {X : Type 0} (xs ws : List X) → length ws ≡ length xs → refill (length xs) xs ws ≡ ws
refill_same xs ws same =
    ap (λ rest. take (length xs) (ws ++ rest)) (drop_all (length ws) xs (omega arith))
    ∙ ap (take (length xs)) (append-nil ws)
    ∙ take_all (length xs) ws (omega arith)
