-- Lemmas on `Begins`.
use Rattle.std.proofs.Common.{◌≡◌, ◌+◌, ◌≤◌, List, [], ◌∷◌, ◌++◌, length, refl, sym, ap, ◌∙◌, append_assoc, length-append, arith}
use Rattle.std.proofs.lemmas.List.{append-nil}
use Rattle.satip_base.specs.Lists.{Begins}

pub begins_refl : {T : Type 0} (h : List T) → Begins h h
begins_refl h = record { rest = []; whole = sym (append-nil h) }

pub begins_more : {T : Type 0} (h t : List T) → Begins h (h ++ t)
begins_more h t = record { rest = t; whole = refl }

pub begins_trans : {T : Type 0} (g h k : List T) → Begins g h → Begins h k → Begins g k
begins_trans g h k p q = record { rest = p.rest ++ q.rest; whole = q.whole ∙ ap (λ x. x ++ q.rest) p.whole ∙ append_assoc g p.rest q.rest }

pub begins_along : {T : Type 0} (h k l : List T) → k ≡ l → Begins h k → Begins h l
begins_along h k l e p = record { rest = p.rest; whole = sym e ∙ p.whole }

pub begins_length : {T : Type 0} (h k : List T) → Begins h k → length h ≤ length k
begins_length h k p = let e : length k ≡ length h + length p.rest = ap length p.whole ∙ length-append h p.rest in omega arith

pub begins_nil : {T : Type 0} (k : List T) → Begins [] k
begins_nil k = record { rest = k; whole = refl }

nothing_more : {T : Type 0} (t : List T) → length t ≡ 0 → t ≡ []
nothing_more [] e = refl
nothing_more (x ∷ xs) e = absurd (omega arith)

-- a prefix that is as long is the whole
pub begins_whole : {T : Type 0} (h k : List T) → Begins h k → length k ≤ length h → h ≡ k
begins_whole h k p le =
    let e : length k ≡ length h + length p.rest = ap length p.whole ∙ length-append h p.rest in
    let n : p.rest ≡ [] = nothing_more p.rest (omega arith) in
    sym (p.whole ∙ ap (λ t. h ++ t) n ∙ append-nil h)

-- the shorter of two prefixes of one list begins the longer
pub begins_both : {T : Type 0} (g h k : List T) → Begins g k → Begins h k → length g ≤ length h → Begins g h
begins_both [] h k p q le = begins_nil h
begins_both (x ∷ xs) [] k p q le = absurd (omega arith)
begins_both (x ∷ xs) (y ∷ ys) [] p q le = absurd (cc (p.whole))
begins_both (x ∷ xs) (y ∷ ys) (z ∷ zs) p q le =
    let P = p.whole in let Q = q.whole in
    let here : x ≡ y = cc in
    let p' : zs ≡ xs ++ p.rest = cc in
    let q' : zs ≡ ys ++ q.rest = cc in
    let r = begins_both xs ys zs (record { rest = p.rest; whole = p' }) (record { rest = q.rest; whole = q' }) (omega arith) in
    record { rest = r.rest; whole = λ i. sym here i ∷ r.whole i }
