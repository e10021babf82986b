-- Lemmas on `own_of`.
use Rattle.std.proofs.Common.{◌≡◌, ◌≢◌, ℕ, ◌+◌, ◌<◌, Bool, true, false, ◌==◌, List, [], ◌∷◌, ◌++◌, length, refl, ap, ◌∙◌, ⊎_elim, length-append, arith}
use Rattle.std.proofs.lemmas.List.{append-nil}
use Rattle.std.proofs.lemmas.Bool.Decides.{eqb_tells}
use Rattle.satip_base.specs.declared.entry.Entry.{Entry}
use Rattle.satip_base.specs.Lists.{Each, Begins}
use Rattle.satip_base.specs.declared.entry.Taken.{Taken}
use Rattle.satip_base.specs.History.{own_of, kept_if, entry, entries}
use Rattle.satip_base.proofs.Prefixes.{begins_whole}

kept_if-append : {T : Type 0} (b : Bool) (x : T) (xs ys : List T) → kept_if b x (xs ++ ys) ≡ kept_if b x xs ++ ys
kept_if-append true x xs ys = refl
kept_if-append false x xs ys = refl

pub own_of-append : {E A O : Type 0} (n : ℕ) (h k : List (Entry E A O)) → own_of n (h ++ k) ≡ own_of n h ++ own_of n k
own_of-append n [] k = refl
own_of-append n (e ∷ es) k = ap (kept_if (e.caller == n) e) (own_of-append n es k) ∙ kept_if-append (e.caller == n) e (own_of n es) (own_of n k)

pub own_of-cons_same : {E A O : Type 0} (n : ℕ) (e : Entry E A O) (es : List (Entry E A O)) → e.caller ≡ n → own_of n (e ∷ es) ≡ e ∷ own_of n es
own_of-cons_same n e es is = ⊎_elim (λ t. ap (λ b. kept_if b e (own_of n es)) t.0) (λ t. absurd (t.1 is)) (eqb_tells e.caller n)

pub own_of-cons_other : {E A O : Type 0} (n : ℕ) (e : Entry E A O) (es : List (Entry E A O)) → e.caller ≢ n → own_of n (e ∷ es) ≡ own_of n es
own_of-cons_other n e es is = ⊎_elim (λ t. absurd (is t.1)) (λ t. ap (λ b. kept_if b e (own_of n es)) t.0) (eqb_tells e.caller n)

pub own_of-push_same : {E A O : Type 0} (n : ℕ) (h : List (Entry E A O)) (e : Entry E A O) → e.caller ≡ n → own_of n (h ++ e ∷ []) ≡ own_of n h ++ e ∷ []
own_of-push_same n h e is = own_of-append n h (e ∷ []) ∙ ap (λ t. own_of n h ++ t) (own_of-cons_same n e [] is)

pub own_of-push_other : {E A O : Type 0} (n : ℕ) (h : List (Entry E A O)) (e : Entry E A O) → e.caller ≢ n → own_of n (h ++ e ∷ []) ≡ own_of n h
own_of-push_other n h e is = own_of-append n h (e ∷ []) ∙ ap (λ t. own_of n h ++ t) (own_of-cons_other n e [] is) ∙ append-nil (own_of n h)

-- a number that no entry has
pub own_of-none : {E A O : Type 0} (n : ℕ) (h : List (Entry E A O)) → Each (λ e. e.caller < n) h → own_of n h ≡ []
own_of-none n [] p = refl
own_of-none n (e ∷ es) p = let lt = p.0 in own_of-cons_other n e es (λ is. absurd (omega arith)) ∙ own_of-none n es p.1

-- where the first and the last of three prefixes have the same entries of n, so has the one between
pub own_of-between : {E A O : Type 0} (n : ℕ) (g h k : List (Entry E A O)) → Begins g h → Begins h k → own_of n g ≡ own_of n k → own_of n h ≡ own_of n k
own_of-between n g h k p q e =
    let a : own_of n h ≡ own_of n g ++ own_of n p.rest = ap (own_of n) p.whole ∙ own_of-append n g p.rest in
    let b : own_of n k ≡ own_of n h ++ own_of n q.rest = ap (own_of n) q.whole ∙ own_of-append n h q.rest in
    let la : length (own_of n h) ≡ length (own_of n g) + length (own_of n p.rest) = ap length a ∙ length-append (own_of n g) (own_of n p.rest) in
    let le : length (own_of n g) ≡ length (own_of n k) = ap length e in
    begins_whole (own_of n h) (own_of n k) (record { rest = own_of n q.rest; whole = b }) (omega arith)

pub entries-append : {E A O : Type 0} (n : ℕ) (ts us : List (Taken E A O)) → entries n (ts ++ us) ≡ entries n ts ++ entries n us
entries-append n [] us = refl
entries-append n (t ∷ ts) us = ap (λ es. entry n t.event t.answer t.out ∷ es) (entries-append n ts us)
