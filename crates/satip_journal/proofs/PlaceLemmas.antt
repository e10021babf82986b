-- Lemmas on the lines of one caller's entries.
use Rattle.std.proofs.Common.{◌≡◌, ◌∙◌, ℕ, ◌+◌, Bool, true, false, ◌==◌, List, [], ◌∷◌, ◌++◌, length, refl, sym, ap, arith, length-append, append-nil, zero-add}
use Rattle.std.proofs.lemmas.List.{nil_from_length}
use Rattle.std.proofs.lemmas.Bool.Decides.{eqb_tells}
use Rattle.std.proofs.Common.{⊎_elim}
use Rattle.satip_base.specs.History.{kept_if, own_of}
use Rattle.satip_base.proofs.Owned.{own_of-append}
use Rattle.satip_plain.specs.Histories.{Item}
use Rattle.satip_journal.specs.Places.{Placed, placed, own_at, line_of, lines_of}
use Rattle.satip_journal.specs.Continuing.{own_at-append}

length-kept_if : {S T : Type 0} (b : Bool) (x : S) (y : T) (xs : List S) (ys : List T) → length xs ≡ length ys
    → length (kept_if b x xs) ≡ length (kept_if b y ys)
length-kept_if true x y xs ys e = omega (arith, e)
length-kept_if false x y xs ys e = e

length-own_at : (place n : ℕ) (h : List Item) → length (own_at place n h) ≡ length (own_of n h)
length-own_at place n [] = refl
length-own_at place n (e ∷ es) = length-kept_if (e.caller == n) (placed place e) e (own_at (place + 1) n es) (own_of n es) (length-own_at (place + 1) n es)

-- where none of the entries is of the caller
pub own_at_none : (place n : ℕ) (h : List Item) → own_of n h ≡ [] → own_at place n h ≡ []
own_at_none place n h none = nil_from_length (own_at place n h) (length-own_at place n h ∙ ap length none)

-- one entry of the caller
pub own_at_one : (place n : ℕ) (e : Item) → e.caller ≡ n → own_at place n (e ∷ []) ≡ placed place e ∷ []
own_at_one place n e is = ⊎_elim (λ t. ap (λ b. kept_if b (placed place e) []) t.0) (λ t. absurd (t.1 is)) (eqb_tells e.caller n)

-- the lines of one entry of the caller behind those of others
pub lines_of_one : (job place n : ℕ) (others : List Item) (e : Item) → e.caller ≡ n → own_of n others ≡ []
    → lines_of job (own_at place n (others ++ e ∷ [])) ≡ line_of job (placed (place + length others) e)
lines_of_one job place n others e is none =
    ap (λ (ps : List Placed). lines_of job ps) (own_at-append place n others (e ∷ [])
    ∙ ap (λ (ps : List Placed). ps ++ own_at (place + length others) n (e ∷ [])) (own_at_none place n others none)
    ∙ own_at_one (place + length others) n e is)
    ∙ append-nil (line_of job (placed (place + length others) e))

-- what came between is of others where the own entries grew by those behind it alone
pub between_others : (n : ℕ) (seen between new own : List Item) → own_of n seen ≡ own → own_of n ((seen ++ between) ++ new) ≡ own ++ new → own_of n new ≡ new
    → own_of n between ≡ []
between_others n seen between new own before after all =
    let cut : own_of n ((seen ++ between) ++ new) ≡ (own_of n seen ++ own_of n between) ++ own_of n new =
    own_of-append n (seen ++ between) new ∙ ap (λ (h : List Item). h ++ own_of n new) (own_of-append n seen between) in
    let whole : (own_of n seen ++ own_of n between) ++ own_of n new ≡ own ++ new = sym cut ∙ after in
    let lengths : length ((own_of n seen ++ own_of n between) ++ own_of n new) ≡ length (own ++ new) = ap length whole in
    let a = length-append (own_of n seen ++ own_of n between) (own_of n new) in
    let b = length-append (own_of n seen) (own_of n between) in
    let c = length-append own new in
    let d : length (own_of n seen) ≡ length own = ap length before in
    let f : length (own_of n new) ≡ length new = ap length all in
    nil_from_length (own_of n between) (omega (arith, lengths, a, b, c, d, f))

-- the entries of a caller that has none before some moment have the places behind it
pub own_at_behind : (n : ℕ) (seen more : List Item) → own_of n seen ≡ [] → own_at 0 n (seen ++ more) ≡ own_at (length seen) n more
own_at_behind n seen more none =
    own_at-append 0 n seen more ∙ ap (λ (ps : List Placed). ps ++ own_at (0 + length seen) n more) (own_at_none 0 n seen none)
    ∙ ap (λ (place : ℕ). own_at place n more) (zero-add (length seen))
