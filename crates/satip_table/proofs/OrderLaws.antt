-- Whether a number is in a list once one came or left.
use Rattle.std.proofs.Common.{◌≡◌, ◌∙◌, ℕ, ◌<◌, ◌==◌, ◌&&◌, ◌||◌, not, Bool, true, false, cond, List, [], ◌∷◌, length, get_or, set, filter, take, drop, refl}
use Rattle.std.proofs.Common.{ap, sym, arith, inl, inr, ◌⊎◌}
use Rattle.std.specs.List.{insert}
use Rattle.std.proofs.lemmas.Bool.{cases_eq, eqb-true, eq-eqb, ne_eqb}
use Rattle.std.proofs.lemmas.List.{get_or-set_same, get_or-set_other, take-append-drop}
use Rattle.std.proofs.lemmas.List.Folds.{list_any-append}
use Rattle.satip_table.specs.Placed.{is_there}
use Rattle.satip_table.proofs.Listing.{any-cond}

swapped : (a b c : Bool) → (a || (b || c)) ≡ (b || (a || c))
swapped true true c = refl
swapped true false c = refl
swapped false true c = refl
swapped false false c = refl

pub there-insert : (xs : List ℕ) (place number other : ℕ) → is_there other (insert xs place number) ≡ ((other == number) || is_there other xs)
there-insert xs place number other =
    list_any-append (λ n. other == n) (take place xs) (number ∷ drop place xs)
    ∙ swapped (is_there other (take place xs)) (other == number) (is_there other (drop place xs))
    ∙ ap (λ b. (other == number) || b) (sym (list_any-append (λ n. other == n) (take place xs) (drop place xs))
    ∙ ap (is_there other) (take-append-drop place xs))

pub there-removed : (xs : List ℕ) (number other : ℕ) → is_there other (filter (λ n. not (number == n)) xs) ≡ (not (number == other) && is_there other xs)
there-removed [] number other = none (number == other)
  where
    none : (b : Bool) → false ≡ (not b && false)
    none true = refl
    none false = refl
there-removed (x ∷ xs) number other =
    any-cond (λ n. other == n) (not (number == x)) x (filter (λ n. not (number == n)) xs)
    ∙ each (number == x) (other == x) (number == other) (is_there other (filter (λ n. not (number == n)) xs)) (is_there other xs)
    (λ same. ap (λ n. number == n) (eqb-true other x same)) (there-removed xs number other)
  where
    each : (b e d f r : Bool) → (e ≡ true → d ≡ b) → f ≡ (not d && r) → cond (not b) (e || f) f ≡ (not d && (e || r))
    each true true true f r same is = is
    each true true false f r same is = let wrong = same refl in cc
    each true false d f r same is = is
    each false true true f r same is = let wrong = same refl in cc
    each false true false f r same is = refl
    each false false d f r same is = is

-- the marks once one number is marked, or no longer
pub marks_set : (there : List Bool) (xs ys : List ℕ) (number : ℕ) (mark : Bool) → length there ≡ 64 → number < 64
    → ((other : ℕ) → other < 64 → get_or there other false ≡ is_there other xs)
    → is_there number ys ≡ mark → ((other : ℕ) → (other ≡ number → ⊥) → is_there other ys ≡ is_there other xs) → (other : ℕ) → other < 64
    → get_or (set there number mark) other false ≡ is_there other ys
marks_set there xs ys number mark long within marks here others other below = each (cases_eq other number)
  where
    each : (other ≡ number) ⊎ (other ≡ number → ⊥) → get_or (set there number mark) other false ≡ is_there other ys
    each (inl same) = ap (λ n. get_or (set there number mark) n false) same ∙ get_or-set_same there number mark false (omega (arith, long)) ∙ sym here
        ∙ ap (λ n. is_there n ys) (sym same)
    each (inr apart) = get_or-set_other there number other mark false apart ∙ marks other below ∙ sym (others other apart)

pub insert_marks : (there : List Bool) (xs : List ℕ) (place number : ℕ) → length there ≡ 64 → number < 64
    → ((other : ℕ) → other < 64 → get_or there other false ≡ is_there other xs)
    → (other : ℕ) → other < 64 → get_or (set there number true) other false ≡ is_there other (insert xs place number)
insert_marks there xs place number long within marks =
    marks_set there xs (insert xs place number) number true long within marks
    (there-insert xs place number number ∙ ap (λ b. b || is_there number xs) (eq-eqb number number refl))
    (λ other apart. there-insert xs place number other ∙ ap (λ b. b || is_there other xs) (ne_eqb other number apart))

pub removed_marks : (there : List Bool) (xs : List ℕ) (number : ℕ) → length there ≡ 64 → number < 64
    → ((other : ℕ) → other < 64 → get_or there other false ≡ is_there other xs)
    → (other : ℕ) → other < 64 → get_or (set there number false) other false ≡ is_there other (filter (λ n. not (number == n)) xs)
removed_marks there xs number long within marks =
    marks_set there xs (filter (λ n. not (number == n)) xs) number false long within marks
    (there-removed xs number number ∙ ap (λ b. not b && is_there number xs) (eq-eqb number number refl))
    (λ other apart. there-removed xs number other ∙ ap (λ b. not b && is_there other xs) (ne_eqb number other (λ e. apart (sym e))))

-- a number that came is within what was, or is itself
pub insert_within : (xs : List ℕ) (place number : ℕ) → number < 64 → ((other : ℕ) → is_there other xs ≡ true → other < 64) → (other : ℕ)
    → is_there other (insert xs place number) ≡ true → other < 64
insert_within xs place number below within other there = each (other == number) refl (sym (there-insert xs place number other) ∙ there)
  where
    each : (b : Bool) → (other == number) ≡ b → (b || is_there other xs) ≡ true → other < 64
    each true same _ = let e : other ≡ number = eqb-true other number same in omega arith
    each false _ old = within other old

pub removed_within : (xs : List ℕ) (number : ℕ) → ((other : ℕ) → is_there other xs ≡ true → other < 64) → (other : ℕ)
    → is_there other (filter (λ n. not (number == n)) xs) ≡ true → other < 64
removed_within xs number within other there = within other (each (number == other) (sym (there-removed xs number other) ∙ there))
  where
    each : (b : Bool) → (not b && is_there other xs) ≡ true → is_there other xs ≡ true
    each true none = cc
    each false some = some
