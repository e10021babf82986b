-- Sessions are found by their ids, and no two have one id.
use Rattle.std.proofs.Common.{arith, ◌≡◌, ℕ, ◌+◌, ◌<◌, ◌≤◌, ◌==◌, ◌&&◌, ◌||◌, Bool, true, false, List, [], ◌∷◌, ◌++◌, find, Option, Some, None, refl, ap, sym, ◌∙◌, if◌then◌else◌, unwrap_or}
use Rattle.std.specs.List.{list_any}
use Rattle.std.specs.Option.{option_map_or}
use Rattle.std.proofs.lemmas.Bool.{and_parts, eqb-true, eq-eqb}
use Rattle.satip_plain.proofs.SameIds.{same_id_is}
use Rattle.satip_plain.specs.Types.{SessionId}
use Rattle.satip_plain.specs.State.{Session, same_id}
use Rattle.satip_plain.specs.Steps.{is_session}

abbrev pub look : SessionId → List Session → Option Session
look s xs = find (is_session s) xs

-- the first of two, where it is there
abbrev pub or_else : Option Session → Option Session → Option Session
or_else None o = o
or_else (Some x) o = Some x

pub or_else_none : (o : Option Session) → or_else o None ≡ o
or_else_none None = refl
or_else_none (Some x) = refl

pub or_else_assoc : (a b c : Option Session) → or_else a (or_else b c) ≡ or_else (or_else a b) c
or_else_assoc None b c = refl
or_else_assoc (Some x) b c = refl

pub id_same : (a : SessionId) → same_id a a ≡ true
id_same a = rw (eq-eqb a.count a.count refl, eq-eqb a.word a.word refl) refl

-- what is found has the id
pub found_same : (s : SessionId) (xs : List Session) (x : Session) → look s xs ≡ Some x → same_id x.id s ≡ true
found_same s [] x e = cc
found_same s (y ∷ ys) x e = by (same_id y.id s) refl e (λ f. found_same s ys x f)
  where
    by : (b : Bool) → same_id y.id s ≡ b → (if b then Some y else look s ys) ≡ Some x → (look s ys ≡ Some x → same_id x.id s ≡ true) → same_id x.id s ≡ true
    by true f g rest = ap (λ z. same_id z.id s) (sym (ap (λ o. unwrap_or o y) g)) ∙ f
    by false f g rest = rest g

pub found_id : (s : SessionId) (xs : List Session) (x : Session) → look s xs ≡ Some x → x.id ≡ s
found_id s xs x e = same_id_is x.id s (found_same s xs x e)

-- the first of two lists, then the second
pub look_append : (s : SessionId) (xs ys : List Session) → look s (xs ++ ys) ≡ or_else (look s xs) (look s ys)
look_append s [] ys = refl
look_append s (x ∷ xs) ys = by (same_id x.id s) (look_append s xs ys)
  where
    by : (b : Bool) → look s (xs ++ ys) ≡ or_else (look s xs) (look s ys)
        → (if b then Some x else look s (xs ++ ys)) ≡ or_else (if b then Some x else look s xs) (look s ys)
    by true e = refl
    by false e = e

-- no two sessions have one id
abbrev pub Apart : List Session → Type 0
Apart [] = Unit {0}
Apart (x ∷ xs) = (look x.id xs ≡ None) × Apart xs

-- no session's count is above the number of sessions made
abbrev pub Below : ℕ → List Session → Type 0
Below made [] = Unit {0}
Below made (x ∷ xs) = (x.id.count ≤ made) × Below made xs

-- every session's count is above this number
abbrev pub Above : ℕ → List Session → Type 0
Above made [] = Unit {0}
Above made (x ∷ xs) = (made < x.id.count) × Above made xs

pub below_found : (made : ℕ) (s : SessionId) (xs : List Session) (x : Session) → Below made xs → look s xs ≡ Some x → s.count ≤ made
below_found made s [] x below e = cc
below_found made s (y ∷ ys) x below e = by (same_id y.id s) refl e (λ f. below_found made s ys x below.1 f)
  where
    by : (b : Bool) → same_id y.id s ≡ b → (if b then Some y else look s ys) ≡ Some x → (look s ys ≡ Some x → s.count ≤ made) → s.count ≤ made
    by true f g rest = rw (← same_id_is y.id s f) below.0
    by false f g rest = rest g

pub below_absent : (made : ℕ) (s : SessionId) (xs : List Session) → Below made xs → made < s.count → look s xs ≡ None
below_absent made s xs below above = by (look s xs) refl
  where
    by : (o : Option Session) → look s xs ≡ o → o ≡ None
    by None e = refl
    by (Some x) e = absurd (omega (arith, below_found made s xs x below e, above))

pub above_absent : (made : ℕ) (s : SessionId) (xs : List Session) → Above made xs → s.count ≤ made → look s xs ≡ None
above_absent made s [] above few = refl
above_absent made s (x ∷ xs) above few = by (same_id x.id s) refl (above_absent made s xs above.1 few)
  where
    by : (b : Bool) → same_id x.id s ≡ b → look s xs ≡ None → (if b then Some x else look s xs) ≡ None
    by true e none = let same : x.id ≡ s = same_id_is x.id s e in let more : made < s.count = rw (← same) above.0 in absurd (omega (arith, more, few))
    by false e none = none

pub above_less : (a b : ℕ) (xs : List Session) → a ≤ b → Above b xs → Above a xs
above_less a b [] le above = tt
above_less a b (x ∷ xs) le above = (omega (arith, above.0, le), above_less a b xs le above.1)

-- ids with other counts are others
pub other_count : (a b : SessionId) → a.count < b.count → same_id b a ≡ false
other_count a b less = by (same_id b a) refl
  where
    by : (r : Bool) → same_id b a ≡ r → r ≡ false
    by true e = let same : b ≡ a = same_id_is b a e in let counts : b.count ≡ a.count = ap (λ i. i.count) same in absurd (omega (arith, less, counts))
    by false e = refl

pub look_one : (s : SessionId) (new : Session) → same_id new.id s ≡ false → look s (new ∷ []) ≡ None
look_one s new e = rw e refl

pub apart_append : (made : ℕ) (xs : List Session) (new : Session) → Apart xs → Below made xs → made < new.id.count → Apart (xs ++ new ∷ [])
apart_append made [] new apart below above = (refl, tt)
apart_append made (x ∷ xs) new apart below above = (
  look_append x.id xs (new ∷ []) ∙ (rw apart.0 (look_one x.id new (other_count x.id new.id (omega (arith, below.0, above))))),
  apart_append made xs new apart.1 below.1 above,
)

pub below_append : (made : ℕ) (xs : List Session) (new : Session) → Below made xs → new.id.count ≡ made + 1 → Below (made + 1) (xs ++ new ∷ [])
below_append made [] new below count = (omega (arith, count), tt)
below_append made (x ∷ xs) new below count = (omega (arith, below.0), below_append made xs new below.1 count)

-- a test of the one session that has an id
pub any_of_id : (s : SessionId) (q : Session → Bool) (xs : List Session) → Apart xs
    → list_any (λ x. same_id x.id s && q x) xs ≡ option_map_or q (look s xs) false
any_of_id s q [] apart = refl
any_of_id s q (x ∷ xs) apart = by (same_id x.id s) refl (any_of_id s q xs apart.1)
  where
    by : (b : Bool) → same_id x.id s ≡ b → list_any (λ x. same_id x.id s && q x) xs ≡ option_map_or q (look s xs) false
        → ((b && q x) || list_any (λ x. same_id x.id s && q x) xs) ≡ option_map_or q (if b then Some x else look s xs) false
    by true e rest =
        let none : look s xs ≡ None = rw (← same_id_is x.id s e) apart.0 in
        let no : list_any (λ x. same_id x.id s && q x) xs ≡ false = rest ∙ (rw none refl) in
        rw no (or_false (q x))
      where
        or_false : (b : Bool) → (b || false) ≡ b
        or_false true = refl
        or_false false = refl
    by false e rest = rest

-- of sessions with distinct ids, the one that is found where another test is made too
pub look_where : (s : SessionId) (q : Session → Bool) (xs : List Session) → Apart xs
    → find (λ x. same_id x.id s && q x) xs ≡ (option_map_or (λ x. if q x then Some x else None) (look s xs) None)
look_where s q [] apart = refl
look_where s q (x ∷ xs) apart = by (same_id x.id s) (q x) refl refl (look_where s q xs apart.1)
  where
    by : (a b : Bool) → same_id x.id s ≡ a → q x ≡ b → find (λ x. same_id x.id s && q x) xs ≡ option_map_or (λ x. if q x then Some x else None) (look s xs) None
        → (if a && b then Some x else find (λ x. same_id x.id s && q x) xs)
        ≡ option_map_or (λ x. if q x then Some x else None) (if a then Some x else look s xs) None
    by true true e f rest = rw f refl
    by true false e f rest =
        let none : look s xs ≡ None = rw (← same_id_is x.id s e) apart.0 in
        rw f (rest ∙ (rw none refl))
    by false b e f rest = rest
