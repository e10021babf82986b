-- Places that climb: the first that is named twice, and the first that is missing.
use Rattle.std.proofs.Common.{◌≡◌, ℕ, suc, ◌+◌, ◌-◌, ◌<◌, ◌≤◌, Bool, true, false, cond, List, [], ◌∷◌, length, drop, get_or, Option, None, Some, refl, sym, ap, ◌∙◌, subst, arith, length-drop, inl, inr, ◌⊎◌, ⊎_elim}
use Rattle.std.specs.Prelude.{◌==◌}
use Rattle.std.specs.List.Sorted.{IsNonDecreasingBy}
use Rattle.std.proofs.lemmas.List.{drop_more, drop_all}
use Rattle.std.proofs.lemmas.List.Sums.{sum_by-cons}
use Rattle.std.proofs.lemmas.List.Sorted.{IsNonDecreasingBy-drop}
use Rattle.std.proofs.lemmas.Bool.{eqb-true, eqb-false}
use Rattle.std.proofs.lemmas.Option.{same_Some}
use Rattle.satip_audit.specs.Places.{Climbs, Counts, HasTwice, IsLeast, IsMissing, Rises, times}
use Rattle.satip_audit.specs.Spots.{places_of}
use Rattle.satip_audit.specs.declared.index.Spot.{Spot}

-- ---- how often a place is named

abbrev pub Same : List ℕ → ℕ → ℕ → Type 0
Same xs x q = (x ≡ q) × (times (x ∷ xs) q ≡ 1 + times xs q)

abbrev pub Other : List ℕ → ℕ → ℕ → Type 0
Other xs x q = (x ≡ q → ⊥) × (times (x ∷ xs) q ≡ times xs q)

step_by : (xs : List ℕ) (x q : ℕ) (b : Bool) → (x == q) ≡ b → times (x ∷ xs) q ≡ cond b 1 0 + times xs q → Same xs x q ⊎ Other xs x q
step_by xs x q true is h = inl (eqb-true x q is, h)
step_by xs x q false is h = inr (eqb-false x q is, h ∙ omega arith)

-- one place more in front is the one that is asked for, or another
pub times_step : (xs : List ℕ) (x q : ℕ) → Same xs x q ⊎ Other xs x q
times_step xs x q = step_by xs x q (x == q) refl (sum_by-cons (λ (p : ℕ). cond (p == q) 1 0) x xs)

pub times_same : (xs : List ℕ) (x q : ℕ) → x ≡ q → times (x ∷ xs) q ≡ 1 + times xs q
times_same xs x q e = ⊎_elim (λ (s : Same xs x q). s.1) (λ (o : Other xs x q). absurd (o.0 e)) (times_step xs x q)

pub times_other : (xs : List ℕ) (x q : ℕ) → (x ≡ q → ⊥) → times (x ∷ xs) q ≡ times xs q
times_other xs x q n = ⊎_elim (λ (s : Same xs x q). absurd (n s.0)) (λ (o : Other xs x q). o.1) (times_step xs x q)

pub times_more : (xs : List ℕ) (x q : ℕ) → times xs q ≤ times (x ∷ xs) q
times_more xs x q =
    ⊎_elim (λ (s : Same xs x q). let e = s.1 in omega (arith, e)) (λ (o : Other xs x q). let e = o.1 in omega (arith, e)) (times_step xs x q)

less_other : (x q : ℕ) → q < x → x ≡ q → ⊥
less_other x q less e = omega (arith, less, e)

-- a place below the first isn't named
below_none : (low : ℕ) (xs : List ℕ) (q : ℕ) → Climbs low xs → q < low → times xs q ≡ 0
below_none low [] q h less = refl
below_none low (x ∷ xs) q h less =
    let up = h.0 in
    times_other xs x q (less_other x q (omega (arith, up, less))) ∙ below_none x xs q h.1 (omega (arith, up, less))

-- ---- the first place that is named twice

repeat_behind : ℕ → List ℕ → Option ℕ
repeat_behind x [] = None
repeat_behind x (y ∷ ys) = cond (x == y) (Some y) (repeat_behind y ys)

pub repeat_in : List ℕ → Option ℕ
repeat_in [] = None
repeat_in (x ∷ xs) = repeat_behind x xs

rises_by : (x y : ℕ) (ys : List ℕ) → x ≤ y → (repeat_behind y ys ≡ None → Rises (suc y) ys) → (b : Bool) → (x == y) ≡ b
    → cond b (Some y) (repeat_behind y ys) ≡ None → Rises (suc x) (y ∷ ys)
rises_by x y ys up rest true is wrong = cc wrong
rises_by x y ys up rest false is none = let other = eqb-false x y is in (omega (arith, other, up), rest none)

rises_behind : (x : ℕ) (xs : List ℕ) → Climbs x xs → repeat_behind x xs ≡ None → Rises (suc x) xs
unfolding repeat_behind
rises_behind x [] h e = tt
rises_behind x (y ∷ ys) h e = rises_by x y ys h.0 (λ none. rises_behind y ys h.1 none) (x == y) refl e

pub rises_from : (xs : List ℕ) → Climbs 0 xs → None ≡ repeat_in xs → Rises 0 xs
unfolding repeat_in
rises_from [] h e = tt
rises_from (x ∷ xs) h e = (omega arith, rises_behind x xs h.1 (sym e))

record Twice (x : ℕ) (xs : List ℕ) (p : ℕ) : Type 0 where
  two : 2 ≤ times (x ∷ xs) p
  from : x ≤ p
  once : (q : ℕ) → q < p → times (x ∷ xs) q ≤ 1

twice_by : (x y : ℕ) (ys : List ℕ) (p : ℕ) → x ≤ y → Climbs y ys → (repeat_behind y ys ≡ Some p → Twice y ys p) → (b : Bool) → (x == y) ≡ b
    → cond b (Some y) (repeat_behind y ys) ≡ Some p → Twice x (y ∷ ys) p
twice_by x y ys p up climbs rest true is here =
    let same = eqb-true x y is in
    let at = same_Some y p here in
    let first = times_same (y ∷ ys) x p (same ∙ at) in
    let second = times_same ys y p at in
    record {
      two = omega (arith, first, second);
      from = omega (arith, same, at);
      once = λ q less.
          let none = times_other (y ∷ ys) x q (less_other x q (omega (arith, less, same, at))) in
          let nor = times_other ys y q (less_other y q (omega (arith, less, at))) in
          let zero_more = below_none y ys q climbs (omega (arith, less, at)) in
          omega (arith, none, nor, zero_more);
    }
twice_by x y ys p up climbs rest false is more =
    let other = eqb-false x y is in
    let t = rest more in
    let t_two = t.two in
    let t_from = t.from in
    let grows = times_more (y ∷ ys) x p in
    record {
      two = omega (arith, t_two, grows);
      from = omega (arith, up, t_from);
      once = λ q less.
          let once_more = t.once q less in
          ⊎_elim
          (λ (s : Same (y ∷ ys) x q).
          let at = s.0 in
          let one_more = s.1 in
          let zero_more = below_none y (y ∷ ys) q (omega arith, climbs) (omega (arith, at, other, up)) in
          omega (arith, one_more, zero_more))
          (λ (o : Other (y ∷ ys) x q). let none_more = o.1 in omega (arith, none_more, once_more))
          (times_step (y ∷ ys) x q);
    }

twice_behind : (x : ℕ) (xs : List ℕ) (p : ℕ) → Climbs x xs → repeat_behind x xs ≡ Some p → Twice x xs p
unfolding repeat_behind
twice_behind x [] p h e = cc e
twice_behind x (y ∷ ys) p h e = twice_by x y ys p h.0 h.1 (λ more. twice_behind y ys p h.1 more) (x == y) refl e

pub repeated_from : (xs : List ℕ) (p : ℕ) → Climbs 0 xs → Some p ≡ repeat_in xs → IsLeast (λ q. HasTwice xs q) p
unfolding repeat_in
repeated_from [] p h e = cc e
repeated_from (x ∷ xs) p h e =
    let t = twice_behind x xs p h.1 (sym e) in
    record {
      holds = t.two;
      least = λ q less two. let one = t.once q less in omega (arith, one, two);
    }

-- ---- the first place that is missing

pub gap_in : ℕ → List ℕ → Option ℕ
gap_in n [] = None
gap_in n (x ∷ xs) = cond (x == n) (gap_in (suc n) xs) (Some n)

counts_by : (n x : ℕ) (xs : List ℕ) → (None ≡ gap_in (suc n) xs → Counts (suc n) xs) → (b : Bool) → (x == n) ≡ b
    → None ≡ cond b (gap_in (suc n) xs) (Some n) → Counts n (x ∷ xs)
counts_by n x xs rest true is none = (eqb-true x n is, rest none)
counts_by n x xs rest false is wrong = cc wrong

pub counts_from : (n : ℕ) (xs : List ℕ) → None ≡ gap_in n xs → Counts n xs
unfolding gap_in
counts_from n [] e = tt
counts_from n (x ∷ xs) e = counts_by n x xs (λ none. counts_from (suc n) xs none) (x == n) refl e

climbs_from : (x : ℕ) (xs : List ℕ) → Rises (suc x) xs → Climbs x xs
climbs_from x [] h = tt
climbs_from x (y ∷ ys) h = let up = h.0 in (omega (arith, up), climbs_from y ys h.1)

record Gap (n : ℕ) (xs : List ℕ) (p : ℕ) : Type 0 where
  missing : IsMissing xs p
  from : n ≤ p
  named : (q : ℕ) → n ≤ q → q < p → 1 ≤ times xs q

gap_by : (n x : ℕ) (xs : List ℕ) (p : ℕ) → n ≤ x → Rises (suc x) xs
    → (Rises (suc n) xs → Some p ≡ gap_in (suc n) xs → Gap (suc n) xs p) → (b : Bool) → (x == n) ≡ b
    → Some p ≡ cond b (gap_in (suc n) xs) (Some n) → Gap n (x ∷ xs) p
gap_by n x xs p up rises after true is more =
    let same = eqb-true x n is in
    let rest = after (subst (λ (m : ℕ). Rises (suc m) xs) same rises) more in
    let low = rest.from in
    let behind = rest.missing.behind in
    let later_named = rest.missing.named in
    let later_more = times_more xs x rest.missing.later in
    record {
      missing = record {
        none = times_other xs x p (λ at. omega (arith, at, same, low)) ∙ rest.missing.none;
        later = rest.missing.later;
        behind = behind;
        named = omega (arith, later_named, later_more);
      };
      from = omega (arith, low);
      named = λ q least less.
          ⊎_elim
          (λ (s : Same xs x q). let one_more = s.1 in omega (arith, one_more))
          (λ (o : Other xs x q).
          let other = o.0 in
          let none_more = o.1 in
          let rest_named = rest.named q (omega (arith, least, same, other)) less in
          omega (arith, none_more, rest_named))
          (times_step xs x q);
    }
gap_by n x xs p up rises after false is here =
    let other = eqb-false x n is in
    let at = same_Some p n here in
    let mine = times_same xs x x refl in
    record {
      missing = record {
        none = below_none x (x ∷ xs) p (omega arith, climbs_from x xs rises) (omega (arith, at, other, up));
        later = x;
        behind = omega (arith, at, other, up);
        named = omega (arith, mine);
      };
      from = omega (arith, at);
      named = λ q least less. absurd (omega (arith, least, less, at));
    }

gap_from : (n : ℕ) (xs : List ℕ) (p : ℕ) → Rises n xs → Some p ≡ gap_in n xs → Gap n xs p
unfolding gap_in
gap_from n [] p h e = cc e
gap_from n (x ∷ xs) p h e = gap_by n x xs p h.0 h.1 (λ rises more. gap_from (suc n) xs p rises more) (x == n) refl e

pub missing_from : (xs : List ℕ) (p : ℕ) → Rises 0 xs → Some p ≡ gap_in 0 xs → IsLeast (λ q. IsMissing xs q) p
missing_from xs p h e =
    let gap = gap_from 0 xs p h e in
    record {
      holds = gap.missing;
      least = λ q less missing.
          let named = gap.named q (omega arith) less in
          let none = missing.none in
          omega (arith, named, none);
    }

-- ---- places that count up from 0

rises_climbs : (low : ℕ) (xs : List ℕ) → Rises low xs → Climbs low xs
rises_climbs low [] h = tt
rises_climbs low (x ∷ xs) h = (h.0, climbs_from x xs h.1)

-- none is named twice where each is more than the one before it
pub rises_once : (low : ℕ) (xs : List ℕ) (q : ℕ) → Rises low xs → times xs q ≤ 1
rises_once low [] q h = omega arith
rises_once low (x ∷ xs) q h =
    ⊎_elim
    (λ (s : Same xs x q).
    let at = s.0 in
    let one_more = s.1 in
    let zero_more = below_none (suc x) xs q (rises_climbs (suc x) xs h.1) (omega (arith, at)) in
    omega (arith, one_more, zero_more))
    (λ (o : Other xs x q). let none_more = o.1 in let once = rises_once (suc x) xs q h.1 in omega (arith, none_more, once))
    (times_step xs x q)

pub counts_rise : (n : ℕ) (xs : List ℕ) → Counts n xs → Rises n xs
counts_rise n [] h = tt
counts_rise n (x ∷ xs) h =
    let same = h.0 in
    (omega (arith, same), subst (λ (m : ℕ). Rises (suc m) xs) (sym same) (counts_rise (suc n) xs h.1))

-- a place that is named is less than the number of places
counts_below : (n : ℕ) (xs : List ℕ) (q : ℕ) → Counts n xs → 1 ≤ times xs q → q < n + length xs
counts_below n [] q h named = absurd (omega (arith, named))
counts_below n (x ∷ xs) q h named =
    let same = h.0 in
    ⊎_elim
    (λ (s : Same xs x q). let at = s.0 in omega (arith, at, same))
    (λ (o : Other xs x q).
    let none_more = o.1 in
    let below = counts_below (suc n) xs q h.1 (omega (arith, named, none_more)) in
    omega (arith, below))
    (times_step xs x q)

-- and each that is less is named
counts_there : (n : ℕ) (xs : List ℕ) (q : ℕ) → Counts n xs → n ≤ q → q < n + length xs → 1 ≤ times xs q
counts_there n [] q h least less = absurd (omega (arith, least, less))
counts_there n (x ∷ xs) q h least less =
    let same = h.0 in
    ⊎_elim
    (λ (s : Same xs x q). let one_more = s.1 in omega (arith, one_more))
    (λ (o : Other xs x q).
    let other = o.0 in
    let none_more = o.1 in
    let there = counts_there (suc n) xs q h.1 (omega (arith, least, same, other)) (omega (arith, less)) in
    omega (arith, there, none_more))
    (times_step xs x q)

pub counts_whole : (xs : List ℕ) (place : ℕ) → Counts 0 xs → IsMissing xs place → ⊥
counts_whole xs place h missing =
    let behind = missing.behind in
    let none = missing.none in
    let below = counts_below 0 xs missing.later h missing.named in
    let there = counts_there 0 xs place h (omega arith) (omega (arith, behind, below)) in
    omega (arith, there, none)

pub counts_once : (xs : List ℕ) (place : ℕ) → Counts 0 xs → HasTwice xs place → ⊥
counts_once xs place h two = let once = rises_once 0 xs place (counts_rise 0 xs h) in omega (arith, once, two)

-- ---- spots

pub climbs_sorted : (spots : List Spot) → IsNonDecreasingBy (λ s. s.place) spots → Climbs 0 (places_of spots)
climbs_sorted [] h = tt
climbs_sorted (s ∷ spots) h = (omega arith, behind s spots h)
  where
    behind : (s : Spot) (spots : List Spot) → IsNonDecreasingBy (λ s. s.place) (s ∷ spots) → Climbs s.place (places_of spots)
    behind s [] h = tt
    behind s (t ∷ spots) h = (h 0 1 s (omega arith) (omega arith), behind t spots (IsNonDecreasingBy-drop (λ (s : Spot). s.place) 1 (s ∷ t ∷ spots) h))

not_twice : (x y : ℕ) (ys : List ℕ) → (x ≡ y → ⊥) → repeat_in (x ∷ y ∷ ys) ≡ repeat_in (y ∷ ys)
unfolding repeat_in repeat_behind
not_twice x y ys other = by_test (x == y) refl
  where
    by_test : (b : Bool) → (x == y) ≡ b → cond b (Some y) (repeat_behind y ys) ≡ repeat_behind y ys
    by_test true is = absurd (other (eqb-true x y is))
    by_test false is = refl

twice_here : (x y : ℕ) (ys : List ℕ) → x ≡ y → repeat_in (x ∷ y ∷ ys) ≡ Some y
unfolding repeat_in repeat_behind
twice_here x y ys same = by_test (x == y) refl
  where
    by_test : (b : Bool) → (x == y) ≡ b → cond b (Some y) (repeat_behind y ys) ≡ Some y
    by_test true is = refl
    by_test false is = absurd (eqb-false x y is same)

two_spots : (spots : List Spot) (next : ℕ) (d : Spot) → 1 ≤ next → next < length spots
    → drop (next - 1) spots ≡ get_or spots (next - 1) d ∷ get_or spots next d ∷ drop (next + 1) spots
two_spots spots next d one inside =
    let back : next - 1 + 1 ≡ next = omega (arith, one) in
    drop_more spots (next - 1) d (omega (arith, inside)) ∙ ap (λ (n : ℕ). get_or spots (next - 1) d ∷ drop n spots) back
    ∙ ap (λ (ss : List Spot). get_or spots (next - 1) d ∷ ss) (drop_more spots next d inside)

pub repeat_more : (spots : List Spot) (next : ℕ) (d : Spot) → 1 ≤ next → next < length spots
    → ((get_or spots (next - 1) d).place ≡ (get_or spots next d).place → ⊥)
    → repeat_in (places_of (drop (next + 1 - 1) spots)) ≡ repeat_in (places_of (drop (next - 1) spots))
repeat_more spots next d one inside other =
    let on : next + 1 - 1 ≡ next = omega arith in
    let in_places : List Spot → Option ℕ = λ ss. repeat_in (places_of ss) in
    ap (λ (n : ℕ). in_places (drop n spots)) on ∙ ap in_places (drop_more spots next d inside)
    ∙ sym (not_twice (get_or spots (next - 1) d).place (get_or spots next d).place (places_of (drop (next + 1) spots)) other)
    ∙ sym (ap in_places (two_spots spots next d one inside))

pub repeat_here : (spots : List Spot) (next : ℕ) (d : Spot) → 1 ≤ next → next < length spots
    → (get_or spots (next - 1) d).place ≡ (get_or spots next d).place
    → Some (get_or spots next d).place ≡ repeat_in (places_of (drop (next - 1) spots))
repeat_here spots next d one inside same =
    sym (twice_here (get_or spots (next - 1) d).place (get_or spots next d).place (places_of (drop (next + 1) spots)) same)
    ∙ sym (ap (λ (ss : List Spot). repeat_in (places_of ss)) (two_spots spots next d one inside))

short_none : (spots : List Spot) → length spots ≤ 1 → None ≡ repeat_in (places_of spots)
unfolding repeat_in repeat_behind
short_none [] h = refl
short_none (s ∷ []) h = refl
short_none (s ∷ t ∷ spots) h = absurd (omega (arith, h))

pub repeat_end : (spots : List Spot) (next : ℕ) → length spots ≤ next → None ≡ repeat_in (places_of (drop (next - 1) spots))
repeat_end spots next far =
    let short : length (drop (next - 1) spots) ≤ 1 = omega (arith, length-drop (next - 1) spots, far) in
    short_none (drop (next - 1) spots) short

pub gap_more : (spots : List Spot) (place : ℕ) (d : Spot) → place < length spots → (get_or spots place d).place ≡ place
    → gap_in (place + 1) (places_of (drop (place + 1) spots)) ≡ gap_in place (places_of (drop place spots))
unfolding gap_in
gap_more spots place d inside same =
    ap (λ (n : ℕ). gap_in n (places_of (drop (place + 1) spots))) (let e : place + 1 ≡ suc place = omega arith in e)
    ∙ sym (by_test (((get_or spots place d).place == place)) refl)
    ∙ sym (ap (λ (ss : List Spot). gap_in place (places_of ss)) (drop_more spots place d inside))
  where
    by_test : (b : Bool) → ((get_or spots place d).place == place) ≡ b
        → cond b (gap_in (suc place) (places_of (drop (place + 1) spots))) (Some place) ≡ gap_in (suc place) (places_of (drop (place + 1) spots))
    by_test true is = refl
    by_test false is = absurd (eqb-false _ _ is same)

pub gap_here : (spots : List Spot) (place : ℕ) (d : Spot) → place < length spots → ((get_or spots place d).place ≡ place → ⊥)
    → Some place ≡ gap_in place (places_of (drop place spots))
unfolding gap_in
gap_here spots place d inside other =
    sym (by_test ((get_or spots place d).place == place) refl)
    ∙ sym (ap (λ (ss : List Spot). gap_in place (places_of ss)) (drop_more spots place d inside))
  where
    by_test : (b : Bool) → ((get_or spots place d).place == place) ≡ b
        → cond b (gap_in (suc place) (places_of (drop (place + 1) spots))) (Some place) ≡ Some place
    by_test true is = absurd (other (eqb-true _ _ is))
    by_test false is = refl

pub gap_end : (spots : List Spot) (place : ℕ) → length spots ≤ place → None ≡ gap_in place (places_of (drop place spots))
unfolding gap_in
gap_end spots place far = sym (ap (λ (ss : List Spot). gap_in place (places_of ss)) (drop_all place spots far))
