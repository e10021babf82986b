-- No two streams have one number.
use Rattle.std.proofs.Common.{arith, ◌≡◌, ◌⊎◌, inl, inr, ℕ, zero, suc, ◌+◌, ◌<◌, ◌≤◌, ◌==◌, ◌||◌, not, nat_le, Bool, true, false, cond, List, [], ◌∷◌, ◌++◌, map, length, filter, find, Option, Some, None, refl, ap, sym, ◌∙◌, if◌then◌else◌, unwrap_or, length-append}
use Rattle.std.specs.List.{list_any, range_with_len}
use Rattle.std.proofs.lemmas.Bool.{eqb-true, eqb-false}
use Rattle.std.proofs.lemmas.List.Elements.{filter-append}
use Rattle.satip_plain.specs.State.{Stream}
use Rattle.satip_plain.specs.Steps.{put_stream, least_free}

abbrev pub has_number : ℕ → Stream → Bool
has_number n t = t.number == n

abbrev pub many : ℕ → List Stream → ℕ
many n ts = length (filter (has_number n) ts)

pub record Single (ts : List Stream) : Type 0 where
  pub few : (n : ℕ) → many n ts ≤ 1

-- parts

many_filter : (p : Stream → Bool) (n : ℕ) (ts : List Stream) → many n (filter p ts) ≤ many n ts
many_filter p n [] = omega arith
many_filter p n (t ∷ ts) = by (p t) (has_number n t) (many_filter p n ts)
  where
    more : (b : Bool) → many n (filter p ts) ≤ many n ts
        → length (cond b (t ∷ filter (has_number n) (filter p ts)) (filter (has_number n) (filter p ts)))
        ≤ length (cond b (t ∷ filter (has_number n) ts) (filter (has_number n) ts))
    more true le = omega (arith, le)
    more false le = le

    by : (a b : Bool) → many n (filter p ts) ≤ many n ts
        → length (filter (has_number n) (cond a (t ∷ filter p ts) (filter p ts)))
        ≤ length (cond (has_number n t) (t ∷ filter (has_number n) ts) (filter (has_number n) ts))
    by true b le = more (has_number n t) le
    by false b le = less (has_number n t) le
      where
        less : (b : Bool) → many n (filter p ts) ≤ many n ts → many n (filter p ts) ≤ length (cond b (t ∷ filter (has_number n) ts) (filter (has_number n) ts))
        less true le = omega (arith, le)
        less false le = le

pub single_filter : (p : Stream → Bool) (ts : List Stream) → Single ts → Single (filter p ts)
single_filter p ts s = record { few = λ n. omega (arith, many_filter p n ts, s.few n) }

many_map : (f : Stream → Stream) → ((t : Stream) → (f t).number ≡ t.number) → (n : ℕ) (ts : List Stream) → many n (map f ts) ≡ many n ts
many_map f same n [] = refl
many_map f same n (t ∷ ts) =
    ap (λ b. length (cond b (f t ∷ filter (has_number n) (map f ts)) (filter (has_number n) (map f ts)))) (ap (λ m. m == n) (same t))
    ∙ by (t.number == n) (many_map f same n ts)
  where
    by : (b : Bool) → many n (map f ts) ≡ many n ts
        → length (cond b (f t ∷ filter (has_number n) (map f ts)) (filter (has_number n) (map f ts)))
        ≡ length (cond b (t ∷ filter (has_number n) ts) (filter (has_number n) ts))
    by true e = ap suc e
    by false e = e

pub single_map : (f : Stream → Stream) → ((t : Stream) → (f t).number ≡ t.number) → (ts : List Stream) → Single ts → Single (map f ts)
single_map f same ts s = record { few = λ n. omega (arith, many_map f same n ts, s.few n) }

-- one more stream, of a number that none has

many_split : (p : Stream → Bool) (n : ℕ) (ts : List Stream) → many n (filter p ts) + many n (filter (λ t. not (p t)) ts) ≡ many n ts
many_split p n [] = refl
many_split p n (t ∷ ts) = by (p t) (has_number n t) refl (many_split p n ts)
  where
    a : List Stream
    a = filter p ts

    b : List Stream
    b = filter (λ t. not (p t)) ts

    by : (q r : Bool) → has_number n t ≡ r → many n a + many n b ≡ many n ts
        → length (filter (has_number n) (cond q (t ∷ a) a)) + length (filter (has_number n) (cond (not q) (t ∷ b) b))
        ≡ length (cond (has_number n t) (t ∷ filter (has_number n) ts) (filter (has_number n) ts))
    by true true e rest = rw e (omega (arith, rest))
    by true false e rest = rw e rest
    by false true e rest = rw e (omega (arith, rest))
    by false false e rest = rw e rest

many_one : (new : Stream) (n : ℕ) → many n (new ∷ []) ≤ 1
many_one new n = by (has_number n new)
  where
    by : (b : Bool) → length (cond b (new ∷ []) []) ≤ 1
    by true = omega arith
    by false = omega arith

many_other : (new : Stream) (n : ℕ) → (n ≡ new.number → ⊥) → many n (new ∷ []) ≡ 0
many_other new n other = by (has_number n new) refl
  where
    by : (b : Bool) → (new.number == n) ≡ b → length (cond b (new ∷ []) []) ≡ 0
    by true e = absurd (other (sym (eqb-true new.number n e)))
    by false e = refl

many-append : (n : ℕ) (ts us : List Stream) → many n (ts ++ us) ≡ many n ts + many n us
many-append n ts us = ap length (filter-append (has_number n) ts us) ∙ length-append (filter (has_number n) ts) (filter (has_number n) us)

many_put : (n : ℕ) (new : Stream) (ts : List Stream) → many n (put_stream new ts) ≡ many n ts + many n (new ∷ [])
many_put n new ts =
    let p : Stream → Bool = λ t. nat_le t.number new.number in
    let q : Stream → Bool = λ t. not (p t) in
    let a = many-append n (filter p ts) (new ∷ filter q ts) in
    let b = many-append n (new ∷ []) (filter q ts) in
    omega (arith, a, b, many_split p n ts)

pub single_put : (new : Stream) (ts : List Stream) → many new.number ts ≡ 0 → Single ts → Single (put_stream new ts)
single_put new ts fresh s = record { few = λ n. by n (eqb_cases n new.number) }
  where
    eqb_cases : (a b : ℕ) → (a ≡ b) ⊎ (a ≡ b → ⊥)
    eqb_cases a b = at (a == b) refl
      where
        at : (r : Bool) → (a == b) ≡ r → (a ≡ b) ⊎ (a ≡ b → ⊥)
        at true e = inl (eqb-true a b e)
        at false e = inr (eqb-false a b e)

    by : (n : ℕ) → (n ≡ new.number) ⊎ (n ≡ new.number → ⊥) → many n (put_stream new ts) ≤ 1
    by n (inl e) = let none : many n ts ≡ 0 = rw e fresh in omega (arith, many_put n new ts, none, many_one new n)
    by n (inr e) = omega (arith, many_put n new ts, many_other new n e, s.few n)

-- the least free number is free: so many streams don't take one number more

-- how many of the streams have a number from a on, up to a + k
in_range : ℕ → ℕ → List Stream → ℕ
in_range a zero ts = 0
in_range a (suc k) ts = many a ts + in_range (a + 1) k ts

one_in : ℕ → ℕ → Stream → ℕ
one_in a zero t = 0
one_in a (suc k) t = many a (t ∷ []) + one_in (a + 1) k t

one_past : (a k : ℕ) (t : Stream) → t.number < a → one_in a k t ≡ 0
unfolding one_in
one_past a zero t less = refl
one_past a (suc k) t less = omega (arith, many_other t a (λ e. absurd (omega (arith, e, less))), one_past (a + 1) k t (omega (arith, less)))

one_few : (a k : ℕ) (t : Stream) → one_in a k t ≤ 1
unfolding one_in
one_few a zero t = omega arith
one_few a (suc k) t = by (t.number == a) refl (one_few (a + 1) k t)
  where
    by : (b : Bool) → (t.number == a) ≡ b → one_in (a + 1) k t ≤ 1 → length (cond (t.number == a) (t ∷ []) []) + one_in (a + 1) k t ≤ 1
    by true e rest = let past : one_in (a + 1) k t ≡ 0 = one_past (a + 1) k t (omega (arith, eqb-true t.number a e)) in rw (e, past) (omega arith)
    by false e rest = rw e (omega (arith, rest))

range_none : (a k : ℕ) → in_range a k [] ≡ 0
unfolding in_range
range_none a zero = refl
range_none a (suc k) = omega (arith, range_none (a + 1) k)

range_more : (a k : ℕ) (t : Stream) (ts : List Stream) → in_range a k (t ∷ ts) ≡ one_in a k t + in_range a k ts
unfolding in_range one_in
range_more a zero t ts = refl
range_more a (suc k) t ts =
    let one : many a (t ∷ ts) ≡ many a (t ∷ []) + many a ts = many-append a (t ∷ []) ts in
    omega (arith, one, range_more (a + 1) k t ts)

range_few : (a k : ℕ) (ts : List Stream) → in_range a k ts ≤ length ts
range_few a k [] = omega (arith, range_none a k)
range_few a k (t ∷ ts) = omega (arith, range_more a k t ts, one_few a k t, range_few a k ts)

any_many : (n : ℕ) (ts : List Stream) → list_any (λ t. t.number == n) ts ≡ true → 1 ≤ many n ts
any_many n [] e = cc
any_many n (t ∷ ts) e = by (t.number == n) e (λ f. any_many n ts f)
  where
    by : (b : Bool) → (b || list_any (λ t. t.number == n) ts) ≡ true → (list_any (λ t. t.number == n) ts ≡ true → 1 ≤ many n ts)
        → 1 ≤ length (cond b (t ∷ filter (has_number n) ts) (filter (has_number n) ts))
    by true f rest = omega arith
    by false f rest = rest f

none_many : (n : ℕ) (ts : List Stream) → list_any (λ t. t.number == n) ts ≡ false → many n ts ≡ 0
none_many n [] e = refl
none_many n (t ∷ ts) e = by (t.number == n) e (λ f. none_many n ts f)
  where
    by : (b : Bool) → (b || list_any (λ t. t.number == n) ts) ≡ false → (list_any (λ t. t.number == n) ts ≡ false → many n ts ≡ 0)
        → length (cond b (t ∷ filter (has_number n) ts) (filter (has_number n) ts)) ≡ 0
    by true f rest = cc
    by false f rest = rest f

abbrev is_free : List Stream → ℕ → Bool
is_free ts n = not (list_any (λ t. t.number == n) ts)

taken_full : (a k : ℕ) (ts : List Stream) → find (is_free ts) (range_with_len a k) ≡ None → k ≤ in_range a k ts
unfolding in_range
taken_full a zero ts e = omega arith
taken_full a (suc k) ts e = by (list_any (λ t. t.number == a) ts) refl e (λ f. taken_full (a + 1) k ts f)
  where
    by : (b : Bool) → list_any (λ t. t.number == a) ts ≡ b → (if not b then Some a else find (is_free ts) (range_with_len (a + 1) k)) ≡ None
        → (find (is_free ts) (range_with_len (a + 1) k) ≡ None → k ≤ in_range (a + 1) k ts) → suc k ≤ many a ts + in_range (a + 1) k ts
    by true f g rest = omega (arith, any_many a ts f, rest g)
    by false f g rest = cc

free_found : (ts : List Stream) (ns : List ℕ) (n : ℕ) → find (is_free ts) ns ≡ Some n → many n ts ≡ 0
free_found ts [] n e = cc
free_found ts (m ∷ ns) n e = by (list_any (λ t. t.number == m) ts) refl e (λ f. free_found ts ns n f)
  where
    by : (b : Bool) → list_any (λ t. t.number == m) ts ≡ b → (if not b then Some m else find (is_free ts) ns) ≡ Some n
        → (find (is_free ts) ns ≡ Some n → many n ts ≡ 0) → many n ts ≡ 0
    by true f g rest = rest g
    by false f g rest = let same : m ≡ n = cc in rw (← same) (none_many m ts f)

pub least_is_free : (ts : List Stream) → many (least_free ts) ts ≡ 0
least_is_free ts = by (find (is_free ts) (range_with_len 1 (length ts + 1))) refl
  where
    by : (o : Option ℕ) → find (is_free ts) (range_with_len 1 (length ts + 1)) ≡ o → many (unwrap_or o 0) ts ≡ 0
    by None e = absurd (omega (arith, taken_full 1 (length ts + 1) ts e, range_few 1 (length ts + 1) ts))
    by (Some n) e = free_found ts (range_with_len 1 (length ts + 1)) n e
