-- The number that a new stream gets is free.
use Rattle.std.proofs.Common.{arith, ◌≡◌, ◌⊎◌, inl, inr, ℕ, zero, suc, ◌+◌, ◌<◌, ◌≤◌, ◌==◌, ◌&&◌, ◌||◌, not, Bool, true, false, cond, List, [], ◌∷◌, ◌++◌, filter, find, length, Option, Some, None, is_some, is_none, refl, ap, sym, ◌∙◌, unwrap_or, length-append}
use Rattle.std.specs.List.{list_any, range_with_len}
use Rattle.std.specs.Prelude.{nat_le}
use Rattle.std.proofs.lemmas.Bool.{eqb-true, eq-eqb, not-true}
use Rattle.satip_base.specs.Lists.{Has}
use Rattle.satip_plain.specs.Types.{Config}
use Rattle.satip_plain.specs.State.{Stream, State}
use Rattle.satip_plain.specs.Steps.{least_free, put_stream}
use Rattle.satip_plain.specs.Readings.{Readings, home_of_number, number_free}
use Rattle.satip_laws.specs.Agreement.{stream_told}
use Rattle.satip_laws.proofs.SameTests.{none_true}
use Rattle.satip_laws.proofs.Finding.{find_has, find_fails, find_is_any, find_only, find_no, find_agree, any_agree, any_filter, any_append, any_no, no_any, filter_has, has_filter, length_filter, has_parts, has_left, has_right}
use Rattle.satip_laws.proofs.Agree.{Agrees, Apart}
use Rattle.satip_laws.proofs.Sweeping.{is_some_map, apart_filter}

abbrev pub is_free : List Stream → ℕ → Bool
is_free ts n = not (list_any (λ t. t.number == n) ts)

range_has : (n a len : ℕ) → Has n (range_with_len a len) → a ≤ n
range_has n a zero h = absurd h
range_has n a (suc len) (inl e) = omega (arith, e)
range_has n a (suc len) (inr h) = let above : a + 1 ≤ n = range_has n (a + 1) len h in omega arith

fewer : (p : Stream → Bool) (ts : List Stream) → length (filter (λ t. not (p t)) ts) ≤ length ts
fewer p ts = length_filter (λ t. not (p t)) ts

-- a filter that drops something leaves fewer
fewer_by_one : (p : Stream → Bool) (ts : List Stream) → list_any p ts ≡ true → length (filter (λ t. not (p t)) ts) < length ts
fewer_by_one p [] e = cc
fewer_by_one p (t ∷ ts) e = by (p t) e (λ f. fewer_by_one p ts f)
  where
    by : (b : Bool) → (b || list_any p ts) ≡ true → (list_any p ts ≡ true → length (filter (λ u. not (p u)) ts) < length ts)
        → length (cond (not b) (t ∷ filter (λ u. not (p u)) ts) (filter (λ u. not (p u)) ts)) < suc (length ts)
    by true f rest = omega (arith, fewer p ts)
    by false f rest = omega (arith, rest f)

-- so many streams leave one number of more free
free_some : (len low : ℕ) (ts : List Stream) → length ts < len → (k : ℕ) × (find (is_free ts) (range_with_len low len) ≡ Some k)
free_some zero low ts less = absurd (omega (arith, less))
free_some (suc len) low ts less = by (list_any (λ t. t.number == low) ts) refl (free_some len (low + 1) (filter (λ t. not (t.number == low)) ts))
  where
    by : (b : Bool) → list_any (λ t. t.number == low) ts ≡ b
        → (length (filter (λ t. not (t.number == low)) ts) < len
        → (k : ℕ) × (find (is_free (filter (λ t. not (t.number == low)) ts)) (range_with_len (low + 1) len) ≡ Some k))
        → (k : ℕ) × (cond (is_free ts low) (Some low) (find (is_free ts) (range_with_len (low + 1) len)) ≡ Some k)
    by false e rest = (low, rw e refl)
    by true e rest =
        let r = rest (omega (arith, less, fewer_by_one (λ t. t.number == low) ts e)) in
        let same : (n : ℕ) → Has n (range_with_len (low + 1) len) → is_free ts n ≡ is_free (filter (λ t. not (t.number == low)) ts) n =
        λ n h. ap not (sym (others n (range_has n (low + 1) len h))) in
        (r.0, rw e (find_agree (is_free ts) (is_free (filter (λ t. not (t.number == low)) ts)) (range_with_len (low + 1) len) same ∙ r.1))
      where
        one : (n : ℕ) (t : Stream) (a b : Bool) → (t.number == low) ≡ a → (t.number == n) ≡ b → low + 1 ≤ n → (not a && b) ≡ b
        one n t true true e f above =
            let x : t.number ≡ low = eqb-true t.number low e in
            let y : t.number ≡ n = eqb-true t.number n f in absurd (omega arith)
        one n t true false e f above = refl
        one n t false b e f above = refl

        others : (n : ℕ) → low + 1 ≤ n → list_any (λ t. t.number == n) (filter (λ t. not (t.number == low)) ts) ≡ list_any (λ t. t.number == n) ts
        others n above = any_filter (λ t. not (t.number == low)) (λ t. t.number == n) ts
            ∙ any_agree (λ t. not (t.number == low) && t.number == n) (λ t. t.number == n) ts (λ t h. one n t (t.number == low) (t.number == n) refl refl above)

find_longer : (p : ℕ → Bool) (a i j x : ℕ) → find p (range_with_len a i) ≡ Some x → i ≤ j → find p (range_with_len a j) ≡ Some x
find_longer p a zero j x e less = cc
find_longer p a (suc i) zero x e less = absurd (omega (arith, less))
find_longer p a (suc i) (suc j) x e less = by (p a) e (λ f. find_longer p (a + 1) i j x f (omega (arith, less)))
  where
    by : (b : Bool) → cond b (Some a) (find p (range_with_len (a + 1) i)) ≡ Some x
        → (find p (range_with_len (a + 1) i) ≡ Some x → find p (range_with_len (a + 1) j) ≡ Some x)
        → cond b (Some a) (find p (range_with_len (a + 1) j)) ≡ Some x
    by true f rest = f
    by false f rest = rest f

-- a number of which a new stream may be
pub record IsNew (ts : List Stream) (k : ℕ) : Type 0 where
  pub free : list_any (λ t. t.number == k) ts ≡ false
  pub positive : 1 ≤ k

pub least_is_new : (ts : List Stream) → IsNew ts (least_free ts)
least_is_new ts =
    let r = free_some (length ts + 1) 1 ts (omega arith) in
    let e : least_free ts ≡ r.0 = ap (λ o. unwrap_or o 0) r.1 in
    let there = find_has (is_free ts) (range_with_len 1 (length ts + 1)) r.0 r.1 in
    rw e (record { free = not-true (list_any (λ t. t.number == r.0) ts) there.1; positive = range_has r.0 1 (length ts + 1) there.0 })

-- it is the number that is read
pub number_is_free : (c : Config) (st : State) (g : Readings) → Agrees c st g → number_free g ≡ least_free st.streams
number_is_free c st g a =
    let r = free_some (length st.streams + 1) 1 st.streams (omega arith) in
    let few = a.loosely.kept.few in
    let made = a.loosely.made in
    let longer : find (is_free st.streams) (range_with_len 1 (length g.made + 1)) ≡ Some r.0 =
    find_longer (is_free st.streams) 1 (length st.streams + 1) (length g.made + 1) r.0 r.1 (omega (arith, few, made)) in
    ap (λ o. unwrap_or o 0) (find_agree (λ n. is_none (home_of_number g n)) (is_free st.streams) (range_with_len 1 (length g.made + 1)) (λ n h. ap not (same n))
    ∙ longer ∙ sym r.1)
  where
    same : (n : ℕ) → is_some (home_of_number g n) ≡ list_any (λ t. t.number == n) st.streams
    same n = sym (is_some_map (stream_told g) (home_of_number g n)) ∙ ap is_some (sym (a.streams n)) ∙ find_is_any (λ t. t.number == n) st.streams

-- a stream that is put among others

pub put_has : (new t : Stream) (ts : List Stream) → Has t (put_stream new ts) → (t ≡ new) ⊎ Has t ts
put_has new t ts h = by (has_parts t (filter (λ u. nat_le u.number new.number) ts) (new ∷ filter (λ u. not (nat_le u.number new.number)) ts) h)
  where
    by : Has t (filter (λ u. nat_le u.number new.number) ts) ⊎ ((t ≡ new) ⊎ Has t (filter (λ u. not (nat_le u.number new.number)) ts)) → (t ≡ new) ⊎ Has t ts
    by (inl k) = inr (filter_has (λ u. nat_le u.number new.number) ts t k).0
    by (inr (inl e)) = inl e
    by (inr (inr k)) = inr (filter_has (λ u. not (nat_le u.number new.number)) ts t k).0

pub has_put : (new t : Stream) (ts : List Stream) → Has t ts → Has t (put_stream new ts)
has_put new t ts h = by (nat_le t.number new.number) refl
  where
    by : (b : Bool) → nat_le t.number new.number ≡ b → Has t (put_stream new ts)
    by true e = has_left t (filter (λ u. nat_le u.number new.number) ts) (new ∷ filter (λ u. not (nat_le u.number new.number)) ts)
        (has_filter (λ u. nat_le u.number new.number) ts t h e)
    by false e = has_right t (filter (λ u. nat_le u.number new.number) ts) (new ∷ filter (λ u. not (nat_le u.number new.number)) ts)
        (inr (has_filter (λ u. not (nat_le u.number new.number)) ts t h (ap not e)))

has_new : (new : Stream) (ts : List Stream) → Has new (put_stream new ts)
has_new new ts = has_right new (filter (λ u. nat_le u.number new.number) ts) (new ∷ filter (λ u. not (nat_le u.number new.number)) ts) (inl refl)

split_length : (p : Stream → Bool) (ts : List Stream) → length (filter p ts) + length (filter (λ t. not (p t)) ts) ≡ length ts
split_length p [] = omega arith
split_length p (t ∷ ts) = by (p t) (split_length p ts)
  where
    by : (b : Bool) → length (filter p ts) + length (filter (λ u. not (p u)) ts) ≡ length ts
        → length (cond b (t ∷ filter p ts) (filter p ts)) + length (cond (not b) (t ∷ filter (λ u. not (p u)) ts) (filter (λ u. not (p u)) ts))
        ≡ suc (length ts)
    by true e = omega (arith, e)
    by false e = omega (arith, e)

pub put_length : (new : Stream) (ts : List Stream) → length (put_stream new ts) ≡ length ts + 1
put_length new ts =
    let parts : length (filter (λ u. nat_le u.number new.number) ts) + length (filter (λ u. not (nat_le u.number new.number)) ts) ≡ length ts =
    split_length (λ u. nat_le u.number new.number) ts in
    length-append (filter (λ u. nat_le u.number new.number) ts) (new ∷ filter (λ u. not (nat_le u.number new.number)) ts) ∙ (omega (arith, parts))

module _ (new : Stream) (ts : List Stream) (once : (t u : Stream) → Has t ts → Has u ts → t.number ≡ u.number → t ≡ u)
    (free : list_any (λ t. t.number == new.number) ts ≡ false) where
  not_new : (t : Stream) → Has t ts → t.number ≡ new.number → ⊥
  not_new t h e = none_true (t.number == new.number) (eq-eqb t.number new.number e) (any_no (λ u. u.number == new.number) ts t free h)

  pub put_once : (t u : Stream) → Has t (put_stream new ts) → Has u (put_stream new ts) → t.number ≡ u.number → t ≡ u
  put_once t u h k e = by (put_has new t ts h) (put_has new u ts k)
    where
      by : (t ≡ new) ⊎ Has t ts → (u ≡ new) ⊎ Has u ts → t ≡ u
      by (inl f) (inl i) = f ∙ sym i
      by (inl f) (inr i) = absurd (not_new u i (sym e ∙ ap (λ x. x.number) f))
      by (inr f) (inl i) = absurd (not_new t f (e ∙ ap (λ x. x.number) i))
      by (inr f) (inr i) = once t u f i e

  pub put_apart : Apart ts → Apart (put_stream new ts)
  put_apart apart = joined (filter below ts) (apart_filter below ts apart) (λ t h. t_below t (filter_has below ts t h))
    where
      below : Stream → Bool
      below = λ u. nat_le u.number new.number

      above : List Stream
      above = filter (λ u. not (nat_le u.number new.number)) ts

      t_below : (t : Stream) → Has t ts × (below t ≡ true) → list_any (λ u. u.number == t.number) (new ∷ above) ≡ false
      t_below t p = no_any (λ u. u.number == t.number) (new ∷ above) (λ u h e. other u h (eqb-true u.number t.number e))
        where
          other : (u : Stream) → Has u (new ∷ above) → u.number ≡ t.number → ⊥
          other u (inl same) e = not_new t p.0 (sym e ∙ ap (λ x. x.number) same)
          other u (inr h) e = none_true (below t) p.1 (sym (ap (λ n. nat_le n new.number) e)
              ∙ not-true (below u) (filter_has (λ u. not (nat_le u.number new.number)) ts u h).1)

      back : Apart (new ∷ above)
      back = (
        no_any (λ u. u.number == new.number) above
            (λ u h e. not_new u (filter_has (λ u. not (nat_le u.number new.number)) ts u h).0 (eqb-true u.number new.number e)),
        apart_filter (λ u. not (nat_le u.number new.number)) ts apart,
      )

      either : (a b : Bool) → a ≡ false → b ≡ false → (a || b) ≡ false
      either a b e f = rw (e, f) refl

      joined : (xs : List Stream) → Apart xs → ((t : Stream) → Has t xs → list_any (λ u. u.number == t.number) (new ∷ above) ≡ false)
          → Apart (xs ++ new ∷ above)
      joined [] e f = back
      joined (x ∷ xs) e f = (
        any_append (λ u. u.number == x.number) xs (new ∷ above)
            ∙ either (list_any (λ u. u.number == x.number) xs) (list_any (λ u. u.number == x.number) (new ∷ above)) e.0 (f x (inl refl)),
        joined xs e.1 (λ t h. f t (inr h)),
      )

  pub put_find : (n : ℕ) → find (λ t. t.number == n) (put_stream new ts) ≡ cond (new.number == n) (Some new) (find (λ t. t.number == n) ts)
  put_find n = by (new.number == n) refl
    where
      unique : (t : Stream) → Has t (put_stream new ts) → t.number ≡ n → (y : Stream) → Has y (put_stream new ts) → (y.number == n) ≡ true → y ≡ t
      unique t h e y k f = put_once y t k h (eqb-true y.number n f ∙ sym e)

      other : (new.number == n) ≡ false → (o : Option Stream) → find (λ t. t.number == n) ts ≡ o → find (λ t. t.number == n) (put_stream new ts) ≡ o
      other e (Some t) f =
          let there = find_has (λ u. u.number == n) ts t f in
          let h : Has t (put_stream new ts) = has_put new t ts there.0 in
          find_only (λ u. u.number == n) (put_stream new ts) t h there.1 (unique t h (eqb-true t.number n there.1))
      other e None f = find_no (λ u. u.number == n) (put_stream new ts) (λ y k i. no_one y i (put_has new y ts k))
        where
          no_one : (y : Stream) → (y.number == n) ≡ true → (y ≡ new) ⊎ Has y ts → ⊥
          no_one y i (inl same) = none_true (new.number == n) (ap (λ x. x.number == n) (sym same) ∙ i) e
          no_one y i (inr k) = none_true (y.number == n) i (find_fails (λ u. u.number == n) ts y f k)

      by : (b : Bool) → (new.number == n) ≡ b → find (λ t. t.number == n) (put_stream new ts) ≡ cond b (Some new) (find (λ t. t.number == n) ts)
      by true e = find_only (λ u. u.number == n) (put_stream new ts) new (has_new new ts) e (unique new (has_new new ts) (eqb-true new.number n e))
      by false e = other e (find (λ t. t.number == n) ts) refl
