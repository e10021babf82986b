-- Streams without sessions are gone, and front ends without streams are free.
use Rattle.std.proofs.Common.{◌≡◌, ℕ, zero, suc, ◌-◌, ◌==◌, ◌<◌, ◌||◌, not, Bool, true, false, cond, List, [], ◌∷◌, ◌++◌, length, map, filter, find, set}
use Rattle.std.proofs.Common.{Option, Some, None, refl, sym, ap, subst, ◌∙◌, arith, inl, inr, option_and_then}
use Rattle.std.specs.List.{list_any, slice_get}
use Rattle.std.specs.Option.{option_flatten}
use Rattle.std.proofs.lemmas.Bool.{or_parts, or_from, true≢false, ne_eqb, eq-eqb}
use Rattle.std.proofs.lemmas.Option.{same_Some}
use Rattle.satip_base.specs.Lists.{Each, Has}
use Rattle.satip_table.specs.declared.stream.Stream.{Stream as StreamRow}
use Rattle.satip_table.specs.Living.{NumbersRise}
use Rattle.satip_fronts.specs.declared.front_table.FrontRow.{FrontRow}
use Rattle.satip_fronts.specs.Rows.{free_row}
use Rattle.satip_fronts.specs.Rows.{is_at as stands_at, freed as freed_at}
use Rattle.satip_fronts.specs.FrontEnds.{front_of}
use Rattle.satip_plain.specs.State.{Stream, Row, is_at, change_where}
use Rattle.satip_plain.specs.Streams.{freed}
use Rattle.satip_state.specs.Standing.{stream_in, row_in}
use Rattle.satip_state.proofs.Picking.{find_place}

pub same_tests : (a b : Bool) → (a ≡ true → b ≡ true) → (b ≡ true → a ≡ true) → a ≡ b
same_tests true b there back = sym (there refl)
same_tests false true there back = back refl
same_tests false false there back = refl

module _ {X : Type 0} where
  pub any_from_get : (p : X → Bool) (xs : List X) (k : ℕ) (x : X) → slice_get xs k ≡ Some x → p x ≡ true → list_any p xs ≡ true
  any_from_get p [] k x got e = absurd (cc)
  any_from_get p (y ∷ xs) zero x got e = ap (λ b. b || list_any p xs) (ap p (same_Some y x got) ∙ e)
  any_from_get p (y ∷ xs) (suc k) x got e = ap (λ b. p y || b) (any_from_get p xs k x got e) ∙ or_true (p y)
    where
      or_true : (b : Bool) → (b || true) ≡ true
      or_true true = refl
      or_true false = refl

  pub any_place : (p : X → Bool) (xs : List X) → list_any p xs ≡ true → (k : ℕ) × (x : X) × (slice_get xs k ≡ Some x) × (p x ≡ true)
  any_place p [] any = absurd (cc)
  any_place p (y ∷ xs) any = by (p y) refl any (λ e. any_place p xs e)
    where
      by : (b : Bool) → p y ≡ b → (b || list_any p xs) ≡ true → (list_any p xs ≡ true → (k : ℕ) × (x : X) × (slice_get xs k ≡ Some x) × (p x ≡ true))
          → (k : ℕ) × (x : X) × (slice_get (y ∷ xs) k ≡ Some x) × (p x ≡ true)
      by true e any rest = (zero, y, refl, e)
      by false e any rest = let r = rest any in (suc r.0, r.1, r.2, r.3)

  pub find_kept : (p q : X → Bool) (xs : List X) → ((x : X) → Has x xs → p x ≡ true → q x ≡ true) → find p (filter q xs) ≡ find p xs
  find_kept p q [] keeps = refl
  find_kept p q (x ∷ xs) keeps = by (p x) (q x) refl refl (find_kept p q xs (λ y has e. keeps y (inr has) e))
    where
      by : (b c : Bool) → p x ≡ b → q x ≡ c → find p (filter q xs) ≡ find p xs → find p (cond c (x ∷ filter q xs) (filter q xs)) ≡ cond b (Some x) (find p xs)
      by true true e f rest = ap (λ d. cond d (Some x) (find p (filter q xs))) e
      by true false e f rest = absurd (true≢false (sym (keeps x (inl refl) e) ∙ f))
      by false true e f rest = ap (λ d. cond d (Some x) (find p (filter q xs))) e ∙ rest
      by false false e f rest = rest

  pub filter_all : (q : X → Bool) (xs : List X) → ((x : X) → Has x xs → q x ≡ true) → filter q xs ≡ xs
  filter_all q [] all = refl
  filter_all q (x ∷ xs) all =
      ap (λ b. cond b (x ∷ filter q xs) (filter q xs)) (all x (inl refl)) ∙ ap (λ ys. x ∷ ys) (filter_all q xs (λ y has. all y (inr has)))

  pub each_filter : (P : X → Type 0) (q : X → Bool) (xs : List X) → Each P xs → Each P (filter q xs)
  each_filter P q [] each = tt
  each_filter P q (x ∷ xs) each = by (q x) (each_filter P q xs each.1)
    where
      by : (b : Bool) → Each P (filter q xs) → Each P (cond b (x ∷ filter q xs) (filter q xs))
      by true rest = (each.0, rest)
      by false rest = rest

  pub find_skip : (p : X → Bool) (a : List X) (x : X) (b : List X) → p x ≡ false → find p (a ++ x ∷ b) ≡ find p (a ++ b)
  find_skip p [] x b e = ap (λ c. cond c (Some x) (find p b)) e
  find_skip p (y ∷ a) x b e = ap (λ o. cond (p y) (Some y) o) (find_skip p a x b e)

  pub any_skip : (p : X → Bool) (a : List X) (x : X) (b : List X) → p x ≡ false → list_any p (a ++ x ∷ b) ≡ list_any p (a ++ b)
  any_skip p [] x b e = ap (λ c. c || list_any p b) e
  any_skip p (y ∷ a) x b e = ap (λ o. p y || o) (any_skip p a x b e)

  pub any_neither : (p : X → Bool) (a b : List X) → list_any p a ≡ false → list_any p b ≡ false → list_any p (a ++ b) ≡ false
  any_neither p [] b before behind = behind
  any_neither p (y ∷ a) b before behind =
      let parts = or_parts (p y) (list_any p a) before in
      or_from (p y) (list_any p (a ++ b)) parts.0 (any_neither p a b parts.1 behind)

  pub get_set_same : (xs : List X) (k : ℕ) (x y : X) → slice_get xs k ≡ Some x → slice_get (set xs k y) k ≡ Some y
  get_set_same [] k x y got = absurd (cc)
  get_set_same (z ∷ xs) zero x y got = refl
  get_set_same (z ∷ xs) (suc k) x y got = get_set_same xs k x y got

  pub get_set_other : (xs : List X) (k n : ℕ) (y : X) → (n ≡ k → ⊥) → slice_get (set xs k y) n ≡ slice_get xs n
  get_set_other [] k n y differ = refl
  get_set_other (z ∷ xs) zero zero y differ = absurd (differ refl)
  get_set_other (z ∷ xs) zero (suc n) y differ = refl
  get_set_other (z ∷ xs) (suc k) zero y differ = refl
  get_set_other (z ∷ xs) (suc k) (suc n) y differ = get_set_other xs k n y (λ e. differ (ap suc e))

  pub get_within : (xs : List X) (k : ℕ) → k < length xs → (x : X) × (slice_get xs k ≡ Some x)
  get_within [] k below = absurd (omega (arith, below))
  get_within (z ∷ xs) zero below = (z, refl)
  get_within (z ∷ xs) (suc k) below = get_within xs k (omega (arith, below))

pub filter-map : {X Y : Type 0} (f : X → Y) (p : Y → Bool) (xs : List X) → filter p (map f xs) ≡ map f (filter (λ x. p (f x)) xs)
filter-map f p [] = refl
filter-map f p (x ∷ xs) = by (p (f x)) (filter-map f p xs)
  where
    by : (b : Bool) → filter p (map f xs) ≡ map f (filter (λ y. p (f y)) xs)
        → cond b (f x ∷ filter p (map f xs)) (filter p (map f xs)) ≡ map f (cond b (x ∷ filter (λ y. p (f y)) xs) (filter (λ y. p (f y)) xs))
    by true rest = ap (λ ys. f x ∷ ys) rest
    by false rest = rest

-- streams' numbers rise
abbrev pub Rising : ℕ → List Stream → Type 0
Rising above [] = Unit {0}
Rising above (t ∷ ts) = (above < t.number) × Rising t.number ts

pub rising_of : (above : ℕ) (rows : List StreamRow) → NumbersRise above rows → Rising above (map stream_in rows)
unfolding stream_in
rising_of above [] rise = tt
rising_of above (row ∷ rows) rise = (rise.0, rising_of row.number rows rise.1)

pub rising_at : (above : ℕ) (ts : List Stream) (k : ℕ) (t : Stream) → Rising above ts → slice_get ts k ≡ Some t → above < t.number
rising_at above [] k t rise got = absurd (cc)
rising_at above (u ∷ us) zero t rise got = subst (λ (z : Stream). above < z.number) (same_Some u t got) rise.0
rising_at above (u ∷ us) (suc k) t rise got = let later = rising_at u.number us k t rise.1 got in omega (arith, rise.0, later)

pub found_number : (above : ℕ) (ts : List Stream) (k : ℕ) (t : Stream) → Rising above ts → slice_get ts k ≡ Some t
    → find (λ (u : Stream). u.number == t.number) ts ≡ Some t
found_number above [] k t rise got = absurd (cc)
found_number above (u ∷ us) zero t rise got =
    let same : u ≡ t = same_Some u t got in
    ap (λ b. cond b (Some u) (find (λ (z : Stream). z.number == t.number) us)) (eq-eqb u.number t.number (ap (λ (z : Stream). z.number) same)) ∙ ap Some same
found_number above (u ∷ us) (suc k) t rise got =
    let later = rising_at u.number us k t rise.1 got in
    ap (λ b. cond b (Some u) (find (λ (z : Stream). z.number == t.number) us)) (ne_eqb u.number t.number (λ e. omega (arith, later, e)))
    ∙ found_number u.number us k t rise.1 got

-- the front end of a stream by its place
pub front_at : (places : List (Option ℕ)) (k : ℕ) (o : Option ℕ) → slice_get places k ≡ Some o → front_of places (suc k) ≡ o
unfolding front_of
front_at places k o got =
    let more : (suc k == 0) ≡ false = ne_eqb (suc k) 0 (λ e. omega (arith, e)) in
    let less : suc k - 1 ≡ k = omega arith in
    ap (λ b. cond b None (option_flatten (slice_get places (suc k - 1)))) more ∙ ap (λ n. option_flatten (slice_get places n)) less ∙ ap option_flatten got

flat_some : (o : Option (Option ℕ)) (m : ℕ) → option_flatten o ≡ Some m → o ≡ Some (Some m)
flat_some None m e = absurd (cc)
flat_some (Some p) m e = ap Some e

pub front_place : (places : List (Option ℕ)) (n m : ℕ) → front_of places n ≡ Some m → slice_get places (n - 1) ≡ Some (Some m)
unfolding front_of
front_place places n m at = by (n == 0) at
  where
    by : (b : Bool) → cond b None (option_flatten (slice_get places (n - 1))) ≡ Some m → slice_get places (n - 1) ≡ Some (Some m)
    by true e = absurd (cc)
    by false e = flat_some (slice_get places (n - 1)) m e

-- each stream's place is its front end
abbrev pub AtPlaces : List (Option ℕ) → List Stream → Type 0
AtPlaces places ts = (n : ℕ) → front_of places n ≡ option_and_then (λ (t : Stream). t.front) (find (λ (t : Stream). t.number == n) ts)

served_found : (ts : List Stream) (f m n : ℕ) (o : Option Stream) → find (λ (t : Stream). t.number == n) ts ≡ o
    → option_and_then (λ (t : Stream). t.front) o ≡ Some m → (m == f) ≡ true
    → list_any (λ (t : Stream). is_at t.front f) ts ≡ true
served_found ts f m n None is front e = absurd (cc)
served_found ts f m n (Some t) is front e =
    let p = find_place (λ (u : Stream). u.number == n) ts t is in
    any_from_get (λ (u : Stream). is_at u.front f) ts p.0 t p.1 (ap (λ o. is_at o f) front ∙ e)

served_by_place : (places : List (Option ℕ)) (ts : List Stream) → AtPlaces places ts → (f k : ℕ) (o : Option ℕ) → slice_get places k ≡ Some o
    → stands_at f o ≡ true
    → list_any (λ (t : Stream). is_at t.front f) ts ≡ true
served_by_place places ts at f k None got e = absurd (cc)
served_by_place places ts at f k (Some m) got e =
    served_found ts f m (suc k) (find (λ (t : Stream). t.number == suc k) ts) refl (sym (at (suc k)) ∙ front_at places k (Some m) got) e

place_by_served : (places : List (Option ℕ)) (ts : List Stream) → AtPlaces places ts → (f k : ℕ) (t : Stream)
    → find (λ (u : Stream). u.number == t.number) ts ≡ Some t
    → (o : Option ℕ) → t.front ≡ o → is_at o f ≡ true → list_any (stands_at f) places ≡ true
place_by_served places ts at f k t found None front e = absurd (cc)
place_by_served places ts at f k t found (Some m) front e =
    any_from_get (stands_at f) places (t.number - 1) (Some m)
    (front_place places t.number m (at t.number ∙ ap (option_and_then (λ (u : Stream). u.front)) found ∙ front)) e

pub served_same : (places : List (Option ℕ)) (ts : List Stream) → Rising 0 ts → AtPlaces places ts → (f : ℕ)
    → list_any (stands_at f) places ≡ list_any (λ (t : Stream). is_at t.front f) ts
served_same places ts rise at f =
    same_tests (list_any (stands_at f) places) (list_any (λ (t : Stream). is_at t.front f) ts)
    (λ any. let r = any_place (stands_at f) places any in served_by_place places ts at f r.0 r.1 r.2 r.3)
    (λ any.
    let r = any_place (λ (t : Stream). is_at t.front f) ts any in
    place_by_served places ts at f r.0 r.1 (found_number 0 ts r.0 r.1 rise r.2) r.1.front refl r.3)

pub freed_same : (places : List (Option ℕ)) (ts : List Stream) → ((f : ℕ) → list_any (stands_at f) places ≡ list_any (λ (t : Stream). is_at t.front f) ts)
    → (rows : List FrontRow)
    → map row_in (map (freed_at places) rows) ≡ change_where (λ r. not (list_any (λ (t : Stream). is_at t.front r.number) ts)) freed (map row_in rows)
unfolding row_in freed_at free_row
freed_same places ts same [] = refl
freed_same places ts same (row ∷ rows) =
    ap (λ (r : Row). r ∷ map row_in (map (freed_at places) rows))
    (by (list_any (stands_at row.number) places) ∙ ap (λ b. cond (not b) (freed (row_in row)) (row_in row)) (same row.number))
    ∙ ap (λ rs. cond (not (list_any (λ (t : Stream). is_at t.front row.number) ts)) (freed (row_in row)) (row_in row) ∷ rs) (freed_same places ts same rows)
  where
    by : (b : Bool) → row_in (cond b row (free_row row)) ≡ cond (not b) (freed (row_in row)) (row_in row)
    by true = refl
    by false = refl
