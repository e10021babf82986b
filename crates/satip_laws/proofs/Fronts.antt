-- How front ends stand to streams, and what moves of streams do to them.
use Rattle.std.proofs.Common.{◌≡◌, ◌⊎◌, inl, inr, ℕ, ◌+◌, ◌%◌, ◌^◌, ◌==◌, ◌&&◌, ◌||◌, not, Bool, true, false, cond, List, [], ◌∷◌, map, filter, find, Option, Some, None, option_map, refl, ap, sym, subst, ◌∙◌, if◌then◌else◌, option_and_then}
use Rattle.std.specs.List.{list_any}
use Rattle.std.proofs.lemmas.Bool.{and_parts, eqb-true, eqb-false, eq-eqb, ne_eqb, not-true}
use Rattle.satip_base.specs.Lists.{Each}
use Rattle.satip_fronts.specs.declared.choice.Place.{Place}
use Rattle.satip_fronts.specs.declared.choice.Case.{Case}
use Rattle.satip_fronts.specs.declared.choice.Case.TheVariants.{Keep, Share, Retune, Start}
use Rattle.satip_fronts.specs.Choice.{Outlook, choose, least, placed, may_take, may_take_if, suits, first_placed, is_own, is_tuned, is_tuned_to}
use Rattle.satip_tune.specs.Frontends.{mux_for, fits_of}
use Rattle.satip_tune.specs.declared.frontends.Front.{Front}
use Rattle.satip_plain.specs.Types.{Config, Tuning}
use Rattle.satip_plain.specs.State.{State, Stream, Row, is_at, row_of, served_by}
use Rattle.satip_plain.specs.Streams.{outlook_of, freed, sweep, tuned, put_at}

-- whether a front end serves a stream, how often it was tuned, and to which multiplex it is tuned
abbrev pub serves : State → ℕ → Bool
serves st f = list_any (λ t. true) (served_by st f)

abbrev pub tune_of : State → ℕ → Option ℕ
tune_of st f = option_map (λ r. r.tune) (row_of st f)

abbrev pub mux_at : State → ℕ → Option ℕ
mux_at st f = option_and_then (λ r. r.mux) (row_of st f)

-- a stream at a front end is tuned to the front end's multiplex
abbrev pub IsMatched : Config → List Row → Stream → Type 0
IsMatched c rows t = (f : ℕ) (r : Row) → is_at t.front f ≡ true → find (λ r. r.number == f) rows ≡ Some r → r.mux ≡ option_and_then (mux_for c.muxes) t.tuning

pub record AreFronts (c : Config) (st : State) : Type 0 where
  pub matched : Each (IsMatched c st.rows) st.streams
  pub free : (f : ℕ) → serves st f ≡ false → mux_at st f ≡ None

-- the front end keeps its tuning number; it serves only where it served before, and then with its multiplex
pub record Keeps (f : ℕ) (a b : State) : Type 0 where
  pub tune : tune_of b f ≡ tune_of a f
  pub on : serves b f ≡ true → (serves a f ≡ true) × (mux_at b f ≡ mux_at a f)

-- the front end is tuned once more
pub record Anew (f : ℕ) (a b : State) : Type 0 where
  pub tune : tune_of b f ≡ option_map (λ n. (n + 1) % 2 ^ 64) (tune_of a f)

pub record Quiet (c : Config) (a b : State) : Type 0 where
  pub keeps : (f : ℕ) → Keeps f a b
  pub fronts : AreFronts c b

pub record Shifts (c : Config) (a b : State) : Type 0 where
  pub each : (f : ℕ) → Keeps f a b ⊎ Anew f a b
  pub fronts : AreFronts c b

keeps_then : (f : ℕ) (x y z : State) → Keeps f x y → Keeps f y z → Keeps f x z
keeps_then f x y z p q = record { tune = q.tune ∙ p.tune; on = λ e. let one = q.on e in let two = p.on one.0 in (two.0, one.1 ∙ two.1) }

pub quiet_then : (c : Config) (x y z : State) → Quiet c x y → Quiet c y z → Quiet c x z
quiet_then c x y z p q = record { keeps = λ f. keeps_then f x y z (p.keeps f) (q.keeps f); fronts = q.fronts }

pub quiet_shifts : (c : Config) (x y z : State) → Quiet c x y → Shifts c y z → Shifts c x z
quiet_shifts c x y z p q = record { each = λ f. by f (q.each f); fronts = q.fronts }
  where
    by : (f : ℕ) → Keeps f y z ⊎ Anew f y z → Keeps f x z ⊎ Anew f x z
    by f (inl k) = inl (keeps_then f x y z (p.keeps f) k)
    by f (inr k) = inr (record { tune = k.tune ∙ ap (λ o. option_map (λ n. (n + 1) % 2 ^ 64) o) (p.keeps f).tune })

pub shifts_quiet : (c : Config) (x y z : State) → Shifts c x y → Quiet c y z → Shifts c x z
shifts_quiet c x y z p q = record { each = λ f. by f (p.each f); fronts = q.fronts }
  where
    by : (f : ℕ) → Keeps f x y ⊎ Anew f x y → Keeps f x z ⊎ Anew f x z
    by f (inl k) = inl (keeps_then f x y z k (q.keeps f))
    by f (inr k) = inr (record { tune = (q.keeps f).tune ∙ k.tune })

pub shifts_of : (c : Config) (x y : State) → Quiet c x y → Shifts c x y
shifts_of c x y q = record { each = λ f. inl (q.keeps f); fronts = q.fronts }

-- a state with the same streams and front ends
pub quiet_same : (c : Config) (a b : State) → AreFronts c a → b.streams ≡ a.streams → b.rows ≡ a.rows → Quiet c a b
quiet_same c a b fronts streams rows = record {
  keeps = λ f. rw (streams, rows) (record { tune = refl; on = λ e. (e, refl) });
  fronts = rw (streams, rows) (record { matched = fronts.matched; free = fronts.free });
}

-- rows, found by their number

pub find_row : (p : Row → Bool) (g : Row → Row) → ((r : Row) → p (g r) ≡ p r) → (rows : List Row) → find p (map g rows) ≡ option_map g (find p rows)
find_row p g same [] = refl
find_row p g same (r ∷ rows) = rw (same r) (by (p r) (find_row p g same rows))
  where
    by : (b : Bool) → find p (map g rows) ≡ option_map g (find p rows)
        → (if b then Some (g r) else find p (map g rows)) ≡ option_map g (if b then Some r else find p rows)
    by true e = refl
    by false e = e

row_number : (f : ℕ) (rows : List Row) (r : Row) → find (λ r. r.number == f) rows ≡ Some r → r.number ≡ f
row_number f [] r e = cc
row_number f (x ∷ rows) r e = by (x.number == f) refl e (λ g. row_number f rows r g)
  where
    by : (b : Bool) → (x.number == f) ≡ b → (if b then Some x else find (λ r. r.number == f) rows) ≡ Some r
        → (find (λ r. r.number == f) rows ≡ Some r → r.number ≡ f) → r.number ≡ f
    by true g h rest = let same : x ≡ r = cc in ap (λ z. z.number) (sym same) ∙ eqb-true x.number f g
    by false g h rest = rest h

-- streams

any_filter : (p q : Stream → Bool) (ts : List Stream) → list_any q (filter p ts) ≡ true → list_any q ts ≡ true
any_filter p q [] e = cc
any_filter p q (t ∷ ts) e = by (p t) (q t) e (λ f. any_filter p q ts f)
  where
    by : (a b : Bool) → list_any q (cond a (t ∷ filter p ts) (filter p ts)) ≡ true → (list_any q (filter p ts) ≡ true → list_any q ts ≡ true)
        → (q t || list_any q ts) ≡ true
    by true b e rest = at (q t) e rest
      where
        at : (b : Bool) → (b || list_any q (filter p ts)) ≡ true → (list_any q (filter p ts) ≡ true → list_any q ts ≡ true) → (b || list_any q ts) ≡ true
        at true e rest = refl
        at false e rest = rest e
    by false b e rest = at (q t) (rest e)
      where
        at : (b : Bool) → list_any q ts ≡ true → (b || list_any q ts) ≡ true
        at true e = refl
        at false e = e

-- a front end serves where a stream is at it
pub any_served : (f : ℕ) (ts : List Stream) → list_any (λ t. true) (filter (λ t. is_at t.front f) ts) ≡ list_any (λ t. is_at t.front f) ts
any_served f [] = refl
any_served f (t ∷ ts) = by (is_at t.front f) (any_served f ts)
  where
    by : (b : Bool) → list_any (λ t. true) (filter (λ t. is_at t.front f) ts) ≡ list_any (λ t. is_at t.front f) ts
        → list_any (λ t. true) (cond b (t ∷ filter (λ t. is_at t.front f) ts) (filter (λ t. is_at t.front f) ts)) ≡ (b || list_any (λ t. is_at t.front f) ts)
    by true e = refl
    by false e = e

pub each_filter : (P : Stream → Type 0) (p : Stream → Bool) (ts : List Stream) → Each P ts → Each P (filter p ts)
each_filter P p [] each = tt
each_filter P p (t ∷ ts) each = by (p t) (each_filter P p ts each.1)
  where
    by : (b : Bool) → Each P (filter p ts) → Each P (cond b (t ∷ filter p ts) (filter p ts))
    by true rest = (each.0, rest)
    by false rest = rest

-- a front end without streams is freed

abbrev free_where : List Stream → Row → Row
free_where ts r = if not (list_any (λ t. is_at t.front r.number) ts) then freed r else r

free_number : (ts : List Stream) (r : Row) → (free_where ts r).number ≡ r.number
free_number ts r = by (not (list_any (λ t. is_at t.front r.number) ts))
  where
    by : (b : Bool) → (if b then freed r else r).number ≡ r.number
    by true = refl
    by false = refl

pub swept_row : (f : ℕ) (ts : List Stream) (rows : List Row)
    → find (λ r. r.number == f) (map (free_where ts) rows) ≡ option_map (free_where ts) (find (λ r. r.number == f) rows)
swept_row f ts rows = find_row (λ r. r.number == f) (free_where ts) (λ r. ap (λ n. n == f) (free_number ts r)) rows

free_tune : (ts : List Stream) (o : Option Row) → option_map (λ r. r.tune) (option_map (free_where ts) o) ≡ option_map (λ r. r.tune) o
free_tune ts None = refl
free_tune ts (Some r) = by (not (list_any (λ t. is_at t.front r.number) ts))
  where
    by : (b : Bool) → Some (if b then freed r else r).tune ≡ Some r.tune
    by true = refl
    by false = refl

free_served : (f : ℕ) (ts : List Stream) (r : Row) → r.number ≡ f → list_any (λ t. is_at t.front f) ts ≡ true → free_where ts r ≡ r
free_served f ts r number e = rw (number, e) refl

free_unserved : (f : ℕ) (ts : List Stream) (r : Row) → r.number ≡ f → list_any (λ t. is_at t.front f) ts ≡ false → (free_where ts r).mux ≡ None
free_unserved f ts r number e = rw (number, e) refl

any_here : (f : ℕ) (t : Stream) (ts : List Stream) → is_at t.front f ≡ true → list_any (λ t. is_at t.front f) (t ∷ ts) ≡ true
any_here f t ts e = rw e refl

any_later : (f : ℕ) (t : Stream) (ts : List Stream) → list_any (λ t. is_at t.front f) ts ≡ true → list_any (λ t. is_at t.front f) (t ∷ ts) ≡ true
any_later f t ts e = by (is_at t.front f)
  where
    by : (b : Bool) → (b || list_any (λ t. is_at t.front f) ts) ≡ true
    by true = refl
    by false = e

pub some_row : (o : Option Row) (g : Row → Row) (r : Row) → option_map g o ≡ Some r → (x : Row) × (o ≡ Some x) × (g x ≡ r)
some_row None g r e = cc
some_row (Some x) g r e = (x, refl, cc)

swept_matched : (c : Config) (rows : List Row) (all ts : List Stream)
    → ((f : ℕ) → list_any (λ t. is_at t.front f) ts ≡ true → list_any (λ t. is_at t.front f) all ≡ true)
    → Each (IsMatched c rows) ts → Each (IsMatched c (map (free_where all) rows)) ts
swept_matched c rows all [] within each = tt
swept_matched c rows all (t ∷ ts) within each = (one, swept_matched c rows all ts (λ f e. within f (any_later f t ts e)) each.1)
  where
    one : IsMatched c (map (free_where all) rows) t
    one f r e found =
        let old = some_row (find (λ r. r.number == f) rows) (free_where all) r (sym (swept_row f all rows) ∙ found) in
        let same : free_where all old.0 ≡ old.0 = free_served f all old.0 (row_number f rows old.0 old.1) (within f (any_here f t ts e)) in
        ap (λ x. x.mux) (sym old.2 ∙ same) ∙ each.0 f old.0 e old.1

-- streams without sessions go, and front ends without streams are free
abbrev staying : State → List Stream
staying st = filter (λ t. list_any (λ s. s.stream == t.number) st.sessions) st.streams

pub sweep_quiet : (c : Config) (st : State) → Each (IsMatched c st.rows) st.streams → Quiet c st (sweep st)
sweep_quiet c st matched =
    record {
      keeps = keeps;
      fronts =
          record {
            matched = swept_matched c st.rows (staying st) (staying st) (λ f e. e) (each_filter (IsMatched c st.rows) _ st.streams matched);
            free = free;
          };
    }
  where
    keeps : (f : ℕ) → Keeps f st (sweep st)
    keeps f = record {
      tune = ap (λ o. option_map (λ r. r.tune) o) (swept_row f (staying st) st.rows) ∙ free_tune (staying st) (row_of st f);
      on = λ e. let any : list_any (λ t. is_at t.front f) (staying st) ≡ true = sym (any_served f (staying st)) ∙ e in
          (any_served f st.streams ∙ any_filter _ _ st.streams any, same (row_of st f) refl any);
    }
      where
        same : (o : Option Row) → row_of st f ≡ o → list_any (λ t. is_at t.front f) (staying st) ≡ true → mux_at (sweep st) f ≡ mux_at st f
        same None g any = rw (swept_row f (staying st) st.rows, g) refl
        same (Some r) g any = rw (swept_row f (staying st) st.rows, g) (ap (λ x. x.mux) (free_served f (staying st) r (row_number f st.rows r g) any))

    free : (f : ℕ) → serves (sweep st) f ≡ false → mux_at (sweep st) f ≡ None
    free f e = by (row_of st f) refl
      where
        none : list_any (λ t. is_at t.front f) (staying st) ≡ false
        none = sym (any_served f (staying st)) ∙ e

        by : (o : Option Row) → row_of st f ≡ o → mux_at (sweep st) f ≡ None
        by None g = rw (swept_row f (staying st) st.rows, g) refl
        by (Some r) g = rw (swept_row f (staying st) st.rows, g) (free_unserved f (staying st) r (row_number f st.rows r g) none)

-- the choice of a place

find_passes : (p : Front → Bool) (xs : List Front) (x : Front) → find p xs ≡ Some x → p x ≡ true
find_passes p [] x e = cc
find_passes p (y ∷ ys) x e = by (p y) refl e (λ f. find_passes p ys x f)
  where
    by : (b : Bool) → p y ≡ b → (if b then Some y else find p ys) ≡ Some x → (find p ys ≡ Some x → p x ≡ true) → p x ≡ true
    by true f g rest = let same : y ≡ x = cc in ap p (sym same) ∙ f
    by false f g rest = rest g

-- what is known of the place that is chosen: a front end that is tuned already is tuned to the wanted multiplex, and one that
-- is tuned anew serves no other stream
pub record IsPlaceFor (o : Outlook) (wanted : Option ℕ) (place : Place) : Type 0 where
  pub old : place.anew ≡ false → is_tuned_to wanted (o.mux_at place.front) ≡ true
  pub new : place.anew ≡ true → o.shared place.front ≡ false

-- the front end that is found in a case
record IsFound (case : Case) (o : Outlook) (wanted : Option ℕ) (n : ℕ) : Type 0 where
  front : Front
  number : front.number ≡ n
  taken : may_take_if case (is_own o front) (is_tuned o wanted front) (o.shared front.number) ≡ true

least_found : (case : Case) (o : Outlook) (wanted : Option ℕ) (tuning : Tuning) (n : ℕ) → least case o wanted tuning ≡ Some n → IsFound case o wanted n
unfolding least may_take
least_found case o wanted tuning n e = by (find (suits case o wanted tuning) o.fronts) refl e
  where
    by : (x : Option Front) → find (suits case o wanted tuning) o.fronts ≡ x → option_map (λ (front : Front). front.number) x ≡ Some n → IsFound case o wanted n
    by None f g = cc
    by (Some front) f g = record {
      front = front;
      number = cc;
      taken = (and_parts (fits_of front tuning) (may_take case o wanted front) (find_passes (suits case o wanted tuning) o.fronts front f)).1;
    }

old_place : (o : Outlook) (wanted : Option ℕ) (n : ℕ) (front : Front) → front.number ≡ n → is_tuned o wanted front ≡ true
    → IsPlaceFor o wanted (record { front = n; anew = false })
old_place o wanted n front number e = record { old = λ f. ap (λ k. is_tuned_to wanted (o.mux_at k)) (sym number) ∙ e; new = λ f. cc }

new_place : (o : Outlook) (wanted : Option ℕ) (n : ℕ) (front : Front) → front.number ≡ n → o.shared front.number ≡ false
    → IsPlaceFor o wanted (record { front = n; anew = true })
new_place o wanted n front number e = record { old = λ f. cc; new = λ f. ap o.shared (sym number) ∙ e }

keep_place : (o : Outlook) (wanted : Option ℕ) (n : ℕ) → IsFound Keep o wanted n → IsPlaceFor o wanted (record { front = n; anew = false })
keep_place o wanted n found = old_place o wanted n found.front found.number (and_parts (is_own o found.front) (is_tuned o wanted found.front) found.taken).1

share_place : (o : Outlook) (wanted : Option ℕ) (n : ℕ) → IsFound Share o wanted n → IsPlaceFor o wanted (record { front = n; anew = false })
share_place o wanted n found = old_place o wanted n found.front found.number found.taken

retune_place : (o : Outlook) (wanted : Option ℕ) (n : ℕ) → IsFound Retune o wanted n → IsPlaceFor o wanted (record { front = n; anew = true })
retune_place o wanted n found =
    new_place o wanted n found.front found.number
    (not-true (o.shared found.front.number) (and_parts (is_own o found.front) (not (o.shared found.front.number)) found.taken).1)

start_place : (o : Outlook) (wanted : Option ℕ) (n : ℕ) → IsFound Start o wanted n → IsPlaceFor o wanted (record { front = n; anew = true })
start_place o wanted n found =
    new_place o wanted n found.front found.number
    (not-true (o.shared found.front.number) (and_parts (not (is_own o found.front)) (not (o.shared found.front.number)) found.taken).1)

pub chosen_place : (o : Outlook) (wanted : Option ℕ) (tuning : Tuning) (place : Place) → choose o wanted tuning ≡ Some place → IsPlaceFor o wanted place
unfolding choose placed
chosen_place o wanted tuning place e = by (least Keep o wanted tuning) (least Share o wanted tuning) (least Retune o wanted tuning)
    (least Start o wanted tuning) refl refl refl refl e
  where
    at : (p : Place) → Some p ≡ Some place → IsPlaceFor o wanted p → IsPlaceFor o wanted place
    at p f known = let same : p ≡ place = cc in subst (IsPlaceFor o wanted) same known

    by : (k s r t : Option ℕ) → least Keep o wanted tuning ≡ k → least Share o wanted tuning ≡ s → least Retune o wanted tuning ≡ r
        → least Start o wanted tuning ≡ t
        → first_placed (placed false k ∷ placed false s ∷ placed true r ∷ placed true t ∷ []) ≡ Some place → IsPlaceFor o wanted place
    by (Some n) s r t ek es er et f = at (record { front = n; anew = false }) f (keep_place o wanted n (least_found Keep o wanted tuning n ek))
    by None (Some n) r t ek es er et f = at (record { front = n; anew = false }) f (share_place o wanted n (least_found Share o wanted tuning n es))
    by None None (Some n) t ek es er et f = at (record { front = n; anew = true }) f (retune_place o wanted n (least_found Retune o wanted tuning n er))
    by None None None (Some n) ek es er et f = at (record { front = n; anew = true }) f (start_place o wanted n (least_found Start o wanted tuning n et))
    by None None None None ek es er et f = cc

-- a stream gets its place

abbrev place_stream : ℕ → Tuning → ℕ → Stream → Stream
place_stream number tuning front t = if t.number == number then record t { tuning = Some tuning; front = Some front } else t

abbrev tune_row : Bool → ℕ → Option ℕ → Row → Row
tune_row anew front mux r = if anew && r.number == front then tuned mux r else r

-- the state once it has it, before front ends are freed
abbrev placed_state : Config → ℕ → Tuning → State → Place → State
placed_state c number tuning st place = record st {
  streams = map (place_stream number tuning place.front) st.streams;
  rows = map (tune_row place.anew place.front (mux_for c.muxes tuning)) st.rows;
}

tune_number : (anew : Bool) (front : ℕ) (mux : Option ℕ) (r : Row) → (tune_row anew front mux r).number ≡ r.number
tune_number anew front mux r = by (anew && r.number == front)
  where
    by : (b : Bool) → (if b then tuned mux r else r).number ≡ r.number
    by true = refl
    by false = refl

placed_row : (f : ℕ) (anew : Bool) (front : ℕ) (mux : Option ℕ) (rows : List Row)
    → find (λ r. r.number == f) (map (tune_row anew front mux) rows) ≡ option_map (tune_row anew front mux) (find (λ r. r.number == f) rows)
placed_row f anew front mux rows = find_row (λ r. r.number == f) (tune_row anew front mux) (λ r. ap (λ n. n == f) (tune_number anew front mux r)) rows

-- a row that isn't tuned
row_kept : (anew : Bool) (front : ℕ) (mux : Option ℕ) (r : Row) → (anew && r.number == front) ≡ false → tune_row anew front mux r ≡ r
row_kept anew front mux r e = rw e refl

row_tuned : (front : ℕ) (mux : Option ℕ) (r : Row) → r.number ≡ front → tune_row true front mux r ≡ tuned mux r
row_tuned front mux r e = rw (eq-eqb r.number front e) refl

row_anew : (anew : Bool) (front : ℕ) (mux : Option ℕ) (r : Row) → anew ≡ true → r.number ≡ front → tune_row anew front mux r ≡ tuned mux r
row_anew anew front mux r e number = rw e (row_tuned front mux r number)

row_untuned : (anew : Bool) (front : ℕ) (mux : Option ℕ) (r : Row) → anew ≡ false → tune_row anew front mux r ≡ r
row_untuned anew front mux r e = rw e refl

other_front : (anew : Bool) (n front : ℕ) → (n ≡ front → ⊥) → (anew && n == front) ≡ false
other_front true n front other = ne_eqb n front other
other_front false n front other = refl

-- at another front end only streams are that were there before
served_elsewhere : (number : ℕ) (tuning : Tuning) (front f : ℕ) → (f ≡ front → ⊥) → (ts : List Stream)
    → list_any (λ t. is_at t.front f) (map (place_stream number tuning front) ts) ≡ true → list_any (λ t. is_at t.front f) ts ≡ true
served_elsewhere number tuning front f other [] e = cc
served_elsewhere number tuning front f other (t ∷ ts) e = by (t.number == number) e (λ g. served_elsewhere number tuning front f other ts g)
  where
    by : (b : Bool) → (is_at (if b then record t { tuning = Some tuning; front = Some front } else t).front f
        || list_any (λ t. is_at t.front f) (map (place_stream number tuning front) ts)) ≡ true
        → (list_any (λ t. is_at t.front f) (map (place_stream number tuning front) ts) ≡ true → list_any (λ t. is_at t.front f) ts ≡ true)
        → (is_at t.front f || list_any (λ t. is_at t.front f) ts) ≡ true
    by true e rest = any_later f t ts (rest (rw (ne_eqb front f (λ g. other (sym g))) at e))
    by false e rest = at (is_at t.front f) e
      where
        at : (b : Bool) → (b || list_any (λ t. is_at t.front f) (map (place_stream number tuning front) ts)) ≡ true
            → (b || list_any (λ t. is_at t.front f) ts) ≡ true
        at true e = refl
        at false e = rest e

-- which front end is meant
is_place : (f front : ℕ) → (f ≡ front) ⊎ (f ≡ front → ⊥)
is_place f front = by (f == front) refl
  where
    by : (b : Bool) → (f == front) ≡ b → (f ≡ front) ⊎ (f ≡ front → ⊥)
    by true e = inl (eqb-true f front e)
    by false e = inr (eqb-false f front e)

-- a front end that is tuned to the wanted multiplex has it, and serves
wanted_mux : (wanted has : Option ℕ) → is_tuned_to wanted has ≡ true → has ≡ wanted
wanted_mux None has e = cc
wanted_mux (Some w) None e = cc
wanted_mux (Some w) (Some m) e = ap (λ n. Some n) (eqb-true m w e)

wanted_some : (wanted has : Option ℕ) → is_tuned_to wanted has ≡ true → has ≡ None → ⊥
wanted_some None has e f = cc
wanted_some (Some w) None e f = cc
wanted_some (Some w) (Some m) e f = cc

true_unless : (b : Bool) → (b ≡ false → ⊥) → b ≡ true
true_unless true h = refl
true_unless false h = absurd (h refl)

-- what the place does to each front end
placed_each : (c : Config) (number : ℕ) (tuning : Tuning) (st : State) (place : Place) → AreFronts c st
    → IsPlaceFor (outlook_of c st number) (mux_for c.muxes tuning) place → (f : ℕ)
    → Keeps f st (placed_state c number tuning st place) ⊎ Anew f st (placed_state c number tuning st place)
placed_each c number tuning st place fronts known f = by (is_place f place.front) place.anew refl
  where
    mux : Option ℕ
    mux = mux_for c.muxes tuning

    new : State
    new = placed_state c number tuning st place

    row_new : row_of new f ≡ option_map (tune_row place.anew place.front mux) (row_of st f)
    row_new = placed_row f place.anew place.front mux st.rows

    kept_row : (o : Option Row) → row_of st f ≡ o → (place.anew && f == place.front) ≡ false → option_map (tune_row place.anew place.front mux) o ≡ o
    kept_row None e other = refl
    kept_row (Some r) e other = ap (λ x. Some x) (row_kept place.anew place.front mux r (rw (row_number f st.rows r e) other))

    same_row : (place.anew && f == place.front) ≡ false → row_of new f ≡ row_of st f
    same_row other = row_new ∙ kept_row (row_of st f) refl other

    tuned_row : (o : Option Row) → row_of st f ≡ o → f ≡ place.front
        → option_map (λ r. r.tune) (option_map (tune_row true place.front mux) o) ≡ option_map (λ n. (n + 1) % 2 ^ 64) (option_map (λ r. r.tune) o)
    tuned_row None e here = refl
    tuned_row (Some r) e here = ap (λ x. Some x.tune) (row_tuned place.front mux r (row_number f st.rows r e ∙ here))

    by : (f ≡ place.front) ⊎ (f ≡ place.front → ⊥) → (anew : Bool) → place.anew ≡ anew → Keeps f st new ⊎ Anew f st new
    by (inr other) anew e = inl (record {
      tune = ap (λ o. option_map (λ r. r.tune) o) (same_row (other_front place.anew f place.front other));
      on = λ on. (
        any_served f st.streams ∙ served_elsewhere number tuning place.front f other st.streams (sym (any_served f new.streams) ∙ on),
        ap (λ o. option_and_then (λ r. r.mux) o) (same_row (other_front place.anew f place.front other)),
      );
    })
    by (inl here) true e = inr
        (record {
          tune = ap (λ o. option_map (λ r. r.tune) o) (row_new ∙ ap (λ a. option_map (tune_row a place.front mux) (row_of st f)) e)
              ∙ tuned_row (row_of st f) refl here;
        })
    by (inl here) false e =
        let same : row_of new f ≡ row_of st f = same_row (rw e refl) in
        let has : is_tuned_to mux (mux_at st f) ≡ true = rw here (known.old e) in
        inl (record {
          tune = ap (λ o. option_map (λ r. r.tune) o) same;
          on = λ on. (true_unless (serves st f) (λ off. wanted_some mux (mux_at st f) has (fronts.free f off)), ap (λ o. option_and_then (λ r. r.mux) o) same);
        })

-- another stream at the place's front end shares it
shared_by : (number f : ℕ) (t : Stream) (ts : List Stream) → list_any (λ u. not (u.number == number)) (filter (λ u. is_at u.front f) (t ∷ ts)) ≡ false
    → is_at t.front f ≡ true → (t.number == number) ≡ false → ⊥
shared_by number f t ts none here other = by (rw here at none)
  where
    by : (not (t.number == number) || list_any (λ u. not (u.number == number)) (filter (λ u. is_at u.front f) ts)) ≡ false → ⊥
    by e = let no_one : (true || list_any (λ u. not (u.number == number)) (filter (λ u. is_at u.front f) ts)) ≡ false = rw other at e in cc

shared_rest : (number f : ℕ) (t : Stream) (ts : List Stream) → list_any (λ u. not (u.number == number)) (filter (λ u. is_at u.front f) (t ∷ ts)) ≡ false
    → list_any (λ u. not (u.number == number)) (filter (λ u. is_at u.front f) ts) ≡ false
shared_rest number f t ts none = by (is_at t.front f) none
  where
    more : (b : Bool) → (b || list_any (λ u. not (u.number == number)) (filter (λ u. is_at u.front f) ts)) ≡ false
        → list_any (λ u. not (u.number == number)) (filter (λ u. is_at u.front f) ts) ≡ false
    more true e = cc
    more false e = e

    by : (b : Bool) → list_any (λ u. not (u.number == number)) (cond b (t ∷ filter (λ u. is_at u.front f) ts) (filter (λ u. is_at u.front f) ts)) ≡ false
        → list_any (λ u. not (u.number == number)) (filter (λ u. is_at u.front f) ts) ≡ false
    by true e = more (not (t.number == number)) e
    by false e = e

-- each stream is at a front end with its multiplex, once the stream has its place
placed_matched : (c : Config) (number : ℕ) (tuning : Tuning) (rows : List Row) (place : Place) (ts : List Stream)
    → (place.anew ≡ false → (r : Row) → find (λ r. r.number == place.front) rows ≡ Some r → r.mux ≡ mux_for c.muxes tuning)
    → (place.anew ≡ true → list_any (λ u. not (u.number == number)) (filter (λ u. is_at u.front place.front) ts) ≡ false)
    → Each (IsMatched c rows) ts → Each (IsMatched c (map (tune_row place.anew place.front (mux_for c.muxes tuning)) rows))
    (map (place_stream number tuning place.front) ts)
placed_matched c number tuning rows place [] old new each = tt
placed_matched c number tuning rows place (t ∷ ts) old new each = (
  one (t.number == number) refl,
  placed_matched c number tuning rows place ts old (λ e. shared_rest number place.front t ts (new e)) each.1,
)
  where
    mux : Option ℕ
    mux = mux_for c.muxes tuning

    at_place : (f : ℕ) (r : Row) → f ≡ place.front → (anew : Bool) → place.anew ≡ anew
        → find (λ r. r.number == f) (map (tune_row place.anew place.front mux) rows) ≡ Some r → r.mux ≡ mux
    at_place f r here true e found =
        let was = some_row (find (λ r. r.number == f) rows) (tune_row place.anew place.front mux) r
        (sym (placed_row f place.anew place.front mux rows) ∙ found) in
        let is : tune_row place.anew place.front mux was.0 ≡ tuned mux was.0 =
        row_anew place.anew place.front mux was.0 e (row_number f rows was.0 was.1 ∙ here) in
        ap (λ x. x.mux) (sym was.2 ∙ is)
    at_place f r here false e found =
        let was = some_row (find (λ r. r.number == f) rows) (tune_row place.anew place.front mux) r
        (sym (placed_row f place.anew place.front mux rows) ∙ found) in
        let is : tune_row place.anew place.front mux was.0 ≡ was.0 = row_untuned place.anew place.front mux was.0 e in
        ap (λ x. x.mux) (sym was.2 ∙ is) ∙ old e was.0 (ap (λ n. find (λ r. r.number == n) rows) (sym here) ∙ was.1)

    elsewhere : (f : ℕ) (r : Row) → (place.anew && f == place.front) ≡ false → is_at t.front f ≡ true
        → find (λ r. r.number == f) (map (tune_row place.anew place.front mux) rows) ≡ Some r → r.mux ≡ option_and_then (mux_for c.muxes) t.tuning
    elsewhere f r other here found =
        let was = some_row (find (λ r. r.number == f) rows) (tune_row place.anew place.front mux) r
        (sym (placed_row f place.anew place.front mux rows) ∙ found) in
        let is : tune_row place.anew place.front mux was.0 ≡ was.0 =
        row_kept place.anew place.front mux was.0 (ap (λ n. place.anew && n == place.front) (row_number f rows was.0 was.1) ∙ other) in
        ap (λ x. x.mux) (sym was.2 ∙ is) ∙ each.0 f was.0 here was.1

    untuned : (f : ℕ) → (t.number == number) ≡ false → is_at t.front f ≡ true → (a b : Bool) → place.anew ≡ a → (f == place.front) ≡ b → (a && b) ≡ false
    untuned f other here true true e g =
        let same : f ≡ place.front = eqb-true f place.front g in
        absurd (shared_by number place.front t ts (new e) (rw (← same) here) other)
    untuned f other here true false e g = refl
    untuned f other here false b e g = refl

    one : (b : Bool) → (t.number == number) ≡ b → IsMatched c (map (tune_row place.anew place.front mux) rows)
        (if b then record t { tuning = Some tuning; front = Some place.front } else t)
    one true e f r here found = at_place f r (sym (eqb-true place.front f here)) place.anew refl found
    one false e f r here found = elsewhere f r (untuned f e here place.anew (f == place.front) refl refl) here found

pub put_at_shifts : (c : Config) (number : ℕ) (tuning : Tuning) (st : State) (place : Place) → AreFronts c st
    → IsPlaceFor (outlook_of c st number) (mux_for c.muxes tuning) place → Shifts c st (put_at c number tuning st place)
put_at_shifts c number tuning st place fronts known =
    record { each = λ f. by f (placed_each c number tuning st place fronts known f); fronts = swept.fronts }
  where
    middle : State
    middle = placed_state c number tuning st place

    old : place.anew ≡ false → (r : Row) → find (λ r. r.number == place.front) st.rows ≡ Some r → r.mux ≡ mux_for c.muxes tuning
    old e r found = let has : mux_at st place.front ≡ mux_for c.muxes tuning = wanted_mux (mux_for c.muxes tuning) (mux_at st place.front) (known.old e) in
        rw found at has

    swept : Quiet c middle (sweep middle)
    swept = sweep_quiet c middle (placed_matched c number tuning st.rows place st.streams old known.new fronts.matched)

    by : (f : ℕ) → Keeps f st middle ⊎ Anew f st middle → Keeps f st (sweep middle) ⊎ Anew f st (sweep middle)
    by f (inl k) = inl (keeps_then f st middle (sweep middle) k (swept.keeps f))
    by f (inr k) = inr (record { tune = (swept.keeps f).tune ∙ k.tune })
