-- What is looked at to choose a front end is the same in the parts as in the plain state.
use Rattle.std.proofs.Common.{◌≡◌, ◌≢◌, ◌∙◌, ℕ, zero, suc, ◌+◌, ◌-◌, ◌<◌, ◌≤◌, ◌==◌, ◌&&◌, ◌||◌, not, nat_le, Bool, true, false, cond, List, [], ◌∷◌, length}
use Rattle.std.proofs.Common.{map, find, filter, Option, Some, None, refl, ap, sym, subst, arith, slice_get, slice_set}
use Rattle.std.proofs.Math.Path.{fun_ext}
use Rattle.std.specs.List.{list_any}
use Rattle.std.specs.Option.{option_and_then, option_flatten}
use Rattle.std.proofs.lemmas.Bool.{eqb-true, eq-eqb, ne_eqb, or_left, or_right, false≢true, leb-true, leb-false}
use Rattle.satip_base.specs.Lists.{Each}
use Rattle.satip_table.specs.declared.stream.Stream.{Stream as StreamRow}
use Rattle.satip_table.specs.Living.{Sound, NumbersRise}
use Rattle.satip_tune.specs.Frontends.{mux_for}
use Rattle.satip_tune.specs.declared.frontends.Front.{Front}
use Rattle.satip_tune.specs.declared.frontends.Mux.{Mux}
use Rattle.satip_tune.specs.declared.tunings.Tuning.{Tuning}
use Rattle.satip_fronts.specs.declared.front_table.FrontRow.{FrontRow}
use Rattle.satip_fronts.specs.Rows.{is_at as is_placed, is_row}
use Rattle.satip_fronts.specs.Choice.{Outlook, blocked}
use Rattle.satip_fronts.specs.FrontEnds.{front_of, mux_at, outlook}
use Rattle.satip_fronts.specs.Openings.{IsStreamOrNone, blocked_for, new_outlook, outlook_for as outlook_of_fronts}
use Rattle.satip_plain.specs.Types.{Config}
use Rattle.satip_plain.specs.State.{Stream, Row, State, is_at, row_of, stream_of, served_by}
use Rattle.satip_plain.specs.Streams.{outlook_of}
use Rattle.satip_plain.specs.Refusals.{new_outlook as new_outlook_of}
use Rattle.satip_state.specs.Kept.{Kept}
use Rattle.satip_state.specs.Standing.{StandsFor, stream_in, row_in}
use Rattle.satip_state.specs.Looks.{is_blocked, numbered, outlook_for}

iff_same : (a b : Bool) → (a ≡ true → b ≡ true) → (b ≡ true → a ≡ true) → a ≡ b
iff_same true true f g = refl
iff_same true false f g = sym (f refl)
iff_same false true f g = g refl
iff_same false false f g = refl

-- places

is_placed_some : (f : ℕ) (p : Option ℕ) → is_placed f p ≡ true → p ≡ Some f
is_placed_some f None e = cc
is_placed_some f (Some n) e = ap Some (eqb-true n f e)

placed_some : (f : ℕ) (ps : List (Option ℕ)) → list_any (is_placed f) ps ≡ true → (i : ℕ) × (slice_get ps i ≡ Some (Some f))
placed_some f [] e = cc
placed_some f (p ∷ ps) e = by (is_placed f p) refl e (placed_some f ps)
  where
    by : (b : Bool) → is_placed f p ≡ b → (b || list_any (is_placed f) ps) ≡ true
        → (list_any (is_placed f) ps ≡ true → (i : ℕ) × (slice_get ps i ≡ Some (Some f))) → (i : ℕ) × (slice_get (p ∷ ps) i ≡ Some (Some f))
    by true same _ rest = (zero, ap Some (is_placed_some f p same))
    by false _ later rest = let r = rest later in (suc r.0, r.1)

some_inner : (x y : Option ℕ) → Some x ≡ Some y → x ≡ y
some_inner x y e = ap or_this e
  where
    or_this : Option (Option ℕ) → Option ℕ
    or_this None = x
    or_this (Some z) = z

some_placed : (f : ℕ) (ps : List (Option ℕ)) (i : ℕ) → slice_get ps i ≡ Some (Some f) → list_any (is_placed f) ps ≡ true
some_placed f [] i e = cc
some_placed f (p ∷ ps) zero e = or_left _ _ (ap (is_placed f) (some_inner p (Some f) e) ∙ eq-eqb f f refl)
some_placed f (p ∷ ps) (suc i) e = or_right _ _ (some_placed f ps i e)

-- another place than that which is cleared
cleared_other : (f : ℕ) (ps : List (Option ℕ)) (k i : ℕ) → slice_get (slice_set ps k None) i ≡ Some (Some f) → (k ≢ i) × (slice_get ps i ≡ Some (Some f))
cleared_other f [] k i e = cc
cleared_other f (p ∷ ps) zero zero e = cc
cleared_other f (p ∷ ps) zero (suc i) e = ((λ s. omega (arith, s)), e)
cleared_other f (p ∷ ps) (suc k) zero e = ((λ s. omega (arith, s)), e)
cleared_other f (p ∷ ps) (suc k) (suc i) e =
    let r = cleared_other f ps k i e in
    ((λ s. r.0 (omega (arith, s))), r.1)

other_cleared : (y : Option (Option ℕ)) (ps : List (Option ℕ)) (k i : ℕ) → k ≢ i → slice_get ps i ≡ y → slice_get (slice_set ps k None) i ≡ y
other_cleared y [] k i apart e = e
other_cleared y (p ∷ ps) zero zero apart e = absurd (apart refl)
other_cleared y (p ∷ ps) zero (suc i) apart e = e
other_cleared y (p ∷ ps) (suc k) zero apart e = e
other_cleared y (p ∷ ps) (suc k) (suc i) apart e = other_cleared y ps k i (λ s. apart (ap suc s)) e

front_placed : (ps : List (Option ℕ)) (i f : ℕ) → slice_get ps i ≡ Some (Some f) → front_of ps (i + 1) ≡ Some f
unfolding front_of
front_placed ps i f e =
    let back : i + 1 - 1 ≡ i = omega arith in
    ap (λ b. cond b None (option_flatten (slice_get ps (i + 1 - 1)))) (ne_eqb (i + 1) 0 (λ s. omega (arith, s)))
    ∙ ap (λ k. option_flatten (slice_get ps k)) back ∙ ap option_flatten e

flat_some : (f : ℕ) (o : Option (Option ℕ)) → option_flatten o ≡ Some f → o ≡ Some (Some f)
flat_some f None e = cc
flat_some f (Some p) e = ap Some e

placed_front : (ps : List (Option ℕ)) (m f : ℕ) → front_of ps m ≡ Some f → slice_get ps (m - 1) ≡ Some (Some f)
unfolding front_of
placed_front ps m f e = by (m == 0) e
  where
    by : (b : Bool) → cond b None (option_flatten (slice_get ps (m - 1))) ≡ Some f → slice_get ps (m - 1) ≡ Some (Some f)
    by true none = cc
    by false some = flat_some f (slice_get ps (m - 1)) some

-- streams

any_behind : (b : Bool) (p : Stream → Bool) (t : Stream) (ts : List Stream) → list_any p ts ≡ true → list_any p (cond b (t ∷ ts) ts) ≡ true
any_behind true p t ts e = or_right _ _ e
any_behind false p t ts e = e

is_at_some : (o : Option ℕ) (f : ℕ) → o ≡ Some f → is_at o f ≡ true
is_at_some o f e = ap (λ x. is_at x f) e ∙ eq-eqb f f refl

some_at : (o : Option ℕ) (f : ℕ) → is_at o f ≡ true → o ≡ Some f
some_at None f e = cc
some_at (Some n) f e = ap Some (eqb-true n f e)

stream_serves : (n m f : ℕ) (ts : List Stream) → option_and_then (λ t. t.front) (find (λ t. t.number == m) ts) ≡ Some f → m ≢ n
    → list_any (λ t. not (t.number == n)) (filter (λ t. is_at t.front f) ts) ≡ true
stream_serves n m f [] e apart = cc
stream_serves n m f (t ∷ ts) e apart = by (t.number == m) refl e (λ later. stream_serves n m f ts later apart)
  where
    by : (b : Bool) → (t.number == m) ≡ b → option_and_then (λ t. t.front) (cond b (Some t) (find (λ t. t.number == m) ts)) ≡ Some f
        → (option_and_then (λ t. t.front) (find (λ t. t.number == m) ts) ≡ Some f
        → list_any (λ t. not (t.number == n)) (filter (λ t. is_at t.front f) ts) ≡ true)
        → list_any (λ t. not (t.number == n)) (cond (is_at t.front f) (t ∷ filter (λ t. is_at t.front f) ts) (filter (λ t. is_at t.front f) ts)) ≡ true
    by true same here rest =
        let number : t.number ≡ m = eqb-true t.number m same in
        ap (λ b. list_any (λ t. not (t.number == n)) (cond b (t ∷ filter (λ t. is_at t.front f) ts) (filter (λ t. is_at t.front f) ts)))
        (is_at_some t.front f here)
        ∙ or_left _ _ (ap not (ap (λ k. k == n) number ∙ ne_eqb m n apart))
    by false same later rest = any_behind (is_at t.front f) (λ t. not (t.number == n)) t (filter (λ t. is_at t.front f) ts) (rest later)

-- a stream other than n that is at the front end
abbrev pub Serving : ℕ → ℕ → ℕ → List Stream → Type 0
Serving above n f ts = (m : ℕ) × (above < m) × (m ≢ n) × (option_and_then (λ (t : Stream). t.front) (find (λ t. t.number == m) ts) ≡ Some f)

-- numbers rise
abbrev pub Rise : ℕ → List Stream → Type 0
Rise above [] = Unit {0}
Rise above (t ∷ ts) = (above < t.number) × Rise t.number ts

pub rise_of : (above : ℕ) (rows : List StreamRow) → NumbersRise above rows → Rise above (map stream_in rows)
unfolding stream_in
rise_of above [] rise = tt
rise_of above (t ∷ ts) rise = (rise.0, rise_of t.number ts rise.1)

serves_behind : (above n f : ℕ) (t : Stream) (ts : List Stream) → above < t.number → Serving t.number n f ts → Serving above n f (t ∷ ts)
serves_behind above n f t ts more r =
    let passed : (t.number == r.0) ≡ false = ne_eqb t.number r.0 (λ s. omega (arith, s, r.1)) in
    (r.0, omega (arith, more, r.1), r.2, ap (λ b. option_and_then (λ (u : Stream). u.front) (cond b (Some t) (find (λ u. u.number == r.0) ts))) passed ∙ r.3)

serves_stream : (n f above : ℕ) (ts : List Stream) → Rise above ts → list_any (λ t. not (t.number == n)) (filter (λ t. is_at t.front f) ts) ≡ true
    → Serving above n f ts
serves_stream n f above [] rise e = cc
serves_stream n f above (t ∷ ts) rise e =
    by (is_at t.front f) (t.number == n) refl refl e (λ later. serves_behind above n f t ts rise.0 (serves_stream n f t.number ts rise.1 later))
  where
    by : (b d : Bool) → is_at t.front f ≡ b → (t.number == n) ≡ d
        → list_any (λ u. not (u.number == n)) (cond b (t ∷ filter (λ u. is_at u.front f) ts) (filter (λ u. is_at u.front f) ts)) ≡ true
        → (list_any (λ u. not (u.number == n)) (filter (λ u. is_at u.front f) ts) ≡ true → Serving above n f (t ∷ ts)) → Serving above n f (t ∷ ts)
    by true false at other e rest = (
      t.number,
      rise.0,
      (λ s. false≢true (sym other ∙ eq-eqb t.number n s)),
      ap (λ b. option_and_then (λ (u : Stream). u.front) (cond b (Some t) (find (λ u. u.number == t.number) ts))) (eq-eqb t.number t.number refl)
          ∙ some_at t.front f at,
    )
    by true true at same e rest = rest (sym (ap (λ d. not d || list_any (λ u. not (u.number == n)) (filter (λ u. is_at u.front f) ts)) same) ∙ e)
    by false d at other e rest = rest e

-- whether a front end serves a stream other than n, by places and by streams
Agree : List (Option ℕ) → List Stream → Type 0
Agree ps ts = (m : ℕ) → front_of ps m ≡ option_and_then (λ (t : Stream). t.front) (find (λ t. t.number == m) ts)

others_shared : (ps : List (Option ℕ)) (ts : List Stream) (n f : ℕ) → 1 ≤ n → Rise 0 ts → Agree ps ts
    → list_any (is_placed f) (slice_set ps (n - 1) None) ≡ list_any (λ t. not (t.number == n)) (filter (λ t. is_at t.front f) ts)
unfolding Agree
others_shared ps ts n f some rise agree =
    iff_same _ _
    (λ e.
    let at = placed_some f (slice_set ps (n - 1) None) e in
    let other = cleared_other f ps (n - 1) at.0 at.1 in
    stream_serves n (at.0 + 1) f ts (sym (agree (at.0 + 1)) ∙ front_placed ps at.0 f other.1) (λ s. other.0 (omega (arith, s))))
    (λ e.
    let serving = serves_stream n f 0 ts rise e in
    let place = placed_front ps serving.0 f (agree serving.0 ∙ serving.3) in
    let apart : n - 1 ≢ serving.0 - 1 = (λ s. serving.2 (omega (arith, s, some, serving.1))) in
    some_placed f (slice_set ps (n - 1) None) (serving.0 - 1) (other_cleared (Some (Some f)) ps (n - 1) (serving.0 - 1) apart place))

all_shared : (ps : List (Option ℕ)) (ts : List Stream) (f : ℕ) → Rise 0 ts → Agree ps ts
    → list_any (is_placed f) ps ≡ list_any (λ t. not (t.number == 0)) (filter (λ t. is_at t.front f) ts)
unfolding Agree
all_shared ps ts f rise agree =
    iff_same _ _
    (λ e.
    let at = placed_some f ps e in
    stream_serves 0 (at.0 + 1) f ts (sym (agree (at.0 + 1)) ∙ front_placed ps at.0 f at.1) (λ s. omega (arith, s)))
    (λ e.
    let serving = serves_stream 0 f 0 ts rise e in
    some_placed f ps (serving.0 - 1) (placed_front ps serving.0 f (agree serving.0 ∙ serving.3)))

-- the multiplex of a front end
rows_mux : (f : ℕ) (rows : List FrontRow) → mux_at rows f ≡ option_and_then (λ (r : Row). r.mux) (find (λ r. r.number == f) (map row_in rows))
unfolding mux_at row_in
rows_mux f [] = refl
rows_mux f (r ∷ rs) = by (r.number == f) (rows_mux f rs)
  where
    by : (b : Bool) → option_and_then (λ (row : FrontRow). row.mux) (find (is_row f) rs) ≡ option_and_then (λ (r : Row). r.mux)
        (find (λ r. r.number == f) (map row_in rs))
        → option_and_then (λ (row : FrontRow). row.mux) (cond b (Some r) (find (is_row f) rs)) ≡ option_and_then (λ (r : Row). r.mux)
        (cond b (Some (row_in r)) (find (λ r. r.number == f) (map row_in rs)))
    by true rest = refl
    by false rest = rest

an_outlook : List Front → (ℕ → Option ℕ) → Option ℕ → (ℕ → Bool) → Outlook
an_outlook fronts mux_at own shared = record { fronts = fronts; mux_at = mux_at; own = own; shared = shared }

same_outlook : (fs gs : List Front) (m k : ℕ → Option ℕ) (a b : Option ℕ) (s t : ℕ → Bool) → fs ≡ gs → ((f : ℕ) → m f ≡ k f) → a ≡ b → ((f : ℕ) → s f ≡ t f)
    → an_outlook fs m a s ≡ an_outlook gs k b t
same_outlook fs gs m k a b s t e f g h =
    ap (λ x. an_outlook x m a s) e ∙ ap (λ x. an_outlook gs x a s) (fun_ext (λ n. f n)) ∙ ap (λ x. an_outlook gs k x s) g
    ∙ ap (λ x. an_outlook gs k b x) (fun_ext (λ n. h n))

muxes_same : (c : Config) (v : Kept) (st : State) (f : ℕ) → StandsFor c v st → mux_at v.fronts.rows f ≡ option_and_then (λ (r : Row). r.mux) (row_of st f)
muxes_same c v st f stands =
    rows_mux f v.fronts.rows ∙ ap (λ (rows : List Row). option_and_then (λ (r : Row). r.mux) (find (λ r. r.number == f) rows)) stands.rows

streams_rise : (c : Config) (v : Kept) (st : State) → StandsFor c v st → Sound v.table → Rise 0 st.streams
streams_rise c v st stands sound = subst (Rise 0) stands.streams (rise_of 0 v.table.streams sound.numbers)

-- what is looked at for a stream that lives
pub outlook_same : (c : Config) (v : Kept) (st : State) (number : ℕ) → StandsFor c v st → Sound v.table → 1 ≤ number
    → outlook v.fronts number ≡ outlook_of c st number
unfolding outlook an_outlook Agree
outlook_same c v st number stands sound some =
    same_outlook v.fronts.fronts c.fronts (mux_at v.fronts.rows) (λ f. option_and_then (λ (r : Row). r.mux) (row_of st f))
    (front_of v.fronts.places number) (option_and_then (λ (t : Stream). t.front) (stream_of st number))
    (λ f. list_any (is_placed f) (slice_set v.fronts.places (number - 1) None)) (λ f. list_any (λ t. not (t.number == number)) (served_by st f))
    stands.front_ends (λ f. muxes_same c v st f stands) (stands.places number)
    (λ f. others_shared v.fronts.places st.streams number f some (streams_rise c v st stands sound) stands.places)

-- what is looked at for a stream that is yet to be founded
pub new_outlook_same : (c : Config) (v : Kept) (st : State) → StandsFor c v st → Sound v.table → new_outlook v.fronts ≡ new_outlook_of c st
unfolding new_outlook an_outlook Agree
new_outlook_same c v st stands sound =
    same_outlook v.fronts.fronts c.fronts (mux_at v.fronts.rows) (λ f. option_and_then (λ (r : Row). r.mux) (row_of st f))
    None None
    (λ f. list_any (is_placed f) v.fronts.places) (λ f. list_any (λ t. not (t.number == 0)) (served_by st f))
    stands.front_ends (λ f. muxes_same c v st f stands) refl
    (λ f. all_shared v.fronts.places st.streams f (streams_rise c v st stands sound) stands.places)

outlooks_same : (c : Config) (v : Kept) (st : State) (stream : Option ℕ) → StandsFor c v st → Sound v.table → IsStreamOrNone stream
    → outlook_of_fronts v.fronts stream ≡ outlook_for c st stream
outlooks_same c v st None stands sound known = new_outlook_same c v st stands sound
outlooks_same c v st (Some number) stands sound known = outlook_same c v st number stands sound known.0

-- whether no front end is to be had
pub blocked_same : (c : Config) (v : Kept) (st : State) (stream : Option ℕ) (tuning : Tuning) → StandsFor c v st → Sound v.table → IsStreamOrNone stream
    → blocked_for v.fronts stream tuning ≡ is_blocked c st stream tuning
unfolding blocked_for
blocked_same c v st stream tuning stands sound known =
    ap (λ (o : Outlook). blocked o (mux_for v.fronts.muxes tuning) tuning) (outlooks_same c v st stream stands sound known)
    ∙ ap (λ (ms : List Mux). blocked (outlook_for c st stream) (mux_for ms tuning) tuning) stands.muxes

-- a number that no stream has excludes none
none_excluded : (above n f : ℕ) (ts : List Stream) → Rise above ts → Each (λ (t : Stream). t.number ≤ 64) ts → ((m : ℕ) → above < m → m ≤ 64 → m ≢ n)
    → list_any (λ t. not (t.number == n)) (filter (λ t. is_at t.front f) ts) ≡ list_any (λ t. not (t.number == 0)) (filter (λ t. is_at t.front f) ts)
none_excluded above n f [] rise few apart = refl
none_excluded above n f (t ∷ ts) rise few apart =
    by (is_at t.front f) (none_excluded t.number n f ts rise.1 few.1 (λ m over most. apart m (omega (arith, over, rise.0)) most))
  where
    is : not (t.number == n) ≡ not (t.number == 0)
    is = ap not (ne_eqb t.number n (apart t.number rise.0 few.0)) ∙ ap not (sym (ne_eqb t.number 0 (λ s. omega (arith, s, rise.0))))

    by : (b : Bool) → list_any (λ u. not (u.number == n)) (filter (λ u. is_at u.front f) ts) ≡ list_any (λ u. not (u.number == 0))
        (filter (λ u. is_at u.front f) ts)
        → list_any (λ u. not (u.number == n)) (cond b (t ∷ filter (λ u. is_at u.front f) ts) (filter (λ u. is_at u.front f) ts)) ≡ list_any
        (λ u. not (u.number == 0)) (cond b (t ∷ filter (λ u. is_at u.front f) ts) (filter (λ u. is_at u.front f) ts))
    by true rest = ap (λ b. b || list_any (λ u. not (u.number == n)) (filter (λ u. is_at u.front f) ts)) is ∙ ap (λ b. not (t.number == 0) || b) rest
    by false rest = rest

-- a number that is none of a stream is looked at as none
unnumbered_same : (c : Config) (v : Kept) (st : State) (number : ℕ) (tuning : Tuning) → StandsFor c v st → Sound v.table
    → ((m : ℕ) → 0 < m → m ≤ 64 → m ≢ number) → is_blocked c st None tuning ≡ is_blocked c st (Some number) tuning
unfolding blocked
unnumbered_same c v st number tuning stands sound apart =
    ap (λ (shared : ℕ → Bool). blocked (record (new_outlook_of c st) { shared = shared }) (mux_for c.muxes tuning) tuning)
    (sym (fun_ext (λ f. none_excluded 0 number f st.streams (streams_rise c v st stands sound) stands.numbers apart)))

pub blocked_looked : (c : Config) (v : Kept) (st : State) (stream : Option ℕ) (tuning : Tuning) → StandsFor c v st → Sound v.table
    → blocked_for v.fronts (numbered stream) tuning ≡ is_blocked c st stream tuning
blocked_looked c v st None tuning stands sound = blocked_same c v st None tuning stands sound tt
blocked_looked c v st (Some number) tuning stands sound = by (nat_le 1 number) (nat_le number 64) refl refl
  where
    by : (a b : Bool) → nat_le 1 number ≡ a → nat_le number 64 ≡ b
        → blocked_for v.fronts (cond (a && b) (Some number) None) tuning ≡ is_blocked c st (Some number) tuning
    by true true low high = blocked_same c v st (Some number) tuning stands sound (leb-true 1 number low, leb-true number 64 high)
    by true false low high = let over = leb-false number 64 high in blocked_same c v st None tuning stands sound tt
        ∙ unnumbered_same c v st number tuning stands sound (λ m some most same. omega (arith, most, same, over))
    by false b low high = let none = leb-false 1 number low in blocked_same c v st None tuning stands sound tt
        ∙ unnumbered_same c v st number tuning stands sound (λ m some most same. omega (arith, some, same, none))

-- at most so many streams live
few_above : (above : ℕ) (ts : List Stream) → Rise above ts → Each (λ (t : Stream). t.number ≤ 64) ts → above ≤ 64 → length ts + above ≤ 64
few_above above [] rise few low = omega (arith, low)
few_above above (t ∷ ts) rise few low = let rest = few_above t.number ts rise.1 few.1 few.0 in omega (arith, rest, rise.0)

pub few_streams : (c : Config) (v : Kept) (st : State) → StandsFor c v st → Sound v.table → length st.streams ≤ 64
few_streams c v st stands sound =
    let most = few_above 0 st.streams (streams_rise c v st stands sound) stands.numbers (omega arith) in
    omega (arith, most)
