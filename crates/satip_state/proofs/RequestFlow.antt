-- One subscriber more, in its place among the others.
use Rattle.std.proofs.Common.{◌≡◌, ◌∙◌, ℕ, ◌<◌, ◌≤◌, ◌==◌, Bool, true, false, cond, List, [], ◌∷◌, ◌++◌, Option, None, Some, filter, filter_map, flat_map}
use Rattle.std.proofs.Common.{find, refl, ap, sym, arith, append_assoc}
use Rattle.std.specs.List.{cons_option}
use Rattle.std.proofs.lemmas.Bool.{eqb-true, eqb-false, eq-eqb, ne_eqb, lt-ltb, le-ltb, and_from, and_left, and_right, or_from, or_left, or_right}
use Rattle.std.proofs.lemmas.List.Elements.{filter-append, filter_map-append}
use Rattle.std.proofs.lemmas.Option.{same_Some}
use Rattle.satip_base.specs.Lists.{Each}
use Rattle.satip_flow.specs.declared.place.Place.{Place}
use Rattle.satip_flow.specs.Subscription.{Subscription}
use Rattle.satip_flow.specs.Subscriptions.{put, comes_before}
use Rattle.satip_plain.specs.State.{Stream}
use Rattle.satip_state.specs.Seated.{Seated, feed_of, seated_in, subscriber, subscribers}
use Rattle.satip_state.proofs.RequestLists.{each_append, each_weaker, none_some}

-- the streams' numbers rise, from above this number
abbrev pub Rise : ℕ → List Stream → Type 0
Rise above [] = Unit {0}
Rise above (t ∷ ts) = (above < t.number) × Rise t.number ts

-- behind those that don't come after it, and before those that do
put_skip : (u : Subscription) (before others : List Subscription) → Each (λ a. comes_before u.place a.place ≡ false) before
    → put u (before ++ others) ≡ before ++ put u others
put_skip u [] others all = refl
put_skip u (a ∷ before) others all =
    ap (λ b. cond b (u ∷ a ∷ (before ++ others)) (a ∷ put u (before ++ others))) all.0 ∙ ap (λ us. a ∷ us) (put_skip u before others all.1)

put_first : (u : Subscription) (others : List Subscription) → Each (λ a. comes_before u.place a.place ≡ true) others → put u others ≡ u ∷ others
put_first u [] all = refl
put_first u (a ∷ others) all = ap (λ b. cond b (u ∷ a ∷ others) (a ∷ put u others)) all.0

-- the subscribers of one stream
abbrev pub subs_of : Stream → List Seated → List Subscription
subs_of t seated = filter_map (subscriber t) (seated_in t seated)

each_cons : (P : Subscription → Type 0) (o : Option Subscription) (us : List Subscription) → ((u : Subscription) → o ≡ Some u → P u) → Each P us
    → Each P (cons_option o us)
each_cons P None us one all = all
each_cons P (Some u) us one all = (one u refl, all)

each_sub : (P : Subscription → Type 0) (t : Stream) (xs : List Seated) → Each (λ x. (u : Subscription) → subscriber t x ≡ Some u → P u) xs
    → Each P (filter_map (subscriber t) xs)
each_sub P t [] all = tt
each_sub P t (x ∷ xs) all = each_cons P (subscriber t x) (filter_map (subscriber t) xs) all.0 (each_sub P t xs all.1)

pub each_filter : {X : Type 0} (P : X → Type 0) (p : X → Bool) (xs : List X) → Each P xs → Each P (filter p xs)
each_filter P p [] all = tt
each_filter P p (x ∷ xs) all = by (p x) (each_filter P p xs all.1)
  where
    by : (b : Bool) → Each P (filter p xs) → Each P (cond b (x ∷ filter p xs) (filter p xs))
    by true rest = (all.0, rest)
    by false rest = rest

-- what holds of the subscriber that each session may be
pub each_subscriber : (P : Subscription → Type 0) (ys : List Seated) (streams : List Stream)
    → Each (λ y. (t : Stream) (u : Subscription) → subscriber t y ≡ Some u → P u) ys → Each P (subscribers ys streams)
unfolding subscribers
each_subscriber P ys [] all = tt
each_subscriber P ys (t ∷ ts) all =
    each_append P (subs_of t ys) (flat_map (λ s. subs_of s ys) ts)
    (each_sub P t (seated_in t ys) (each_filter _ (λ y. y.session.stream == t.number) ys (each_weaker _ _ (λ y so. so t) ys all)))
    (each_subscriber P ys ts all)

abbrev pub place_of : Stream → Seated → Place
place_of t x = record { slot = x.slot; stream = t.number; count = x.session.id.count }

pub sub_place : (t : Stream) (x : Seated) (u : Subscription) → subscriber t x ≡ Some u → u.place ≡ place_of t x
unfolding subscriber
sub_place t x u is = by x.session.playing is
  where
    by : (b : Bool) → cond b (Some (record { place = place_of t x; front = t.front; pids = t.pids; feed = feed_of x.session })) None ≡ Some u
        → u.place ≡ place_of t x
    by true is = ap (λ (w : Subscription). w.place) (sym (same_Some _ u is))
    by false is = absurd (none_some u is)

-- where they stand
in_stream : (t : Stream) (xs : List Seated) → Each (λ (u : Subscription). u.place.stream ≡ t.number) (filter_map (subscriber t) xs)
in_stream t xs = each_sub _ t xs (all xs)
  where
    one : (x : Seated) (u : Subscription) → subscriber t x ≡ Some u → u.place.stream ≡ t.number
    one x u is = ap (λ (p : Place). p.stream) (sub_place t x u is)

    all : (ys : List Seated) → Each (λ x. (u : Subscription) → subscriber t x ≡ Some u → u.place.stream ≡ t.number) ys
    all [] = tt
    all (y ∷ ys) = (one y, all ys)

behind : (n : ℕ) (seated : List Seated) (streams : List Stream) → Rise n streams → Each (λ (u : Subscription). n < u.place.stream) (subscribers seated streams)
unfolding subscribers
behind n seated [] rise = tt
behind n seated (t ∷ ts) rise =
    each_append _ (subs_of t seated) (flat_map (λ s. subs_of s seated) ts)
    (each_weaker _ _ (λ u at. omega (arith, at, rise.0)) (subs_of t seated) (in_stream t (seated_in t seated)))
    (each_weaker _ _ (λ u at. omega (arith, at, rise.0)) (subscribers seated ts) (behind t.number seated ts rise.1))

-- without a session that isn't in the stream
skipped : (t : Stream) (front back : List Seated) (x : Seated) → (x.session.stream == t.number) ≡ false
    → seated_in t (front ++ x ∷ back) ≡ seated_in t (front ++ back)
skipped t front back x other =
    let q : Seated → Bool = λ y. y.session.stream == t.number in
    filter-append q front (x ∷ back) ∙ ap (λ b. filter q front ++ cond b (x ∷ filter q back) (filter q back)) other ∙ sym (filter-append q front back)

pub all_skipped : (n : ℕ) (front back : List Seated) (x : Seated) (streams : List Stream) → Rise n streams → x.session.stream ≤ n
    → subscribers (front ++ x ∷ back) streams ≡ subscribers (front ++ back) streams
unfolding subscribers
all_skipped n front back x [] rise few = refl
all_skipped n front back x (t ∷ ts) rise few =
    ap (λ ys. filter_map (subscriber t) ys ++ subscribers (front ++ x ∷ back) ts)
    (skipped t front back x (ne_eqb x.session.stream t.number (λ e. omega (arith, rise.0))))
    ∙ ap (λ us. subs_of t (front ++ back) ++ us) (all_skipped t.number front back x ts rise.1 (omega (arith, rise.0)))

-- without a session that doesn't play
pub idle_skipped : (front back : List Seated) (x : Seated) → ((t : Stream) → subscriber t x ≡ None) → (streams : List Stream)
    → subscribers (front ++ x ∷ back) streams ≡ subscribers (front ++ back) streams
unfolding subscribers
idle_skipped front back x idle [] = refl
idle_skipped front back x idle (t ∷ ts) = ap (λ us. us ++ subscribers (front ++ x ∷ back) ts) own
    ∙ ap (λ us. subs_of t (front ++ back) ++ us) (idle_skipped front back x idle ts)
  where
    q : Seated → Bool
    q y = y.session.stream == t.number

    by : (b : Bool) → filter_map (subscriber t) (filter q front ++ cond b (x ∷ filter q back) (filter q back)) ≡ filter_map (subscriber t)
        (filter q front ++ filter q back)
    by true =
        filter_map-append (subscriber t) (filter q front) (x ∷ filter q back)
        ∙ ap (λ o. filter_map (subscriber t) (filter q front) ++ cons_option o (filter_map (subscriber t) (filter q back))) (idle t)
        ∙ sym (filter_map-append (subscriber t) (filter q front) (filter q back))
    by false = refl

    own : subs_of t (front ++ x ∷ back) ≡ subs_of t (front ++ back)
    own =
        ap (filter_map (subscriber t)) (filter-append q front (x ∷ back)) ∙ by (x.session.stream == t.number)
        ∙ ap (filter_map (subscriber t)) (sym (filter-append q front back))

-- the sessions made before it and after it
abbrev pub MadeBefore : Seated → Seated → Type 0
MadeBefore x y = y.session.id.count < x.session.id.count

abbrev pub MadeAfter : Seated → Seated → Type 0
MadeAfter x y = x.session.id.count < y.session.id.count

not_after : (t : Stream) (x : Seated) (u : Subscription) (xs : List Seated) → u.place ≡ place_of t x → Each (MadeBefore x) xs
    → Each (λ (a : Subscription). comes_before u.place a.place ≡ false) (filter_map (subscriber t) xs)
not_after t x u xs at all = each_sub _ t xs (each_weaker (MadeBefore x) _ one xs all)
  where
    one : (y : Seated) → MadeBefore x y → (a : Subscription) → subscriber t y ≡ Some a → comes_before u.place a.place ≡ false
    one y less a is =
        ap (λ p. comes_before p a.place) at ∙ ap (comes_before (place_of t x)) (sub_place t y a is)
        ∙ or_from _ _ (le-ltb t.number t.number (omega arith)) (and_right _ _ (le-ltb x.session.id.count y.session.id.count (omega (arith, less))))

comes_after : (t : Stream) (x : Seated) (u : Subscription) (xs : List Seated) → u.place ≡ place_of t x → Each (MadeAfter x) xs
    → Each (λ (a : Subscription). comes_before u.place a.place ≡ true) (filter_map (subscriber t) xs)
comes_after t x u xs at all = each_sub _ t xs (each_weaker (MadeAfter x) _ one xs all)
  where
    one : (y : Seated) → MadeAfter x y → (a : Subscription) → subscriber t y ≡ Some a → comes_before u.place a.place ≡ true
    one y more a is =
        ap (λ p. comes_before p a.place) at ∙ ap (comes_before (place_of t x)) (sub_place t y a is)
        ∙ or_right _ _ (and_from _ _ (eq-eqb t.number t.number refl) (lt-ltb x.session.id.count y.session.id.count more))

pub found_above : (n number : ℕ) (at : Stream) (streams : List Stream) → Rise n streams → find (λ t. t.number == number) streams ≡ Some at → n < at.number
found_above n number at [] rise found = absurd (none_some at found)
found_above n number at (t ∷ ts) rise found = by (t.number == number) found (found_above t.number number at ts rise.1)
  where
    by : (b : Bool) → cond b (Some t) (find (λ s. s.number == number) ts) ≡ Some at → (find (λ s. s.number == number) ts ≡ Some at → t.number < at.number)
        → n < at.number
    by true found rest = omega (arith, rise.0, ap (λ (s : Stream). s.number) (same_Some t at found))
    by false found rest = omega (arith, rise.0, rest found)

-- one that begins to play is put in its place
pub put_into : (front back : List Seated) (x : Seated) (u : Subscription) (at : Stream) (above : ℕ) (streams : List Stream) → Rise above streams
    → find (λ t. t.number == x.session.stream) streams ≡ Some at → subscriber at x ≡ Some u → Each (MadeBefore x) front → Each (MadeAfter x) back
    → subscribers (front ++ x ∷ back) streams ≡ put u (subscribers (front ++ back) streams)
unfolding subscribers
put_into front back x u at above [] rise found is before after = absurd (none_some at found)
put_into front back x u at above (t ∷ ts) rise found is before after =
    by (t.number == x.session.stream) refl found (λ there. put_into front back x u at t.number ts rise.1 there is before after)
  where
    rest : List Subscription
    rest = subscribers (front ++ back) ts

    here : t ≡ at → t.number ≡ x.session.stream → subscribers (front ++ x ∷ back) (t ∷ ts) ≡ put u (subscribers (front ++ back) (t ∷ ts))
    here same number =
        let q : Seated → Bool = λ y. y.session.stream == t.number in
        let placed : u.place ≡ place_of t x = sub_place t x u (ap (λ s. subscriber s x) same ∙ is) in
        let own : seated_in t (front ++ x ∷ back) ≡ seated_in t front ++ x ∷ seated_in t back =
        filter-append q front (x ∷ back) ∙ ap (λ b. filter q front ++ cond b (x ∷ filter q back) (filter q back))
        (eq-eqb x.session.stream t.number (sym number)) in
        let left : subs_of t (front ++ x ∷ back) ≡ subs_of t front ++ u ∷ subs_of t back =
        ap (filter_map (subscriber t)) own ∙ filter_map-append (subscriber t) (seated_in t front) (x ∷ seated_in t back)
        ∙ ap (λ o. subs_of t front ++ cons_option o (subs_of t back)) (ap (λ s. subscriber s x) same ∙ is) in
        let right : subs_of t (front ++ back) ≡ subs_of t front ++ subs_of t back =
        ap (filter_map (subscriber t)) (filter-append q front back) ∙ filter_map-append (subscriber t) (seated_in t front) (seated_in t back) in
        let none = not_after t x u (seated_in t front) placed (each_filter _ q front before) in
        let all = comes_after t x u (seated_in t back) placed (each_filter _ q back after) in
        let further : Each (λ (a : Subscription). comes_before u.place a.place ≡ true) rest =
        each_weaker _ _ (λ (a : Subscription) more. ap (λ p. comes_before p a.place) placed ∙ or_left _ _ (lt-ltb t.number a.place.stream more)) rest
        (behind t.number (front ++ back) ts rise.1) in
        ap (λ us. us ++ subscribers (front ++ x ∷ back) ts) left
        ∙ ap (λ us. (subs_of t front ++ u ∷ subs_of t back) ++ us) (all_skipped t.number front back x ts rise.1 (omega (arith, number)))
        ∙ append_assoc (subs_of t front) (u ∷ subs_of t back) rest
        ∙ ap (λ us. subs_of t front ++ us) (sym (put_first u (subs_of t back ++ rest) (each_append _ (subs_of t back) rest all further)))
        ∙ sym (put_skip u (subs_of t front) (subs_of t back ++ rest) none)
        ∙ ap (put u) (sym (append_assoc (subs_of t front) (subs_of t back) rest))
        ∙ ap (λ us. put u (us ++ rest)) (sym right)

    later : (t.number == x.session.stream) ≡ false → find (λ s. s.number == x.session.stream) ts ≡ Some at
        → subscribers (front ++ x ∷ back) ts ≡ put u rest → subscribers (front ++ x ∷ back) (t ∷ ts) ≡ put u (subscribers (front ++ back) (t ∷ ts))
    later other there same =
        let differs : t.number ≡ x.session.stream → ⊥ = eqb-false t.number x.session.stream other in
        let above_t : t.number < at.number = found_above t.number x.session.stream at ts rise.1 there in
        let stream : u.place.stream ≡ at.number = ap (λ (p : Place). p.stream) (sub_place at x u is) in
        let ahead : (a : Subscription) → a.place.stream ≡ t.number → comes_before u.place a.place ≡ false =
        λ a its. or_from _ _ (le-ltb u.place.stream a.place.stream (omega (arith, above_t, stream, its)))
        (and_left _ _ (ne_eqb u.place.stream a.place.stream (λ e. omega (arith, above_t, stream, its, e)))) in
        ap (λ ys. filter_map (subscriber t) ys ++ subscribers (front ++ x ∷ back) ts)
        (skipped t front back x (ne_eqb x.session.stream t.number (λ e. differs (sym e))))
        ∙ ap (λ us. subs_of t (front ++ back) ++ us) same
        ∙ sym (put_skip u (subs_of t (front ++ back)) rest (each_weaker _ _ ahead (subs_of t (front ++ back)) (in_stream t (seated_in t (front ++ back)))))

    by : (b : Bool) → (t.number == x.session.stream) ≡ b → cond b (Some t) (find (λ s. s.number == x.session.stream) ts) ≡ Some at
        → (find (λ s. s.number == x.session.stream) ts ≡ Some at → subscribers (front ++ x ∷ back) ts ≡ put u rest)
        → subscribers (front ++ x ∷ back) (t ∷ ts) ≡ put u (subscribers (front ++ back) (t ∷ ts))
    by true is found rec = here (same_Some t at found) (eqb-true t.number x.session.stream is)
    by false is found rec = later is found (rec found)
