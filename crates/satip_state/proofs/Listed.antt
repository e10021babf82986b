-- The list of subscribers as sessions change, end and are looked up.
use Rattle.std.proofs.Common.{◌≡◌, ℕ, ◌==◌, not, Bool, true, false, cond, inl, inr, List, [], ◌∷◌, ◌++◌, map, filter, find, Option, Some, None, refl, sym, ap}
use Rattle.std.proofs.Common.{◌∙◌}
use Rattle.std.specs.List.{list_any, filter_map, flat_map, cons_option}
use Rattle.std.specs.Option.{option_map, option_or}
use Rattle.std.proofs.lemmas.Bool.{or_parts}
use Rattle.std.proofs.lemmas.List.{map-append}
use Rattle.std.proofs.lemmas.Option.{same_Some}
use Rattle.satip_base.specs.Lists.{Has}
use Rattle.satip_flow.specs.Subscription.{Subscription, Feed, has_slot}
use Rattle.satip_plain.specs.State.{Stream}
use Rattle.satip_state.specs.Seated.{Seated, row_of, feed_of, is_seat, seated_in, subscriber, subscribers}
use Rattle.satip_state.proofs.Apart.{eq_turned_round}

-- the subscription of a session of a stream, with this feed
abbrev pub listed : Stream → Seated → Feed → Subscription
listed t x feed = record {
  place = record { slot = x.slot; stream = t.number; count = x.session.id.count };
  front = t.front;
  pids = t.pids;
  feed = feed;
}

pub subscriber_is : (t : Stream) (x : Seated) → subscriber t x ≡ cond x.session.playing (Some (listed t x (feed_of x.session))) None
unfolding subscriber
subscriber_is t x = refl

-- a session whose row stays is listed in the same place
pub listed_same : (t : Stream) (x y : Seated) (feed : Feed) → y.slot ≡ x.slot → row_of y.session ≡ row_of x.session → feed ≡ feed_of y.session
    → cond x.session.playing (Some (listed t x feed)) None ≡ subscriber t y
unfolding row_of
listed_same t x y feed slot row fed =
    let with_slot : ℕ → Option Subscription =
    λ n. cond x.session.playing (Some (record {
      place = record { slot = n; stream = t.number; count = x.session.id.count };
      front = t.front;
      pids =
          t.pids;
      feed = feed;
    })) None in
    let with_count : ℕ → Option Subscription =
    λ n. cond x.session.playing (Some (record {
      place = record { slot = y.slot; stream = t.number; count = n };
      front = t.front;
      pids = t.pids;
      feed =
          feed;
    })) None in
    ap with_slot (sym slot)
    ∙ ap with_count (sym (ap (λ r. r.id.count) row))
    ∙ ap (λ b. cond b (Some (listed t y feed)) None) (sym (ap (λ r. r.playing) row))
    ∙ ap (λ f. cond y.session.playing (Some (listed t y f)) None) fed
    ∙ sym (subscriber_is t y)

-- a change of a subscription that keeps its place
pub map_listed : (change : Subscription → Subscription) (t : Stream) (x : Seated)
    → option_map change (subscriber t x) ≡ cond x.session.playing (Some (change (listed t x (feed_of x.session)))) None
map_listed change t x = ap (option_map change) (subscriber_is t x) ∙ by x.session.playing
  where
    by : (b : Bool) → option_map change (cond b (Some (listed t x (feed_of x.session))) None) ≡ cond b (Some (change (listed t x (feed_of x.session)))) None
    by true = refl
    by false = refl

-- sessions change, and their subscriptions with them
in_map : (change : Subscription → Subscription) (f : Seated → Seated) (t : Stream) (all xs : List Seated)
    → ((x : Seated) → (f x).session.stream ≡ x.session.stream)
    → ((x : Seated) → Has x xs → (x.session.stream == t.number) ≡ true → option_map change (subscriber t x) ≡ subscriber t (f x))
    → map change (filter_map (subscriber t) (seated_in t xs)) ≡ filter_map (subscriber t) (seated_in t (map f xs))
in_map change f t all [] stream same = refl
in_map change f t all (x ∷ xs) stream same =
    by (x.session.stream == t.number) refl
    (in_map change f t all xs stream (λ y has. same y (inr has)))
    ∙ ap (λ n. filter_map (subscriber t) (cond (n == t.number) (f x ∷ seated_in t (map f xs)) (seated_in t (map f xs)))) (sym (stream x))
  where
    cons_same : (o p : Option Subscription) (ss ts : List Subscription) → option_map change o ≡ p → map change ss ≡ ts
        → map change (cons_option o ss) ≡ cons_option p ts
    cons_same None p ss ts one rest = ap (λ q. cons_option q (map change ss)) one ∙ ap (cons_option p) rest
    cons_same (Some s) p ss ts one rest = ap (λ q. cons_option q (map change ss)) one ∙ ap (cons_option p) rest

    by : (b : Bool) → (x.session.stream == t.number) ≡ b
        → map change (filter_map (subscriber t) (seated_in t xs)) ≡ filter_map (subscriber t) (seated_in t (map f xs))
        → map change (filter_map (subscriber t) (cond b (x ∷ seated_in t xs) (seated_in t xs)))
        ≡ filter_map (subscriber t) (cond b (f x ∷ seated_in t (map f xs)) (seated_in t (map f xs)))
    by true e rest = cons_same (subscriber t x) (subscriber t (f x)) (filter_map (subscriber t) (seated_in t xs))
        (filter_map (subscriber t) (seated_in t (map f xs))) (same x (inl refl) e) rest
    by false e rest = rest

streams_map : (change : Subscription → Subscription) (f : Seated → Seated) (xs : List Seated) (ts : List Stream)
    → ((x : Seated) → (f x).session.stream ≡ x.session.stream)
    → ((t : Stream) → Has t ts → (x : Seated) → Has x xs → (x.session.stream == t.number) ≡ true → option_map change (subscriber t x) ≡ subscriber t (f x))
    → map change (flat_map (λ t. filter_map (subscriber t) (seated_in t xs)) ts) ≡ flat_map (λ t. filter_map (subscriber t) (seated_in t (map f xs))) ts
streams_map change f xs [] stream same = refl
streams_map change f xs (t ∷ ts) stream same =
    map-append change (filter_map (subscriber t) (seated_in t xs)) (flat_map (λ u. filter_map (subscriber u) (seated_in u xs)) ts)
    ∙ ap (λ ss. ss ++ map change (flat_map (λ u. filter_map (subscriber u) (seated_in u xs)) ts)) (in_map change f t xs xs stream (same t (inl refl)))
    ∙ ap (λ ss. filter_map (subscriber t) (seated_in t (map f xs)) ++ ss) (streams_map change f xs ts stream (λ u has. same u (inr has)))

pub subscribers_map : (change : Subscription → Subscription) (f : Seated → Seated) (xs : List Seated) (ts : List Stream)
    → ((x : Seated) → (f x).session.stream ≡ x.session.stream)
    → ((t : Stream) → Has t ts → (x : Seated) → Has x xs → (x.session.stream == t.number) ≡ true → option_map change (subscriber t x) ≡ subscriber t (f x))
    → map change (subscribers xs ts) ≡ subscribers (map f xs) ts
unfolding subscribers
subscribers_map change f xs ts stream same = streams_map change f xs ts stream same

-- the subscriber of a slot is that of its session, in its stream
slot_listed : (slot : ℕ) (t : Stream) (x : Seated) (b : Bool) → is_seat slot x ≡ b
    → find (has_slot slot) (cons_option (subscriber t x) []) ≡ cond b (subscriber t x) None
slot_listed slot t x b e =
    ap (λ o. find (has_slot slot) (cons_option o [])) (subscriber_is t x)
    ∙ by x.session.playing
    ∙ ap (λ o. cond b o None) (sym (subscriber_is t x))
  where
    here : Subscription
    here = listed t x (feed_of x.session)

    by : (p : Bool) → find (has_slot slot) (cons_option (cond p (Some here) None) []) ≡ cond b (cond p (Some here) None) None
    by true = ap (λ c. cond c (Some here) None) e
    by false = nothing b
      where
        nothing : (c : Bool) → ◌≡◌ {A = Option Subscription} None (cond c None None)
        nothing true = refl
        nothing false = refl

find_cons : (p : Subscription → Bool) (o : Option Subscription) (ss : List Subscription)
    → find p (cons_option o ss) ≡ option_or (find p (cons_option o [])) (find p ss)
find_cons p None ss = refl
find_cons p (Some s) ss = by (p s)
  where
    by : (b : Bool) → cond b (Some s) (find p ss) ≡ option_or (cond b (Some s) None) (find p ss)
    by true = refl
    by false = refl

-- no one of a list has the slot
none_listed : (slot : ℕ) (t : Stream) (xs : List Seated) → list_any (is_seat slot) xs ≡ false
    → find (has_slot slot) (filter_map (subscriber t) (seated_in t xs)) ≡ None
none_listed slot t [] none = refl
none_listed slot t (x ∷ xs) none =
    let parts = or_parts (is_seat slot x) (list_any (is_seat slot) xs) none in
    by (x.session.stream == t.number) parts.0 (none_listed slot t xs parts.1)
  where
    by : (b : Bool) → is_seat slot x ≡ false → find (has_slot slot) (filter_map (subscriber t) (seated_in t xs)) ≡ None
        → find (has_slot slot) (filter_map (subscriber t) (cond b (x ∷ seated_in t xs) (seated_in t xs))) ≡ None
    by true other rest =
        find_cons (has_slot slot) (subscriber t x) (filter_map (subscriber t) (seated_in t xs))
        ∙ ap (λ o. option_or o (find (has_slot slot) (filter_map (subscriber t) (seated_in t xs)))) (slot_listed slot t x false other)
        ∙ rest
    by false other rest = rest

-- one of a list alone has the slot
one_listed : (slot : ℕ) (t : Stream) (a : List Seated) (x : Seated) (b : List Seated)
    → list_any (is_seat slot) a ≡ false → is_seat slot x ≡ true → list_any (is_seat slot) b ≡ false
    → find (has_slot slot) (filter_map (subscriber t) (seated_in t (a ++ x ∷ b))) ≡ cond (x.session.stream == t.number) (subscriber t x) None
one_listed slot t [] x b before here behind = by (x.session.stream == t.number)
  where
    or_nothing : (o : Option Subscription) → option_or o None ≡ o
    or_nothing None = refl
    or_nothing (Some s) = refl

    by : (c : Bool) → find (has_slot slot) (filter_map (subscriber t) (cond c (x ∷ seated_in t b) (seated_in t b))) ≡ cond c (subscriber t x) None
    by true =
        find_cons (has_slot slot) (subscriber t x) (filter_map (subscriber t) (seated_in t b))
        ∙ ap (λ o. option_or o (find (has_slot slot) (filter_map (subscriber t) (seated_in t b)))) (slot_listed slot t x true here)
        ∙ ap (option_or (subscriber t x)) (none_listed slot t b behind)
        ∙ or_nothing (subscriber t x)
    by false = none_listed slot t b behind
one_listed slot t (y ∷ a) x b before here behind =
    let parts = or_parts (is_seat slot y) (list_any (is_seat slot) a) before in
    by (y.session.stream == t.number) parts.0 (one_listed slot t a x b parts.1 here behind)
  where
    by : (c : Bool) → is_seat slot y ≡ false
        → find (has_slot slot) (filter_map (subscriber t) (seated_in t (a ++ x ∷ b))) ≡ cond (x.session.stream == t.number) (subscriber t x) None
        → find (has_slot slot) (filter_map (subscriber t) (cond c (y ∷ seated_in t (a ++ x ∷ b)) (seated_in t (a ++ x ∷ b)))) ≡ cond
        (x.session.stream == t.number) (subscriber t x) None
    by true other rest =
        find_cons (has_slot slot) (subscriber t y) (filter_map (subscriber t) (seated_in t (a ++ x ∷ b)))
        ∙ ap (λ o. option_or o (find (has_slot slot) (filter_map (subscriber t) (seated_in t (a ++ x ∷ b))))) (slot_listed slot t y false other)
        ∙ rest
    by false other rest = rest

find_both : (p : Subscription → Bool) (xs ys : List Subscription) → find p (xs ++ ys) ≡ option_or (find p xs) (find p ys)
find_both p [] ys = refl
find_both p (x ∷ xs) ys = by (p x) (find_both p xs ys)
  where
    by : (b : Bool) → find p (xs ++ ys) ≡ option_or (find p xs) (find p ys)
        → cond b (Some x) (find p (xs ++ ys)) ≡ option_or (cond b (Some x) (find p xs)) (find p ys)
    by true rest = refl
    by false rest = rest

-- who plays not is listed in no stream
idle_none : (t : Stream) (x : Seated) → x.session.playing ≡ false → subscriber t x ≡ None
idle_none t x idle = subscriber_is t x ∙ ap (λ p. cond p (Some (listed t x (feed_of x.session))) None) idle

streams_idle : (slot : ℕ) (a : List Seated) (x : Seated) (b : List Seated) (ts : List Stream)
    → list_any (is_seat slot) a ≡ false → is_seat slot x ≡ true → list_any (is_seat slot) b ≡ false → x.session.playing ≡ false
    → find (has_slot slot) (flat_map (λ u. filter_map (subscriber u) (seated_in u (a ++ x ∷ b))) ts) ≡ None
streams_idle slot a x b [] before here behind idle = refl
streams_idle slot a x b (u ∷ us) before here behind idle =
    find_both (has_slot slot) (filter_map (subscriber u) (seated_in u (a ++ x ∷ b))) (flat_map (λ v. filter_map (subscriber v) (seated_in v (a ++ x ∷ b))) us)
    ∙ ap (λ o. option_or o (find (has_slot slot) (flat_map (λ v. filter_map (subscriber v) (seated_in v (a ++ x ∷ b))) us)))
    (one_listed slot u a x b before here behind ∙ ap (λ o. cond (x.session.stream == u.number) o None) (idle_none u x idle)
    ∙ nothing (x.session.stream == u.number))
    ∙ streams_idle slot a x b us before here behind idle
  where
    nothing : (c : Bool) → ◌≡◌ {A = Option Subscription} (cond c None None) None
    nothing true = refl
    nothing false = refl

or_itself : (t : Stream) (x : Seated) (rest : Option Subscription) → (x.session.playing ≡ false → rest ≡ None)
    → option_or (subscriber t x) rest ≡ subscriber t x
or_itself t x rest idle =
    ap (λ o. option_or o rest) (subscriber_is t x) ∙ by x.session.playing refl ∙ sym (subscriber_is t x)
  where
    by : (p : Bool) → x.session.playing ≡ p → option_or (cond p (Some (listed t x (feed_of x.session))) None) rest ≡ cond p
        (Some (listed t x (feed_of x.session))) None
    by true e = refl
    by false e = idle e

-- a look-up by slot over all streams
streams_find : (slot : ℕ) (a : List Seated) (x : Seated) (b : List Seated) (ts : List Stream)
    → list_any (is_seat slot) a ≡ false → is_seat slot x ≡ true → list_any (is_seat slot) b ≡ false → (t : Stream)
    → find (λ u. u.number == x.session.stream) ts ≡ Some t
    → find (has_slot slot) (flat_map (λ u. filter_map (subscriber u) (seated_in u (a ++ x ∷ b))) ts) ≡ subscriber t x
streams_find slot a x b [] before here behind t found = absurd (cc)
streams_find slot a x b (u ∷ us) before here behind t found =
    let rest : Option Subscription = find (has_slot slot) (flat_map (λ v. filter_map (subscriber v) (seated_in v (a ++ x ∷ b))) us) in
    find_both (has_slot slot) (filter_map (subscriber u) (seated_in u (a ++ x ∷ b))) (flat_map (λ v. filter_map (subscriber v) (seated_in v (a ++ x ∷ b))) us)
    ∙ ap (λ o. option_or o rest) (one_listed slot u a x b before here behind)
    ∙ ap (λ c. option_or (cond c (subscriber u x) None) rest) (eq_turned_round x.session.stream u.number)
    ∙ by rest (u.number == x.session.stream) found (λ e. streams_find slot a x b us before here behind t e)
    (λ e. streams_idle slot a x b us before here behind e)
  where
    by : (rest : Option Subscription) (c : Bool) → cond c (Some u) (find (λ v. v.number == x.session.stream) us) ≡ Some t
        → (find (λ v. v.number == x.session.stream) us ≡ Some t → rest ≡ subscriber t x)
        → (x.session.playing ≡ false → rest ≡ None)
        → option_or (cond c (subscriber u x) None) rest ≡ subscriber t x
    by rest true same next idle = ap (λ v. option_or (subscriber v x) rest) (same_Some u t same) ∙ or_itself t x rest idle
    by rest false same next idle = next same

pub subscribers_find : (slot : ℕ) (a : List Seated) (x : Seated) (b : List Seated) (ts : List Stream)
    → list_any (is_seat slot) a ≡ false → is_seat slot x ≡ true → list_any (is_seat slot) b ≡ false → (t : Stream)
    → find (λ u. u.number == x.session.stream) ts ≡ Some t
    → find (has_slot slot) (subscribers (a ++ x ∷ b) ts) ≡ subscriber t x
unfolding subscribers
subscribers_find slot a x b ts before here behind t found = streams_find slot a x b ts before here behind t found

-- whoever's slot has no session is no subscriber
pub subscribers_none : (slot : ℕ) (xs : List Seated) (ts : List Stream) → list_any (is_seat slot) xs ≡ false → find (has_slot slot) (subscribers xs ts) ≡ None
unfolding subscribers
subscribers_none slot xs [] none = refl
subscribers_none slot xs (u ∷ us) none =
    find_both (has_slot slot) (filter_map (subscriber u) (seated_in u xs)) (flat_map (λ v. filter_map (subscriber v) (seated_in v xs)) us)
    ∙ ap (λ o. option_or o (find (has_slot slot) (flat_map (λ v. filter_map (subscriber v) (seated_in v xs)) us))) (none_listed slot u xs none)
    ∙ subscribers_none slot xs us none

-- sessions go, and their subscriptions with them
drop_cons : (slot : ℕ) (o : Option Subscription) (ss ts : List Subscription) (b : Bool) → find (has_slot slot) (cons_option o []) ≡ cond b o None
    → filter (λ s. not (has_slot slot s)) ss ≡ ts → filter (λ s. not (has_slot slot s)) (cons_option o ss) ≡ cond (not b) (cons_option o ts) ts
drop_cons slot None ss ts true its rest = rest
drop_cons slot None ss ts false its rest = rest
drop_cons slot (Some s) ss ts true its rest = by (has_slot slot s) its
  where
    by : (c : Bool) → cond c (Some s) None ≡ Some s → cond (not c) (s ∷ filter (λ z. not (has_slot slot z)) ss) (filter (λ z. not (has_slot slot z)) ss) ≡ ts
    by true e = rest
    by false e = absurd (cc)
drop_cons slot (Some s) ss ts false its rest = by (has_slot slot s) its
  where
    by : (c : Bool) → cond c (Some s) None ≡ None → cond (not c) (s ∷ filter (λ z. not (has_slot slot z)) ss) (filter (λ z. not (has_slot slot z)) ss) ≡ s ∷ ts
    by true e = absurd (cc)
    by false e = ap (λ zs. s ∷ zs) rest

in_without : (slot : ℕ) (t : Stream) (xs : List Seated)
    → filter (λ s. not (has_slot slot s)) (filter_map (subscriber t) (seated_in t xs)) ≡ filter_map (subscriber t)
    (seated_in t (filter (λ x. not (is_seat slot x)) xs))
in_without slot t [] = refl
in_without slot t (x ∷ xs) = by (x.session.stream == t.number) (is_seat slot x) refl refl (in_without slot t xs)
  where
    others : List Seated
    others = filter (λ y. not (is_seat slot y)) xs

    by : (b c : Bool) → (x.session.stream == t.number) ≡ b → is_seat slot x ≡ c
        → filter (λ s. not (has_slot slot s)) (filter_map (subscriber t) (seated_in t xs)) ≡ filter_map (subscriber t) (seated_in t others)
        → filter (λ s. not (has_slot slot s)) (filter_map (subscriber t) (cond b (x ∷ seated_in t xs) (seated_in t xs)))
        ≡ filter_map (subscriber t) (seated_in t (cond (not c) (x ∷ others) others))
    by true true at here rest = drop_cons slot (subscriber t x) (filter_map (subscriber t) (seated_in t xs))
        (filter_map (subscriber t) (seated_in t others)) true (slot_listed slot t x true here) rest
    by true false at other rest =
        drop_cons slot (subscriber t x) (filter_map (subscriber t) (seated_in t xs)) (filter_map (subscriber t) (seated_in t others)) false
        (slot_listed slot t x false other) rest
        ∙ ap (λ d. filter_map (subscriber t) (cond d (x ∷ seated_in t others) (seated_in t others))) (sym at)
    by false true at here rest = rest
    by false false at other rest = rest ∙ ap (λ d. filter_map (subscriber t) (cond d (x ∷ seated_in t others) (seated_in t others))) (sym at)

filter_both : (p : Subscription → Bool) (xs ys : List Subscription) → filter p (xs ++ ys) ≡ filter p xs ++ filter p ys
filter_both p [] ys = refl
filter_both p (x ∷ xs) ys = by (p x) (filter_both p xs ys)
  where
    by : (b : Bool) → filter p (xs ++ ys) ≡ filter p xs ++ filter p ys
        → cond b (x ∷ filter p (xs ++ ys)) (filter p (xs ++ ys)) ≡ cond b (x ∷ filter p xs) (filter p xs) ++ filter p ys
    by true rest = ap (λ zs. x ∷ zs) rest
    by false rest = rest

pub subscribers_without : (slot : ℕ) (xs : List Seated) (ts : List Stream)
    → filter (λ s. not (has_slot slot s)) (subscribers xs ts) ≡ subscribers (filter (λ x. not (is_seat slot x)) xs) ts
unfolding subscribers
subscribers_without slot xs [] = refl
subscribers_without slot xs (t ∷ ts) =
    filter_both (λ s. not (has_slot slot s)) (filter_map (subscriber t) (seated_in t xs)) (flat_map (λ u. filter_map (subscriber u) (seated_in u xs)) ts)
    ∙ ap (λ ss. ss ++ filter (λ s. not (has_slot slot s)) (flat_map (λ u. filter_map (subscriber u) (seated_in u xs)) ts)) (in_without slot t xs)
    ∙ ap (λ ss. filter_map (subscriber t) (seated_in t (filter (λ x. not (is_seat slot x)) xs)) ++ ss) (subscribers_without slot xs ts)
