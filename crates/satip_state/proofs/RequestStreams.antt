-- The table's streams and the plain server's.
use Rattle.std.proofs.Common.{◌≡◌, ◌∙◌, ℕ, ◌<◌, ◌==◌, Bool, true, false, cond, List, [], ◌∷◌, ◌++◌, Option, None, Some, map, filter_map, find, refl, ap, sym}
use Rattle.std.proofs.Common.{subst, arith}
use Rattle.std.specs.List.{list_any}
use Rattle.std.specs.Option.{option_map}
use Rattle.std.proofs.lemmas.Bool.{eqb-true, true≢false}
use Rattle.std.proofs.lemmas.Option.{same_Some}
use Rattle.satip_base.specs.Lists.{Each}
use Rattle.satip_tune.specs.declared.tunings.Tuning.{Tuning}
use Rattle.satip_pids.specs.Pids.{Pids}
use Rattle.satip_table.specs.declared.stream.Stream.{Stream as StreamRow}
use Rattle.satip_table.specs.Streams.{has_number, is_live, stream_where, with_stream}
use Rattle.satip_table.specs.Living.{NumbersRise}
use Rattle.satip_flow.specs.Subscription.{Subscription, changed}
use Rattle.satip_plain.specs.State.{Stream, change_where}
use Rattle.satip_state.specs.Seated.{Seated, feed_of, seated_in, subscriber, subscribers}
use Rattle.satip_state.specs.Standing.{stream_in}
use Rattle.satip_state.proofs.RequestLists.{any-map, each_any, each_weaker, filter_map_agree, filter_map-mapped, find-map, map-append, none_each}
use Rattle.satip_state.proofs.RequestLists.{none_some}
use Rattle.satip_state.proofs.RequestFlow.{Rise}

-- the numbers of both

pub rise_in : (above : ℕ) (rows : List StreamRow) → NumbersRise above rows → Rise above (map stream_in rows)
unfolding stream_in
rise_in above [] rise = tt
rise_in above (row ∷ rows) rise = (rise.0, rise_in row.number rows rise.1)

pub rise_above : (above : ℕ) (streams : List Stream) → Rise above streams → Each (λ t. above < t.number) streams
rise_above above [] rise = tt
rise_above above (t ∷ ts) rise = (rise.0, each_weaker _ _ (λ s more. omega (arith, more, rise.0)) ts (rise_above t.number ts rise.1))

pub live_in : (number : ℕ) (rows : List StreamRow) → list_any (λ (t : Stream). t.number == number) (map stream_in rows) ≡ is_live rows number
unfolding stream_in
live_in number rows = any-map (λ (t : Stream). t.number == number) stream_in rows

pub found_in : (number : ℕ) (rows : List StreamRow)
    → find (λ (t : Stream). t.number == number) (map stream_in rows) ≡ option_map stream_in (find (has_number number) rows)
unfolding stream_in
found_in number rows = find-map (λ (t : Stream). t.number == number) stream_in rows

-- a stream that is found has the number, and is there
pub found_number : (number : ℕ) (at : Stream) (streams : List Stream) → find (λ t. t.number == number) streams ≡ Some at → at.number ≡ number
found_number number at [] found = absurd (none_some at found)
found_number number at (t ∷ ts) found = by (t.number == number) refl found (found_number number at ts)
  where
    by : (b : Bool) → (t.number == number) ≡ b → cond b (Some t) (find (λ s. s.number == number) ts) ≡ Some at
        → (find (λ s. s.number == number) ts ≡ Some at → at.number ≡ number) → at.number ≡ number
    by true is found rest = ap (λ (s : Stream). s.number) (sym (same_Some t at found)) ∙ eqb-true t.number number is
    by false is found rest = rest found

pub found_each : (P : Stream → Type 0) (number : ℕ) (at : Stream) (streams : List Stream) → Each P streams → find (λ t. t.number == number) streams ≡ Some at
    → P at
found_each P number at [] all found = absurd (none_some at found)
found_each P number at (t ∷ ts) all found = by (t.number == number) found (found_each P number at ts all.1)
  where
    by : (b : Bool) → cond b (Some t) (find (λ s. s.number == number) ts) ≡ Some at → (find (λ s. s.number == number) ts ≡ Some at → P at) → P at
    by true found rest = subst P (same_Some t at found) all.0
    by false found rest = rest found

-- and is the only one of its number
only_one : (number above : ℕ) (at : Stream) (streams : List Stream) → Rise above streams → find (λ t. t.number == number) streams ≡ Some at
    → Each (λ t. (t.number == number) ≡ true → t ≡ at) streams
only_one number above at [] rise found = tt
only_one number above at (t ∷ ts) rise found = by (t.number == number) refl found (only_one number t.number at ts rise.1)
  where
    by : (b : Bool) → (t.number == number) ≡ b → cond b (Some t) (find (λ s. s.number == number) ts) ≡ Some at
        → (find (λ s. s.number == number) ts ≡ Some at → Each (λ s. (s.number == number) ≡ true → s ≡ at) ts)
        → Each (λ s. (s.number == number) ≡ true → s ≡ at) (t ∷ ts)
    by true is found rest =
        (λ _. same_Some t at found, each_weaker _ _ (λ s more same. absurd (differs s more (eqb-true s.number number same))) ts (rise_above t.number ts rise.1))
      where
        differs : (s : Stream) → t.number < s.number → s.number ≡ number → ⊥
        differs s more same = omega (arith, more, same, eqb-true t.number number is)
    by false is found rest = (λ same. absurd (true≢false (sym same ∙ is)), rest found)

-- one stream is changed

abbrev pub set_stream : Option Tuning → Option ℕ → Pids → Stream → Stream
set_stream tuning front pids t = record t { tuning = tuning; front = front; pids = pids }

pub rows_changed : (number : ℕ) (tuning : Option Tuning) (front : Option ℕ) (pids : Pids) (rows : List StreamRow)
    → map stream_in (with_stream number tuning front pids rows) ≡ change_where (λ (t : Stream). t.number == number) (set_stream tuning front pids)
    (map stream_in rows)
unfolding stream_in stream_where
rows_changed number tuning front pids [] = refl
rows_changed number tuning front pids (row ∷ rows) = ap (λ t. t ∷ map stream_in (with_stream number tuning front pids rows)) (by (row.number == number))
    ∙ ap (λ ts. cond (row.number == number) (set_stream tuning front pids (stream_in row)) (stream_in row) ∷ ts) (rows_changed number tuning front pids rows)
  where
    by : (b : Bool) → stream_in (cond b (record row { tuning = tuning; front = front; pids = pids }) row) ≡ cond b
        (set_stream tuning front pids (stream_in row)) (stream_in row)
    by true = refl
    by false = refl

-- a change of the only one of a number sets its fields
pub change_sets : (number above : ℕ) (f : Stream → Stream) (at : Stream) (tuning : Option Tuning) (front : Option ℕ) (pids : Pids) (streams : List Stream)
    → Rise above streams → find (λ t. t.number == number) streams ≡ Some at
    → f at ≡ set_stream tuning front pids at → change_where (λ t. t.number == number) f streams ≡ change_where (λ t. t.number == number)
    (set_stream tuning front pids) streams
change_sets number above f at tuning front pids streams rise found sets = go streams (only_one number above at streams rise found)
  where
    one : (t : Stream) (b : Bool) → (t.number == number) ≡ b → ((t.number == number) ≡ true → t ≡ at)
        → cond b (f t) t ≡ cond b (set_stream tuning front pids t) t
    one t true is only = ap f (only is) ∙ sets ∙ ap (set_stream tuning front pids) (sym (only is))
    one t false is only = refl

    go : (ts : List Stream) → Each (λ t. (t.number == number) ≡ true → t ≡ at) ts
        → change_where (λ t. t.number == number) f ts ≡ change_where (λ t. t.number == number) (set_stream tuning front pids) ts
    go [] all = refl
    go (t ∷ ts) all =
        ap (λ s. s ∷ change_where (λ x. x.number == number) f ts) (one t (t.number == number) refl all.0)
        ∙ ap (λ ss. cond (t.number == number) (set_stream tuning front pids t) t ∷ ss) (go ts all.1)

-- where there is none nothing is changed
pub change_none : (number : ℕ) (f : Stream → Stream) (streams : List Stream) → list_any (λ t. t.number == number) streams ≡ false
    → change_where (λ t. t.number == number) f streams ≡ streams
change_none number f streams none = go streams (none_each (λ t. t.number == number) streams none)
  where
    go : (ts : List Stream) → Each (λ t. (t.number == number) ≡ false) ts → change_where (λ t. t.number == number) f ts ≡ ts
    go [] all = refl
    go (t ∷ ts) all = ap (λ b. cond b (f t) t ∷ change_where (λ x. x.number == number) f ts) all.0 ∙ ap (λ ss. t ∷ ss) (go ts all.1)

-- look-ups after the change of a stream
pub changed_found : (number n : ℕ) (tuning : Option Tuning) (front : Option ℕ) (pids : Pids) (streams : List Stream)
    → find (λ (t : Stream). t.number == n) (change_where (λ t. t.number == number) (set_stream tuning front pids) streams) ≡ option_map
    (λ (t : Stream). cond (t.number == number) (set_stream tuning front pids t) t) (find (λ (t : Stream). t.number == n) streams)
changed_found number n tuning front pids streams =
    find-map (λ (t : Stream). t.number == n) (λ t. cond (t.number == number) (set_stream tuning front pids t) t) streams
    ∙ ap (λ p. option_map (λ (t : Stream). cond (t.number == number) (set_stream tuning front pids t) t) (find p streams))
    (λ i t. same t (t.number == number) i)
  where
    same : (t : Stream) (b : Bool) → (cond b (set_stream tuning front pids t) t).number == n ≡ (t.number == n)
    same t true = refl
    same t false = refl

-- a subscriber of a stream that is changed
one_changed : (number : ℕ) (tuning : Option Tuning) (front : Option ℕ) (pids : Pids) (t : Stream) (x : Seated)
    → subscriber (cond (t.number == number) (set_stream tuning front pids t) t) x ≡ option_map (changed number front pids) (subscriber t x)
unfolding subscriber
one_changed number tuning front pids t x = first (t.number == number) ∙ second x.session.playing (t.number == number) refl
  where
    sub : Option ℕ → Pids → Subscription
    sub f p = record { place = record { slot = x.slot; stream = t.number; count = x.session.id.count }; front = f; pids = p; feed = feed_of x.session }

    first : (b : Bool) → subscriber (cond b (set_stream tuning front pids t) t) x ≡ cond x.session.playing
        (Some (sub (cond b front t.front) (cond b pids t.pids))) None
    first true = refl
    first false = refl

    third : (b : Bool) → sub (cond b front t.front) (cond b pids t.pids) ≡ cond b (sub front pids) (sub t.front t.pids)
    third true = refl
    third false = refl

    second : (p b : Bool) → (t.number == number) ≡ b
        → cond p (Some (sub (cond b front t.front) (cond b pids t.pids))) None ≡ option_map (changed number front pids)
        (cond p (Some (sub t.front t.pids)) None)
    second false b is = refl
    second true b is = ap Some (third b ∙ ap (λ c. cond c (sub front pids) (sub t.front t.pids)) (sym is))

-- the subscribers of a stream that is changed
pub changed_subscribers : (number : ℕ) (tuning : Option Tuning) (front : Option ℕ) (pids : Pids) (seated : List Seated) (streams : List Stream)
    → subscribers seated (change_where (λ t. t.number == number) (set_stream tuning front pids) streams) ≡ map (changed number front pids)
    (subscribers seated streams)
unfolding subscribers
changed_subscribers number tuning front pids seated [] = refl
changed_subscribers number tuning front pids seated (t ∷ ts) =
    ap (λ us. us ++ subscribers seated (change_where (λ s. s.number == number) (set_stream tuning front pids) ts)) (its (t.number == number))
    ∙ ap (λ us. us ++ subscribers seated (change_where (λ s. s.number == number) (set_stream tuning front pids) ts))
    (filter_map_agree _ _ (seated_in t seated) (each_any _ (one_changed number tuning front pids t) (seated_in t seated))
    ∙ filter_map-mapped (changed number front pids) (subscriber t) (seated_in t seated))
    ∙ ap (λ us. map (changed number front pids) (filter_map (subscriber t) (seated_in t seated)) ++ us) (changed_subscribers number tuning front pids seated ts)
    ∙ sym (map-append (changed number front pids) (filter_map (subscriber t) (seated_in t seated)) (subscribers seated ts))
  where
    its : (b : Bool) → filter_map (subscriber (cond b (set_stream tuning front pids t) t))
        (seated_in (cond b (set_stream tuning front pids t) t) seated) ≡ filter_map (subscriber (cond b (set_stream tuning front pids t) t))
        (seated_in t seated)
    its true = refl
    its false = refl
