-- A query that changes a stream: its tuning and place, then its PIDs.
use Rattle.std.proofs.Common.{arith, ◌≡◌, ℕ, ◌+◌, ◌%◌, ◌^◌, ◌<◌, ◌≤◌, ◌==◌, ◌&&◌, not, Bool, true, false, cond, map, length, Option, Some, None, is_some, refl, ap, sym, subst, ◌∙◌, option_and_then}
use Rattle.std.specs.List.{list_any}
use Rattle.std.specs.Option.{option_map, option_map_or}
use Rattle.std.proofs.lemmas.Bool.{eqb-true, eq-eqb, and_parts, false_from_ne_true, not-true}
use Rattle.std.proofs.lemmas.List.{length-map}
use Rattle.std.proofs.lemmas.Option.{same_Some}
use Rattle.satip_plain.proofs.SameIds.{same_id_is}
use Rattle.satip_base.specs.Lists.{Has}
use Rattle.satip_pids.specs.Pids.{Pids}
use Rattle.satip_tune.specs.Frontends.{mux_for}
use Rattle.satip_tune.specs.declared.frontends.Front.{Front}
use Rattle.satip_fronts.specs.declared.choice.Place.{Place}
use Rattle.satip_fronts.specs.Choice.{choose}
use Rattle.satip_fronts.specs.FrontEnds.{is_front}
use Rattle.satip_fronts.proofs.Choosing.{chosen_known}
use Rattle.satip_plain.specs.Types.{SessionId, Config, Tuning, Query}
use Rattle.satip_plain.specs.State.{Stream, Row, State, same_id, is_at, stream_of, row_of}
use Rattle.satip_plain.specs.Sending.{settle, each_of, let_go}
use Rattle.satip_plain.specs.Streams.{tuned, put_at, retune, change_by, change_stream, to_set, new_pids}
use Rattle.satip_plain.specs.Readings.{Made, Readings, Asking, Placing, living, home_of_number, frees, put, outlook_in, placing_of, with_tuning, with_place, with_asked, tunes_front, mux_in}
use Rattle.satip_laws.specs.Agreement.{stream_told}
use Rattle.satip_laws.proofs.SameTests.{none_true, same_bool, id_turned, id_other}
use Rattle.satip_laws.proofs.Finding.{find_has, find_is_any, any_map, any_agree, map_has}
use Rattle.satip_laws.proofs.Agree.{IsTold, IsKept, Loosely, Agrees, alike_read, home_has, number_home, outlook_same, stream_here, serves}
use Rattle.satip_laws.proofs.Quiet.{same_again, agrees_flush}
use Rattle.satip_laws.proofs.Sweeping.{agrees_swept, apart_map, row_map, rows_map, stream_map, is_some_map, freed_same}

abbrev pub only_number : ℕ → (Stream → Stream) → Stream → Stream
only_number number f t = cond (t.number == number) (f t) t

only_same : (number : ℕ) (f : Stream → Stream) → ((t : Stream) → (f t).number ≡ t.number) → (t : Stream) → (only_number number f t).number ≡ t.number
only_same number f same t = by (t.number == number)
  where
    by : (b : Bool) → (cond b (f t) t).number ≡ t.number
    by true = same t
    by false = refl

-- the state alone keeps to its rules where a stream changes, and comes to a front end that there is
kept_changed : (c : Config) (st : State) (number : ℕ) (f : Stream → Stream) → ((t : Stream) → (f t).number ≡ t.number)
    → ((t : Stream) (at : ℕ) → Has t st.streams → (f t).front ≡ Some at → is_some (row_of st at) ≡ true)
    → IsKept c st → IsKept c (change_stream number f st)
kept_changed c st number f same front k = record {
  apart = apart_map h_ (only_same number f same) st.streams k.apart;
  once = λ t u h i e. once t u (map_has h_ st.streams t h) (map_has h_ st.streams u i) e;
  positive = λ t h. let r = map_has h_ st.streams t h in
      let above : 1 ≤ r.0.number = k.positive r.0 r.1 in
      let number_is : t.number ≡ r.0.number = ap (λ x. x.number) r.2 ∙ only_same number f same r.0 in omega arith;
  few = let many : length (map h_ st.streams) ≡ length st.streams = length-map st.streams h_ in rw many k.few;
  rows = k.rows;
  placed = λ t at h e. placed t at (map_has h_ st.streams t h) e;
}
  where
    h_ : Stream → Stream
    h_ = only_number number f

    once : (t u : Stream) → (x : Stream) × Has x st.streams × (t ≡ h_ x) → (y : Stream) × Has y st.streams × (u ≡ h_ y) → t.number ≡ u.number → t ≡ u
    once t u p q e =
        let a : p.0.number ≡ t.number = sym (ap (λ x. x.number) p.2 ∙ only_same number f same p.0) in
        let b : u.number ≡ q.0.number = ap (λ x. x.number) q.2 ∙ only_same number f same q.0 in
        p.2 ∙ ap h_ (k.once p.0 q.0 p.1 q.1 (a ∙ e ∙ b)) ∙ sym q.2

    one : (at : ℕ) (x : Stream) → Has x st.streams → (b : Bool) → (cond b (f x) x).front ≡ Some at → is_some (row_of st at) ≡ true
    one at x h true e = front x at h e
    one at x h false e = k.placed x at h e

    placed : (t : Stream) (at : ℕ) → (x : Stream) × Has x st.streams × (t ≡ h_ x) → t.front ≡ Some at → is_some (row_of st at) ≡ true
    placed t at p e = one at p.0 p.1 (p.0.number == number) (ap (λ x. x.front) (sym p.2) ∙ e)

-- the readings with other tunings, PIDs and front ends
abbrev pub streams_read : Readings → (SessionId → Option Tuning) → (SessionId → Option ℕ) → (SessionId → Pids) → Readings
streams_read g tuned front pids = record g { tuned = tuned; front = front; pids = pids }

told_streams : (g : Readings) (tuned : SessionId → Option Tuning) (front : SessionId → Option ℕ) (pids : SessionId → Pids) → IsTold g
    → ((s : SessionId) → length g.made < s.count → (tuned s ≡ g.tuned s) × (front s ≡ g.front s) × (pids s ≡ g.pids s))
    → IsTold (streams_read g tuned front pids)
told_streams g tuned front pids told unmade = record {
  ids = told.ids;
  numbers = told.numbers;
  few = told.few;
  homes = told.homes;
  unmade = λ s above. let u = told.unmade s above in let v = unmade s above in
      record { over = u.over; played = u.played; tuned = v.0 ∙ u.tuned; pids = v.2 ∙ u.pids; front = v.1 ∙ u.front; selected = u.selected; pulled = u.pulled };
  packets = told.packets;
}

module _ (c : Config) (st : State) (g : Readings) (m : Made) (lives : Has m (living g))
    (f : Stream → Stream) (same : (t : Stream) → (f t).number ≡ t.number)
    (front_known : (t : Stream) (at : ℕ) → Has t st.streams → (f t).front ≡ Some at → is_some (row_of st at) ≡ true)
    (tuned : SessionId → Option Tuning) (front : SessionId → Option ℕ) (pids : SessionId → Pids)
    (unmade : (s : SessionId) → length g.made < s.count → (tuned s ≡ g.tuned s) × (front s ≡ g.front s) × (pids s ≡ g.pids s))
    (changed : (n : Made) → Has n (living g) → cond (same_id m.home n.home) (f (stream_told g n.home)) (stream_told g n.home)
    ≡ stream_told (streams_read g tuned front pids) n.home) where
  changed_at : Loosely c st g → (n : Made) → Has n (living g)
      → only_number (g.number m.home) f (stream_told g n.home) ≡ stream_told (streams_read g tuned front pids) n.home
  changed_at l n h = ap (λ b. cond b (f (stream_told g n.home)) (stream_told g n.home)) (number_home g l.told n m h lives ∙ id_turned n.home m.home)
      ∙ changed n h

  pub loosely_stream : Loosely c st g → Loosely c (change_stream (g.number m.home) f st) (streams_read g tuned front pids)
  loosely_stream l = record {
    clock = l.clock;
    made = l.made;
    sessions = alike_read g (streams_read g tuned front pids) (living g) st.sessions
        (λ n s h e. same_again g (streams_read g tuned front pids) n s e refl refl refl refl refl) l.sessions;
    living_streams = λ n h. stream_map (only_number (g.number m.home) f) (only_same (g.number m.home) f same) st.streams (g.number n.home)
        ∙ ap (option_map (only_number (g.number m.home) f)) (l.living_streams n h) ∙ ap Some (changed_at l n h);
    tunes = l.tunes;
    muxes = l.muxes;
    told = told_streams g tuned front pids l.told unmade;
    kept = kept_changed c st (g.number m.home) f same front_known l.kept;
  }

  pub agrees_stream : ((n : Made) → Has n (living g) → front n.home ≡ g.front n.home) → Agrees c st g
      → Agrees c (change_stream (g.number m.home) f st) (streams_read g tuned front pids)
  agrees_stream fronts a = record {
    loosely = loosely_stream a.loosely;
    streams = λ n. stream_map (only_number (g.number m.home) f) (only_same (g.number m.home) f same) st.streams n
        ∙ ap (option_map (only_number (g.number m.home) f)) (a.streams n) ∙ by n (home_of_number g n) refl;
    free = λ at none. a.free at (sym (served at) ∙ none);
  }
    where
      by : (n : ℕ) (o : Option SessionId) → home_of_number g n ≡ o
          → option_map (only_number (g.number m.home) f) (option_map (stream_told g) o) ≡ option_map (stream_told (streams_read g tuned front pids)) o
      by n None e = refl
      by n (Some home) e = let r = home_has g a.loosely.told n home e in
          ap Some (subst (λ x. only_number (g.number m.home) f (stream_told g x) ≡ stream_told (streams_read g tuned front pids) x) r.2
          (changed_at a.loosely r.0 r.1))

      served : (at : ℕ) → serves (streams_read g tuned front pids) at ≡ serves g at
      served at = any_agree (λ n. is_at (front n.home) at) (λ n. is_at (g.front n.home) at) (living g) (λ n h. ap (λ o. is_at o at) (fronts n h))

-- front ends that are tuned

-- a front end of the configuration has a row
pub row_known : (c : Config) (st : State) (f : ℕ) → IsKept c st → list_any (is_front f) c.fronts ≡ true → is_some (row_of st f) ≡ true
row_known c st f k e =
    find_is_any (λ (r : Row). r.number == f) st.rows
    ∙ sym (any_map (λ n. n == f) (λ (r : Row). r.number) st.rows)
    ∙ ap (list_any (λ n. n == f)) k.rows
    ∙ any_map (λ n. n == f) (λ (x : Front). x.number) c.fronts
    ∙ e

abbrev pub tuned_read : ℕ → Bool → Option ℕ → Readings → Readings
tuned_read at anew mux g = record g {
  tune = λ f. cond (anew && at == f) ((g.tune f + 1) % 2 ^ 64) (g.tune f);
  mux = λ f. cond (anew && at == f) mux (g.mux f);
}

eqb_turned : (a b : ℕ) → (a == b) ≡ (b == a)
eqb_turned a b = same_bool (a == b) (b == a) (λ e. eq-eqb b a (sym (eqb-true a b e))) (λ e. eq-eqb a b (sym (eqb-true b a e)))

pub loosely_tuned : (c : Config) (st : State) (g : Readings) (at : ℕ) (anew : Bool) (mux : Option ℕ) → is_some (row_of st at) ≡ true
    → Loosely c st g → Loosely c (record st { rows = map (λ r. cond (anew && r.number == at) (tuned mux r) r) st.rows }) (tuned_read at anew mux g)
loosely_tuned c st g at anew mux known l = record {
  clock = l.clock;
  made = l.made;
  sessions = alike_read g (tuned_read at anew mux g) (living g) st.sessions
      (λ n s h e. same_again g (tuned_read at anew mux g) n s e refl refl refl refl refl) l.sessions;
  living_streams = l.living_streams;
  tunes = λ f. ap (λ o. option_map_or (λ (r : Row). r.tune) o 0) (row_map tuning tuning_number st.rows f) ∙ tune_by f (row_of st f) refl;
  muxes = λ f. ap (option_and_then (λ (r : Row). r.mux)) (row_map tuning tuning_number st.rows f) ∙ mux_by f (row_of st f) refl;
  told = record {
    ids = l.told.ids;
    numbers = l.told.numbers;
    few = l.told.few;
    homes = l.told.homes;
    unmade = λ s above. let u = l.told.unmade s above in
        record { over = u.over; played = u.played; tuned = u.tuned; pids = u.pids; front = u.front; selected = u.selected; pulled = u.pulled };
    packets = l.told.packets;
  };
  kept = record {
    apart = l.kept.apart;
    once = l.kept.once;
    positive = l.kept.positive;
    few = l.kept.few;
    rows = rows_map tuning tuning_number st.rows ∙ l.kept.rows;
    placed = λ t f h e. ap is_some (row_map tuning tuning_number st.rows f) ∙ is_some_map tuning (row_of st f) ∙ l.kept.placed t f h e;
  };
}
  where
    tuning : Row → Row
    tuning = λ r. cond (anew && r.number == at) (tuned mux r) r

    number_by : (r : Row) (b : Bool) → (cond b (tuned mux r) r).number ≡ r.number
    number_by r true = refl
    number_by r false = refl

    tuning_number : (r : Row) → (tuning r).number ≡ r.number
    tuning_number r = number_by r (anew && r.number == at)

    other : (f : ℕ) → row_of st f ≡ None → (anew && at == f) ≡ false
    other f e = false_from_ne_true (anew && at == f) (λ t.
        let same : at ≡ f = eqb-true at f (and_parts anew (at == f) t).1 in
        none_true (is_some (row_of st at)) known (ap (λ x. is_some (row_of st x)) same ∙ ap is_some e))

    here : (f : ℕ) (r : Row) → row_of st f ≡ Some r → (anew && r.number == at) ≡ (anew && at == f)
    here f r e =
        let number : r.number ≡ f = eqb-true r.number f (find_has (λ (x : Row). x.number == f) st.rows r e).1 in
        ap (λ n. anew && n == at) number ∙ ap (λ b. anew && b) (eqb_turned f at)

    tune_one : (f : ℕ) (r : Row) (b : Bool) → r.tune ≡ g.tune f → (cond b (tuned mux r) r).tune ≡ cond b ((g.tune f + 1) % 2 ^ 64) (g.tune f)
    tune_one f r true e = ap (λ n. (n + 1) % 2 ^ 64) e
    tune_one f r false e = e

    tune_by : (f : ℕ) (o : Option Row) → row_of st f ≡ o
        → option_map_or (λ (r : Row). r.tune) (option_map tuning o) 0 ≡ cond (anew && at == f) ((g.tune f + 1) % 2 ^ 64) (g.tune f)
    tune_by f None e = rw (other f e) (sym (ap (λ o. option_map_or (λ (r : Row). r.tune) o 0) e) ∙ l.tunes f)
    tune_by f (Some r) e =
        let is : r.tune ≡ g.tune f = sym (ap (λ o. option_map_or (λ (x : Row). x.tune) o 0) e) ∙ l.tunes f in
        tune_one f r (anew && r.number == at) is ∙ ap (λ b. cond b ((g.tune f + 1) % 2 ^ 64) (g.tune f)) (here f r e)

    mux_one : (f : ℕ) (r : Row) (b : Bool) → r.mux ≡ g.mux f → (cond b (tuned mux r) r).mux ≡ cond b mux (g.mux f)
    mux_one f r true e = refl
    mux_one f r false e = e

    mux_by : (f : ℕ) (o : Option Row) → row_of st f ≡ o → option_and_then (λ (r : Row). r.mux) (option_map tuning o) ≡ cond (anew && at == f) mux (g.mux f)
    mux_by f None e = rw (other f e) (sym (ap (option_and_then (λ (r : Row). r.mux)) e) ∙ l.muxes f)
    mux_by f (Some r) e =
        let is : r.mux ≡ g.mux f = sym (ap (option_and_then (λ (x : Row). x.mux)) e) ∙ l.muxes f in
        mux_one f r (anew && r.number == at) is ∙ ap (λ b. cond b mux (g.mux f)) (here f r e)

-- a stream that gets a tuning and its place

home_made : (g : Readings) (m : Made) (s : SessionId) → IsTold g → Has m (living g) → length g.made < s.count → same_id m.home s ≡ false
home_made g m s told h above = id_other m.home s (λ e. let few = told.homes m h in let same : m.home.count ≡ s.count = ap (λ x. x.count) e in omega arith)

abbrev pub placed_read : Config → SessionId → Tuning → Place → Readings → Readings
placed_read c home tuning place g = frees (tuned_read place.front place.anew (mux_for c.muxes tuning)
    (streams_read g (put home (Some tuning) g.tuned) (put home (Some place.front) g.front) g.pids))

pub agrees_put : (c : Config) (st : State) (g : Readings) (m : Made) (tuning : Tuning) (place : Place) → Has m (living g)
    → list_any (is_front place.front) c.fronts ≡ true
    → Agrees c st g → Agrees c (put_at c (g.number m.home) tuning st place) (placed_read c m.home tuning place g)
agrees_put c st g m tuning place lives known a =
    agrees_swept c _ _ (loosely_tuned c _ _ place.front place.anew (mux_for c.muxes tuning) row
    (loosely_stream c st g m lives (λ t. record t { tuning = Some tuning; front = Some place.front }) (λ t. refl)
    (λ t at h e. subst (λ x. is_some (row_of st x) ≡ true) (same_Some place.front at e) row)
    (put m.home (Some tuning) g.tuned) (put m.home (Some place.front) g.front) g.pids unmade (λ n h. by n (same_id m.home n.home)) a.loosely))
  where
    row : is_some (row_of st place.front) ≡ true
    row = row_known c st place.front a.loosely.kept known

    unmade : (s : SessionId) → length g.made < s.count
        → (put m.home (Some tuning) g.tuned s ≡ g.tuned s) × (put m.home (Some place.front) g.front s ≡ g.front s) × (g.pids s ≡ g.pids s)
    unmade s above = let other : same_id m.home s ≡ false = home_made g m s a.loosely.told lives above in (rw other refl, rw other refl, refl)

    by : (n : Made) (b : Bool) → cond b (record { number = g.number n.home; tuning = Some tuning; front = Some place.front; pids = g.pids n.home })
        (stream_told g n.home)
        ≡ record {
          number = g.number n.home;
          tuning = cond b (Some tuning) (g.tuned n.home);
          front = cond b (Some place.front) (g.front n.home);
          pids = g.pids n.home;
        }
    by n true = refl
    by n false = refl

-- retuning

abbrev pub placing_for : Config → Readings → SessionId → Option Tuning → Option Placing
placing_for c g home o = option_and_then (λ tuning.
    option_map (λ place. record { home = home; tuning = tuning; place = place }) (choose (outlook_in c g home) (mux_for c.muxes tuning) tuning)) o

abbrev pub with_placing : Config → Readings → Option Tuning → SessionId → Option Placing → Readings
with_placing c g o home placed = frees (record g {
  tuned = option_map_or (λ tuning. put home (Some tuning) g.tuned) o g.tuned;
  front = with_place g placed;
  tune = λ f. cond (tunes_front placed f) ((g.tune f + 1) % 2 ^ 64) (g.tune f);
  mux = λ f. cond (tunes_front placed f) (mux_in c placed) (g.mux f);
})

abbrev pub retuned_read : Config → Readings → SessionId → Option Tuning → Readings
retuned_read c g home o = with_placing c g o home (placing_for c g home o)

not_http : (a b : Bool) → (a && not b) ≡ true → b ≡ false
not_http a b e = not-true b (and_parts a (not b) e).1

pub agrees_retuned : (c : Config) (st : State) (g : Readings) (m : Made) → Has m (living g) → (o : Option Tuning)
    → ((tuning : Tuning) → o ≡ Some tuning → is_some (choose (outlook_in c g m.home) (mux_for c.muxes tuning) tuning) ≡ true)
    → Agrees c st g → Agrees c (option_map_or (retune c (g.number m.home) st) o (settle st)).state (retuned_read c g m.home o)
agrees_retuned c st g m lives None ready a = subst (Agrees c st) (sym (freed_same g a.free)) a
agrees_retuned c st g m lives (Some tuning) ready a =
    subst (λ x. Agrees c (option_map_or (put_at c (g.number m.home) tuning now) (choose x (mux_for c.muxes tuning) tuning) now)
    (retuned_read c g m.home (Some tuning)))
    (sym (outlook_same c now g flushed m lives))
    (by (choose (outlook_in c g m.home) (mux_for c.muxes tuning) tuning) refl (ready tuning refl))
  where
    now : State
    now = (each_of (λ s. s.stream == g.number m.home && not s.http) (let_go true st.clock) st).state

    flushed : Agrees c now g
    flushed = agrees_flush c st g (λ s. s.stream == g.number m.home && not s.http) true st.clock (λ x e. not_http (x.stream == g.number m.home) x.http e) a

    by : (q : Option Place) → choose (outlook_in c g m.home) (mux_for c.muxes tuning) tuning ≡ q → is_some q ≡ true
        → Agrees c (option_map_or (put_at c (g.number m.home) tuning now) q now)
        (with_placing c g (Some tuning) m.home (option_map (λ place. record { home = m.home; tuning = tuning; place = place }) q))
    by None e there = none_true false there refl
    by (Some place) e there = agrees_put c now g m tuning place lives (chosen_known (outlook_in c g m.home) (mux_for c.muxes tuning) tuning place e) flushed

-- the whole change

abbrev pub changed_read : Config → Readings → Asking → Readings
changed_read c g a = let placed = placing_of c g a in record (frees (record g {
  tuned = with_tuning g (Some a);
  front = with_place g placed;
  tune = λ f. cond (tunes_front placed f) ((g.tune f + 1) % 2 ^ 64) (g.tune f);
  mux = λ f. cond (tunes_front placed f) (mux_in c placed) (g.mux f);
})) { pids = with_asked g (Some a) }

pub agrees_change_by : (c : Config) (st : State) (g : Readings) (m : Made) (query : Query) → Has m (living g)
    → ((tuning : Tuning) → to_set (g.tuned m.home) query.change ≡ Some tuning → is_some (choose (outlook_in c g m.home) (mux_for c.muxes tuning) tuning) ≡ true)
    → Agrees c st g → Agrees c (change_by c (g.number m.home) query st).state (changed_read c g (record { home = m.home; query = query }))
agrees_change_by c st g m query lives ready a =
    agrees_stream c m1 g1 m lives (λ t. record t { pids = new_pids t.pids query }) (λ t. refl)
    (λ t at h e. first.loosely.kept.placed t at h e)
    g1.tuned g1.front (put m.home (new_pids (g.pids m.home) query) g.pids)
    (λ s above. let other : same_id m.home s ≡ false = home_made g m s a.loosely.told lives above in (refl, refl, rw other refl))
    (λ n h. by n (same_id m.home n.home) refl)
    (λ n h. refl) first
  where
    old : option_and_then (λ t. t.tuning) (stream_of st (g.number m.home)) ≡ g.tuned m.home
    old = ap (option_and_then (λ t. t.tuning)) (stream_here c st g a m lives)

    m1 : State
    m1 = (option_map_or (retune c (g.number m.home) st) (to_set (option_and_then (λ t. t.tuning) (stream_of st (g.number m.home))) query.change)
        (settle st)).state

    g1 : Readings
    g1 = retuned_read c g m.home (to_set (g.tuned m.home) query.change)

    first : Agrees c m1 g1
    first = subst (λ x. Agrees c (option_map_or (retune c (g.number m.home) st) (to_set x query.change) (settle st)).state g1) (sym old)
        (agrees_retuned c st g m lives (to_set (g.tuned m.home) query.change) ready a)

    by : (n : Made) (b : Bool) → same_id m.home n.home ≡ b
        → cond b (record { number = g1.number n.home; tuning = g1.tuned n.home; front = g1.front n.home; pids = new_pids (g1.pids n.home) query })
        (stream_told g1 n.home)
        ≡ record {
          number = g1.number n.home;
          tuning = g1.tuned n.home;
          front = g1.front n.home;
          pids = cond b (new_pids (g.pids m.home) query) (g.pids n.home);
        }
    by n true e = ap (λ x. record { number = g1.number n.home; tuning = g1.tuned n.home; front = g1.front n.home; pids = new_pids (g.pids x) query })
        (sym (same_id_is m.home n.home e))
    by n false e = refl
