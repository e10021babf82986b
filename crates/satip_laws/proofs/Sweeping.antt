-- Sessions that end, and what is given back then.
use Rattle.std.proofs.Common.{arith, ◌≡◌, ℕ, ◌<◌, ◌==◌, ◌&&◌, ◌||◌, not, Bool, true, false, cond, List, [], ◌∷◌, map, filter, find, length, Option, Some, None, is_some, refl, ap, sym, subst, ◌∙◌, option_and_then}
use Rattle.std.specs.List.{list_any}
use Rattle.std.specs.Option.{option_map, option_map_or}
use Rattle.std.proofs.lemmas.Bool.{eqb-true}
use Rattle.satip_plain.proofs.SameIds.{same_id_is}
use Rattle.satip_base.specs.Lists.{Has}
use Rattle.satip_plain.specs.Types.{SessionId, Config}
use Rattle.satip_plain.specs.State.{Session, Stream, Row, State, same_id, is_at, stream_of, row_of}
use Rattle.satip_plain.specs.Streams.{sweep, freed}
use Rattle.satip_plain.specs.Steps.{part, end_where}
use Rattle.satip_plain.specs.Readings.{Made, Readings, living, living_session, home_of_number, any_where, frees}
use Rattle.satip_laws.specs.Agreement.{stream_told, tune_at, mux_at}
use Rattle.satip_laws.proofs.SameTests.{none_true}
use Rattle.satip_laws.proofs.Finding.{either_way, find_has, find_is_any, find_agree, find_filter, find_map, find_no, any_no, no_any, any_map, any_agree, filter_has, filter_agree, filter_twice, length_filter}
use Rattle.satip_laws.proofs.Alter.{same_readings}
use Rattle.satip_laws.proofs.Agree.{Same, Alike, Apart, IsTold, IsKept, Loosely, Agrees, Turned, alike_any, alike_read, alike_turn, living_found, any_stream, here, serves}
use Rattle.satip_laws.proofs.Quiet.{same_again}

-- rows and streams that are changed where they stand

pub row_map : (h : Row → Row) → ((r : Row) → (h r).number ≡ r.number) → (rows : List Row) (f : ℕ)
    → find (λ r. r.number == f) (map h rows) ≡ option_map h (find (λ r. r.number == f) rows)
row_map h same rows f = find_map (λ (r : Row). r.number == f) h rows
    ∙ ap (option_map h) (find_agree (λ (r : Row). (h r).number == f) (λ (r : Row). r.number == f) rows (λ r k. ap (λ n. n == f) (same r)))

pub rows_map : (h : Row → Row) → ((r : Row) → (h r).number ≡ r.number) → (rows : List Row)
    → map (λ (r : Row). r.number) (map h rows) ≡ map (λ (r : Row). r.number) rows
rows_map h same [] = refl
rows_map h same (r ∷ rows) = ap (λ n. n ∷ map (λ (r : Row). r.number) (map h rows)) (same r) ∙ ap (λ ns. r.number ∷ ns) (rows_map h same rows)

pub stream_map : (h : Stream → Stream) → ((t : Stream) → (h t).number ≡ t.number) → (ts : List Stream) (n : ℕ)
    → find (λ t. t.number == n) (map h ts) ≡ option_map h (find (λ t. t.number == n) ts)
stream_map h same ts n = find_map (λ (t : Stream). t.number == n) h ts
    ∙ ap (option_map h) (find_agree (λ (t : Stream). (h t).number == n) (λ (t : Stream). t.number == n) ts (λ t k. ap (λ x. x == n) (same t)))

pub apart_filter : (p : Stream → Bool) (ts : List Stream) → Apart ts → Apart (filter p ts)
apart_filter p [] apart = tt
apart_filter p (t ∷ ts) apart = by (p t) (apart_filter p ts apart.1)
  where
    by : (b : Bool) → Apart (filter p ts) → Apart (cond b (t ∷ filter p ts) (filter p ts))
    by true rest = (
      no_any (λ u. u.number == t.number) (filter p ts)
          (λ u h e. none_true (u.number == t.number) e (any_no (λ v. v.number == t.number) ts u apart.0 (filter_has p ts u h).0)),
      rest,
    )
    by false rest = rest

pub apart_map : (h : Stream → Stream) → ((t : Stream) → (h t).number ≡ t.number) → (ts : List Stream) → Apart ts → Apart (map h ts)
apart_map h same [] apart = tt
apart_map h same (t ∷ ts) apart = (
  any_map (λ u. u.number == (h t).number) h ts ∙ any_agree (λ u. (h u).number == (h t).number) (λ u. u.number == t.number) ts
      (λ u k. ap (λ n. n == (h t).number) (same u) ∙ ap (λ n. u.number == n) (same t)) ∙ apart.0,
  apart_map h same ts apart.1,
)

pub is_some_map : {X Y : Type 0} (f : X → Y) (o : Option X) → is_some (option_map f o) ≡ is_some o
is_some_map f None = refl
is_some_map f (Some x) = refl

-- front ends without streams are free, in the readings

pub told_freed : (g : Readings) → IsTold g → IsTold (frees g)
told_freed g told = record {
  ids = told.ids;
  numbers = told.numbers;
  few = told.few;
  homes = told.homes;
  unmade = λ s above. let u = told.unmade s above in
      record { over = u.over; played = u.played; tuned = u.tuned; pids = u.pids; front = u.front; selected = u.selected; pulled = u.pulled };
  packets = told.packets;
}

-- where front ends without streams are free, they are freed
pub freed_same : (g : Readings) → ((f : ℕ) → serves g f ≡ false → g.mux f ≡ None) → frees g ≡ g
freed_same g free = same_readings (frees g) g (record {
  clock = refl;
  made = refl;
  over = λ s. refl;
  played = λ s. refl;
  heard = λ s. refl;
  number = λ t. refl;
  tuned = λ t. refl;
  pids = λ t. refl;
  front = λ t. refl;
  tune = λ f. refl;
  mux = λ f. by f (serves g f) refl;
  selected = λ s. refl;
  pulled = λ s. refl;
})
  where
    by : (f : ℕ) (b : Bool) → serves g f ≡ b → cond b (g.mux f) None ≡ g.mux f
    by f true e = refl
    by f false e = sym (free f e)

module _ (c : Config) (st : State) (g : Readings) (l : Loosely c st g) where
  abbrev kept_streams : List Stream
  kept_streams = filter (λ t. list_any (λ s. s.stream == t.number) st.sessions) st.streams

  abbrev freeing : Row → Row
  freeing r = cond (not (list_any (λ t. is_at t.front r.number) kept_streams)) (freed r) r

  freeing_number : (r : Row) → (freeing r).number ≡ r.number
  freeing_number r = by (not (list_any (λ t. is_at t.front r.number) kept_streams))
    where
      by : (b : Bool) → (cond b (freed r) r).number ≡ r.number
      by true = refl
      by false = refl

  lived_in : (n : ℕ) → list_any (λ m. g.number m.home == n) (living g) ≡ list_any (λ s. s.stream == n) st.sessions
  lived_in n = alike_any g (λ m. g.number m.home == n) (λ s. s.stream == n) (living g) st.sessions (λ m s h e. ap (λ k. k == n) (sym e.stream)) l.sessions

  swept_streams : (n : ℕ) → stream_of (sweep st) n ≡ option_map (stream_told (frees g)) (home_of_number (frees g) n)
  swept_streams n = find_filter (λ t. t.number == n) (λ t. list_any (λ s. s.stream == t.number) st.sessions)
      (list_any (λ s. s.stream == n) st.sessions) st.streams
      (λ t e. ap (λ k. list_any (λ s. s.stream == k) st.sessions) (eqb-true t.number n e)) ∙ by (find (λ m. g.number m.home == n) (living g)) refl
    where
      lives : (o : Option Made) → find (λ m. g.number m.home == n) (living g) ≡ o → list_any (λ s. s.stream == n) st.sessions ≡ is_some o
      lives o f = sym (lived_in n) ∙ sym (find_is_any (λ m. g.number m.home == n) (living g)) ∙ ap is_some f

      by : (o : Option Made) → find (λ m. g.number m.home == n) (living g) ≡ o
          → cond (list_any (λ s. s.stream == n) st.sessions) (stream_of st n) None ≡ option_map (stream_told g) (option_map (λ m. m.home) o)
      by None f = rw (lives None f) refl
      by (Some m) f =
          let there = find_has (λ x. g.number x.home == n) (living g) m f in
          rw (lives (Some m) f) (ap (stream_of st) (sym (eqb-true (g.number m.home) n there.1)) ∙ l.living_streams m there.0)

  swept_kept : IsKept c (sweep st)
  swept_kept = record {
    apart = apart_filter (λ t. list_any (λ s. s.stream == t.number) st.sessions) st.streams l.kept.apart;
    once = λ t u h k e. l.kept.once t u (has t h) (has u k) e;
    positive = λ t h. l.kept.positive t (has t h);
    few = omega (arith, l.kept.few, length_filter (λ t. list_any (λ s. s.stream == t.number) st.sessions) st.streams);
    rows = rows_map freeing freeing_number st.rows ∙ l.kept.rows;
    placed = λ t f h e. ap is_some (row_map freeing freeing_number st.rows f) ∙ is_some_map freeing (row_of st f) ∙ l.kept.placed t f (has t h) e;
  }
    where
      has : (t : Stream) → Has t kept_streams → Has t st.streams
      has t h = (filter_has (λ t. list_any (λ s. s.stream == t.number) st.sessions) st.streams t h).0

  swept_served : (f : ℕ) → list_any (λ t. is_at t.front f) kept_streams ≡ serves g f
  swept_served f = any_stream (sweep st) (frees g) (told_freed g l.told) swept_kept.once swept_streams (λ t. is_at t.front f)

  swept_tunes : (f : ℕ) → tune_at (sweep st) f ≡ g.tune f
  swept_tunes f = ap (λ o. option_map_or (λ (r : Row). r.tune) o 0) (row_map freeing freeing_number st.rows f) ∙ by (row_of st f) ∙ l.tunes f
    where
      one : (r : Row) (b : Bool) → (cond b (freed r) r).tune ≡ r.tune
      one r true = refl
      one r false = refl

      by : (o : Option Row) → option_map_or (λ (r : Row). r.tune) (option_map freeing o) 0 ≡ option_map_or (λ (r : Row). r.tune) o 0
      by None = refl
      by (Some r) = one r (not (list_any (λ t. is_at t.front r.number) kept_streams))

  swept_muxes : (f : ℕ) → mux_at (sweep st) f ≡ cond (serves g f) (g.mux f) None
  swept_muxes f = ap (option_and_then (λ (r : Row). r.mux)) (row_map freeing freeing_number st.rows f) ∙ by (row_of st f) refl
    where
      one : (r : Row) (b : Bool) → r.mux ≡ g.mux f → (cond (not b) (freed r) r).mux ≡ cond b (g.mux f) None
      one r true e = e
      one r false e = refl

      by : (o : Option Row) → row_of st f ≡ o → option_and_then (λ (r : Row). r.mux) (option_map freeing o) ≡ cond (serves g f) (g.mux f) None
      by None e = let none : None ≡ g.mux f = sym (ap (option_and_then (λ (r : Row). r.mux)) e) ∙ l.muxes f in rw (← none) (either_way None (serves g f))
      by (Some r) e =
          let is : r.mux ≡ g.mux f = sym (ap (option_and_then (λ (r : Row). r.mux)) e) ∙ l.muxes f in
          let number : r.number ≡ f = eqb-true r.number f (find_has (λ (r : Row). r.number == f) st.rows r e).1 in
          one r (list_any (λ t. is_at t.front r.number) kept_streams) is
          ∙ ap (λ b. cond b (g.mux f) None) (ap (λ n. list_any (λ t. is_at t.front n) kept_streams) number ∙ swept_served f)

  -- streams without sessions are gone, and front ends without streams are free
  pub agrees_swept : Agrees c (sweep st) (frees g)
  agrees_swept = record {
    loosely = record {
      clock = l.clock;
      made = l.made;
      sessions = alike_read g (frees g) (living g) st.sessions (λ m s h e. same_again g (frees g) m s e refl refl refl refl refl) l.sessions;
      living_streams = λ m h. here (sweep st) (frees g) (told_freed g l.told) swept_kept.once swept_streams m h;
      tunes = swept_tunes;
      muxes = swept_muxes;
      told = told_freed g l.told;
      kept = swept_kept;
    };
    streams = swept_streams;
    free = λ f e. rw e refl;
  }

-- sessions that end

abbrev pub over_part : (Made → Bool) → Readings → Readings
over_part p g = record g { over = λ s. g.over s || any_where p (living_session g s) }

abbrev pub over_read : (Made → Bool) → Readings → Readings
over_read p g = frees (over_part p g)

not_either : (a b : Bool) → not (a || b) ≡ (not a && not b)
not_either true b = refl
not_either false b = refl

pub living_over : (g : Readings) → IsTold g → (p : Made → Bool) → living (over_part p g) ≡ filter (λ m. not (p m)) (living g)
living_over g told p =
    filter_agree (λ m. not (g.over m.id || any_where p (living_session g m.id))) (λ m. not (g.over m.id) && not (any_where p (living_session g m.id))) g.made
    (λ m h. not_either (g.over m.id) (any_where p (living_session g m.id)))
    ∙ sym (filter_twice (λ m. not (g.over m.id)) (λ m. not (any_where p (living_session g m.id))) g.made)
    ∙ filter_agree (λ m. not (any_where p (living_session g m.id))) (λ m. not (p m)) (living g) (λ m h. ap (λ o. not (any_where p o)) (living_found g told m h))

-- an id that isn't made isn't that of a living session
pub living_none : (g : Readings) → IsTold g → (s : SessionId) → length g.made < s.count → living_session g s ≡ None
living_none g told s above = find_no (λ n. same_id n.id s) (living g)
    (λ n h e. let few = told.few n h in let same : n.id.count ≡ s.count = ap (λ x. x.count) (same_id_is n.id s e) in omega arith)

told_over : (g : Readings) → IsTold g → (p : Made → Bool) → IsTold (over_part p g)
told_over g told p = record {
  ids = λ m n h k e. told.ids m n (has m h) (has n k) e;
  numbers = λ m n h k e. told.numbers m n (has m h) (has n k) e;
  few = λ m h. told.few m (has m h);
  homes = λ m h. told.homes m (has m h);
  unmade = λ s above. let u = told.unmade s above in
      record {
        over = rw (u.over, living_none g told s above) refl;
        played = u.played;
        tuned = u.tuned;
        pids = u.pids;
        front = u.front;
        selected = u.selected;
        pulled = u.pulled;
      };
  packets = told.packets;
}
  where
    has : (m : Made) → Has m (living (over_part p g)) → Has m (living g)
    has m h = (filter_has (λ m. not (p m)) (living g) m (subst (Has m) (living_over g told p) h)).0

pub agrees_over : (c : Config) (st : State) (g : Readings) (p : Made → Bool) (ss : List Session) → Agrees c st g
    → Alike g (filter (λ m. not (p m)) (living g)) ss
    → Agrees c (sweep (record st { sessions = ss })) (over_read p g)
agrees_over c st g p ss a alike = agrees_swept c (record st { sessions = ss }) (over_part p g) (record {
  clock = a.loosely.clock;
  made = a.loosely.made;
  sessions = rw (living_over g a.loosely.told p)
      (alike_read g (over_part p g) (filter (λ m. not (p m)) (living g)) ss (λ m s h e. same_again g (over_part p g) m s e refl refl refl refl refl) alike);
  living_streams = λ m h. a.loosely.living_streams m (filter_has (λ m. not (p m)) (living g) m (subst (Has m) (living_over g a.loosely.told p) h)).0;
  tunes = a.loosely.tunes;
  muxes = a.loosely.muxes;
  told = told_over g a.loosely.told p;
  kept = record {
    apart = a.loosely.kept.apart;
    once = a.loosely.kept.once;
    positive = a.loosely.kept.positive;
    few = a.loosely.kept.few;
    rows = a.loosely.kept.rows;
    placed = a.loosely.kept.placed;
  };
})

-- each session ends of which p holds
pub agrees_ended : (c : Config) (st : State) (g : Readings) (p : Made → Bool) (q : Session → Bool)
    → ((m : Made) (s : Session) → Has m (living g) → Same g m s → p m ≡ q s) → Agrees c st g → Agrees c (end_where q st).state (over_read p g)
agrees_ended c st g p q same a = agrees_over c st g p _ a
    (alike_turn g g (λ m. not (p m)) (λ s. (cond (q s) (part st.clock s) (record { sends = []; after = Some s })).after) (living g) st.sessions
    (λ m s h k e. rw (← same m s h e) (by m s (p m) e)) a.loosely.sessions)
  where
    by : (m : Made) (s : Session) (b : Bool) → Same g m s → Turned g m (not b) (cond b (part st.clock s) (record { sends = []; after = Some s })).after
    by m s true e = tt
    by m s false e = e
