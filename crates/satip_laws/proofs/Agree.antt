-- What is kept through every step: the state agrees with the readings.
use Rattle.std.proofs.Common.{arith, ◌≡◌, inl, inr, ℕ, ◌<◌, ◌≤◌, ◌==◌, ◌&&◌, ◌||◌, not, Bool, true, false, cond, List, [], ◌∷◌, ◌++◌, map, filter, find, length, sum, take, Option, Some, None, is_some, refl, ap, sym, subst, ◌∙◌, option_and_then}
use Rattle.std.specs.List.{list_any, filter_map, cons_option}
use Rattle.std.specs.Option.{option_map}
use Rattle.std.proofs.lemmas.Bool.{eqb-true, eq-eqb, false_from_ne_true}
use Rattle.std.proofs.lemmas.Option.{same_Some}
use Rattle.satip_plain.proofs.SameIds.{same_id_is}
use Rattle.satip_base.specs.Lists.{Has, Each}
use Rattle.satip_pids.specs.Pids.{Only}
use Rattle.satip_plain.specs.Types.{SessionId, Config}
use Rattle.satip_plain.specs.State.{Session, Stream, State, same_id, is_at, stream_of, row_of, served_by}
use Rattle.satip_plain.specs.Streams.{outlook_of}
use Rattle.satip_plain.specs.Refusals.{new_outlook}
use Rattle.satip_plain.specs.Readings.{Made, Readings, living, living_session, home_of_number, outlook_in}
use Rattle.satip_laws.specs.Agreement.{stream_told, tune_at, mux_at}
use Rattle.satip_laws.proofs.SameTests.{same_bool, none_true, id_other, id_same, id_itself}
use Rattle.satip_laws.proofs.Finding.{find_has, find_fails, find_only, any_has, has_any, any_agree, any_filter}

-- the packets that left the queue of an HTTP session are those that were pulled
pub record IsQueue (pulled : List (List ℕ)) (s : Session) : Type 0 where
  pub sizes : sum s.sizes ≡ length pulled
  pub begins : take (length pulled) s.picked ≡ pulled

-- a session that lives, as the state has it and as it is read
pub record Same (g : Readings) (m : Made) (s : Session) : Type 0 where
  pub id : s.id ≡ m.id
  pub http : s.http ≡ m.http
  pub stream : s.stream ≡ g.number m.home
  pub playing : s.playing ≡ (m.http || g.played m.id)
  pub heard : s.heard ≡ g.heard m.id
  pub ssrc : s.ssrc ≡ m.draw.ssrc
  pub first : s.first ≡ m.draw.first
  pub picked : s.picked ≡ g.selected m.id
  pub queue : s.http ≡ true → IsQueue (g.pulled m.id) s

abbrev pub Alike : Readings → List Made → List Session → Type 0
Alike g [] [] = Unit {0}
Alike g [] (s ∷ ss) = ⊥
Alike g (m ∷ ms) [] = ⊥
Alike g (m ∷ ms) (s ∷ ss) = Same g m s × Alike g ms ss

-- an id that no session was made with yet
pub record IsUnmade (g : Readings) (s : SessionId) : Type 0 where
  pub over : g.over s ≡ false
  pub played : g.played s ≡ false
  pub tuned : g.tuned s ≡ None
  pub pids : g.pids s ≡ Only []
  pub front : g.front s ≡ None
  pub selected : g.selected s ≡ []
  pub pulled : g.pulled s ≡ []

-- whether a living stream is at this front end
abbrev pub serves : Readings → ℕ → Bool
serves g f = list_any (λ m. is_at (g.front m.home) f) (living g)

-- what holds of the readings alone
pub record IsTold (g : Readings) : Type 0 where
  pub ids : (m n : Made) → Has m (living g) → Has n (living g) → m.id ≡ n.id → m ≡ n
  pub numbers : (m n : Made) → Has m (living g) → Has n (living g) → g.number m.home ≡ g.number n.home → m.home ≡ n.home
  pub few : (m : Made) → Has m (living g) → m.id.count ≤ length g.made
  pub homes : (m : Made) → Has m (living g) → m.home.count ≤ length g.made
  pub unmade : (s : SessionId) → length g.made < s.count → IsUnmade g s
  pub packets : (s : SessionId) → Each (λ p. length p ≡ 188) (g.selected s)

-- no two streams have one number
abbrev pub Apart : List Stream → Type 0
Apart [] = Unit {0}
Apart (t ∷ ts) = (list_any (λ u. u.number == t.number) ts ≡ false) × Apart ts

-- what holds of the state alone
pub record IsKept (c : Config) (st : State) : Type 0 where
  pub apart : Apart st.streams
  pub once : (t u : Stream) → Has t st.streams → Has u st.streams → t.number ≡ u.number → t ≡ u
  pub positive : (t : Stream) → Has t st.streams → 1 ≤ t.number
  pub few : length st.streams ≤ st.made
  pub rows : map (λ r. r.number) st.rows ≡ map (λ front. front.number) c.fronts
  pub placed : (t : Stream) (f : ℕ) → Has t st.streams → t.front ≡ Some f → is_some (row_of st f) ≡ true

-- the state agrees with the readings, but that there may be streams and multiplexes of no use
pub record Loosely (c : Config) (st : State) (g : Readings) : Type 0 where
  pub clock : st.clock ≡ g.clock
  pub made : st.made ≡ length g.made
  pub sessions : Alike g (living g) st.sessions
  pub living_streams : (m : Made) → Has m (living g) → stream_of st (g.number m.home) ≡ Some (stream_told g m.home)
  pub tunes : (f : ℕ) → tune_at st f ≡ g.tune f
  pub muxes : (f : ℕ) → mux_at st f ≡ g.mux f
  pub told : IsTold g
  pub kept : IsKept c st

-- the state agrees with the readings
pub record Agrees (c : Config) (st : State) (g : Readings) : Type 0 where
  pub loosely : Loosely c st g
  pub streams : (n : ℕ) → stream_of st n ≡ option_map (stream_told g) (home_of_number g n)
  pub free : (f : ℕ) → serves g f ≡ false → g.mux f ≡ None

-- lists that are alike

abbrev pub Matched : Readings → Option Made → Option Session → Type 0
Matched g None None = Unit {0}
Matched g None (Some s) = ⊥
Matched g (Some m) None = ⊥
Matched g (Some m) (Some s) = Same g m s

pub alike_find : (g : Readings) (q : Made → Bool) (p : Session → Bool) (ms : List Made) (ss : List Session)
    → ((m : Made) (s : Session) → Has m ms → Same g m s → q m ≡ p s) → Alike g ms ss → Matched g (find q ms) (find p ss)
alike_find g q p [] [] same alike = tt
alike_find g q p [] (s ∷ ss) same alike = absurd alike
alike_find g q p (m ∷ ms) [] same alike = absurd alike
alike_find g q p (m ∷ ms) (s ∷ ss) same alike = by (q m) (p s) (same m s (inl refl) alike.0) (alike_find g q p ms ss (λ n t h e. same n t (inr h) e) alike.1)
  where
    by : (a b : Bool) → a ≡ b → Matched g (find q ms) (find p ss) → Matched g (cond a (Some m) (find q ms)) (cond b (Some s) (find p ss))
    by true true e rest = alike.0
    by false false e rest = rest
    by true false e rest = none_true true refl e
    by false true e rest = none_true true refl (sym e)

pub alike_any : (g : Readings) (q : Made → Bool) (p : Session → Bool) (ms : List Made) (ss : List Session)
    → ((m : Made) (s : Session) → Has m ms → Same g m s → q m ≡ p s) → Alike g ms ss → list_any q ms ≡ list_any p ss
alike_any g q p [] [] same alike = refl
alike_any g q p [] (s ∷ ss) same alike = absurd alike
alike_any g q p (m ∷ ms) [] same alike = absurd alike
alike_any g q p (m ∷ ms) (s ∷ ss) same alike =
    ap (λ b. b || list_any q ms) (same m s (inl refl) alike.0) ∙ ap (λ b. p s || b) (alike_any g q p ms ss (λ n t h e. same n t (inr h) e) alike.1)

pub alike_map : (g g' : Readings) (f : Session → Session) (ms : List Made) (ss : List Session)
    → ((m : Made) (s : Session) → Has m ms → Has s ss → Same g m s → Same g' m (f s)) → Alike g ms ss → Alike g' ms (map f ss)
alike_map g g' f [] [] same alike = tt
alike_map g g' f [] (s ∷ ss) same alike = absurd alike
alike_map g g' f (m ∷ ms) [] same alike = absurd alike
alike_map g g' f (m ∷ ms) (s ∷ ss) same alike =
    (same m s (inl refl) (inl refl) alike.0, alike_map g g' f ms ss (λ n t h k e. same n t (inr h) (inr k) e) alike.1)

-- what a session's turn makes of it, where it stays or ends
abbrev pub Turned : Readings → Made → Bool → Option Session → Type 0
Turned g m true None = ⊥
Turned g m true (Some s) = Same g m s
Turned g m false None = Unit {0}
Turned g m false (Some s) = ⊥

pub alike_turn : (g g' : Readings) (stays : Made → Bool) (turn : Session → Option Session) (ms : List Made) (ss : List Session)
    → ((m : Made) (s : Session) → Has m ms → Has s ss → Same g m s → Turned g' m (stays m) (turn s)) → Alike g ms ss
    → Alike g' (filter stays ms) (filter_map turn ss)
alike_turn g g' stays turn [] [] same alike = tt
alike_turn g g' stays turn [] (s ∷ ss) same alike = absurd alike
alike_turn g g' stays turn (m ∷ ms) [] same alike = absurd alike
alike_turn g g' stays turn (m ∷ ms) (s ∷ ss) same alike =
    by (stays m) (turn s) (same m s (inl refl) (inl refl) alike.0) (alike_turn g g' stays turn ms ss (λ n t h k e. same n t (inr h) (inr k) e) alike.1)
  where
    by : (b : Bool) (o : Option Session) → Turned g' m b o → Alike g' (filter stays ms) (filter_map turn ss)
        → Alike g' (cond b (m ∷ filter stays ms) (filter stays ms)) (cons_option o (filter_map turn ss))
    by true None e rest = absurd e
    by true (Some t) e rest = (e, rest)
    by false None e rest = rest
    by false (Some t) e rest = absurd e

-- each session stays
pub alike_each : (g g' : Readings) (turn : Session → Option Session) (ms : List Made) (ss : List Session)
    → ((m : Made) (s : Session) → Has m ms → Has s ss → Same g m s → Turned g' m true (turn s)) → Alike g ms ss → Alike g' ms (filter_map turn ss)
alike_each g g' turn [] [] same alike = tt
alike_each g g' turn [] (s ∷ ss) same alike = absurd alike
alike_each g g' turn (m ∷ ms) [] same alike = absurd alike
alike_each g g' turn (m ∷ ms) (s ∷ ss) same alike =
    by (turn s) (same m s (inl refl) (inl refl) alike.0) (alike_each g g' turn ms ss (λ n t h k e. same n t (inr h) (inr k) e) alike.1)
  where
    by : (o : Option Session) → Turned g' m true o → Alike g' ms (filter_map turn ss) → Alike g' (m ∷ ms) (cons_option o (filter_map turn ss))
    by None e rest = absurd e
    by (Some t) e rest = (e, rest)

pub alike_append : (g : Readings) (m : Made) (s : Session) (ms : List Made) (ss : List Session) → Alike g ms ss → Same g m s
    → Alike g (ms ++ m ∷ []) (ss ++ s ∷ [])
alike_append g m s [] [] alike same = (same, tt)
alike_append g m s [] (t ∷ ss) alike same = absurd alike
alike_append g m s (n ∷ ms) [] alike same = absurd alike
alike_append g m s (n ∷ ms) (t ∷ ss) alike same = (alike.0, alike_append g m s ms ss alike.1 same)

-- other readings that say the same of these sessions
pub alike_read : (g g' : Readings) (ms : List Made) (ss : List Session) → ((m : Made) (s : Session) → Has m ms → Same g m s → Same g' m s) → Alike g ms ss
    → Alike g' ms ss
alike_read g g' [] [] same alike = tt
alike_read g g' [] (s ∷ ss) same alike = absurd alike
alike_read g g' (m ∷ ms) [] same alike = absurd alike
alike_read g g' (m ∷ ms) (s ∷ ss) same alike = (same m s (inl refl) alike.0, alike_read g g' ms ss (λ n t h e. same n t (inr h) e) alike.1)

pub alike_has : (g : Readings) (s : Session) (ms : List Made) (ss : List Session) → Alike g ms ss → Has s ss → (m : Made) × Has m ms × Same g m s
alike_has g s [] [] alike h = absurd h
alike_has g s [] (t ∷ ss) alike h = absurd alike
alike_has g s (m ∷ ms) [] alike h = absurd alike
alike_has g s (m ∷ ms) (t ∷ ss) alike (inl e) = (m, inl refl, subst (Same g m) (sym e) alike.0)
alike_has g s (m ∷ ms) (t ∷ ss) alike (inr h) = let r = alike_has g s ms ss alike.1 h in (r.0, inr r.1, r.2)

pub alike_back : (g : Readings) (m : Made) (ms : List Made) (ss : List Session) → Alike g ms ss → Has m ms → (s : Session) × Has s ss × Same g m s
alike_back g m [] [] alike h = absurd h
alike_back g m [] (t ∷ ss) alike h = absurd alike
alike_back g m (n ∷ ms) [] alike h = absurd alike
alike_back g m (n ∷ ms) (t ∷ ss) alike (inl e) = (t, inl refl, subst (λ x. Same g x t) (sym e) alike.0)
alike_back g m (n ∷ ms) (t ∷ ss) alike (inr h) = let r = alike_back g m ms ss alike.1 h in (r.0, inr r.1, r.2)

-- sessions and streams that live

module _ (g : Readings) (told : IsTold g) where
  pub living_found : (m : Made) → Has m (living g) → living_session g m.id ≡ Some m
  living_found m h = find_only (λ n. same_id n.id m.id) (living g) m h (id_itself m.id) (λ n k e. told.ids n m k h (same_id_is n.id m.id e))

  pub home_found : (m : Made) → Has m (living g) → home_of_number g (g.number m.home) ≡ Some m.home
  home_found m h = by (find (λ n. g.number n.home == g.number m.home) (living g)) refl
    where
      by : (o : Option Made) → find (λ n. g.number n.home == g.number m.home) (living g) ≡ o → option_map (λ n. n.home) o ≡ Some m.home
      by None f = none_true (g.number m.home == g.number m.home) (eq-eqb (g.number m.home) (g.number m.home) refl)
          (find_fails (λ n. g.number n.home == g.number m.home) (living g) m f h)
      by (Some n) f = let there = find_has (λ x. g.number x.home == g.number m.home) (living g) n f in
          ap Some (told.numbers n m there.0 h (eqb-true (g.number n.home) (g.number m.home) there.1))

  -- the home of a number is that of a session that lives
  pub home_has : (n : ℕ) (home : SessionId) → home_of_number g n ≡ Some home → (m : Made) × Has m (living g) × (m.home ≡ home) × (g.number m.home ≡ n)
  home_has n home e = by (find (λ m. g.number m.home == n) (living g)) refl e
    where
      by : (o : Option Made) → find (λ m. g.number m.home == n) (living g) ≡ o → option_map (λ m. m.home) o ≡ Some home
          → (m : Made) × Has m (living g) × (m.home ≡ home) × (g.number m.home ≡ n)
      by None f k = cc
      by (Some m) f k = let there = find_has (λ x. g.number x.home == n) (living g) m f in
          (m, there.0, same_Some m.home home k, eqb-true (g.number m.home) n there.1)

module _ (st : State) (g : Readings)
    (told : IsTold g)
    (once : (t u : Stream) → Has t st.streams → Has u st.streams → t.number ≡ u.number → t ≡ u)
    (streams : (n : ℕ) → stream_of st n ≡ option_map (stream_told g) (home_of_number g n)) where
  pub here : (m : Made) → Has m (living g) → stream_of st (g.number m.home) ≡ Some (stream_told g m.home)
  here m h = streams (g.number m.home) ∙ ap (option_map (stream_told g)) (home_found g told m h)

  pub found_stream : (t : Stream) → Has t st.streams → stream_of st t.number ≡ Some t
  found_stream t h = find_only (λ u. u.number == t.number) st.streams t h (eq-eqb t.number t.number refl) (λ u k e. once u t k h (eqb-true u.number t.number e))

  pub back : (t : Stream) → Has t st.streams → (m : Made) × Has m (living g) × (t ≡ stream_told g m.home)
  back t h = by (home_of_number g t.number) refl (sym (found_stream t h) ∙ streams t.number)
    where
      by : (o : Option SessionId) → home_of_number g t.number ≡ o → Some t ≡ option_map (stream_told g) o
          → (m : Made) × Has m (living g) × (t ≡ stream_told g m.home)
      by None f e = cc
      by (Some home) f e = let r = home_has g told t.number home f in
          (r.0, r.1, same_Some t (stream_told g home) e ∙ ap (stream_told g) (sym r.2))

  pub any_stream : (q : Stream → Bool) → list_any q st.streams ≡ list_any (λ m. q (stream_told g m.home)) (living g)
  any_stream q = same_bool (list_any q st.streams) (list_any (λ m. q (stream_told g m.home)) (living g))
      (λ e. let r = any_has q st.streams e in let b = back r.0 r.1 in
      has_any (λ m. q (stream_told g m.home)) (living g) b.0 b.1 (ap q (sym b.2) ∙ r.2))
      (λ e. let r = any_has (λ m. q (stream_told g m.home)) (living g) e in
      has_any q st.streams (stream_told g r.0.home) (find_has (λ t. t.number == g.number r.0.home) st.streams (stream_told g r.0.home) (here r.0 r.1)).0 r.2)

module _ (c : Config) (st : State) (g : Readings) (agrees : Agrees c st g) where
  pub stream_here : (m : Made) → Has m (living g) → stream_of st (g.number m.home) ≡ Some (stream_told g m.home)
  stream_here = agrees.loosely.living_streams

  pub stream_found : (t : Stream) → Has t st.streams → stream_of st t.number ≡ Some t
  stream_found = found_stream st g agrees.loosely.told agrees.loosely.kept.once agrees.streams

  pub stream_back : (t : Stream) → Has t st.streams → (m : Made) × Has m (living g) × (t ≡ stream_told g m.home)
  stream_back = back st g agrees.loosely.told agrees.loosely.kept.once agrees.streams

  pub streams_any : (q : Stream → Bool) → list_any q st.streams ≡ list_any (λ m. q (stream_told g m.home)) (living g)
  streams_any = any_stream st g agrees.loosely.told agrees.loosely.kept.once agrees.streams

  pub serves_same : (f : ℕ) → list_any (λ t. is_at t.front f) st.streams ≡ serves g f
  serves_same f = streams_any (λ t. is_at t.front f)

-- whether a stream has this number is whether it is that stream
pub number_home : (g : Readings) → IsTold g → (m n : Made) → Has m (living g) → Has n (living g) → (g.number m.home == g.number n.home) ≡ same_id m.home n.home
number_home g told m n h k = same_bool (g.number m.home == g.number n.home) (same_id m.home n.home)
    (λ e. id_same m.home n.home (told.numbers m n h k (eqb-true (g.number m.home) (g.number n.home) e)))
    (λ e. eq-eqb (g.number m.home) (g.number n.home) (ap g.number (same_id_is m.home n.home e)))

and_turned : (a b : Bool) → (a && b) ≡ (b && a)
and_turned true true = refl
and_turned true false = refl
and_turned false true = refl
and_turned false false = refl

-- what a choice for a stream looks at
pub outlook_same : (c : Config) (st : State) (g : Readings) → Agrees c st g → (m : Made) → Has m (living g)
    → outlook_of c st (g.number m.home) ≡ outlook_in c g m.home
outlook_same c st g agrees m h = λ i. record { fronts = c.fronts; mux_at = λ f. agrees.loosely.muxes f i; own = own i; shared = λ f. shared f i }
  where
    own : option_and_then (λ t. t.front) (stream_of st (g.number m.home)) ≡ g.front m.home
    own = ap (option_and_then (λ t. t.front)) (stream_here c st g agrees m h)

    shared : (f : ℕ) → list_any (λ t. not (t.number == g.number m.home)) (served_by st f)
        ≡ list_any (λ n. not (same_id n.home m.home) && is_at (g.front n.home) f) (living g)
    shared f = any_filter (λ t. is_at t.front f) (λ t. not (t.number == g.number m.home)) st.streams
        ∙ streams_any c st g agrees (λ t. is_at t.front f && not (t.number == g.number m.home))
        ∙ any_agree (λ n. is_at (g.front n.home) f && not (g.number n.home == g.number m.home))
        (λ n. not (same_id n.home m.home) && is_at (g.front n.home) f) (living g)
        (λ n k. ap (λ b. is_at (g.front n.home) f && not b) (number_home g agrees.loosely.told n m k h)
        ∙ and_turned (is_at (g.front n.home) f) (not (same_id n.home m.home)))

-- what a choice for a stream that isn't founded yet looks at
pub outlook_new : (c : Config) (st : State) (g : Readings) → Agrees c st g → (id : SessionId) → length g.made < id.count → new_outlook c st ≡ outlook_in c g id
outlook_new c st g agrees id above = λ i. record { fronts = c.fronts; mux_at = λ f. agrees.loosely.muxes f i; own = own i; shared = λ f. shared f i }
  where
    own : None ≡ g.front id
    own = sym (agrees.loosely.told.unmade id above).front

    other : (n : Made) → Has n (living g) → same_id n.home id ≡ false
    other n k = id_other n.home id (λ e. let few = agrees.loosely.told.homes n k in let same : n.home.count ≡ id.count = ap (λ x. x.count) e in omega arith)

    numbered : (n : Made) → Has n (living g) → (g.number n.home == 0) ≡ false
    numbered n k = false_from_ne_true (g.number n.home == 0) (λ e.
        let zero_is : g.number n.home ≡ 0 = eqb-true (g.number n.home) 0 e in
        let there = find_has (λ t. t.number == g.number n.home) st.streams (stream_told g n.home) (stream_here c st g agrees n k) in
        let above_zero : 1 ≤ g.number n.home = agrees.loosely.kept.positive (stream_told g n.home) there.0 in omega arith)

    shared : (f : ℕ) → list_any (λ t. not (t.number == 0)) (served_by st f) ≡ list_any (λ n. not (same_id n.home id) && is_at (g.front n.home) f) (living g)
    shared f = any_filter (λ t. is_at t.front f) (λ t. not (t.number == 0)) st.streams
        ∙ streams_any c st g agrees (λ t. is_at t.front f && not (t.number == 0))
        ∙ any_agree (λ n. is_at (g.front n.home) f && not (g.number n.home == 0)) (λ n. not (same_id n.home id) && is_at (g.front n.home) f) (living g)
        (λ n k. and_turned (is_at (g.front n.home) f) (not (g.number n.home == 0))
        ∙ ap (λ b. not b && is_at (g.front n.home) f) (numbered n k ∙ sym (other n k)))
