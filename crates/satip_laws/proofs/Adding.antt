-- A session that is made.
use Rattle.std.proofs.Common.{arith, ◌≡◌, ◌⊎◌, inl, inr, ℕ, zero, suc, ◌+◌, ◌≤◌, ◌==◌, ◌||◌, not, Bool, true, false, cond, List, [], ◌∷◌, ◌++◌, find, length, take, Option, Some, None, is_some, refl, ap, sym, subst, ◌∙◌, length-append}
use Rattle.std.specs.List.{list_any}
use Rattle.std.specs.Option.{option_map}
use Rattle.std.proofs.lemmas.Bool.{eqb-true, false_from_ne_true}
use Rattle.satip_base.specs.Lists.{Has}
use Rattle.satip_pids.specs.Pids.{Only}
use Rattle.satip_plain.specs.Types.{SessionId, Config, Peer, Draw, Ports}
use Rattle.satip_plain.specs.State.{Session, Stream, State, same_id, stream_of, row_of, is_at}
use Rattle.satip_plain.specs.Steps.{least_free, put_stream, join, found, new_session}
use Rattle.satip_plain.specs.Readings.{Made, Readings, living, home_of_number, next_made, put}
use Rattle.satip_laws.specs.Agreement.{stream_told}
use Rattle.satip_laws.proofs.SameTests.{none_true, id_itself, id_other, none_some}
use Rattle.satip_laws.proofs.Finding.{find_has, find_fails, find_agree, find_append, find_before, any_append, any_no, has_any, filter_append, has_parts}
use Rattle.satip_laws.proofs.Agree.{Same, Alike, Apart, IsTold, IsUnmade, Agrees, serves, alike_read, alike_append, here}
use Rattle.satip_laws.proofs.Quiet.{same_again}
use Rattle.satip_laws.proofs.Numbering.{IsNew, least_is_new, put_once, put_apart, put_find, put_has, put_length}

abbrev pub making : Readings → Bool → SessionId → Draw → Made
making g http home draw = record { id = next_made g draw.word; http = http; home = home; draw = draw }

-- the readings with one more session, and these numbers of streams
abbrev pub added_read : Readings → Made → (SessionId → ℕ) → Readings
added_read g m numbers = record g { made = g.made ++ m ∷ []; number = numbers; heard = λ s. cond (same_id m.id s) g.clock (g.heard s) }

or_false : (a b : Bool) → b ≡ false → a ≡ (a || b)
or_false true b e = refl
or_false false b e = sym e

take_none : (ps : List (List ℕ)) (n : ℕ) → ps ≡ [] → take n [] ≡ ps
take_none ps zero e = sym e
take_none ps (suc n) e = sym e

-- what has to hold of the numbers that streams have with the new session
pub record IsNumbered (g : Readings) (m : Made) (numbers : SessionId → ℕ) : Type 0 where
  pub old : (t : SessionId) → t.count ≤ length g.made → numbers t ≡ g.number t
  pub apart : (n : Made) → Has n (living g) → g.number n.home ≡ numbers m.home → n.home ≡ m.home
  pub home : m.home.count ≤ length g.made + 1

module _ (c : Config) (st : State) (g : Readings) (a : Agrees c st g) (http : Bool) (peer : Peer) (draw : Draw) (ports : Ports) (home : SessionId)
    (numbers : SessionId → ℕ) (numbered : IsNumbered g (making g http home draw) numbers) where
  abbrev new : Made
  new = making g http home draw

  abbrev g1 : Readings
  g1 = added_read g new numbers

  new_unmade : IsUnmade g new.id
  new_unmade = a.loosely.told.unmade new.id (omega arith)

  pub living_added : living g1 ≡ living g ++ new ∷ []
  living_added = filter_append (λ m. not (g.over m.id)) g.made (new ∷ []) ∙ (rw new_unmade.over refl)

  parts : (m : Made) → Has m (living g1) → Has m (living g) ⊎ (m ≡ new)
  parts m h = by (has_parts m (living g) (new ∷ []) (subst (Has m) living_added h))
    where
      by : Has m (living g) ⊎ ((m ≡ new) ⊎ ⊥) → Has m (living g) ⊎ (m ≡ new)
      by (inl k) = inl k
      by (inr (inl e)) = inr e
      by (inr (inr k)) = absurd k

  home_number : (m : Made) → Has m (living g) → numbers m.home ≡ g.number m.home
  home_number m h = numbered.old m.home (a.loosely.told.homes m h)

  made_length : length g1.made ≡ length g.made + 1
  made_length = length-append g.made (new ∷ [])

  told_added : IsTold g1
  told_added = record {
    ids = λ m n h k e. ids m n (parts m h) (parts n k) e;
    numbers = λ m n h k e. apart m n (parts m h) (parts n k) e;
    few = λ m h. rw made_length (few m (parts m h));
    homes = λ m h. rw made_length (homes m (parts m h));
    unmade = λ s above. let u = a.loosely.told.unmade s (omega (arith, above, made_length)) in
        record { over = u.over; played = u.played; tuned = u.tuned; pids = u.pids; front = u.front; selected = u.selected; pulled = u.pulled };
    packets = a.loosely.told.packets;
  }
    where
      old_id : (m : Made) → Has m (living g) → m.id ≡ new.id → ⊥
      old_id m h e = let few = a.loosely.told.few m h in let same : m.id.count ≡ length g.made + 1 = ap (λ x. x.count) e in omega arith

      ids : (m n : Made) → Has m (living g) ⊎ (m ≡ new) → Has n (living g) ⊎ (n ≡ new) → m.id ≡ n.id → m ≡ n
      ids m n (inl h) (inl k) e = a.loosely.told.ids m n h k e
      ids m n (inl h) (inr k) e = absurd (old_id m h (e ∙ ap (λ x. x.id) k))
      ids m n (inr h) (inl k) e = absurd (old_id n k (sym e ∙ ap (λ x. x.id) h))
      ids m n (inr h) (inr k) e = h ∙ sym k

      apart : (m n : Made) → Has m (living g) ⊎ (m ≡ new) → Has n (living g) ⊎ (n ≡ new) → numbers m.home ≡ numbers n.home → m.home ≡ n.home
      apart m n (inl h) (inl k) e = a.loosely.told.numbers m n h k (sym (home_number m h) ∙ e ∙ home_number n k)
      apart m n (inl h) (inr k) e = numbered.apart m h (sym (home_number m h) ∙ e ∙ ap (λ x. numbers x.home) k) ∙ sym (ap (λ x. x.home) k)
      apart m n (inr h) (inl k) e = sym (numbered.apart n k (sym (home_number n k) ∙ sym e ∙ ap (λ x. numbers x.home) h) ∙ sym (ap (λ x. x.home) h))
      apart m n (inr h) (inr k) e = ap (λ x. x.home) (h ∙ sym k)

      few : (m : Made) → Has m (living g) ⊎ (m ≡ new) → m.id.count ≤ length g.made + 1
      few m (inl h) = let below = a.loosely.told.few m h in omega arith
      few m (inr e) = let same : m.id.count ≡ length g.made + 1 = ap (λ x. x.id.count) e in omega arith

      homes : (m : Made) → Has m (living g) ⊎ (m ≡ new) → m.home.count ≤ length g.made + 1
      homes m (inl h) = let below = a.loosely.told.homes m h in omega arith
      homes m (inr e) = let same : m.home.count ≡ home.count = ap (λ x. x.home.count) e in let below = numbered.home in omega arith

  new_same : (number : ℕ) → number ≡ numbers home → Same g1 new (new_session st http peer draw ports number)
  new_same number is = record {
    id = ap (λ n. record { count = n + 1; word = draw.word }) a.loosely.made;
    http = refl;
    stream = is;
    playing = or_false http (g.played new.id) new_unmade.played;
    heard = rw (id_itself new.id) a.loosely.clock;
    ssrc = refl;
    first = refl;
    picked = sym new_unmade.selected;
    queue = λ h. record { sizes = rw new_unmade.pulled refl; begins = take_none (g.pulled new.id) (length (g.pulled new.id)) new_unmade.pulled };
  }

  old_same : (m : Made) (s : Session) → Has m (living g) → Same g m s → Same g1 m s
  old_same m s h e =
      let few = a.loosely.told.few m h in
      let other : same_id new.id m.id ≡ false = id_other new.id m.id (λ f. let same : length g.made + 1 ≡ m.id.count = ap (λ x. x.count) f in omega arith) in
      same_again g g1 m s e (home_number m h) refl (rw other refl) refl refl

  sessions_added : (number : ℕ) → number ≡ numbers home → Alike g1 (living g1) (st.sessions ++ new_session st http peer draw ports number ∷ [])
  sessions_added number is = rw living_added
      (alike_append g1 new (new_session st http peer draw ports number) (living g) st.sessions
      (alike_read g g1 (living g) st.sessions old_same a.loosely.sessions) (new_same number is))

  -- the home of a number, with the new session
  home_added : (n : ℕ) (o : Option Made) → find (λ m. g.number m.home == n) (living g) ≡ o
      → home_of_number g1 n ≡ option_map (λ m. m.home) (cond (is_some o) o (cond (numbers home == n) (Some new) None))
  home_added n o e = ap (λ ms. option_map (λ m. m.home) (find (λ m. numbers m.home == n) ms)) living_added ∙ ap (option_map (λ m. m.home)) (by o (same ∙ e))
    where
      same : find (λ m. numbers m.home == n) (living g) ≡ find (λ m. g.number m.home == n) (living g)
      same = find_agree (λ m. numbers m.home == n) (λ m. g.number m.home == n) (living g) (λ m h. ap (λ k. k == n) (home_number m h))

      by : (o : Option Made) → find (λ m. numbers m.home == n) (living g) ≡ o
          → find (λ m. numbers m.home == n) (living g ++ new ∷ []) ≡ cond (is_some o) o (cond (numbers home == n) (Some new) None)
      by None f = find_append (λ m. numbers m.home == n) (living g) (new ∷ []) f
      by (Some m) f = find_before (λ m. numbers m.home == n) (living g) (new ∷ []) m f

  free_added : ((f : ℕ) → is_at (g.front home) f ≡ true → serves g f ≡ true) → (f : ℕ) → serves g1 f ≡ false → g.mux f ≡ None
  free_added at f none = a.free f
      (by (serves g f) (is_at (g.front home) f) (at f)
      (sym (ap (list_any (λ m. is_at (g.front m.home) f)) living_added ∙ any_append (λ m. is_at (g.front m.home) f) (living g) (new ∷ [])) ∙ none))
    where
      by : (x y : Bool) → (y ≡ true → x ≡ true) → (x || (y || false)) ≡ false → x ≡ false
      by true y f e = e
      by false y f e = refl

  agrees_added : (number : ℕ) → number ≡ numbers home → (ts : List Stream)
      → ((n : ℕ) → find (λ t. t.number == n) ts ≡ option_map (stream_told g1) (home_of_number g1 n))
      → Apart ts
      → ((t u : Stream) → Has t ts → Has u ts → t.number ≡ u.number → t ≡ u)
      → ((t : Stream) → Has t ts → 1 ≤ t.number)
      → length ts ≤ st.made + 1
      → ((t : Stream) (f : ℕ) → Has t ts → t.front ≡ Some f → is_some (row_of st f) ≡ true)
      → ((f : ℕ) → is_at (g.front home) f ≡ true → serves g f ≡ true)
      → Agrees c (join http peer draw ports number (record st { streams = ts })) g1
  agrees_added number is ts streams apart once positive few placed at = record {
    loosely = record {
      clock = a.loosely.clock;
      made = rw made_length (ap (λ n. n + 1) a.loosely.made);
      sessions = sessions_added number is;
      living_streams = here (join http peer draw ports number (record st { streams = ts })) g1 told_added once streams;
      tunes = a.loosely.tunes;
      muxes = a.loosely.muxes;
      told = told_added;
      kept = record { apart = apart; once = once; positive = positive; few = few; rows = a.loosely.kept.rows; placed = placed };
    };
    streams = streams;
    free = free_added at;
  }

-- a session that joins a living stream
module _ (c : Config) (st : State) (g : Readings) (a : Agrees c st g) (http : Bool) (peer : Peer) (draw : Draw) (ports : Ports) (m : Made)
    (lives : Has m (living g)) where
  pub joined_numbered : IsNumbered g (making g http m.home draw) g.number
  joined_numbered = record {
    old = λ t h. refl;
    apart = λ n h e. a.loosely.told.numbers n m h lives e;
    home = let below = a.loosely.told.homes m lives in omega arith;
  }

  pub agrees_joined : Agrees c (join http peer draw ports (g.number m.home) st) (added_read g (making g http m.home draw) g.number)
  agrees_joined = agrees_added c st g a http peer draw ports m.home g.number joined_numbered (g.number m.home) refl st.streams
      streams a.loosely.kept.apart a.loosely.kept.once a.loosely.kept.positive (let few = a.loosely.kept.few in omega arith) a.loosely.kept.placed
      (λ f e. has_any (λ n. is_at (g.front n.home) f) (living g) m lives e)
    where
      streams : (n : ℕ) → stream_of st n ≡ option_map (stream_told g) (home_of_number (added_read g (making g http m.home draw) g.number) n)
      streams n = a.streams n ∙ ap (option_map (stream_told g)) (by (find (λ x. g.number x.home == n) (living g)) refl
          ∙ sym (home_added c st g a http peer draw ports m.home g.number joined_numbered n (find (λ x. g.number x.home == n) (living g)) refl))
        where
          by : (o : Option Made) → find (λ x. g.number x.home == n) (living g) ≡ o
              → option_map (λ x. x.home) o ≡ option_map (λ x. x.home) (cond (is_some o) o (cond (g.number m.home == n) (Some (making g http m.home draw)) None))
          by (Some x) e = refl
          by None e = rw (find_fails (λ x. g.number x.home == n) (living g) m e lives) refl

-- a session that founds a stream
module _ (c : Config) (st : State) (g : Readings) (a : Agrees c st g) (http : Bool) (peer : Peer) (draw : Draw) (ports : Ports) where
  abbrev id : SessionId
  id = next_made g draw.word

  abbrev k : ℕ
  k = least_free st.streams

  abbrev pub founded_numbers : SessionId → ℕ
  founded_numbers = put id k g.number

  abbrev fresh : Stream
  fresh = record { number = k; tuning = None; front = None; pids = Only [] }

  id_unmade : IsUnmade g id
  id_unmade = a.loosely.told.unmade id (omega arith)

  is_new : IsNew st.streams k
  is_new = least_is_new st.streams

  pub id_number : founded_numbers id ≡ k
  id_number = rw (id_itself id) refl

  old_number : (t : SessionId) → t.count ≤ length g.made → founded_numbers t ≡ g.number t
  old_number t few = rw (id_other id t (λ e. let same : length g.made + 1 ≡ t.count = ap (λ x. x.count) e in omega arith)) refl

  stream_none : stream_of st k ≡ None
  stream_none = by (stream_of st k) refl
    where
      by : (o : Option Stream) → stream_of st k ≡ o → stream_of st k ≡ None
      by None e = e
      by (Some t) e = let there = find_has (λ u. u.number == k) st.streams t e in
          none_true (t.number == k) there.1 (any_no (λ u. u.number == k) st.streams t is_new.free there.0)

  pub founded_numbered : IsNumbered g (making g http id draw) founded_numbers
  founded_numbered = record {
    old = old_number;
    apart = λ n h e. none_some (stream_of st k) (stream_told g n.home) stream_none (ap (stream_of st) (sym (e ∙ id_number)) ∙ a.loosely.living_streams n h);
    home = omega arith;
  }

  abbrev g2 : Readings
  g2 = added_read g (making g http id draw) founded_numbers

  founded_streams : (n : ℕ) → find (λ t. t.number == n) (put_stream fresh st.streams) ≡ option_map (stream_told g2) (home_of_number g2 n)
  founded_streams n = put_find fresh st.streams a.loosely.kept.once is_new.free n
      ∙ by (find (λ x. g.number x.home == n) (living g)) refl
      ∙ ap (option_map (stream_told g2))
      (sym (home_added c st g a http peer draw ports id founded_numbers founded_numbered n (find (λ x. g.number x.home == n) (living g)) refl))
    where
      at_home : (o : Option Made) → find (λ x. g.number x.home == n) (living g) ≡ o → stream_of st n ≡ option_map (stream_told g) (option_map (λ x. x.home) o)
      at_home o e = a.streams n ∙ ap (λ p. option_map (stream_told g) (option_map (λ x. x.home) p)) e

      fresh_told : fresh ≡ stream_told g2 id
      fresh_told = λ i. record { number = sym id_number i; tuning = sym id_unmade.tuned i; front = sym id_unmade.front i; pids = sym id_unmade.pids i }

      new_one : (b : Bool) → cond b (Some fresh) None ≡ option_map (stream_told g2) (option_map (λ x. x.home) (cond b (Some (making g http id draw)) None))
      new_one true = ap Some fresh_told
      new_one false = refl

      by : (o : Option Made) → find (λ x. g.number x.home == n) (living g) ≡ o
          → cond (k == n) (Some fresh) (stream_of st n)
          ≡ option_map (stream_told g2) (option_map (λ x. x.home) (cond (is_some o) o (cond (founded_numbers id == n) (Some (making g http id draw)) None)))
      by (Some x) e =
          let there = find_has (λ y. g.number y.home == n) (living g) x e in
          let other : (k == n) ≡ false = false_from_ne_true (k == n)
          (λ f. none_some (stream_of st k) (stream_told g x.home) stream_none (ap (stream_of st) (eqb-true k n f) ∙ at_home (Some x) e)) in
          rw other (at_home (Some x) e ∙ ap (λ i. Some (record { number = i; tuning = g.tuned x.home; front = g.front x.home; pids = g.pids x.home }))
          (sym (old_number x.home (a.loosely.told.homes x there.0))))
      by None e = ap (cond (k == n) (Some fresh)) (at_home None e) ∙ new_one (k == n)
          ∙ ap (λ i. option_map (stream_told g2) (option_map (λ x. x.home) (cond (i == n) (Some (making g http id draw)) None))) (sym id_number)

  pub agrees_founded : Agrees c (found http peer draw ports st) g2
  agrees_founded = agrees_added c st g a http peer draw ports id founded_numbers founded_numbered k (sym id_number) (put_stream fresh st.streams)
      founded_streams (put_apart fresh st.streams a.loosely.kept.once is_new.free a.loosely.kept.apart)
      (put_once fresh st.streams a.loosely.kept.once is_new.free)
      (λ t h. positive t (put_has fresh t st.streams h))
      (let few = a.loosely.kept.few in let long = put_length fresh st.streams in omega arith)
      (λ t f h e. placed t f (put_has fresh t st.streams h) e)
      (λ f e. none_true (is_at (g.front id) f) e (rw id_unmade.front refl))
    where
      positive : (t : Stream) → (t ≡ fresh) ⊎ Has t st.streams → 1 ≤ t.number
      positive t (inl e) = let same : t.number ≡ k = ap (λ x. x.number) e in let above = is_new.positive in omega arith
      positive t (inr h) = a.loosely.kept.positive t h

      placed : (t : Stream) (f : ℕ) → (t ≡ fresh) ⊎ Has t st.streams → t.front ≡ Some f → is_some (row_of st f) ≡ true
      placed t f (inl same) e = none_some t.front f (ap (λ x. x.front) same) e
      placed t f (inr h) e = a.loosely.kept.placed t f h e
