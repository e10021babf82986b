-- Requests by which a stream changes, and PLAY.
use Rattle.std.proofs.Common.{◌≡◌, ℕ, ◌&&◌, ◌||◌, not, Bool, true, false, cond, List, [], ◌∷◌, ◌++◌, Option, Some, None, refl, ap, sym, subst, ◌∙◌, append-nil}
use Rattle.std.specs.Option.{option_map, option_and_then, option_map_or, option_to_list}
use Rattle.std.specs.List.{list_any}
use Rattle.satip_base.specs.Lists.{Has}
use Rattle.satip_base.specs.Output.{Output}
use Rattle.satip_fronts.specs.Choice.{choose}
use Rattle.satip_tune.specs.Frontends.{mux_for}
use Rattle.satip_rtsp.specs.declared.requests.Method.TheVariants.{Play}
use Rattle.satip_plain.specs.Types.{SessionId, Config, Peer, Draw, Request, Query}
use Rattle.satip_plain.specs.declared.answers.Answer.{Answer}
use Rattle.satip_plain.specs.declared.events.Event.{Event}
use Rattle.satip_plain.specs.State.{Session, State, same_id, is_at}
use Rattle.satip_plain.specs.Sending.{settle}
use Rattle.satip_plain.specs.Streams.{change_by, to_set}
use Rattle.satip_plain.specs.Refusals.{session_named}
use Rattle.satip_rtsp.specs.Methods.{names_none, needs_session, is_setup, changes}
use Rattle.satip_plain.specs.Steps.{change_session, is_session, play_of, accepted}
use Rattle.satip_plain.specs.Histories.{Item}
use Rattle.satip_plain.specs.Readings.{Made, Readings, living, living_session, any_where, is_accepted, made_by, makes, session_in, query_in, asking, named_in, names, is_teardown, is_play, frees, ends, keeps_alive, starts_playing, placing_of, outlook_in, numbered, read_one}
use Rattle.satip_laws.proofs.SameTests.{id_itself}
use Rattle.satip_laws.proofs.Finding.{either_way, any_append}
use Rattle.satip_laws.proofs.Agree.{Same, Agrees, Matched, alike_map, living_found}
use Rattle.satip_laws.proofs.Quiet.{same_again}
use Rattle.satip_laws.proofs.Sweeping.{living_none}
use Rattle.satip_laws.proofs.Changing.{changed_read, agrees_change_by}
use Rattle.satip_laws.proofs.Adding.{making}
use Rattle.satip_laws.proofs.Reading.{read_within, changes_within}
use Rattle.satip_laws.proofs.Deciding.{Passes, IsReady, ready_at, named_match, named_facts, names_it, rtsp_named, named_present, needs_named, meant_named}
use Rattle.satip_laws.proofs.Requests.{ev, e, heard, g_heard, heard_agrees, home_made, not_ended}

-- a session that plays from now on

abbrev pub played_read : (SessionId → Bool) → Readings → Readings
played_read p g = record g { played = λ s. g.played s || (any_where (λ m. not m.http) (living_session g s) && p s) }

pub agrees_played : (c : Config) (st : State) (g : Readings) (p : SessionId → Bool) (id : SessionId)
    → ((m : Made) (s : Session) → Has m (living g) → Same g m s → (not m.http && p m.id) ≡ same_id s.id id)
    → Agrees c st g → Agrees c (change_session id (λ x. record x { playing = true }) st) (played_read p g)
agrees_played c st g p id same a = record {
  loosely = record {
    clock = a.loosely.clock;
    made = a.loosely.made;
    sessions = alike_map g (played_read p g) (λ x. cond (is_session id x) (record x { playing = true }) x) (living g) st.sessions
        (λ m s h k i. by m s (is_session id s) i h (same m s h i)) a.loosely.sessions;
    living_streams = a.loosely.living_streams;
    tunes = a.loosely.tunes;
    muxes = a.loosely.muxes;
    told = let told = a.loosely.told in record {
      ids = told.ids;
      numbers = told.numbers;
      few = told.few;
      homes = told.homes;
      unmade = λ s above. let u = told.unmade s above in record {
        over = u.over;
        played = ap (λ o. g.played s || (any_where (λ m. not m.http) o && p s)) (living_none g told s above) ∙ ap (λ b. b || false) u.played;
        tuned = u.tuned;
        pids = u.pids;
        front = u.front;
        selected = u.selected;
        pulled = u.pulled;
      };
      packets = told.packets;
    };
    kept = record {
      apart = a.loosely.kept.apart;
      once = a.loosely.kept.once;
      positive = a.loosely.kept.positive;
      few = a.loosely.kept.few;
      rows = a.loosely.kept.rows;
      placed = a.loosely.kept.placed;
    };
  };
  streams = a.streams;
  free = a.free;
}
  where
    or_true : (x y : Bool) → true ≡ (x || (y || true))
    or_true true y = refl
    or_true false true = refl
    or_true false false = refl

    or_false : (x : Bool) → (x || false) ≡ x
    or_false true = refl
    or_false false = refl

    at : (m : Made) → Has m (living g) → (b : Bool) → (not m.http && p m.id) ≡ b
        → (g.played m.id || (any_where (λ n. not n.http) (living_session g m.id) && p m.id)) ≡ (g.played m.id || b)
    at m h b f = ap (λ o. g.played m.id || (any_where (λ n. not n.http) o && p m.id)) (living_found g a.loosely.told m h) ∙ ap (λ d. g.played m.id || d) f

    by : (m : Made) (s : Session) (b : Bool) → Same g m s → Has m (living g) → (not m.http && p m.id) ≡ b
        → Same (played_read p g) m (cond b (record s { playing = true }) s)
    by m s true i h f = record {
      id = i.id;
      http = i.http;
      stream = i.stream;
      playing = or_true m.http (g.played m.id) ∙ ap (λ b. m.http || b) (sym (at m h true f));
      heard = i.heard;
      ssrc = i.ssrc;
      first = i.first;
      picked = i.picked;
      queue = λ k. record { sizes = (i.queue k).sizes; begins = (i.queue k).begins };
    }
    by m s false i h f = same_again g (played_read p g) m s i refl (at m h false f ∙ or_false (g.played m.id)) refl refl refl

-- what a choice looks at is the same once a session of the same stream was made
pub outlook_added : (c : Config) (g g1 : Readings) (new : Made) → living g1 ≡ living g ++ new ∷ [] → g1.front ≡ g.front → g1.mux ≡ g.mux
    → outlook_in c g new.home ≡ outlook_in c g1 new.home
outlook_added c g g1 new lives front mux = λ i. record { fronts = c.fronts; mux_at = sym mux i; own = sym front i new.home; shared = λ f. shared f i }
  where
    test : ℕ → Made → Bool
    test = λ f m. not (same_id m.home new.home) && is_at (g.front m.home) f

    new_not : (f : ℕ) → test f new ≡ false
    new_not f = ap (λ b. not b && is_at (g.front new.home) f) (id_itself new.home)

    ends_false : (x y : Bool) → y ≡ false → x ≡ (x || (y || false))
    ends_false true y k = refl
    ends_false false y k = rw k refl

    shared : (f : ℕ) → list_any (test f) (living g) ≡ list_any (λ m. not (same_id m.home new.home) && is_at (g1.front m.home) f) (living g1)
    shared f = ends_false (list_any (test f) (living g)) (test f new) (new_not f)
        ∙ sym (any_append (test f) (living g) (new ∷ []))
        ∙ ap (list_any (test f)) (sym lives)
        ∙ ap (λ fr. list_any (λ m. not (same_id m.home new.home) && is_at (fr m.home) f) (living g1)) (sym front)

pub placing_added : (c : Config) (g g1 : Readings) (new : Made) (query : Query) → living g1 ≡ living g ++ new ∷ [] → g1.front ≡ g.front → g1.mux ≡ g.mux
    → g1.tuned ≡ g.tuned
    → placing_of c g (record { home = new.home; query = query }) ≡ placing_of c g1 (record { home = new.home; query = query })
placing_added c g g1 new query lives front mux tuned =
    ap (λ o. option_and_then (λ tuning. option_map (λ place. record { home = new.home; tuning = tuning; place = place })
    (choose o (mux_for c.muxes tuning) tuning)) (to_set (g.tuned new.home) query.change)) (outlook_added c g g1 new lives front mux)
    ∙ ap (λ t. option_and_then (λ tuning. option_map (λ place. record { home = new.home; tuning = tuning; place = place })
    (choose (outlook_in c g1 new.home) (mux_for c.muxes tuning) tuning)) (to_set (t new.home) query.change)) (sym tuned)

pub cond_both : (x y : Bool) (k n : ℕ) → cond (x || y) k n ≡ cond x k (cond y k n)
cond_both true y k n = refl
cond_both false y k n = refl

module _ (c : Config) (st : State) (g : Readings) (a : Agrees c st g) (caller : ℕ) (peer : Peer) (draw : Draw) (r : Request) (answer : Answer) (out : Output)
    (acc : is_accepted answer ≡ true) (p : Passes c st r) where
  abbrev event : Event
  event = ev c st g a caller peer draw r answer out

  abbrev entry : Item
  entry = e c st g a caller peer draw r answer out

  abbrev now : State
  now = heard c st g a caller peer draw r answer out

  abbrev g1 : Readings
  g1 = g_heard c st g a caller peer draw r answer out

  a1 : Agrees c now g1
  a1 = heard_agrees c st g a caller peer draw r answer out

  -- an entry by which the stream of this home changes, and perhaps a session is made
  pub changing_read : (new : Option Made) (home : SessionId) (made : List Made) (played : SessionId → Bool) (heard : SessionId → ℕ) (numbers : SessionId → ℕ)
      → makes g entry ≡ new → asking g entry ≡ Some (record { home = home; query = r.query }) → is_teardown r.method ≡ false
      → g.made ++ option_to_list new ≡ made
      → ((s : SessionId) → (g.played s || (any_where (λ m. not m.http) (living_session g s) && starts_playing entry s)) ≡ played s)
      → ((s : SessionId) → cond (any_where (λ m. same_id m.id s) new || any_where (keeps_alive event) (living_session g s)) g.clock (g.heard s) ≡ heard s)
      → ((t : SessionId) → numbered g new t ≡ numbers t)
      → placing_of c g (record { home = home; query = r.query })
      ≡ placing_of c (record g { made = made; played = played; heard = heard; number = numbers }) (record { home = home; query = r.query })
      → read_one c g entry ≡ changed_read c (record g { made = made; played = played; heard = heard; number = numbers })
      (record { home = home; query = r.query })
  changing_read new home made played heard numbers is_new is_asked stays is_made is_played is_heard is_number placing =
      ap (λ o. frees (read_within c g entry o (asking g entry))) is_new ∙ ap (λ o. frees (read_within c g entry new o)) is_asked
      ∙ ap frees (changes_within c g entry new (record { home = home; query = r.query }) made played heard numbers refl refl (λ s. refl)
      (λ s. never_ends (living_session g s)) is_made is_played is_heard is_number placing)
    where
      never_ends : (o : Option Made) → any_where (ends c g entry) o ≡ false
      never_ends None = refl
      never_ends (Some m) = not_ended c st g a caller peer draw r answer out m stays

  pub asks : (o : Option Made) (m : Made) → changes r.method ≡ true → session_in g event ≡ Some m
      → asking g entry ≡ Some (record { home = m.home; query = r.query })
  asks o m change is =
      ap (λ b. cond b (option_and_then (λ n. option_map (λ q. record { home = n.home; query = q }) (query_in event)) (session_in g event)) None) acc
      ∙ ap (λ s. option_and_then (λ n. option_map (λ q. record { home = n.home; query = q }) (query_in event)) s) is
      ∙ ap (λ b. option_map (λ q. record { home = m.home; query = q }) (cond b (Some r.query) None)) change

  -- PLAY

  pub agrees_play : r.method ≡ Play → Agrees c (option_map_or (play_of c r now) (session_named now r.session) (accepted (settle now) [])).state
      (read_one c g entry)
  agrees_play method = by (session_named now r.session) (subst (λ o. Matched g1 o (session_named now r.session)) named.1 (named_match c now g1 a1 r.session))
    where
      no_name : names_none r.session ≡ false
      no_name = needs_named st r (ap needs_session method) p.present

      named : (m : Made) × (named_in g r.session ≡ Some m)
      named = named_present c st g a r no_name p.present

      m : Made
      m = named.0

      facts : Has m (living g) × (names r.session m.id ≡ true) × (m.http ≡ false)
      facts = named_facts g r.session m named.1

      playing : SessionId → Bool
      playing = λ s. names r.session s

      read : read_one c g entry ≡ played_read playing (changed_read c g1 (record { home = m.home; query = r.query }))
      read = changing_read None m.home g.made (λ s. g.played s || (any_where (λ n. not n.http) (living_session g s) && playing s)) g1.heard g.number
          (ap (λ b. cond (is_accepted answer)
          (cond (b && names_none r.session) (Some (making g false (home_made c st g a caller peer draw r answer out) draw)) None) None) (ap is_setup method)
          ∙ sym (either_way None (is_accepted answer)))
          (asks None m (ap changes method) (ap (λ b. cond b (made_by g event) (named_in g r.session)) no_name ∙ named.1))
          (ap is_teardown method) (append-nil g.made)
          (λ s. ap (λ b. g.played s || (any_where (λ n. not n.http) (living_session g s) && (b && (is_play r.method && names r.session s)))) acc
          ∙ ap (λ b. g.played s || (any_where (λ n. not n.http) (living_session g s) && (b && names r.session s))) (ap is_play method))
          (λ s. refl) (λ t. refl) refl

      ready : IsReady c g m.home r.query
      ready = ready_at c st g a r m facts.0 (ap changes method)
          (meant_named c st g a r p.own m named.1 (ap (λ x. is_setup x || needs_session x) method) (λ i. ap needs_session method)) p

      changed : (s : Session) → Same g1 m s → Agrees c (change_by c s.stream r.query now).state (changed_read c g1 (record { home = m.home; query = r.query }))
      changed s same = subst (λ n. Agrees c (change_by c n r.query now).state (changed_read c g1 (record { home = m.home; query = r.query }))) (sym same.stream)
          (agrees_change_by c now g1 m r.query facts.0 ready a1)

      by : (q : Option Session) → Matched g1 (Some m) q → Agrees c (option_map_or (play_of c r now) q (accepted (settle now) [])).state (read_one c g entry)
      by None same = absurd same
      by (Some s) same = subst (Agrees c (play_of c r now s).state) (sym read)
          (agrees_played c (change_by c s.stream r.query now).state (changed_read c g1 (record { home = m.home; query = r.query })) playing s.id
          (λ k t h i. rtsp_named (changed_read c g1 (record { home = m.home; query = r.query })) (changed s same).loosely.told r.session m named.1 k h
          ∙ names_it (changed_read c g1 (record { home = m.home; query = r.query })) (changed s same).loosely.told r.session m s.id named.1 same.id k t h i)
          (changed s same))
