-- The ownership law.
use Rattle.std.proofs.Common.{arith, ◌≡◌, ◌⊎◌, inl, inr, ℕ, ◌+◌, ◌≤◌, ◌&&◌, ◌||◌, not, Bool, true, false, cond, List, length, unwrap_or, Option, Some, None, is_some, is_none, refl, ap, sym, subst, ◌∙◌}
use Rattle.std.specs.Option.{option_map, option_and_then, option_map_or}
use Rattle.std.proofs.lemmas.Bool.{and_from}
use Rattle.std.proofs.lemmas.Option.{same_Some}
use Rattle.satip_plain.proofs.SameIds.{same_id_is}
use Rattle.satip_base.specs.Lists.{Has}
use Rattle.satip_base.specs.Output.{Output}
use Rattle.satip_pids.specs.Pids.{Pids, Unsaid, apply}
use Rattle.satip_tune.specs.declared.keys.Key.{Key}
use Rattle.satip_tune.specs.declared.keys.Key.TheVariants.{Fe, Src, Freq, Pol as PolKey, Ro, Msys, Mtype, Plts, Sr, Fec as FecKey, Pids as PidsKey, Addpids, Delpids}
use Rattle.satip_tune.specs.Words.{all_keys}
use Rattle.satip_tune.specs.Tunings.{change_gives}
use Rattle.satip_query.specs.Queries.{gives_key, is_given, are_given_by}
use Rattle.satip_query.specs.declared.queries.PidsGiven.{PidsGiven}
use Rattle.satip_query.specs.declared.queries.PidsGiven.TheVariants.{Absent, All, Empty, List as Listed}
use Rattle.satip_rtsp.specs.declared.requests.Method.{Method}
use Rattle.satip_rtsp.specs.declared.requests.Method.TheVariants.{Options, Describe, Setup, Play, Teardown}
use Rattle.satip_plain.specs.Types.{SessionId, Config, Peer, Draw, Request, HttpRequest, Query, Tuning}
use Rattle.satip_plain.specs.declared.answers.Answer.{Answer}
use Rattle.satip_plain.specs.declared.events.Event.{Event}
use Rattle.satip_plain.specs.declared.events.Event.TheVariants.{Request as Asked, Get as Got, Tick, Packet, Ended, Ask, Pull, Close, Stop}
use Rattle.satip_plain.specs.State.{Session, Stream, State, same_id, owner as owner_of}
use Rattle.satip_plain.specs.Streams.{to_set, to_set_of, changed_tuning, new_pids, pids_or, choice_of}
use Rattle.satip_plain.specs.Refusals.{Refused, session_named, stream_meant, owns, decide}
use Rattle.satip_rtsp.specs.Methods.{names_none, needs_session, is_setup, changes}
use Rattle.satip_plain.specs.Steps.{step, on_request, refuse, done_by}
use Rattle.satip_plain.specs.Histories.{Item, Fits}
use Rattle.satip_plain.specs.Readings.{Made, Readings, Asking, living, owner, home_of_number, next_made, any_where, is_accepted, made_by, session_in, query_in, asking, named_in, names, put, with_tuning, with_asked, read_one, readings}
use Rattle.satip_laws.specs.Agreement.{stream_told}
use Rattle.satip_laws.specs.Ownership.{asks_in, is_asked_by_owner, StaysAs, OnlyOwnerChanges}
use Rattle.satip_laws.proofs.SameTests.{none_true, id_same, none_some, double_not}
use Rattle.satip_laws.proofs.Finding.{either_way, find_has, any_no, no_any}
use Rattle.satip_laws.proofs.Agree.{Same, IsTold, Agrees, Matched, home_found}
use Rattle.satip_laws.proofs.Adding.{making}
use Rattle.satip_laws.proofs.Reading.{item}
use Rattle.satip_laws.proofs.Deciding.{Passes, passes, decided_refuses, named_match, named_facts, meant_number, meant_named, none_session}
use Rattle.satip_laws.proofs.Requests.{home_made, heard, no_change}
use Rattle.satip_laws.proofs.Law.{owners_same}
use Rattle.satip_laws.proofs.Latest.{latest}

-- a query without a known key changes nothing

key_known : (key : Key) → Has key all_keys
key_known Fe = inl refl
key_known Src = inr (inl refl)
key_known Freq = inr (inr (inl refl))
key_known PolKey = inr (inr (inr (inl refl)))
key_known Ro = inr (inr (inr (inr (inl refl))))
key_known Msys = inr (inr (inr (inr (inr (inl refl)))))
key_known Mtype = inr (inr (inr (inr (inr (inr (inl refl))))))
key_known Plts = inr (inr (inr (inr (inr (inr (inr (inl refl)))))))
key_known Sr = inr (inr (inr (inr (inr (inr (inr (inr (inl refl))))))))
key_known FecKey = inr (inr (inr (inr (inr (inr (inr (inr (inr (inl refl)))))))))
key_known PidsKey = inr (inr (inr (inr (inr (inr (inr (inr (inr (inr (inl refl))))))))))
key_known Addpids = inr (inr (inr (inr (inr (inr (inr (inr (inr (inr (inr (inl refl)))))))))))
key_known Delpids = inr (inr (inr (inr (inr (inr (inr (inr (inr (inr (inr (inr (inl refl))))))))))))

module _ (query : Query) (none : gives_key query ≡ false) where
  not_given : (key : Key) → is_given query key ≡ false
  not_given key = any_no (is_given query) all_keys key none (key_known key)

  gives_none : (key : Key) → change_gives query.change key ≡ false
  gives_none Fe = not_given Fe
  gives_none Src = not_given Src
  gives_none Freq = not_given Freq
  gives_none PolKey = not_given PolKey
  gives_none Ro = not_given Ro
  gives_none Msys = not_given Msys
  gives_none Mtype = not_given Mtype
  gives_none Plts = not_given Plts
  gives_none Sr = not_given Sr
  gives_none FecKey = not_given FecKey
  gives_none PidsKey = refl
  gives_none Addpids = refl
  gives_none Delpids = refl

  sets_nothing : (old : Option Tuning) → to_set old query.change ≡ None
  sets_nothing old = ap (λ b. cond b (to_set_of old (changed_tuning old query.change)) None)
      (no_any (change_gives query.change) all_keys (λ key h e. none_true (change_gives query.change key) e (gives_none key)))

  absent : (p : PidsGiven) → are_given_by p ≡ false → choice_of p ≡ Unsaid
  absent Absent e = refl
  absent All e = cc
  absent Empty e = cc
  absent (Listed pids) e = cc

  not_there : (o : Option (List ℕ)) → is_some o ≡ false → o ≡ None
  not_there None e = refl
  not_there (Some pids) e = cc

  same_pids : (old : Pids) → new_pids old query ≡ old
  same_pids old =
      ap (λ x. pids_or old (apply old x query.addpids query.delpids)) (absent query.pids (not_given PidsKey))
      ∙ ap (λ x. pids_or old (apply old Unsaid x query.delpids)) (not_there query.addpids (not_given Addpids))
      ∙ ap (λ x. pids_or old (apply old Unsaid None x)) (not_there query.delpids (not_given Delpids))

-- what an entry leaves of a stream, by the stream that it asks to change

asked_stays : (c : Config) (g : Readings) (e : Item) (home : SessionId) (o : Option Asking) → asking g e ≡ o
    → ((a : Asking) → o ≡ Some a → a.home ≡ home → gives_key a.query ≡ false) → StaysAs g (read_one c g e) home
asked_stays c g e home None is none = record { tuned = ap (λ o. with_tuning g o home) is; pids = ap (λ o. with_asked g o home) is }
asked_stays c g e home (Some a) is none = by (same_id a.home home) refl
  where
    tuned_by : (b : Bool) → same_id a.home home ≡ b → (s : Option Tuning) → (b ≡ true → s ≡ None)
        → option_map_or (λ tuning. put a.home (Some tuning) g.tuned) s g.tuned home ≡ g.tuned home
    tuned_by b f None k = refl
    tuned_by true f (Some t) k = none_some (Some t) t (k refl) refl
    tuned_by false f (Some t) k = ap (λ d. cond d (Some t) (g.tuned home)) f

    by : (b : Bool) → same_id a.home home ≡ b → StaysAs g (read_one c g e) home
    by true f =
        let same : a.home ≡ home = same_id_is a.home home f in
        let no_key : gives_key a.query ≡ false = none a refl same in
        record {
          tuned = ap (λ o. with_tuning g o home) is ∙ tuned_by true f (to_set (g.tuned a.home) a.query.change)
              (λ t. sets_nothing a.query no_key (g.tuned a.home));
          pids = ap (λ o. with_asked g o home) is ∙ ap (λ d. cond d (new_pids (g.pids a.home) a.query) (g.pids home)) f
              ∙ same_pids a.query no_key (g.pids a.home) ∙ ap g.pids same;
        }
    by false f = record {
      tuned = ap (λ o. with_tuning g o home) is ∙ tuned_by false f (to_set (g.tuned a.home) a.query.change) (λ t. cc);
      pids = ap (λ o. with_asked g o home) is ∙ ap (λ d. cond d (new_pids (g.pids a.home) a.query) (g.pids home)) f;
    }

-- a stream that lives isn't that of a session which isn't made yet
lives_made : (g : Readings) → IsTold g → (home : SessionId) → is_some (owner g home) ≡ true → home.count ≤ length g.made
lives_made g told home lives = by (owner g home) refl lives
  where
    by : (o : Option Made) → owner g home ≡ o → is_some o ≡ true → home.count ≤ length g.made
    by None f e = cc
    by (Some m) f e =
        let there = find_has (λ x. same_id x.home home) (living g) m f in
        let few = told.homes m there.0 in
        let same : m.home.count ≡ home.count = ap (λ x. x.count) (same_id_is m.home home there.1) in omega (arith, few, same)

abbrev Either : Config → Readings → Item → SessionId → Type 0
Either c g e home = (is_asked_by_owner g e home ≡ true) ⊎ StaysAs g (read_one c g e) home

module _ (c : Config) (st : State) (g : Readings) (a : Agrees c st g) (caller : ℕ) (peer : Peer) (draw : Draw) (r : Request) (answer : Answer) (out : Output)
    (home : SessionId) (lives : is_some (owner g home) ≡ true) where
  abbrev entry : Item
  entry = item caller (Asked peer draw r) answer out

  not_next : (m : SessionId) → m ≡ next_made g draw.word → m ≡ home → ⊥
  not_next m is same = let few = lives_made g a.loosely.told home lives in
      let count : length g.made + 1 ≡ home.count = ap (λ x. x.count) (sym is ∙ same) in omega (arith, few, count)

  -- the owner of the stream is the session of the request where this isn't refused for another
  owner_is : (m : Made) (s : Session) → Same g m s → Has m (living g) → owns st (g.number m.home) (Some s) ≡ true
      → (w : Made) × (owner g m.home ≡ Some w) × (w.id ≡ m.id)
  owner_is m s same h e = by (owner_of st (g.number m.home)) refl e
    where
      told : (o : Option Made) (q : Option Session) → owner g m.home ≡ o → option_map (λ x. x.id) q ≡ option_map (λ x. x.id) o
          → option_map_or (λ y. same_id y.id s.id) q false ≡ true
          → (w : Made) × (owner g m.home ≡ Some w) × (w.id ≡ m.id)
      told o None f i k = cc
      told None (Some x) f i k = cc
      told (Some w) (Some x) f i k = (w, f, sym (same_Some x.id w.id i) ∙ same_id_is x.id s.id k ∙ same.id)

      by : (q : Option Session) → owner_of st (g.number m.home) ≡ q → option_map_or (λ y. same_id y.id s.id) q false ≡ true
          → (w : Made) × (owner g m.home ≡ Some w) × (w.id ≡ m.id)
      by q f k = told (owner g m.home) q refl
          (sym (ap (option_map (λ x. x.id)) f) ∙ owners_same c st g a (g.number m.home)
          ∙ ap (λ o. option_map (λ x. x.id) (option_and_then (owner g) o)) (home_found g a.loosely.told m h)) k

  module _ (acc : is_accepted answer ≡ true) (p : Passes c st r) (change : changes r.method ≡ true) (m : Made)
      (in_session : session_in g (Asked peer draw r) ≡ Some m) (same : m.home ≡ home) (key : gives_key r.query ≡ true) where
    owned : (t : Stream) → stream_meant st r ≡ Some t → owns st t.number (session_named st r.session) ≡ true
    owned t meant =
        let other : not (owns st t.number (session_named st r.session)) ≡ false =
        sym (ap (λ b. b && gives_key r.query && option_map_or (λ u. not (owns st u.number (session_named st r.session))) (stream_meant st r) false) change
        ∙ ap (λ b. b && option_map_or (λ u. not (owns st u.number (session_named st r.session))) (stream_meant st r) false) key
        ∙ ap (λ o. option_map_or (λ u. not (owns st u.number (session_named st r.session))) o false) meant) ∙ p.owner in
        double_not (owns st t.number (session_named st r.session)) other

    -- a session that is made owns no stream that lives
    unnamed : names_none r.session ≡ true → is_asked_by_owner g entry home ≡ true
    unnamed none = by r.stream refl
      where
        not_setup : {A : Type 0} → is_setup r.method ≡ false → A
        not_setup f = none_some (session_in g (Asked peer draw r)) m
            (ap (λ b. cond b (made_by g (Asked peer draw r)) (named_in g r.session)) none
            ∙ ap (λ b. cond {A = Option Made} (b && names_none r.session) (Some (making g false (home_made c st g a caller peer draw r answer out) draw)) None)
            f) in_session

        made : is_setup r.method ≡ true → m.home ≡ home_made c st g a caller peer draw r answer out
        made setup = ap (λ x. x.home) (sym (same_Some (making g false (home_made c st g a caller peer draw r answer out) draw) m
            (sym (ap (λ b. cond b (made_by g (Asked peer draw r)) (named_in g r.session)) none
            ∙ ap (λ b. cond {A = Option Made} (b && names_none r.session) (Some (making g false (home_made c st g a caller peer draw r answer out) draw)) None)
            setup
            ∙ ap (λ b. cond {A = Option Made} b (Some (making g false (home_made c st g a caller peer draw r answer out) draw)) None) none) ∙ in_session)))

        at : (setup : is_setup r.method ≡ true) (n : ℕ) → r.stream ≡ Some n → (o : Option SessionId) → home_of_number g n ≡ o
            → is_asked_by_owner g entry home ≡ true
        at setup n is None f = absurd (not_next m.home
            (made setup ∙ ap (λ o. unwrap_or (option_and_then (home_of_number g) o) (next_made g draw.word)) is
            ∙ ap (λ o. unwrap_or o (next_made g draw.word)) f) same)
        at setup n is (Some h) f =
            let meant : stream_meant st r ≡ Some (stream_told g h) = meant_number st r n is ∙ a.streams n ∙ ap (option_map (stream_told g)) f in
            none_true (owns st (g.number h) (session_named st r.session)) (owned (stream_told g h) meant)
            (ap (owns st (g.number h)) (none_session st r.session none))

        setup_by : (b : Bool) → is_setup r.method ≡ b → (o : Option ℕ) → r.stream ≡ o → is_asked_by_owner g entry home ≡ true
        setup_by false f o is = not_setup f
        setup_by true f None is = absurd (not_next m.home (made f ∙ ap (λ o. unwrap_or (option_and_then (home_of_number g) o) (next_made g draw.word)) is) same)
        setup_by true f (Some n) is = at f n is (home_of_number g n) refl

        by : (o : Option ℕ) → r.stream ≡ o → is_asked_by_owner g entry home ≡ true
        by o is = setup_by (is_setup r.method) refl o is

    named : names_none r.session ≡ false → is_asked_by_owner g entry home ≡ true
    named no_name = by (session_named st r.session) refl (subst (λ o. Matched g o (session_named st r.session)) is_named (named_match c st g a r.session))
      where
        is_named : named_in g r.session ≡ Some m
        is_named = sym (ap (λ b. cond b (made_by g (Asked peer draw r)) (named_in g r.session)) no_name) ∙ in_session

        facts : Has m (living g) × (names r.session m.id ≡ true) × (m.http ≡ false)
        facts = named_facts g r.session m is_named

        looks : (x : Method) → changes x ≡ true → (is_setup x || needs_session x) ≡ true
        looks Options f = cc
        looks Describe f = cc
        looks Setup f = refl
        looks Play f = refl
        looks Teardown f = refl

        needs : (x : Method) → changes x ≡ true → (is_setup x && not (names_none r.session) && is_none r.stream) ≡ false → r.stream ≡ None
            → needs_session x ≡ true
        needs Options f k i = cc
        needs Describe f k i = cc
        needs Setup f k i = none_true true refl (sym (ap (λ b. not b && is_none r.stream) no_name ∙ ap is_none i) ∙ k)
        needs Play f k i = refl
        needs Teardown f k i = refl

        meant : stream_meant st r ≡ Some (stream_told g m.home)
        meant = meant_named c st g a r p.own m is_named (looks r.method change) (needs r.method change p.complete)

        by : (q : Option Session) → session_named st r.session ≡ q → Matched g (Some m) q → is_asked_by_owner g entry home ≡ true
        by None f i = absurd i
        by (Some s) f i =
            let w = owner_is m s i facts.0 (sym (ap (owns st (g.number m.home)) f) ∙ owned (stream_told g m.home) meant) in
            and_from (is_accepted answer) (any_where (λ x. asks_in (Asked peer draw r) x.id) (owner g home)) acc
            (ap (λ o. any_where (λ x. asks_in (Asked peer draw r) x.id) o) (ap (owner g) (sym same) ∙ w.1)
            ∙ and_from (changes r.method) (names r.session w.0.id) change (ap (names r.session) w.2 ∙ facts.1))

    asked_by_owner : is_asked_by_owner g entry home ≡ true
    asked_by_owner = by (names_none r.session) refl
      where
        by : (b : Bool) → names_none r.session ≡ b → is_asked_by_owner g entry home ≡ true
        by true none = unnamed none
        by false no_name = named no_name

  request_changes : Fits (on_request c peer draw r st) entry → Either c g entry home
  request_changes fits = accepted_by (is_accepted answer) refl
    where
      nothing_asked : asking g entry ≡ None → StaysAs g (read_one c g entry) home
      nothing_asked is = asked_stays c g entry home None is (λ x k. cc)

      asks : changes r.method ≡ true → (o : Option Made) → is_accepted answer ≡ true → session_in g (Asked peer draw r) ≡ o
          → asking g entry ≡ option_map (λ m. record { home = m.home; query = r.query }) o
      asks change o acc is =
          ap (λ b. cond b (option_and_then (λ n. option_map (λ q. record { home = n.home; query = q }) (query_in (Asked peer draw r)))
          (session_in g (Asked peer draw r))) None) acc
          ∙ ap (λ s. option_and_then (λ n. option_map (λ q. record { home = n.home; query = q }) (query_in (Asked peer draw r))) s) is
          ∙ ap (λ b. option_and_then (λ n. option_map (λ q. record { home = n.home; query = q }) (cond b (Some r.query) None)) o) change ∙ by o
        where
          by : (o : Option Made) → option_and_then {U = Asking} (λ n. option_map (λ q. record { home = n.home; query = q }) (Some r.query)) o
              ≡ option_map (λ m. record { home = m.home; query = r.query }) o
          by None = refl
          by (Some n) = refl

      stays : changes r.method ≡ true → is_accepted answer ≡ true → (o : Option Made) → session_in g (Asked peer draw r) ≡ o
          → (((m : Made) → o ≡ Some m → m.home ≡ home → gives_key r.query ≡ false)) → StaysAs g (read_one c g entry) home
      stays change acc o is none = asked_stays c g entry home (option_map (λ m. record { home = m.home; query = r.query }) o) (asks change o acc is)
          (λ x k i. by o x k i none)
        where
          by : (o : Option Made) (x : Asking) → option_map (λ m. record { home = m.home; query = r.query }) o ≡ Some x → x.home ≡ home
              → ((m : Made) → o ≡ Some m → m.home ≡ home → gives_key r.query ≡ false) → gives_key x.query ≡ false
          by None x k i f = cc
          by (Some m) x k i f =
              let same = same_Some (record { home = m.home; query = r.query }) x k in
              ap (λ y. gives_key y.query) (sym same) ∙ f m refl (ap (λ y. y.home) same ∙ i)

      with_key : (acc : is_accepted answer ≡ true) (p : Passes c st r) → changes r.method ≡ true → (o : Option Made) → session_in g (Asked peer draw r) ≡ o
          → (b : Bool) → gives_key r.query ≡ b
          → (is_asked_by_owner g entry home ≡ true) ⊎ StaysAs g (read_one c g entry) home
      with_key acc p change o is false none = inr (stays change acc o is (λ m k i. none))
      with_key acc p change None is true key = inr (stays change acc None is (λ m k i. cc))
      with_key acc p change (Some m) is true key = by (same_id m.home home) refl
        where
          by : (b : Bool) → same_id m.home home ≡ b → (is_asked_by_owner g entry home ≡ true) ⊎ StaysAs g (read_one c g entry) home
          by true f = inl (asked_by_owner acc p change m is (same_id_is m.home home f) key)
          by false f = inr (stays change acc (Some m) is
              (λ n k i. none_true (same_id m.home home) (id_same m.home home (ap (λ x. x.home) (same_Some m n k) ∙ i)) f))

      change_by : (acc : is_accepted answer ≡ true) → Passes c st r → (b : Bool) → changes r.method ≡ b
          → (is_asked_by_owner g entry home ≡ true) ⊎ StaysAs g (read_one c g entry) home
      change_by acc p true change = with_key acc p change (session_in g (Asked peer draw r)) refl (gives_key r.query) refl
      change_by acc p false change = inr (nothing_asked (no_change c st g a caller peer draw r answer out change))

      decided : (acc : is_accepted answer ≡ true) → (o : Option Refused) → decide c st r ≡ o
          → answer ≡ (option_map_or (refuse r (heard c st g a caller peer draw r answer out)) o
          (done_by r.method c peer draw r (heard c st g a caller peer draw r answer out))).answer
          → (is_asked_by_owner g entry home ≡ true) ⊎ StaysAs g (read_one c g entry) home
      decided acc (Some x) f is = none_true (is_accepted answer) acc (ap is_accepted is ∙ decided_refuses c st r x f)
      decided acc None f is = change_by acc (passes c st r f) (changes r.method) refl

      accepted_by : (b : Bool) → is_accepted answer ≡ b → (is_asked_by_owner g entry home ≡ true) ⊎ StaysAs g (read_one c g entry) home
      accepted_by true acc = decided acc (decide c st r) refl fits.answer
      accepted_by false acc = inr
          (nothing_asked (ap (λ b. cond b
          (option_and_then (λ n. option_map (λ q. record { home = n.home; query = q }) (query_in (Asked peer draw r))) (session_in g (Asked peer draw r))) None)
          acc))

get_changes : (c : Config) (st : State) (g : Readings) (a : Agrees c st g) (caller : ℕ) (peer : Peer) (draw : Draw) (r : HttpRequest) (answer : Answer)
    (out : Output) (home : SessionId)
    → is_some (owner g home) ≡ true → StaysAs g (read_one c g (item caller (Got peer draw r) answer out)) home
get_changes c st g a caller peer draw r answer out home lives = by (is_accepted answer) refl
  where
    by : (b : Bool) → is_accepted answer ≡ b → StaysAs g (read_one c g (item caller (Got peer draw r) answer out)) home
    by true acc = asked_stays c g (item caller (Got peer draw r) answer out) home (Some (record { home = next_made g draw.word; query = r.query }))
        (ap (λ b. cond b (Some (record { home = next_made g draw.word; query = r.query })) None) acc)
        (λ x k i. let few = lives_made g a.loosely.told home lives in
        let same : record { home = next_made g draw.word; query = r.query } ≡ x = same_Some (record { home = next_made g draw.word; query = r.query }) x k in
        let count : length g.made + 1 ≡ home.count = ap (λ y. y.count) (ap (λ y. y.home) same ∙ i) in absurd (omega (arith, few, count)))
    by false acc = asked_stays c g (item caller (Got peer draw r) answer out) home None
        (ap (λ b. cond b (Some (record { home = next_made g draw.word; query = r.query })) None) acc) (λ x k. cc)

other_changes : (c : Config) (g : Readings) (e : Item) (home : SessionId) → asking g e ≡ None → Either c g e home
other_changes c g e home is = inr (asked_stays c g e home None is (λ x k. cc))

event_changes : (c : Config) (st : State) (g : Readings) → Agrees c st g → (caller : ℕ) (answer : Answer) (out : Output) (home : SessionId)
    → is_some (owner g home) ≡ true
    → (event : Event) → Fits (step c st event) (item caller event answer out) → Either c g (item caller event answer out) home
event_changes c st g a caller answer out home lives (Asked peer draw r) fits = request_changes c st g a caller peer draw r answer out home lives fits
event_changes c st g a caller answer out home lives (Got peer draw r) fits = inr (get_changes c st g a caller peer draw r answer out home lives)
event_changes c st g a caller answer out home lives (Tick now) fits =
    other_changes c g (item caller (Tick now) answer out) home (sym (either_way None (is_accepted answer)))
event_changes c st g a caller answer out home lives (Packet front tune packet) fits =
    other_changes c g (item caller (Packet front tune packet) answer out) home (sym (either_way None (is_accepted answer)))
event_changes c st g a caller answer out home lives (Ended front tune) fits =
    other_changes c g (item caller (Ended front tune) answer out) home (sym (either_way None (is_accepted answer)))
event_changes c st g a caller answer out home lives (Ask front) fits =
    other_changes c g (item caller (Ask front) answer out) home (sym (either_way None (is_accepted answer)))
event_changes c st g a caller answer out home lives (Pull id) fits =
    other_changes c g (item caller (Pull id) answer out) home (sym (either_way None (is_accepted answer)))
event_changes c st g a caller answer out home lives (Close id) fits =
    other_changes c g (item caller (Close id) answer out) home (sym (either_way None (is_accepted answer)))
event_changes c st g a caller answer out home lives Stop fits =
    other_changes c g (item caller Stop answer out) home (sym (either_way None (is_accepted answer)))

pub only_owner_changes : OnlyOwnerChanges
only_owner_changes c h e home legal lives =
    let l = latest c h e legal in
    subst (λ later. (is_asked_by_owner (readings c h) e home ≡ true) ⊎ StaysAs (readings c h) later home) (sym l.read)
    (event_changes c.config _ (readings c h) l.agrees e.caller e.answer e.out home lives e.event l.fits)
