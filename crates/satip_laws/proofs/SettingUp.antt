-- Requests by which a session is made: SETUP and GET.
use Rattle.std.proofs.Common.{arith, ◌≡◌, inl, ℕ, ◌+◌, ◌==◌, ◌&&◌, ◌||◌, not, Bool, true, false, cond, [], ◌∷◌, ◌++◌, length, unwrap_or, Option, Some, None, is_some, is_none, refl, ap, sym, subst, ◌∙◌, append-nil}
use Rattle.std.specs.Option.{option_map, option_and_then, option_map_or}
use Rattle.satip_base.specs.Lists.{Has}
use Rattle.satip_base.specs.Output.{Output}
use Rattle.satip_fronts.specs.Choice.{choose}
use Rattle.satip_tune.specs.Frontends.{mux_for}
use Rattle.satip_rtsp.specs.declared.requests.Method.TheVariants.{Setup}
use Rattle.satip_plain.specs.Types.{SessionId, Config, Peer, Draw, Ports, Request, HttpRequest, Query}
use Rattle.satip_plain.specs.declared.answers.Answer.{Answer}
use Rattle.satip_plain.specs.declared.events.Event.{Event}
use Rattle.satip_plain.specs.declared.events.Event.TheVariants.{Get as Got}
use Rattle.satip_plain.specs.State.{Session, State, same_id, stream_of}
use Rattle.satip_plain.specs.Sending.{Move}
use Rattle.satip_plain.specs.Streams.{change_by, to_set}
use Rattle.satip_plain.specs.Refusals.{session_named, stream_meant, decide_get}
use Rattle.satip_rtsp.specs.Methods.{names_none, needs_session, is_setup, is_describe, changes, looks_at_stream}
use Rattle.satip_plain.specs.Steps.{change_session, join, found, least_free, no_ports, start}
use Rattle.satip_plain.specs.Histories.{Item}
use Rattle.satip_plain.specs.Readings.{Made, Readings, living, living_session, home_of_number, number_free, next_made, any_where, is_accepted, made_by, makes, asking, named_in, names, is_teardown, is_play, frees, ends, keeps_alive, starts_playing, put, numbered, read_one}
use Rattle.satip_laws.specs.Agreement.{stream_told}
use Rattle.satip_laws.proofs.SameTests.{none_some, id_itself, id_other, either_false}
use Rattle.satip_laws.proofs.Finding.{either_way, has_right}
use Rattle.satip_laws.proofs.Agree.{IsTold, Agrees, Matched, home_has, stream_here}
use Rattle.satip_laws.proofs.Quiet.{agrees_change}
use Rattle.satip_laws.proofs.Changing.{changed_read, agrees_change_by}
use Rattle.satip_laws.proofs.Numbering.{number_is_free}
use Rattle.satip_laws.proofs.Adding.{making, added_read, living_added, joined_numbered, agrees_joined, founded_numbered, id_number, agrees_founded}
use Rattle.satip_laws.proofs.Reading.{item, read_within, or_never, changes_within}
use Rattle.satip_laws.proofs.Deciding.{Passes, IsReady, ready_at, ready_new, ready_get, named_match, named_facts, named_present, own_stream, meant_number, meant_named, none_session}
use Rattle.satip_laws.proofs.Requests.{ev, e, heard, g_heard, heard_agrees, home_made, not_played}
use Rattle.satip_laws.proofs.Asking.{changing_read, asks, outlook_added, placing_added, cond_both}

-- a session that is made and a stream that changes

ready_added : (c : Config) (g g2 : Readings) (new : Made) (query : Query) → living g2 ≡ living g ++ new ∷ [] → g2.front ≡ g.front → g2.mux ≡ g.mux
    → g2.tuned ≡ g.tuned → IsReady c g new.home query → IsReady c g2 new.home query
ready_added c g g2 new query lives front mux tuned ready tuning set =
    ap (λ o. is_some (choose o (mux_for c.muxes tuning) tuning)) (sym (outlook_added c g g2 new lives front mux))
    ∙ ready tuning (ap (λ t. to_set (t new.home) query.change) (sym tuned) ∙ set)

module _ (c : Config) (st : State) (g : Readings) (a : Agrees c st g) (http : Bool) (peer : Peer) (draw : Draw) (ports : Ports) (query : Query) where
  abbrev pub founding : Made
  founding = making g http (next_made g draw.word) draw

  abbrev pub founded_read : Readings
  founded_read = added_read g founding (put (next_made g draw.word) (least_free st.streams) g.number)

  pub founded_lives : living founded_read ≡ living g ++ founding ∷ []
  founded_lives = living_added c st g a http peer draw ports (next_made g draw.word) (put (next_made g draw.word) (least_free st.streams) g.number)
      (founded_numbered c st g a http peer draw ports)

  pub agrees_founds : IsReady c g (next_made g draw.word) query
      → Agrees c (change_by c (least_free st.streams) query (found http peer draw ports st)).state
      (changed_read c founded_read (record { home = next_made g draw.word; query = query }))
  agrees_founds ready = subst (λ n. Agrees c (change_by c n query (found http peer draw ports st)).state
      (changed_read c founded_read (record { home = next_made g draw.word; query = query })))
      (id_number c st g a http peer draw ports)
      (agrees_change_by c (found http peer draw ports st) founded_read founding query
      (subst (Has founding) (sym founded_lives) (has_right founding (living g) (founding ∷ []) (inl refl)))
      (ready_added c g founded_read founding query founded_lives refl refl refl ready)
      (agrees_founded c st g a http peer draw ports))

  abbrev pub joining : Made → Made
  joining m = making g http m.home draw

  abbrev pub joined_read : Made → Readings
  joined_read m = added_read g (joining m) g.number

  pub joined_lives : (m : Made) → Has m (living g) → living (joined_read m) ≡ living g ++ joining m ∷ []
  joined_lives m h = living_added c st g a http peer draw ports m.home g.number (joined_numbered c st g a http peer draw ports m h)

  pub agrees_joins : (m : Made) → Has m (living g) → IsReady c g m.home query
      → Agrees c (change_by c (g.number m.home) query (join http peer draw ports (g.number m.home) st)).state
      (changed_read c (joined_read m) (record { home = m.home; query = query }))
  agrees_joins m h ready =
      agrees_change_by c (join http peer draw ports (g.number m.home) st) (joined_read m) (joining m) query
      (subst (Has (joining m)) (sym (joined_lives m h)) (has_right (joining m) (living g) (joining m ∷ []) (inl refl)))
      (ready_added c g (joined_read m) (joining m) query (joined_lives m h) refl refl refl ready)
      (agrees_joined c st g a http peer draw ports m h)

-- the number of a stream that is founded, as read
founded_number : (c : Config) (st : State) (g : Readings) → Agrees c st g → (http : Bool) (draw : Draw) (t : SessionId)
    → numbered g (Some (making g http (next_made g draw.word) draw)) t ≡ put (next_made g draw.word) (least_free st.streams) g.number t
founded_number c st g a http draw t =
    ap (λ b. cond b (put (next_made g draw.word) (number_free g) g.number) g.number t) (id_itself (next_made g draw.word))
    ∙ ap (λ n. put (next_made g draw.word) n g.number t) (number_is_free c st g a)

-- that of a stream that is joined
joined_number : (g : Readings) → IsTold g → (http : Bool) (draw : Draw) (m : Made) → Has m (living g) → (t : SessionId)
    → numbered g (Some (making g http m.home draw)) t ≡ g.number t
joined_number g told http draw m h t =
    ap (λ b. cond b (put (next_made g draw.word) (number_free g) g.number) g.number t)
    (id_other m.home (next_made g draw.word) (λ i. let few = told.homes m h in
    let same : m.home.count ≡ length g.made + 1 = ap (λ x. x.count) i in omega arith))

module _ (c : Config) (st : State) (g : Readings) (a : Agrees c st g) (caller : ℕ) (peer : Peer) (draw : Draw) (r : Request) (answer : Answer) (out : Output)
    (acc : is_accepted answer ≡ true) (p : Passes c st r) (method : r.method ≡ Setup) where
  abbrev event : Event
  event = ev c st g a caller peer draw r answer out

  abbrev entry : Item
  entry = e c st g a caller peer draw r answer out

  abbrev now : State
  now = heard c st g a caller peer draw r answer out

  abbrev g1 : Readings
  g1 = g_heard c st g a caller peer draw r answer out

  abbrev ports : Ports
  ports = unwrap_or r.ports no_ports

  -- where the session of the SETUP is this one, and the stream that it names
  abbrev pub set_up_by : Option Session → Option ℕ → Move
  set_up_by q k = change_by c (unwrap_or k (least_free now.streams)) r.query
      (option_map_or (λ s. change_session s.id (λ x. record x { peer = peer; ports = ports }) now) q
      (option_map_or (λ number. join false peer draw ports number now) k (found false peer draw ports now)))

  setup_is : is_setup r.method ≡ true
  setup_is = ap is_setup method

  looks : (is_setup r.method || needs_session r.method) ≡ true
  looks = ap (λ x. is_setup x || needs_session x) method

  unplayed : (s : SessionId) → (g.played s || (any_where (λ m. not m.http) (living_session g s) && starts_playing entry s)) ≡ g.played s
  unplayed s = or_never (g.played s) (any_where (λ m. not m.http) (living_session g s)) (starts_playing entry s)
      (not_played c st g a caller peer draw r answer out s (ap is_play method))

  -- of a session that lives
  in_place : (m : Made) → named_in g r.session ≡ Some m → names_none r.session ≡ false → (q : Option Session) → Matched g1 (Some m) q → (k : Option ℕ)
      → r.stream ≡ k → is_none k ≡ false
      → Agrees c (set_up_by q k).state (read_one c g entry)
  in_place m named no_name q same None is there = cc
  in_place m named no_name None same (Some n) is there = absurd same
  in_place m named no_name (Some s) same (Some n) is there =
      subst (Agrees c (set_up_by (Some s) (Some n)).state) (sym read)
      (subst (λ x. Agrees c (change_by c x r.query (change_session s.id (λ y. record y { peer = peer; ports = ports }) now)).state
      (changed_read c g1 (record { home = m.home; query = r.query })))
      (own_stream c st g a r p.own m named looks n is)
      (agrees_change_by c (change_session s.id (λ y. record y { peer = peer; ports = ports }) now) g1 m r.query facts.0 ready
      (agrees_change c now g1 s.id (λ y. record y { peer = peer; ports = ports })
      (λ x. record { id = refl; http = refl; stream = refl; playing = refl; heard = refl; ssrc = refl; first = refl; picked = refl; sizes = λ h. refl })
      (heard_agrees c st g a caller peer draw r answer out))))
    where
      facts : Has m (living g) × (names r.session m.id ≡ true) × (m.http ≡ false)
      facts = named_facts g r.session m named

      ready : IsReady c g m.home r.query
      ready = ready_at c st g a r m facts.0 (ap changes method) (meant_named c st g a r p.own m named looks (λ i. none_some r.stream n i is)) p

      read : read_one c g entry ≡ changed_read c g1 (record { home = m.home; query = r.query })
      read = changing_read c st g a caller peer draw r answer out acc p None m.home g.made g.played g1.heard g.number
          (ap (λ b. cond (is_accepted answer)
          (cond (is_setup r.method && b) (Some (making g false (home_made c st g a caller peer draw r answer out) draw)) None) None) no_name
          ∙ ap (λ b. cond (is_accepted answer) (cond (b && false) (Some (making g false (home_made c st g a caller peer draw r answer out) draw)) None) None)
          setup_is
          ∙ sym (either_way None (is_accepted answer)))
          (asks c st g a caller peer draw r answer out acc p None m (ap changes method)
          (ap (λ b. cond b (made_by g event) (named_in g r.session)) no_name ∙ named))
          (ap is_teardown method) (append-nil g.made) unplayed (λ s. refl) (λ t. refl) refl

  -- of a session that is made

  made_is : names_none r.session ≡ true → made_by g event ≡ Some (making g false (home_made c st g a caller peer draw r answer out) draw)
  made_is none = ap (λ b. cond (b && names_none r.session) (Some (making g false (home_made c st g a caller peer draw r answer out) draw)) None) setup_is
      ∙ ap (λ b. cond b (Some (making g false (home_made c st g a caller peer draw r answer out) draw)) None) none

  makes_it : (home : SessionId) → names_none r.session ≡ true → home_made c st g a caller peer draw r answer out ≡ home
      → makes g entry ≡ Some (making g false home draw)
  makes_it home none is = ap (λ b. cond b (made_by g event) None) acc ∙ made_is none ∙ ap (λ x. Some (making g false x draw)) is

  asks_it : (home : SessionId) → names_none r.session ≡ true → home_made c st g a caller peer draw r answer out ≡ home
      → asking g entry ≡ Some (record { home = home; query = r.query })
  asks_it home none is = asks c st g a caller peer draw r answer out acc p None (making g false home draw) (ap changes method)
      (ap (λ b. cond b (made_by g event) (named_in g r.session)) none ∙ made_is none ∙ ap (λ x. Some (making g false x draw)) is)

  joined : names_none r.session ≡ true → (n : ℕ) → r.stream ≡ Some n → (m : Made) → Has m (living g) → home_of_number g n ≡ Some m.home → g.number m.home ≡ n
      → Agrees c (set_up_by None (Some n)).state (read_one c g entry)
  joined none n is m h home number =
      subst (Agrees c (set_up_by None (Some n)).state) (sym read)
      (subst (λ x. Agrees c (change_by c x r.query (join false peer draw ports x now)).state
      (changed_read c (joined_read c now g1 a1 false peer draw ports r.query m) (record { home = m.home; query = r.query }))) number
      (agrees_joins c now g1 a1 false peer draw ports r.query m h ready))
    where
      a1 : Agrees c now g1
      a1 = heard_agrees c st g a caller peer draw r answer out

      new : Made
      new = making g false m.home draw

      ready : IsReady c g m.home r.query
      ready = ready_at c st g a r m h (ap changes method) (meant_number st r n is ∙ ap (stream_of st) (sym number) ∙ stream_here c st g a m h) p

      home_is : home_made c st g a caller peer draw r answer out ≡ m.home
      home_is = ap (λ o. unwrap_or (option_and_then (home_of_number g) o) (next_made g draw.word)) is ∙ ap (λ o. unwrap_or o (next_made g draw.word)) home

      read : read_one c g entry ≡ changed_read c (joined_read c now g1 a1 false peer draw ports r.query m) (record { home = m.home; query = r.query })
      read = changing_read c st g a caller peer draw r answer out acc p (Some new) m.home (g.made ++ new ∷ []) g.played
          (λ s. cond (same_id new.id s) g.clock (g1.heard s)) g.number
          (makes_it m.home none home_is) (asks_it m.home none home_is) (ap is_teardown method) refl unplayed
          (λ s. cond_both (same_id new.id s) (any_where (keeps_alive event) (living_session g s)) g.clock (g.heard s))
          (joined_number g a.loosely.told false draw m h)
          (placing_added c g (joined_read c now g1 a1 false peer draw ports r.query m) new r.query (joined_lives c now g1 a1 false peer draw ports r.query m h)
          refl refl refl)

  founded : names_none r.session ≡ true → r.stream ≡ None → Agrees c (set_up_by None None).state (read_one c g entry)
  founded none is =
      subst (Agrees c (set_up_by None None).state) (sym read) (agrees_founds c now g1 a1 false peer draw ports r.query ready)
    where
      a1 : Agrees c now g1
      a1 = heard_agrees c st g a caller peer draw r answer out

      id : SessionId
      id = next_made g draw.word

      new : Made
      new = making g false id draw

      meant : stream_meant st r ≡ None
      meant = ap (λ o. option_and_then (stream_of st)
          (cond (is_some o) o (cond (needs_session r.method) (option_map (λ s. s.stream) (session_named st r.session)) None))) is
          ∙ ap (λ b. option_and_then (stream_of st) (cond b (option_map (λ s. s.stream) (session_named st r.session)) None)) (ap needs_session method)

      ready : IsReady c g id r.query
      ready = ready_new c st g a r id (omega arith) (ap changes method) meant p

      home_is : home_made c st g a caller peer draw r answer out ≡ id
      home_is = ap (λ o. unwrap_or (option_and_then (home_of_number g) o) id) is

      read : read_one c g entry ≡ changed_read c (founded_read c now g1 a1 false peer draw ports r.query) (record { home = id; query = r.query })
      read = changing_read c st g a caller peer draw r answer out acc p (Some new) id (g.made ++ new ∷ []) g.played
          (λ s. cond (same_id new.id s) g.clock (g1.heard s)) (put id (least_free now.streams) g.number)
          (makes_it id none home_is) (asks_it id none home_is) (ap is_teardown method) refl unplayed
          (λ s. cond_both (same_id new.id s) (any_where (keeps_alive event) (living_session g s)) g.clock (g.heard s))
          (founded_number c now g1 a1 false draw)
          (placing_added c g (founded_read c now g1 a1 false peer draw ports r.query) new r.query (founded_lives c now g1 a1 false peer draw ports r.query)
          refl refl refl)

  -- SETUP
  pub agrees_setup : Agrees c (set_up_by (session_named now r.session) r.stream).state (read_one c g entry)
  agrees_setup = by (names_none r.session) refl
    where
      complete : names_none r.session ≡ false → is_none r.stream ≡ false
      complete named = sym (ap (λ b. b && not (names_none r.session) && is_none r.stream) setup_is ∙ ap (λ b. not b && is_none r.stream) named) ∙ p.complete

      there : (n : ℕ) → r.stream ≡ Some n → is_none (stream_of st n) ≡ false
      there n is = sym (ap (λ x. looks_at_stream x && option_map_or (λ number. is_none (stream_of st number)) r.stream
          (is_describe x && length st.streams == 0)) method
          ∙ ap (λ o. option_map_or (λ number. is_none (stream_of st number)) o (false && length st.streams == 0)) is) ∙ p.there

      home : (n : ℕ) → (o : Option SessionId) → home_of_number g n ≡ o → is_none (option_map (stream_told g) o) ≡ false
          → (m : Made) × Has m (living g) × (home_of_number g n ≡ Some m.home) × (g.number m.home ≡ n)
      home n None f e = cc
      home n (Some h) f e = let m = home_has g a.loosely.told n h f in (m.0, m.1, f ∙ ap Some (sym m.2), m.3)

      new_by : names_none r.session ≡ true → (k : Option ℕ) → r.stream ≡ k → Agrees c (set_up_by None k).state (read_one c g entry)
      new_by none None is = founded none is
      new_by none (Some n) is = let m = home n (home_of_number g n) refl (ap is_none (sym (a.streams n)) ∙ there n is) in joined none n is m.0 m.1 m.2 m.3

      by : (b : Bool) → names_none r.session ≡ b → Agrees c (set_up_by (session_named now r.session) r.stream).state (read_one c g entry)
      by true none = subst (λ q. Agrees c (set_up_by q r.stream).state (read_one c g entry)) (sym (none_session now r.session none)) (new_by none r.stream refl)
      by false no_name =
          let named = named_present c st g a r no_name p.present in
          in_place named.0 named.1 no_name (session_named now r.session)
          (subst (λ o. Matched g1 o (session_named now r.session)) named.1
          (named_match c now g1 (heard_agrees c st g a caller peer draw r answer out) r.session))
          r.stream refl (complete no_name)

-- GET

pub agrees_start : (c : Config) (st : State) (g : Readings) (caller : ℕ) (peer : Peer) (draw : Draw) (r : HttpRequest) (answer : Answer) (out : Output)
    → Agrees c st g
    → is_accepted answer ≡ true → decide_get c st r ≡ None → Agrees c (start c peer draw r st).state (read_one c g (item caller (Got peer draw r) answer out))
agrees_start c st g caller peer draw r answer out a acc passed =
    subst (Agrees c (start c peer draw r st).state) (sym read) (agrees_founds c st g a true peer draw no_ports r.query ready)
  where
    id : SessionId
    id = next_made g draw.word

    new : Made
    new = making g true id draw

    entry : Item
    entry = item caller (Got peer draw r) answer out

    ready : IsReady c g id r.query
    ready = ready_get c st g a r id (omega arith) passed

    never_alive : (o : Option Made) → any_where (keeps_alive (Got peer draw r)) o ≡ false
    never_alive None = refl
    never_alive (Some m) = refl

    never_ends : (o : Option Made) → any_where (ends c g entry) o ≡ false
    never_ends None = refl
    never_ends (Some m) = refl

    read : read_one c g entry ≡ changed_read c (founded_read c st g a true peer draw no_ports r.query) (record { home = id; query = r.query })
    read = ap (λ o. frees (read_within c g entry o (asking g entry))) (ap (λ b. cond b (Some new) None) acc)
        ∙ ap (λ o. frees (read_within c g entry (Some new) o)) (ap (λ b. cond b (Some (record { home = id; query = r.query })) None) acc)
        ∙ ap frees (changes_within c g entry (Some new) (record { home = id; query = r.query }) (g.made ++ new ∷ []) g.played
        (λ s. cond (same_id new.id s) g.clock (g.heard s)) (put id (least_free st.streams) g.number)
        refl refl (λ s. refl) (λ s. never_ends (living_session g s)) refl
        (λ s. or_never (g.played s) (any_where (λ m. not m.http) (living_session g s)) (starts_playing entry s) (either_false (is_accepted answer)))
        (λ s. cond_both (same_id new.id s) (any_where (keeps_alive (Got peer draw r)) (living_session g s)) g.clock (g.heard s)
        ∙ ap (λ b. cond (same_id new.id s) g.clock (cond b g.clock (g.heard s))) (never_alive (living_session g s)))
        (founded_number c st g a true draw)
        (placing_added c g (founded_read c st g a true peer draw no_ports r.query) new r.query (founded_lives c st g a true peer draw no_ports r.query)
        refl refl refl))
