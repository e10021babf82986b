-- The stream that an entry asks about, as it stands and as it is read.
use Rattle.std.proofs.Common.{arith, ◌≡◌, ℕ, ◌+◌, ◌<◌, ◌≤◌, ◌==◌, ◌&&◌, ◌||◌, not, Bool, true, false, length, Option, Some, None, is_none, option_map, refl, ap, sym, subst, ◌∙◌, if◌then◌else◌, unwrap_or, option_and_then}
use Rattle.std.specs.Option.{option_map_or}
use Rattle.satip_base.specs.Lists.{Has}
use Rattle.satip_http.specs.Heads.{http_refusal}
use Rattle.satip_base.specs.Output.{Output}
use Rattle.satip_rtsp.specs.declared.requests.Method.{Method}
use Rattle.satip_rtsp.specs.declared.requests.Method.TheVariants.{Options, Describe, Setup, Play, Teardown}
use Rattle.satip_plain.specs.declared.answers.Answer.{Answer}
use Rattle.satip_plain.specs.declared.answers.Answer.TheVariants.{Get}
use Rattle.satip_plain.specs.declared.answers.GetAnswer.TheVariants.{Refused as GetRefused}
use Rattle.satip_plain.specs.declared.events.Event.{Event}
use Rattle.satip_plain.specs.declared.events.Event.TheVariants.{Request as Asked, Get as Got, Tick, Packet, Ended, Ask, Pull, Close, Stop}
use Rattle.satip_plain.specs.Types.{SessionId, Config, Peer, Draw, Request, HttpRequest}
use Rattle.satip_plain.specs.State.{Session, State, same_id, stream_of}
use Rattle.satip_plain.specs.Sending.{settle}
use Rattle.satip_plain.specs.Refusals.{Refused, decide, decide_get, session_named}
use Rattle.satip_rtsp.specs.Methods.{changes, is_setup, is_describe, looks_at_stream, names_none, needs_session}
use Rattle.satip_plain.specs.Steps
use Rattle.satip_plain.specs.Steps.{step, least_free, setup_number, heard_by, done_by}
use Rattle.satip_plain.specs.Histories.{Item}
use Rattle.satip_plain.specs.Readings
use Rattle.satip_plain.specs.Readings.{Made, Readings, living, is_accepted, makes, session_in, query_in, asking, named_in, home_of_number, next_made, numbered, number_free, put, read_one}
use Rattle.satip_laws.specs.Agreement.{stream_told}
use Rattle.satip_laws.proofs.SameTests.{id_itself, id_other}
use Rattle.satip_laws.proofs.Agree.{Same, Agrees, Matched, stream_here, home_has}
use Rattle.satip_laws.proofs.Numbering.{number_is_free}
use Rattle.satip_laws.proofs.Reading.{item}
use Rattle.satip_laws.proofs.Deciding.{Passes, passes, decided_refuses, named_match, named_facts, own_stream}
use Rattle.satip_laws.proofs.Retuning.{number_asked, asked_in, tuning_of}
use Rattle.satip_laws.proofs.Retuning
use Rattle.satip_laws.proofs.Flushing.{none_of}
use Rattle.satip_laws.proofs.Single.{least_is_free}

-- what an entry asks, as it stands: the number of the stream, its query and its tuning before
pub record IsAsked (c : Config) (st : State) (g : Readings) (e : Item) (a : Readings.Asking) : Type 0 where
  pub number : ℕ
  pub asked : asked_in c st e.event ≡ Some (record { number = number; query = a.query })
  pub read : number ≡ (read_one c g e).number a.home
  pub tuning : tuning_of st number ≡ g.tuned a.home

-- a stream that lives
tuning_here : (c : Config) (st : State) (g : Readings) → Agrees c st g → (m : Made) → Has m (living g) → tuning_of st (g.number m.home) ≡ g.tuned m.home
tuning_here c st g agrees m lives = ap (λ o. option_and_then (λ t. t.tuning) o) (stream_here c st g agrees m lives)

-- a stream that is founded
tuning_new : (c : Config) (st : State) (g : Readings) → Agrees c st g → (id : SessionId) → length g.made < id.count
    → tuning_of st (least_free st.streams) ≡ g.tuned id
tuning_new c st g agrees id above =
    ap (λ o. option_and_then (λ t. t.tuning) o) (none_of (least_free st.streams) st.streams (least_is_free st.streams))
    ∙ sym (agrees.loosely.told.unmade id above).tuned

number_new : (c : Config) (st : State) (g : Readings) → Agrees c st g → (http : Bool) (draw : Draw)
    → least_free st.streams ≡ numbered g (Some (record { id = next_made g draw.word; http = http; home = next_made g draw.word; draw = draw }))
    (next_made g draw.word)
number_new c st g agrees http draw =
    let id : SessionId = next_made g draw.word in
    sym (number_is_free c st g agrees) ∙ put_here id (id_itself id) (number_free g)
  where
    put_here : (id : SessionId) → same_id id id ≡ true → (n : ℕ) → n ≡ (if same_id id id then put id n g.number else g.number) id
    put_here id e n = rw (e, e) refl

number_joined : (g : Readings) (http : Bool) (draw : Draw) (m : Made) (home : SessionId) → home.count ≤ length g.made
    → g.number home ≡ numbered g (Some (record { id = next_made g draw.word; http = http; home = home; draw = draw })) home
number_joined g http draw m home few =
    let other : same_id home (next_made g draw.word) ≡ false =
    id_other home (next_made g draw.word) (λ e. let same : home.count ≡ length g.made + 1 = ap (λ i. i.count) e in omega (arith, few, same)) in
    rw other refl

-- requests

module _ (c : Config) (st : State) (g : Readings) (agrees : Agrees c st g) (caller : ℕ) (peer : Peer) (draw : Draw) (r : Request) (answer : Answer)
    (out : Output) (a : Readings.Asking) where
  abbrev event : Event
  event = Asked peer draw r

  abbrev entry : Item
  entry = item caller event answer out

  asked_is : changes r.method ≡ true → decide c st r ≡ None → asked_in c st event ≡ Some (record { number = number_asked r.method st r; query = r.query })
  asked_is change none =
      let it : Option Retuning.Asking = Some (record { number = number_asked r.method st r; query = r.query }) in
      ap (λ b. if b && is_none (decide c st r) then it else None) change ∙ ap (λ o. if is_none o then it else None) none

  -- put together
  is_asked : (home : SessionId) (n : ℕ) → changes r.method ≡ true → decide c st r ≡ None → number_asked r.method st r ≡ n → n ≡ numbered g (makes g entry) home
      → tuning_of st n ≡ g.tuned home
      → record { home = home; query = r.query } ≡ a → IsAsked c st g entry a
  is_asked home n change none number read tuning is = subst (λ (x : Readings.Asking). IsAsked c st g entry x) is (record {
    number = number_asked r.method st r;
    asked = asked_is change none;
    read = number ∙ read;
    tuning = ap (tuning_of st) number ∙ tuning;
  })

  abbrev asks : Option Made → Bool → Option Readings.Asking
  asks o b = option_and_then (λ m. option_map (λ q. record { home = m.home; query = q }) (if b then Some r.query else None)) o

  asks_none : (o : Option Made) → asks o false ≡ Some a → ⊥
  asks_none None e = cc
  asks_none (Some m) e = cc

  makes_none : (b : Bool) → Readings.made_by g event ≡ None → (if b then Readings.made_by g event else None) ≡ None
  makes_none true e = e
  makes_none false e = refl

  -- in a session that is named
  named_asks : is_accepted answer ≡ true → Passes c st r → decide c st r ≡ None → changes r.method ≡ true → Readings.made_by g event ≡ None → (o : Option Made)
      → named_in g r.session ≡ o
      → ((m : Made) (s : Session) → named_in g r.session ≡ Some m → Has m (living g) → session_named st r.session ≡ Some s → Same g m s
      → number_asked r.method st r ≡ g.number m.home)
      → asks o true ≡ Some a → IsAsked c st g entry a
  named_asks acc p none change unmade None named number e = cc
  named_asks acc p none change unmade (Some m) named number e =
      is_asked m.home (g.number m.home) change none
      (by (session_named st r.session) refl (subst (λ o. Matched g o (session_named st r.session)) named (named_match c st g agrees r.session)))
      (ap (λ o. numbered g o m.home) (sym (makes_none (is_accepted answer) unmade)))
      (tuning_here c st g agrees m lives) is
    where
      lives : Has m (living g)
      lives = (named_facts g r.session m named).0

      is : record { home = m.home; query = r.query } ≡ a
      is = cc

      by : (q : Option Session) → session_named st r.session ≡ q → Matched g (Some m) q → number_asked r.method st r ≡ g.number m.home
      by None f same = absurd same
      by (Some s) f same = number m s named lives f same

  -- PLAY
  play_number : (m : Made) (s : Session) → r.method ≡ Play → session_named st r.session ≡ Some s → Same g m s → number_asked r.method st r ≡ g.number m.home
  play_number m s method named same = ap (λ x. number_asked x st r) method ∙ ap (λ o. option_map_or (λ x. x.stream) o 0) named ∙ same.stream

  setup_asked : r.method ≡ Setup → number_asked r.method st r ≡ setup_number r st
  setup_asked method = ap (λ x. number_asked x st r) method

  -- SETUP in a session that is named
  setup_number_named : is_accepted answer ≡ true → Passes c st r → r.method ≡ Setup → names_none r.session ≡ false → (m : Made) → named_in g r.session ≡ Some m
      → number_asked r.method st r ≡ g.number m.home
  setup_number_named acc p method no_name m named = setup_asked method ∙ by r.stream refl
    where
      complete : is_none r.stream ≡ false
      complete = sym (ap (λ b. b && not (names_none r.session) && is_none r.stream) (ap is_setup method) ∙ ap (λ b. not b && is_none r.stream) no_name)
          ∙ p.complete

      by : (o : Option ℕ) → r.stream ≡ o → unwrap_or o (least_free st.streams) ≡ g.number m.home
      by None f = let no_way : is_none r.stream ≡ true = ap is_none f in cc
      by (Some n) f = sym (own_stream c st g agrees r p.own m named (ap (λ x. is_setup x || needs_session x) method) n f)

  -- SETUP that makes a session
  abbrev new_at : SessionId → Made
  new_at home = record { id = next_made g draw.word; http = false; home = home; draw = draw }

  made_is : r.method ≡ Setup → names_none r.session ≡ true
      → Readings.made_by g event ≡ Some (new_at (unwrap_or (option_and_then (home_of_number g) r.stream) (next_made g draw.word)))
  made_is method none =
      let it : Option Made = Some (new_at (unwrap_or (option_and_then (home_of_number g) r.stream) (next_made g draw.word))) in
      ap (λ b. if b && names_none r.session then it else None) (ap is_setup method) ∙ ap (λ b. if b then it else None) none

  setup_new : is_accepted answer ≡ true → Passes c st r → decide c st r ≡ None → r.method ≡ Setup → names_none r.session ≡ true
      → asks (Readings.made_by g event) true ≡ Some a → IsAsked c st g entry a
  setup_new acc p none method unnamed e = by r.stream refl
    where
      change : changes r.method ≡ true
      change = ap changes method

      made_here : (home : SessionId) → unwrap_or (option_and_then (home_of_number g) r.stream) (next_made g draw.word) ≡ home
          → Readings.made_by g event ≡ Some (new_at home)
      made_here home f = made_is method unnamed ∙ ap (λ h. Some (new_at h)) f

      makes_here : (home : SessionId) → unwrap_or (option_and_then (home_of_number g) r.stream) (next_made g draw.word) ≡ home
          → makes g entry ≡ Some (new_at home)
      makes_here home f = ap (λ b. if b then Readings.made_by g event else None) acc ∙ made_here home f

      asks_here : (home : SessionId) → unwrap_or (option_and_then (home_of_number g) r.stream) (next_made g draw.word) ≡ home
          → record { home = home; query = r.query } ≡ a
      asks_here home f = let asked : Some (record { home = home; query = r.query }) ≡ Some a = sym (ap (λ o. asks o true) (made_here home f)) ∙ e in cc

      at : (home : SessionId) (n : ℕ) → unwrap_or (option_and_then (home_of_number g) r.stream) (next_made g draw.word) ≡ home → setup_number r st ≡ n
          → n ≡ numbered g (Some (new_at home)) home → tuning_of st n ≡ g.tuned home → IsAsked c st g entry a
      at home n f number read tuning =
          is_asked home n change none (setup_asked method ∙ number) (read ∙ ap (λ o. numbered g o home) (sym (makes_here home f))) tuning (asks_here home f)

      there : (n : ℕ) → r.stream ≡ Some n → is_none (stream_of st n) ≡ false
      there n is = sym (ap (λ x. looks_at_stream x && option_map_or (λ number. is_none (stream_of st number)) r.stream
          (is_describe x && length st.streams == 0)) method
          ∙ ap (λ o. option_map_or (λ number. is_none (stream_of st number)) o (false && length st.streams == 0)) is) ∙ p.there

      joined : (n : ℕ) → r.stream ≡ Some n → (o : Option SessionId) → home_of_number g n ≡ o → is_none (option_map (stream_told g) o) ≡ false
          → IsAsked c st g entry a
      joined n is None f missing = cc
      joined n is (Some home) f missing =
          let m = home_has g agrees.loosely.told n home f in
          let number : g.number home ≡ n = ap g.number (sym m.2) ∙ m.3 in
          let few : home.count ≤ length g.made = subst (λ (h : SessionId). h.count ≤ length g.made) m.2 (agrees.loosely.told.homes m.0 m.1) in
          let tuning : tuning_of st (g.number home) ≡ g.tuned home =
          subst (λ (h : SessionId). tuning_of st (g.number h) ≡ g.tuned h) m.2 (tuning_here c st g agrees m.0 m.1) in
          at home n (ap (λ o. unwrap_or (option_and_then (home_of_number g) o) (next_made g draw.word)) is ∙ ap (λ o. unwrap_or o (next_made g draw.word)) f)
          (ap (λ o. unwrap_or o (least_free st.streams)) is) (sym number ∙ number_joined g false draw m.0 home few) (ap (tuning_of st) (sym number) ∙ tuning)

      by : (o : Option ℕ) → r.stream ≡ o → IsAsked c st g entry a
      by None is = at (next_made g draw.word) (least_free st.streams) (ap (λ o. unwrap_or (option_and_then (home_of_number g) o) (next_made g draw.word)) is)
          (ap (λ o. unwrap_or o (least_free st.streams)) is)
          (number_new c st g agrees false draw) (tuning_new c st g agrees (next_made g draw.word) (omega arith))
      by (Some n) is = joined n is (home_of_number g n) refl (ap is_none (sym (agrees.streams n)) ∙ there n is)

  pub request_asked : answer ≡ (step c st event).answer → asking g entry ≡ Some a → IsAsked c st g entry a
  request_asked answered e = by (is_accepted answer) refl (decide c st r) refl
    where
      accepted : is_accepted answer ≡ true → decide c st r ≡ None → asks (session_in g event) (changes r.method) ≡ Some a → IsAsked c st g entry a
      accepted acc none f = at r.method refl
        where
          p : Passes c st r
          p = passes c st r none

          asks_by : (m : Method) → r.method ≡ m → asks (session_in g event) (changes m) ≡ Some a
          asks_by m method = ap (λ x. asks (session_in g event) (changes x)) (sym method) ∙ f

          unmade_by : (m : Method) → r.method ≡ m → is_setup m ≡ false → Readings.made_by g event ≡ None
          unmade_by m method no_setup =
              ap (λ b. if b && names_none r.session then Some (new_at (unwrap_or (option_and_then (home_of_number g) r.stream) (next_made g draw.word)))
              else None) (ap is_setup method ∙ no_setup)

          unmade_named : names_none r.session ≡ false → Readings.made_by g event ≡ None
          unmade_named named = ap (λ b. if is_setup r.method && b
              then Some (new_at (unwrap_or (option_and_then (home_of_number g) r.stream) (next_made g draw.word))) else None) named ∙ never (is_setup r.method)
            where
              never : (b : Bool) → (if b && false then Some (new_at (unwrap_or (option_and_then (home_of_number g) r.stream) (next_made g draw.word)))
                  else None) ≡ None
              never true = refl
              never false = refl

          in_session : (b : Bool) → names_none r.session ≡ b → session_in g event ≡ (if b then Readings.made_by g event else named_in g r.session)
          in_session b named = ap (λ x. if x then Readings.made_by g event else named_in g r.session) named

          play : r.method ≡ Play → (b : Bool) → names_none r.session ≡ b → asks (if b then Readings.made_by g event else named_in g r.session) true ≡ Some a
              → IsAsked c st g entry a
          play method true named k = let no_one : asks None true ≡ Some a = ap (λ o. asks o true) (sym (unmade_by Play method refl)) ∙ k in cc
          play method false named k = named_asks acc p none (ap changes method) (unmade_by Play method refl) (named_in g r.session) refl
              (λ m s is lives found same. play_number m s method found same) k

          set_up : r.method ≡ Setup → (b : Bool) → names_none r.session ≡ b → asks (if b then Readings.made_by g event else named_in g r.session) true ≡ Some a
              → IsAsked c st g entry a
          set_up method true named k = setup_new acc p none method named k
          set_up method false named k = named_asks acc p none (ap changes method) (unmade_named named) (named_in g r.session) refl
              (λ m s is lives found same. setup_number_named acc p method named m is) k

          at : (m : Method) → r.method ≡ m → IsAsked c st g entry a
          at Options method = absurd (asks_none (session_in g event) (asks_by Options method))
          at Describe method = absurd (asks_none (session_in g event) (asks_by Describe method))
          at Teardown method = absurd (asks_none (session_in g event) (asks_by Teardown method))
          at Play method = play method (names_none r.session) refl (asks_by Play method)
          at Setup method = set_up method (names_none r.session) refl (asks_by Setup method)

      by : (b : Bool) → is_accepted answer ≡ b → (o : Option Refused) → decide c st r ≡ o → IsAsked c st g entry a
      by false acc o d = let no_one : asking g entry ≡ None = ap (λ b. if b then asks (session_in g event) (changes r.method) else None) acc in cc
      by true acc (Some x) d =
          let answer_is : answer ≡ (option_map_or (Steps.refuse r (heard_by r st)) (Some x) (done_by r.method c peer draw r (heard_by r st))).answer =
          answered ∙ ap (λ o. (option_map_or (Steps.refuse r (heard_by r st)) o (done_by r.method c peer draw r (heard_by r st))).answer) d in
          let not_acc : is_accepted answer ≡ false = ap is_accepted answer_is ∙ decided_refuses c st r x d in
          cc
      by true acc None d = accepted acc d (sym (ap (λ b. if b then asks (session_in g event) (changes r.method) else None) acc) ∙ e)

-- GET
pub get_asked : (c : Config) (st : State) (g : Readings) → Agrees c st g
    → (caller : ℕ) (peer : Peer) (draw : Draw) (r : HttpRequest) (answer : Answer) (out : Output) (a : Readings.Asking)
    → answer ≡ (step c st (Got peer draw r)).answer → asking g (item caller (Got peer draw r) answer out) ≡ Some a
    → IsAsked c st g (item caller (Got peer draw r) answer out) a
get_asked c st g agrees caller peer draw r answer out a answered e = by (is_accepted answer) refl (decide_get c st r) refl
  where
    id : SessionId
    id = next_made g draw.word

    new : Made
    new = record { id = id; http = true; home = id; draw = draw }

    by : (b : Bool) → is_accepted answer ≡ b → (o : Option Refused) → decide_get c st r ≡ o → IsAsked c st g (item caller (Got peer draw r) answer out) a
    by false acc o d = let no_one : asking g (item caller (Got peer draw r) answer out) ≡ None =
        ap (λ b. if b then Some (record { home = id; query = r.query }) else None) acc in cc
    by true acc (Some x) d =
        let answer_is : answer ≡ Get (GetRefused x.status) =
        answered ∙ ap (λ o. (option_map_or (λ refused. Steps.outcome (settle st) (Get (GetRefused refused.status)) (http_refusal refused.status refused.body)) o
        (Steps.start c peer draw r st)).answer) d in
        let not_acc : is_accepted answer ≡ false = ap is_accepted answer_is in
        cc
    by true acc None d =
        let asked : Some (record { home = id; query = r.query }) ≡ Some a =
        sym (ap (λ b. if b then Some (record { home = id; query = r.query }) else None) acc) ∙ e in
        let is : record { home = id; query = r.query } ≡ a = cc in
        subst (λ (x : Readings.Asking). IsAsked c st g (item caller (Got peer draw r) answer out) x) is (record {
          number = least_free st.streams;
          asked = ap (λ o. if is_none o then Some (record { number = least_free st.streams; query = r.query }) else None) d;
          read = number_new c st g agrees true draw ∙ ap (λ o. numbered g o id) (sym (ap (λ b. if b then Some new else None) acc));
          tuning = tuning_new c st g agrees id (omega arith);
        })

asks_never : (b : Bool) (a : Readings.Asking) → (if b then None else None) ≡ Some a → ⊥
asks_never true a e = cc
asks_never false a e = cc

event_asked : (c : Config) (st : State) (g : Readings) → Agrees c st g → (caller : ℕ) (event : Event) (answer : Answer) (out : Output) (a : Readings.Asking)
    → answer ≡ (step c st event).answer → asking g (item caller event answer out) ≡ Some a → IsAsked c st g (item caller event answer out) a
event_asked c st g agrees caller (Asked peer draw r) answer out a answered e = request_asked c st g agrees caller peer draw r answer out a answered e
event_asked c st g agrees caller (Got peer draw r) answer out a answered e = get_asked c st g agrees caller peer draw r answer out a answered e
event_asked c st g agrees caller (Tick now) answer out a answered e = absurd (asks_never (is_accepted answer) a e)
event_asked c st g agrees caller (Packet front tune packet) answer out a answered e = absurd (asks_never (is_accepted answer) a e)
event_asked c st g agrees caller (Ended front tune) answer out a answered e = absurd (asks_never (is_accepted answer) a e)
event_asked c st g agrees caller (Ask front) answer out a answered e = absurd (asks_never (is_accepted answer) a e)
event_asked c st g agrees caller (Pull id) answer out a answered e = absurd (asks_never (is_accepted answer) a e)
event_asked c st g agrees caller (Close id) answer out a answered e = absurd (asks_never (is_accepted answer) a e)
event_asked c st g agrees caller Stop answer out a answered e = absurd (asks_never (is_accepted answer) a e)

pub entry_asked : (c : Config) (st : State) (g : Readings) → Agrees c st g → (e : Item) (a : Readings.Asking) → e.answer ≡ (step c st e.event).answer
    → asking g e ≡ Some a → IsAsked c st g e a
entry_asked c st g agrees e a answered asks = event_asked c st g agrees e.caller e.event e.answer e.out a answered asks
