-- What is held leaves at a tick, and where a stream is retuned.
use Rattle.std.proofs.Common.{◌≡◌, ℕ, ◌==◌, ◌&&◌, not, nat_le, Bool, true, false, cond, List, [], ◌∷◌, ◌++◌, length, filter, find, Option, Some, None, is_none, is_some, refl, ap, sym, subst, ◌∙◌, if◌then◌else◌, unwrap_or, option_and_then}
use Rattle.std.specs.Option.{option_map_or}
use Rattle.std.proofs.lemmas.Bool.{and_parts, eqb-true, eq-eqb, not-true}
use Rattle.satip_fronts.specs.declared.choice.Place.{Place}
use Rattle.satip_fronts.specs.Choice.{choose}
use Rattle.satip_tune.specs.Frontends.{mux_for}
use Rattle.satip_rtsp.specs.declared.requests.Method.{Method}
use Rattle.satip_rtsp.specs.declared.requests.Method.TheVariants.{Options, Describe, Setup, Play, Teardown}
use Rattle.satip_http.specs.Heads.{http_refusal}
use Rattle.satip_plain.specs.declared.answers.Answer.TheVariants.{Get}
use Rattle.satip_plain.specs.declared.answers.GetAnswer.TheVariants.{Refused as GetRefused}
use Rattle.satip_plain.specs.declared.events.Event.{Event}
use Rattle.satip_plain.specs.declared.events.Event.TheVariants.{Request as Asked, Get as Got, Tick, Packet, Ended, Ask, Pull, Close, Stop}
use Rattle.satip_plain.specs.Types.{SessionId, Config, Peer, Draw, Ports, Query, Tuning, Request, HttpRequest}
use Rattle.satip_plain.specs.State.{Session, State, Stream, held}
use Rattle.satip_plain.specs.Sending.{Turn, Move, settle, each_of, let_go}
use Rattle.satip_plain.specs.Streams.{retune, put_at, to_set, change_by, outlook_of}
use Rattle.satip_plain.specs.Refusals.{Refused, session_missing, session_named, decide, decide_get}
use Rattle.satip_rtsp.specs.Methods.{names_none, changes}
use Rattle.satip_plain.specs.Steps
use Rattle.satip_plain.specs.Steps.{Outcome, step, is_session, change_session, hear, heard_by, set_up, join, found, no_ports, least_free, setup_number, done_by, play_of, end_where, tick, put_stream}
use Rattle.satip_plain.specs.Histories.{Item, opening, after_from, after}
use Rattle.satip_laws.specs.Flushes.{TickFlushes}
use Rattle.satip_laws.proofs.Retuning.{number_asked, tuning_of, sets_tuning, retunes, RetunedHoldNothing}
use Rattle.satip_laws.proofs.Ids.{look}
use Rattle.satip_laws.proofs.Told.{told, all_of}
use Rattle.satip_laws.proofs.Evolving.{Fine, Runs, Becomes}
use Rattle.satip_laws.proofs.Rounds.{round, after_of}
use Rattle.satip_laws.proofs.Turns.{quiet, some_turn, let_go_takes, lets_go, gone_by}
use Rattle.satip_laws.proofs.Moves.{IsSound, Goes, goes_change, goes_change_by, goes_flushed, goes_after_flush, flushed, after_flush, tick_clock, and_second, nothing}
use Rattle.satip_laws.proofs.Events.{adds_sound, goes_heard, named_heard, not_missing, moved_from, made_from_none, found_adds}
use Rattle.satip_laws.proofs.Over.{sound_after, opening_sound}
use Rattle.satip_laws.proofs.Single.{many, has_number, least_is_free}

-- the RTSP sessions of which p holds hold nothing
record IsEmpty (p : Session → Bool) (st : State) : Type 0 where
  none : (s : SessionId) (y : Session) → look s st.sessions ≡ Some y → y.http ≡ false → p y ≡ true → held y ≡ []

-- a round in which those of which p holds let go of all
flush_empties : (st : State) (p : Session → Bool) (clock : ℕ) → ((x : Session) → p x ≡ true → x.http ≡ false)
    → ((x : Session) → p (gone_by true x) ≡ p x) → IsSound st
    → IsEmpty p (each_of p (let_go true clock) st).state
flush_empties st p clock rtsp same sound = record { none = λ s y e http here. by s y (look s st.sessions) refl (sym (found s) ∙ e) here }
  where
    turn : Session → Turn
    turn x = if p x then let_go true clock x else record { sends = []; after = Some x }

    found : (s : SessionId) → look s (after_of turn st.sessions) ≡ option_and_then (λ x. (turn x).after) (look s st.sessions)
    found s = (round s turn (λ x. (some_turn p (let_go true clock) x (λ e. let_go_takes true clock x (rtsp x e))).own) st.sessions sound.apart).found

    at : (s : SessionId) (x y : Session) → Fine x → (b : Bool) → p x ≡ b
        → (if b then let_go true clock x else record { sends = []; after = Some x }).after ≡ Some y → p y ≡ true → held y ≡ []
    at s x y fine true e f here = let same : gone_by true x ≡ y = cc in ap held (sym same) ∙ (lets_go true x fine.within).none refl
    at s x y fine false e f here = let same : x ≡ y = cc in let no_one : p x ≡ true = ap p same ∙ here in cc

    by : (s : SessionId) (y : Session) (o : Option Session) → look s st.sessions ≡ o → option_and_then (λ x. (turn x).after) o ≡ Some y
        → p y ≡ true → held y ≡ []
    by s y None e f here = cc
    by s y (Some x) e f here = at s x y (sound.fine s x e) (p x) refl f here

-- who holds nothing holds nothing after a move that gives nothing
empty_append : (a b : List (List ℕ)) → a ++ b ≡ [] → b ≡ []
empty_append [] b e = e
empty_append (x ∷ a) b e = cc

still_empty : (x y : Session) (groups : List (List (List ℕ))) → Becomes x [] groups y → Fine x → held x ≡ [] → held y ≡ []
still_empty x y groups becomes fine none = empty_append (all_of groups) (held y) (sym (becomes.whole fine) ∙ (rw none refl))

stays_empty : (p : Session → Bool) (st : State) (m : Move) → ((x y : Session) → y.http ≡ x.http → y.stream ≡ x.stream → p y ≡ p x) → IsSound st → IsEmpty p st
    → Goes st m nothing nothing → IsEmpty p m.state
stays_empty p st m same sound empty goes =
    record { none = λ s y e http here. by s y (look s st.sessions) (look s m.state.sessions) refl e (goes.runs s) http here }
  where
    by : (s : SessionId) (y : Session) (o o' : Option Session) → look s st.sessions ≡ o → o' ≡ Some y → Runs o (told s m.sent) [] [] o' → y.http ≡ false
        → p y ≡ true → held y ≡ []
    by s y None o' e f run http here = cc
    by s y (Some x) None e f run http here = cc
    by s y (Some x) (Some z) e f run http here =
        let same_y : z ≡ y = cc in
        let becomes : Becomes x [] run.groups z = run.follows in
        let http_x : x.http ≡ false = sym becomes.kept.http ∙ ap (λ w. w.http) same_y ∙ http in
        let here_x : p x ≡ true = sym (same x z becomes.kept.http becomes.kept.stream) ∙ ap p same_y ∙ here in
        ap held (sym same_y) ∙ still_empty x z run.groups becomes (sound.fine s x e) (empty.none s x e http_x here_x)

-- a tick

tick_empties : (c : Config) (now : ℕ) (st : State) → IsSound st → IsEmpty (λ s. not s.http) (tick c now st).state
tick_empties c now st sound =
    let first : State = (flushed (tick_clock now st) st).state in
    let goes = goes_flushed (tick_clock now st) st sound in
    let sound1 : IsSound (record st { clock = tick_clock now st }) =
    record { apart = sound.apart; below = sound.below; single = sound.single; fine = sound.fine } in
    stays_empty (λ s. not s.http) first (after_flush c first) (λ x y http stream. ap not http) goes.sound
    (flush_empties (record st { clock = tick_clock now st }) (λ s. not s.http) (tick_clock now st) (λ x e. not-true x.http e) (λ x. refl) sound1)
    (goes_after_flush c first goes.sound)

after_more : (c : Config) (h : List Item) (e : Item) (st : State) → after_from c st (h ++ e ∷ []) ≡ (step c (after_from c st h) e.event).state
after_more c [] e st = refl
after_more c (x ∷ h) e st = after_more c h e (step c st x.event).state

pub tick_flushes : TickFlushes
tick_flushes c h e now s y tick found http =
    let st : State = after c h in
    let sound : IsSound st = sound_after c.config h (opening c) (opening_sound c) in
    let there : look s (step c.config st (Tick now)).state.sessions ≡ Some y = rw (after_more c.config h e (opening c), tick) at found in
    (tick_empties c.config now st sound).none s y there http (rw http refl)

-- a stream that is retuned

abbrev of_stream : ℕ → Session → Bool
of_stream number s = s.stream == number && not s.http

retune_empties : (c : Config) (number : ℕ) (st : State) (tuning : Tuning) → IsSound st → IsEmpty (of_stream number) (retune c number st tuning).state
retune_empties c number st tuning sound =
    let m : Move = each_of (of_stream number) (let_go true st.clock) st in
    placed m.state (flush_empties st (of_stream number) st.clock (λ x e. not-true x.http (and_second (x.stream == number) (not x.http) e)) (λ x. refl) sound)
    (choose (outlook_of c m.state number) (mux_for c.muxes tuning) tuning)
  where
    placed : (now : State) → IsEmpty (of_stream number) now → (o : Option Place) → IsEmpty (of_stream number) (option_map_or (put_at c number tuning now) o now)
    placed now empty None = empty
    placed now empty (Some place) = record { none = empty.none }

change_empties : (c : Config) (number : ℕ) (query : Query) (st : State) → IsSound st → is_some (to_set (tuning_of st number) query.change) ≡ true
    → IsEmpty (of_stream number) (change_by c number query st).state
change_empties c number query st sound some = record { none = (by (to_set (tuning_of st number) query.change) some).none }
  where
    by : (o : Option Tuning) → is_some o ≡ true → IsEmpty (of_stream number) (option_map_or (retune c number st) o (settle st)).state
    by None e = cc
    by (Some tuning) e = retune_empties c number st tuning sound

-- the sessions change nothing of the streams' tunings

heard_streams : (r : Request) (st : State) → (heard_by r st).streams ≡ st.streams
heard_streams r st = at (session_named st r.session)
  where
    named : (x : Session) (b : Bool) → (if b then hear x.id st else st).streams ≡ st.streams
    named x true = refl
    named x false = refl

    at : (o : Option Session) → (option_map_or (λ x. if is_none r.refusal then hear x.id st else st) o st).streams ≡ st.streams
    at None = refl
    at (Some x) = named x (is_none r.refusal)

pub none_of : (n : ℕ) (ts : List Stream) → many n ts ≡ 0 → find (λ t. t.number == n) ts ≡ None
none_of n [] e = refl
none_of n (t ∷ ts) e = by (t.number == n) e (λ f. none_of n ts f)
  where
    by : (b : Bool) → length (cond b (t ∷ filter (has_number n) ts) (filter (has_number n) ts)) ≡ 0 → (many n ts ≡ 0 → find (λ t. t.number == n) ts ≡ None)
        → (if b then Some t else find (λ t. t.number == n) ts) ≡ None
    by true f rest = cc
    by false f rest = rest f

-- a new stream of a free number is found behind any others
new_found : (n : ℕ) (new : Stream) (p : Stream → Bool) (ts us : List Stream) → new.number ≡ n → many n ts ≡ 0
    → find (λ t. t.number == n) (filter p ts ++ new ∷ us) ≡ Some new
new_found n new p [] us e none = rw (e, eq-eqb n n refl) refl
new_found n new p (t ∷ ts) us e none = by (t.number == n) refl none (λ f. new_found n new p ts us e f)
  where
    by : (b : Bool) → (t.number == n) ≡ b → length (cond b (t ∷ filter (has_number n) ts) (filter (has_number n) ts)) ≡ 0
        → (many n ts ≡ 0 → find (λ t. t.number == n) (filter p ts ++ new ∷ us) ≡ Some new)
        → find (λ t. t.number == n) (filter p (t ∷ ts) ++ new ∷ us) ≡ Some new
    by true f none rest = cc
    by false f none rest = at (p t) (rest none)
      where
        at : (b : Bool) → find (λ t. t.number == n) (filter p ts ++ new ∷ us) ≡ Some new
            → find (λ t. t.number == n) (cond b (t ∷ filter p ts) (filter p ts) ++ new ∷ us) ≡ Some new
        at true g = rw f g
        at false g = g

-- a founded stream has no tuning, before and after
tuning_founded : (http : Bool) (peer : Peer) (draw : Draw) (ports : Ports) (st : State)
    → tuning_of (found http peer draw ports st) (least_free st.streams) ≡ tuning_of st (least_free st.streams)
tuning_founded http peer draw ports st =
    let n : ℕ = least_free st.streams in
    ap (λ o. option_and_then (λ t. t.tuning) o)
    (new_found n _ (λ t. nat_le t.number n) st.streams (filter (λ t. not (nat_le t.number n)) st.streams) refl (least_is_free st.streams))
    ∙ sym (ap (λ o. option_and_then (λ t. t.tuning) o) (none_of n st.streams (least_is_free st.streams)))

tuning_set_up : (peer : Peer) (draw : Draw) (ports : Ports) (r : Request) (st : State)
    → tuning_of (set_up peer draw ports r st) (setup_number r st) ≡ tuning_of st (setup_number r st)
tuning_set_up peer draw ports r st = at (session_named st r.session)
  where
    by : (o : Option ℕ) → tuning_of (option_map_or (λ number. join false peer draw ports number st) o (found false peer draw ports st))
        (unwrap_or o (least_free st.streams)) ≡ tuning_of st (unwrap_or o (least_free st.streams))
    by None = tuning_founded false peer draw ports st
    by (Some number) = refl

    at : (o : Option Session) → tuning_of (option_map_or (λ s. change_session s.id (λ x. record x { peer = peer; ports = ports }) st) o
        (option_map_or (λ number. join false peer draw ports number st) r.stream (found false peer draw ports st))) (setup_number r st)
        ≡ tuning_of st (setup_number r st)
    at None = by r.stream
    at (Some s) = refl

sound_set_up : (peer : Peer) (draw : Draw) (ports : Ports) (r : Request) (st : State) → IsSound st → IsSound (set_up peer draw ports r st)
sound_set_up peer draw ports r st sound = at (session_named st r.session) refl
  where
    at : (o : Option Session) → session_named st r.session ≡ o → IsSound (set_up peer draw ports r st)
    at None e = adds_sound st (set_up peer draw ports r st) _ sound (made_from_none peer draw ports r st sound e)
    at (Some s) e = (moved_from peer draw ports r st sound (rw e refl)).sound

-- what an accepted event leaves at a stream that it retunes

abbrev EmptyAt : ℕ → State → Type 0
EmptyAt n st = IsEmpty (of_stream n) st

setup_empties : (c : Config) (peer : Peer) (draw : Draw) (r : Request) (st : State) (n : ℕ) → IsSound st → setup_number r st ≡ n
    → is_some (to_set (tuning_of st n) r.query.change) ≡ true
    → EmptyAt n (Steps.setup c peer draw r st).state
setup_empties c peer draw r st n sound same some =
    let ports : Ports = unwrap_or r.ports no_ports in
    let start : State = set_up peer draw ports r st in
    let tuning : tuning_of start (setup_number r st) ≡ tuning_of st (setup_number r st) = tuning_set_up peer draw ports r st in
    subst (λ (k : ℕ). EmptyAt k (Steps.setup c peer draw r st).state) same
    (change_empties c (setup_number r st) r.query start (sound_set_up peer draw ports r st sound) (rw (tuning, same) some))

play_empties : (c : Config) (r : Request) (st : State) (s : Session) (n : ℕ) → IsSound st → s.stream ≡ n
    → is_some (to_set (tuning_of st n) r.query.change) ≡ true → EmptyAt n (play_of c r st s).state
play_empties c r st s n sound same some =
    let m : Move = change_by c s.stream r.query st in
    let goes = goes_change_by c s.stream r.query st sound in
    let empty : EmptyAt n m.state = subst (λ (k : ℕ). EmptyAt k m.state) same (change_empties c s.stream r.query st sound (rw same some)) in
    stays_empty (of_stream n) m.state (settle (change_session s.id (λ x. record x { playing = true }) m.state)) (λ x y http stream. rw (http, stream) refl)
    goes.sound empty
    (goes_change m.state s.id (λ x. record x { playing = true })
    (λ x. quiet x (record x { playing = true }) (record { id = refl; http = refl; stream = refl; ssrc = refl; first = refl }) refl refl) goes.sound)

-- what is known of an event that retunes a stream
request_empties : (c : Config) (peer : Peer) (draw : Draw) (r : Request) (st : State) (n : ℕ) → IsSound st → retunes c st (Asked peer draw r) n ≡ true
    → EmptyAt n (step c st (Asked peer draw r)).state
request_empties c peer draw r st n sound e = at (decide c st r) refl e
  where
    heard : State
    heard = heard_by r st

    sound1 : IsSound heard
    sound1 = (goes_heard r st sound).sound

    tuning : tuning_of heard n ≡ tuning_of st n
    tuning = ap (λ ts. option_and_then (λ t. t.tuning) (find (λ t. t.number == n) ts)) (heard_streams r st)

    number : setup_number r heard ≡ setup_number r st
    number = ap (λ ts. unwrap_or r.stream (least_free ts)) (heard_streams r st)

    by : (m : Method) → r.method ≡ m → session_missing st r ≡ false
        → option_map_or (sets_tuning st n) (if changes m && true then Some (record { number = number_asked m st r; query = r.query }) else None) false ≡ true
        → EmptyAt n (done_by m c peer draw r heard).state
    by Options method missing f = cc
    by Describe method missing f = cc
    by Teardown method missing f = cc
    by Setup method missing f =
        let parts = and_parts (setup_number r st == n) (is_some (to_set (tuning_of st n) r.query.change)) f in
        setup_empties c peer draw r heard n sound1 (number ∙ eqb-true (setup_number r st) n parts.0) (rw tuning parts.1)
    by Play method missing f =
        let parts = and_parts (number_asked Play st r == n) (is_some (to_set (tuning_of st n) r.query.change)) f in
        played (session_named st r.session) refl (eqb-true (number_asked Play st r) n parts.0) (rw tuning parts.1)
      where
        played : (o : Option Session) → session_named st r.session ≡ o → option_map_or (λ s. s.stream) o 0 ≡ n
            → is_some (to_set (tuning_of heard n) r.query.change) ≡ true → EmptyAt n (done_by Play c peer draw r heard).state
        played None g same some = absent (names_none r.session) (rw (method, g) at missing)
          where
            absent : (b : Bool) → (if b then true else true) ≡ false → EmptyAt n (done_by Play c peer draw r heard).state
            absent true f = cc
            absent false f = cc
        played (Some x) g same some =
            let still = named_heard st r x g in
            rw still.1 (play_empties c r heard still.0 n sound1 (still.2 ∙ same) some)

    at : (o : Option Refused) → decide c st r ≡ o
        → option_map_or (sets_tuning st n) (if changes r.method && is_none o then Some (record { number = number_asked r.method st r; query = r.query })
        else None) false ≡ true
        → EmptyAt n (option_map_or (Steps.refuse r heard) o (done_by r.method c peer draw r heard)).state
    at None g f = by r.method refl (not_missing c st r g) f
    at (Some x) g f = never (changes r.method) f
      where
        never : (b : Bool) → option_map_or (sets_tuning st n)
            (if b && false then Some (record { number = number_asked r.method st r; query = r.query }) else None) false ≡ true
            → EmptyAt n (Steps.refuse r heard x).state
        never true g = cc
        never false g = cc

get_empties : (c : Config) (peer : Peer) (draw : Draw) (r : HttpRequest) (st : State) (n : ℕ) → IsSound st → retunes c st (Got peer draw r) n ≡ true
    → EmptyAt n (step c st (Got peer draw r)).state
get_empties c peer draw r st n sound e = at (decide_get c st r) e
  where
    start : State
    start = found true peer draw no_ports st

    at : (o : Option Refused) → option_map_or (sets_tuning st n)
        (if is_none o then Some (record { number = least_free st.streams; query = r.query }) else None) false ≡ true
        → EmptyAt n (option_map_or (λ refused. Steps.outcome (settle st) (Get (GetRefused refused.status)) (http_refusal refused.status refused.body)) o
        (Steps.start c peer draw r st)).state
    at None f =
        let parts = and_parts (least_free st.streams == n) (is_some (to_set (tuning_of st n) r.query.change)) f in
        let same : least_free st.streams ≡ n = eqb-true (least_free st.streams) n parts.0 in
        subst (λ (k : ℕ). EmptyAt k (Steps.start c peer draw r st).state) same
        (change_empties c (least_free st.streams) r.query start (adds_sound st start _ sound (found_adds true peer draw no_ports st sound))
        (rw (tuning_founded true peer draw no_ports st, same) parts.1))
    at (Some x) f = cc

event_empties : (c : Config) (st : State) (e : Event) (n : ℕ) → IsSound st → retunes c st e n ≡ true → EmptyAt n (step c st e).state
event_empties c st (Asked peer draw r) n sound e = request_empties c peer draw r st n sound e
event_empties c st (Got peer draw r) n sound e = get_empties c peer draw r st n sound e
event_empties c st (Tick now) n sound e = cc
event_empties c st (Packet front tune packet) n sound e = cc
event_empties c st (Ended front tune) n sound e = cc
event_empties c st (Ask front) n sound e = cc
event_empties c st (Pull id) n sound e = cc
event_empties c st (Close id) n sound e = cc
event_empties c st Stop n sound e = cc

pub retuned_hold_nothing : RetunedHoldNothing
retuned_hold_nothing c h e s y found http anew =
    let st : State = after c h in
    let sound : IsSound st = sound_after c.config h (opening c) (opening_sound c) in
    let there : look s (step c.config st e.event).state.sessions ≡ Some y = rw (after_more c.config h e (opening c)) at found in
    (event_empties c.config st e.event y.stream sound anew).none s y there http (rw (http, eq-eqb y.stream y.stream refl) refl)
