-- Each event's datagrams go where the last SETUPs say, its own among them.
use Rattle.std.proofs.Common.{◌≡◌, ◌∙◌, ℕ, ◌+◌, ◌≤◌, ◌&&◌, not, Bool, true, false, List, [], ◌∷◌, ◌++◌, length, find, Option, Some, None, append-nil, append_assoc, arith, refl, sym, ap, subst, if◌then◌else◌, is_none, unwrap_or, option_map, inl, inr}
use Rattle.std.specs.Prelude.{take}
use Rattle.std.specs.Option.{option_map_or}
use Rattle.std.proofs.lemmas.Bool.{true≢false, and_parts}
use Rattle.satip_plain.proofs.SameIds.{same_id_is}
use Rattle.satip_base.specs.Lists.{Each, Has}
use Rattle.satip_base.proofs.Elements.{Each-append, Has-append_left, each_follows}
use Rattle.satip_http.specs.Heads.{http_refusal}
use Rattle.satip_rtsp.specs.declared.requests.Method.{Method}
use Rattle.satip_rtsp.specs.declared.requests.Method.TheVariants.{Options, Describe, Setup, Play, Teardown}
use Rattle.satip_rtsp.specs.declared.requests.SessionName.{SessionName}
use Rattle.satip_rtsp.specs.declared.requests.SessionName.TheVariants.{Absent, Named, Other}
use Rattle.satip_plain.specs.declared.answers.Answer.{Answer}
use Rattle.satip_plain.specs.declared.answers.Answer.TheVariants.{Get, Pulled, Closed}
use Rattle.satip_plain.specs.declared.answers.GetAnswer.TheVariants.{Refused as GetRefused}
use Rattle.satip_plain.specs.declared.answers.Pulled.TheVariants.{Gone as PulledGone}
use Rattle.satip_plain.specs.declared.answers.Closed.TheVariants.{Yes, Gone as ClosedGone}
use Rattle.satip_plain.specs.declared.events.Event.{Event}
use Rattle.satip_plain.specs.declared.events.Event.TheVariants.{Request as Asked, Get as Got, Tick, Packet, Ended, Ask, Pull, Close, Stop}
use Rattle.satip_plain.specs.declared.setting.Setting.{Setting}
use Rattle.satip_plain.specs.Types.{SessionId, Address, Config, Draw, HttpRequest, Peer, Ports, Request}
use Rattle.satip_plain.specs.State.{Session, State, held, http_session, same_id}
use Rattle.satip_plain.specs.Sending.{Move, Sent, Rtp, Report, settle}
use Rattle.satip_plain.specs.Streams.{change_by}
use Rattle.satip_plain.specs.Refusals.{Refused, decide, decide_get, session_missing, session_named}
use Rattle.satip_rtsp.specs.Methods.{is_setup, names_none, needs_session}
use Rattle.satip_plain.specs.Steps
use Rattle.satip_plain.specs.Steps.{Outcome, change_session, deliver, done_by, end_where, found, hear, heard_by, is_current, is_session, join, least_free, new_session, next_id, no_ports, on_close, on_get, on_packet, on_pull, on_request, play_of, pull_some, set_up, setup_number, start, step, teardown_of}
use Rattle.satip_plain.specs.Histories.{Item, LegalFrom, after_from, opening}
use Rattle.satip_plain.specs.Packets.{sent_from}
use Rattle.satip_plain.specs.Values.{IsEvent}
use Rattle.satip_plain.specs.Readings.{Readings, is_accepted, next_made, nothing_read, read_from, read_one}
use Rattle.satip_laws.proofs.Agree.{Agrees}
use Rattle.satip_laws.proofs.Deciding.{decided_refuses}
use Rattle.satip_laws.proofs.Law.{agrees_opening}
use Rattle.satip_laws.proofs.Steps.{agrees_step}
use Rattle.satip_laws.proofs.Events.{a_step, named_heard, not_missing}
use Rattle.satip_laws.proofs.Ids.{Below, id_same}
use Rattle.satip_laws.proofs.Moves.{IsSound}
use Rattle.satip_laws.proofs.Over.{opening_sound}
use Rattle.satip_laws.specs.Targets.Targets.{DatagramsGoToLast, DatagramsGoToOne, GoesToLast, GoesToOne, GoesWhere, SetUp, last_of, later_or, rtcp_address, rtp_address, session_of, set_up_by, set_up_in, set_ups_from}
use Rattle.satip_laws.proofs.TargetsLemmas.Landing.{Grounded, IsGrounded, Lands, grounded_change, grounded_moved, lands_change_by, lands_deliver, lands_end, lands_still, lands_then, lands_tick}

-- one more SETUP

later_none : (o : Option SetUp) → later_or None o ≡ o
later_none o = refl

last_push : (s : SessionId) (us : List SetUp) (u : SetUp) → last_of s (us ++ u ∷ []) ≡ (if same_id u.session s then Some u else last_of s us)
last_push s [] u = refl
last_push s (v ∷ vs) u = ap (λ o. later_or o (if same_id v.session s then Some v else None)) (last_push s vs u) ∙ by (same_id u.session s)
  where
    by : (b : Bool) → later_or (if b then Some u else last_of s vs) (if same_id v.session s then Some v else None)
        ≡ (if b then Some u else later_or (last_of s vs) (if same_id v.session s then Some v else None))
    by true = refl
    by false = refl

last_this : (s : SessionId) (us : List SetUp) (u : SetUp) → u.session ≡ s → last_of s (us ++ u ∷ []) ≡ Some u
last_this s us u is = last_push s us u ∙ ap (λ b. if b then Some u else last_of s us) (ap (λ i. same_id i s) is ∙ id_same s)

last_other : (s : SessionId) (us : List SetUp) (u : SetUp) → same_id u.session s ≡ false → last_of s (us ++ u ∷ []) ≡ last_of s us
last_other s us u is = last_push s us u ∙ ap (λ b. if b then Some u else last_of s us) is

other_way : (a b : SessionId) → same_id a b ≡ false → same_id b a ≡ false
other_way a b differ = by (same_id b a) refl
  where
    by : (t : Bool) → same_id b a ≡ t → t ≡ false
    by true e = absurd (true≢false (sym (ap (λ i. same_id a i) (same_id_is b a e) ∙ id_same a) ∙ differ))
    by false e = refl

-- the session of a SETUP

heard_grounded : (us : List SetUp) (r : Request) (st : State) → Grounded us st → Grounded us (heard_by r st)
heard_grounded us r st grounded = at (session_named st r.session)
  where
    named : (x : Session) (b : Bool) → Grounded us (if b then hear x.id st else st)
    named x true = grounded_change us (is_session x.id) (λ s. record s { heard = st.clock }) st.sessions (λ y is. is) grounded
    named x false = grounded

    at : (o : Option Session) → Grounded us (option_map_or (λ x. if is_none r.refusal then hear x.id st else st) o st)
    at None = grounded
    at (Some x) = named x (is_none r.refusal)

heard_none : (r : Request) (st : State) → session_named st r.session ≡ None → heard_by r st ≡ st
heard_none r st e = rw e refl

-- a session that is named has the id
rtsp_id : (id : SessionId) (xs : List Session) (x : Session) → find (λ s. same_id s.id id && not s.http) xs ≡ Some x → x.id ≡ id
rtsp_id id [] x e = cc
rtsp_id id (y ∷ ys) x e = by (same_id y.id id && not y.http) refl e (λ f. rtsp_id id ys x f)
  where
    by : (b : Bool) → (same_id y.id id && not y.http) ≡ b → (if b then Some y else find (λ s. same_id s.id id && not s.http) ys) ≡ Some x
        → (find (λ s. same_id s.id id && not s.http) ys ≡ Some x → x.id ≡ id) → x.id ≡ id
    by true e f rest = ap (λ o. (unwrap_or o y).id) (sym f) ∙ same_id_is y.id id (and_parts (same_id y.id id) (not y.http) e).0
    by false e f rest = rest f

named_id : (st : State) (g : Readings) (draw : Draw) (n : SessionName) (x : Session) → session_named st n ≡ Some x → session_of g draw n ≡ x.id
named_id st g draw Absent x e = cc
named_id st g draw (Named id) x e = sym (rtsp_id id st.sessions x e)
named_id st g draw Other x e = cc

none_of : (g : Readings) (draw : Draw) (n : SessionName) → names_none n ≡ true → session_of g draw n ≡ next_made g draw.word
none_of g draw Absent e = refl
none_of g draw (Named id) e = cc
none_of g draw Other e = cc

next_same : (st : State) (g : Readings) (draw : Draw) → st.made ≡ length g.made → next_made g draw.word ≡ next_id st draw
next_same st g draw e = let with_count : ℕ → SessionId = λ n. record { count = n + 1; word = draw.word } in ap with_count (sym e)

-- sessions made before have other ids than the next
next_other : (st : State) (draw : Draw) (x : Session) → x.id.count ≤ st.made → same_id (next_id st draw) x.id ≡ false
next_other st draw x few = by (same_id (next_id st draw) x.id) refl
  where
    by : (t : Bool) → same_id (next_id st draw) x.id ≡ t → t ≡ false
    by true e = let same : st.made + 1 ≡ x.id.count = ap (λ i. i.count) (same_id_is (next_id st draw) x.id e) in absurd (omega (arith, same, few))
    by false e = refl

still_grounded : (us : List SetUp) (u : SetUp) (st : State) (draw : Draw) → u.session ≡ next_id st draw → (xs : List Session) → Below st.made xs
    → Each (IsGrounded us) xs
    → Each (IsGrounded (us ++ u ∷ [])) xs
still_grounded us u st draw is [] below grounded = tt
still_grounded us u st draw is (x ∷ xs) below grounded = (
  λ rtsp. last_other x.id us u (ap (λ i. same_id i x.id) is ∙ next_other st draw x below.0) ∙ grounded.0 rtsp,
  still_grounded us u st draw is xs below.1 grounded.1,
)

-- a SETUP that names no session makes one
made_grounded : (us : List SetUp) (u : SetUp) (peer : Peer) (draw : Draw) (ports : Ports) (r : Request) (st : State) → Below st.made st.sessions
    → Grounded us st
    → session_named st r.session ≡ None → u ≡ record { session = next_id st draw; peer = peer; ports = ports } → Grounded (us ++ u ∷ [])
    (set_up peer draw ports r st)
made_grounded us u peer draw ports r st below grounded none is =
    subst (λ o. Grounded (us ++ u ∷ []) (option_map_or (λ s. change_session s.id (λ x. record x { peer = peer; ports = ports }) st) o
    (option_map_or (λ number. join false peer draw ports number st) r.stream (found false peer draw ports st)))) (sym none) (by r.stream)
  where
    session : u.session ≡ next_id st draw
    session = ap (λ (v : SetUp). v.session) is

    new : (number : ℕ) → Each (IsGrounded (us ++ u ∷ [])) (st.sessions ++ new_session st false peer draw ports number ∷ [])
    new number =
        Each-append (IsGrounded (us ++ u ∷ [])) st.sessions (new_session st false peer draw ports number ∷ [])
        (still_grounded us u st draw session st.sessions below grounded)
        ((λ rtsp. last_this (next_id st draw) us u session ∙ ap (λ (v : SetUp). Some v) is), tt)

    by : (o : Option ℕ) → Grounded (us ++ u ∷ []) (option_map_or (λ number. join false peer draw ports number st) o (found false peer draw ports st))
    by None = new (least_free st.streams)
    by (Some number) = new number

-- a SETUP that names one moves it
moved_grounded : (us : List SetUp) (u : SetUp) (peer : Peer) (draw : Draw) (ports : Ports) (r : Request) (st : State) (s : Session) → Grounded us st
    → session_named st r.session ≡ Some s → u ≡ record { session = s.id; peer = peer; ports = ports } → Grounded (us ++ u ∷ []) (set_up peer draw ports r st)
moved_grounded us u peer draw ports r st s grounded named is =
    subst (λ o. Grounded (us ++ u ∷ []) (option_map_or (λ s. change_session s.id (λ x. record x { peer = peer; ports = ports }) st) o
    (option_map_or (λ number. join false peer draw ports number st) r.stream (found false peer draw ports st)))) (sym named)
    (grounded_moved us (us ++ u ∷ []) (is_session s.id) (λ x. record x { peer = peer; ports = ports }) st.sessions on off grounded)
  where
    session : u.session ≡ s.id
    session = ap (λ (v : SetUp). v.session) is

    on : (x : Session) → is_session s.id x ≡ true → IsGrounded (us ++ u ∷ []) (record x { peer = peer; ports = ports })
    on x e =
        let same : x.id ≡ s.id = same_id_is x.id s.id e in
        let placed : SessionId → SetUp = λ i. record { session = i; peer = peer; ports = ports } in
        λ rtsp. last_this x.id us u (session ∙ sym same) ∙ ap (λ (v : SetUp). Some v) (is ∙ ap placed (sym same))

    off : (x : Session) → is_session s.id x ≡ false → IsGrounded us x → IsGrounded (us ++ u ∷ []) x
    off x e old = λ rtsp. last_other x.id us u (ap (λ i. same_id i x.id) session ∙ other_way x.id s.id e) ∙ old rtsp

-- events

pub record StepLands (us : List SetUp) (o : Outcome) : Type 0 where
  pub state : Grounded us o.state
  pub sent : Each (GoesToLast us) o.sent

moves : (us : List SetUp) (m : Move) (answer : Answer) (reply : List ℕ) → Lands us m → StepLands us (Steps.outcome m answer reply)
moves us m answer reply lands = record { state = lands.state; sent = lands.sent }

setup_lands : (us : List SetUp) (c : Config) (peer : Peer) (draw : Draw) (r : Request) (st : State) (g : Readings) → Below st.made st.sessions
    → st.made ≡ length g.made
    → Grounded us st → session_missing st r ≡ false → needs_session r.method ≡ false
    → StepLands (us ++ record { session = session_of g draw r.session; peer = peer; ports = unwrap_or r.ports no_ports } ∷ [])
    (Steps.setup c peer draw r (heard_by r st))
setup_lands us c peer draw r st g below count grounded missing needs = at (session_named st r.session) refl
  where
    ports : Ports
    ports = unwrap_or r.ports no_ports

    u : SetUp
    u = record { session = session_of g draw r.session; peer = peer; ports = unwrap_or r.ports no_ports }

    then_changes : Grounded (us ++ u ∷ []) (set_up peer draw ports r (heard_by r st)) → StepLands (us ++ u ∷ []) (Steps.setup c peer draw r (heard_by r st))
    then_changes now =
        let lands = lands_change_by (us ++ u ∷ []) c (setup_number r (heard_by r st)) r.query (set_up peer draw ports r (heard_by r st)) now in
        record { state = lands.state; sent = lands.sent }

    with_session : SessionId → SetUp
    with_session i = record { session = i; peer = peer; ports = ports }

    no_name : (b : Bool) → names_none r.session ≡ b → session_named st r.session ≡ None
        → (if b then needs_session r.method else is_none (session_named st r.session)) ≡ false → names_none r.session ≡ true
    no_name true e none f = e
    no_name false e none f = absurd (true≢false (sym (ap is_none none) ∙ f))

    at : (o : Option Session) → session_named st r.session ≡ o → StepLands (us ++ u ∷ []) (Steps.setup c peer draw r (heard_by r st))
    at None e =
        let absent : names_none r.session ≡ true = no_name (names_none r.session) refl e missing in
        let id : session_of g draw r.session ≡ next_id st draw = none_of g draw r.session absent ∙ next_same st g draw count in
        let same : heard_by r st ≡ st = heard_none r st e in
        then_changes (subst (λ now. Grounded (us ++ u ∷ []) (set_up peer draw ports r now)) (sym same)
        (made_grounded us u peer draw ports r st below grounded e (ap with_session id)))
    at (Some x) e =
        let still = named_heard st r x e in
        then_changes (moved_grounded us u peer draw ports r (heard_by r st) still.0 (heard_grounded us r st grounded) still.1
        (ap with_session (named_id (heard_by r st) g draw r.session still.0 still.1)))

play_lands : (us : List SetUp) (c : Config) (r : Request) (st : State) (s : Session) → Grounded us st → StepLands us (play_of c r st s)
play_lands us c r st s grounded =
    let lands = lands_then us (change_by c s.stream r.query st) (λ now. settle (change_session s.id (λ x. record x { playing = true }) now))
    (lands_change_by us c s.stream r.query st grounded)
    (λ now g. lands_still us (change_session s.id (λ x. record x { playing = true }) now)
    (grounded_change us (is_session s.id) (λ x. record x { playing = true }) now.sessions (λ y is. is) g)) in
    record { state = lands.state; sent = lands.sent }

-- what an accepted request is of setting up
abbrev setup_if : Bool → SetUp → List SetUp
setup_if b u = if b then u ∷ [] else []

stays : (us : List SetUp) (st : State) (answer : Answer) (reply : List ℕ) → Grounded us st → StepLands (us ++ []) (Steps.outcome (settle st) answer reply)
stays us st answer reply grounded = subst (λ (vs : List SetUp). StepLands vs (Steps.outcome (settle st) answer reply)) (sym (append-nil us))
    (record { state = grounded; sent = tt })

done_lands : (m : Method) (us : List SetUp) (c : Config) (peer : Peer) (draw : Draw) (r : Request) (st : State) (g : Readings) → Below st.made st.sessions
    → st.made ≡ length g.made
    → Grounded us st → session_missing st r ≡ false → r.method ≡ m
    → StepLands (us ++ setup_if (is_setup m) (record { session = session_of g draw r.session; peer = peer; ports = unwrap_or r.ports no_ports }))
    (done_by m c peer draw r (heard_by r st))
done_lands Options us c peer draw r st g below count grounded missing is = stays us (heard_by r st) _ _ (heard_grounded us r st grounded)
done_lands Describe us c peer draw r st g below count grounded missing is = stays us (heard_by r st) _ _ (heard_grounded us r st grounded)
done_lands Setup us c peer draw r st g below count grounded missing is = setup_lands us c peer draw r st g below count grounded missing (ap needs_session is)
done_lands Play us c peer draw r st g below count grounded missing is =
    subst (λ (vs : List SetUp). StepLands vs (done_by Play c peer draw r (heard_by r st))) (sym (append-nil us)) (at (session_named (heard_by r st) r.session))
  where
    at : (o : Option Session) → StepLands us (option_map_or (play_of c r (heard_by r st)) o (Steps.accepted (settle (heard_by r st)) []))
    at None = record { state = heard_grounded us r st grounded; sent = tt }
    at (Some x) = play_lands us c r (heard_by r st) x (heard_grounded us r st grounded)
done_lands Teardown us c peer draw r st g below count grounded missing is =
    subst (λ (vs : List SetUp). StepLands vs (done_by Teardown c peer draw r (heard_by r st))) (sym (append-nil us))
    (at (session_named (heard_by r st) r.session))
  where
    at : (o : Option Session) → StepLands us (option_map_or (teardown_of r (heard_by r st)) o (Steps.accepted (settle (heard_by r st)) []))
    at None = record { state = heard_grounded us r st grounded; sent = tt }
    at (Some x) =
        let lands = lands_end us (heard_by r st) (is_session x.id) (heard_grounded us r st grounded) in
        record { state = lands.state; sent = lands.sent }

-- an accepted request is answered as such
done_accepted : (m : Method) (c : Config) (peer : Peer) (draw : Draw) (r : Request) (st : State) → is_setup m ≡ true
    → is_accepted (done_by m c peer draw r st).answer ≡ true
done_accepted Setup c peer draw r st e = refl
done_accepted Options c peer draw r st e = cc
done_accepted Describe c peer draw r st e = cc
done_accepted Play c peer draw r st e = cc
done_accepted Teardown c peer draw r st e = cc

request_lands : (us : List SetUp) (c : Config) (peer : Peer) (draw : Draw) (r : Request) (answer : Answer) (st : State) (g : Readings)
    → Below st.made st.sessions → st.made ≡ length g.made
    → Grounded us st → answer ≡ (step c st (Asked peer draw r)).answer
    → StepLands (us ++ (if is_accepted answer then set_up_by g (Asked peer draw r) else [])) (step c st (Asked peer draw r))
request_lands us c peer draw r answer st g below count grounded told = at (decide c st r) refl told
  where
    u : SetUp
    u = record { session = session_of g draw r.session; peer = peer; ports = unwrap_or r.ports no_ports }

    accepted : (b t : Bool) → is_setup r.method ≡ t → (t ≡ true → b ≡ true) → StepLands (us ++ setup_if t u) (done_by r.method c peer draw r (heard_by r st))
        → StepLands (us ++ (if b then setup_if t u else [])) (done_by r.method c peer draw r (heard_by r st))
    accepted true t e is lands = lands
    accepted false true e is lands = absurd (true≢false (sym (is refl)))
    accepted false false e is lands = lands

    at : (o : Option Refused) → decide c st r ≡ o
        → answer ≡ (option_map_or (Steps.refuse r (heard_by r st)) o (done_by r.method c peer draw r (heard_by r st))).answer
        → StepLands (us ++ (if is_accepted answer then set_up_by g (Asked peer draw r) else []))
        (option_map_or (Steps.refuse r (heard_by r st)) o (done_by r.method c peer draw r (heard_by r st)))
    at None e f =
        accepted (is_accepted answer) (is_setup r.method) refl (λ is. ap is_accepted f ∙ done_accepted r.method c peer draw r (heard_by r st) is)
        (done_lands r.method us c peer draw r st g below count grounded (not_missing c st r e) refl)
    at (Some x) e f =
        let refused : is_accepted answer ≡ false = ap is_accepted f ∙ decided_refuses c st r x e in
        subst (λ b. StepLands (us ++ (if b then set_up_by g (Asked peer draw r) else [])) (Steps.refuse r (heard_by r st) x)) (sym refused)
        (stays us (heard_by r st) _ _ (heard_grounded us r st grounded))

http_grounded : (us : List SetUp) (x : Session) → x.http ≡ true → IsGrounded us x
http_grounded us x http = λ rtsp. absurd (true≢false (sym http ∙ rtsp))

get_lands : (us : List SetUp) (c : Config) (peer : Peer) (draw : Draw) (r : HttpRequest) (st : State) → Grounded us st → StepLands us (on_get c peer draw r st)
get_lands us c peer draw r st grounded = at (decide_get c st r)
  where
    number : ℕ
    number = least_free st.streams

    now : State
    now = found true peer draw no_ports st

    at : (o : Option Refused)
        → StepLands us (option_map_or (λ refused. Steps.outcome (settle st) (Get (GetRefused refused.status))
        (http_refusal refused.status refused.body)) o (start c peer draw r st))
    at None =
        let lands = lands_change_by us c number r.query now
        (Each-append (IsGrounded us) st.sessions (new_session st true peer draw no_ports number ∷ []) grounded
        (http_grounded us (new_session st true peer draw no_ports number) refl, tt)) in
        record { state = lands.state; sent = lands.sent }
    at (Some x) = record { state = grounded; sent = tt }

pull_lands : (us : List SetUp) (id : SessionId) (st : State) → Grounded us st → StepLands us (on_pull id st)
pull_lands us id st grounded = at (http_session st id)
  where
    some : (x : Session) (packets : List (List ℕ)) → StepLands us (pull_some st x packets)
    some x [] = record { state = grounded_change us (is_session x.id) (λ s. record s { heard = st.clock }) st.sessions (λ y is. is) grounded; sent = tt }
    some x (p ∷ ps) = record {
      state = grounded_change us (is_session x.id)
          (λ y. record y { heard = st.clock; sizes = y.sizes ++ length (take Steps.most_pulled (p ∷ ps)) ∷ [] }) st.sessions (λ y is. is) grounded;
      sent = tt;
    }

    at : (o : Option Session) → StepLands us (option_map_or (λ s. pull_some st s (held s)) o (Steps.outcome (settle st) (Pulled PulledGone) []))
    at None = record { state = grounded; sent = tt }
    at (Some x) = some x (held x)

close_lands : (us : List SetUp) (id : SessionId) (st : State) → Grounded us st → StepLands us (on_close id st)
close_lands us id st grounded = at (http_session st id)
  where
    at : (o : Option Session)
        → StepLands us (option_map_or (λ s. Steps.outcome (end_where (is_session id) st) (Closed Yes) []) o (Steps.outcome (settle st) (Closed ClosedGone) []))
    at None = record { state = grounded; sent = tt }
    at (Some x) = let lands = lands_end us st (is_session id) grounded in record { state = lands.state; sent = lands.sent }

packet_lands : (us : List SetUp) (front tune : ℕ) (packet : List ℕ) (st : State) → Grounded us st → StepLands us (on_packet front tune packet st)
packet_lands us front tune packet st grounded = at (is_current st front tune)
  where
    at : (b : Bool) → StepLands us (Steps.worked front (if b then deliver front packet st else settle st))
    at true = let lands = lands_deliver us front packet st grounded in record { state = lands.state; sent = lands.sent }
    at false = record { state = grounded; sent = tt }

none_more : (us : List SetUp) (b : Bool) (o : Outcome) → StepLands us o → StepLands (us ++ (if b then [] else [])) o
none_more us true o lands = subst (λ (vs : List SetUp). StepLands vs o) (sym (append-nil us)) lands
none_more us false o lands = subst (λ (vs : List SetUp). StepLands vs o) (sym (append-nil us)) lands

pub step_lands : (us : List SetUp) (c : Config) (st : State) (g : Readings) (e : Event) (answer : Answer) → Below st.made st.sessions
    → st.made ≡ length g.made → Grounded us st
    → answer ≡ (step c st e).answer → StepLands (us ++ (if is_accepted answer then set_up_by g e else [])) (step c st e)
step_lands us c st g (Asked peer draw r) answer below count grounded told = request_lands us c peer draw r answer st g below count grounded told
step_lands us c st g (Got peer draw r) answer below count grounded told = none_more us (is_accepted answer) _ (get_lands us c peer draw r st grounded)
step_lands us c st g (Tick now) answer below count grounded told =
    none_more us (is_accepted answer) _ (let lands = lands_tick us c now st grounded in record { state = lands.state; sent = lands.sent })
step_lands us c st g (Packet front tune packet) answer below count grounded told = none_more us (is_accepted answer) _
    (packet_lands us front tune packet st grounded)
step_lands us c st g (Ended front tune) answer below count grounded told = none_more us (is_accepted answer) _ (record { state = grounded; sent = tt })
step_lands us c st g (Ask front) answer below count grounded told = none_more us (is_accepted answer) _ (record { state = grounded; sent = tt })
step_lands us c st g (Pull id) answer below count grounded told = none_more us (is_accepted answer) _ (pull_lands us id st grounded)
step_lands us c st g (Close id) answer below count grounded told = none_more us (is_accepted answer) _ (close_lands us id st grounded)
step_lands us c st g Stop answer below count grounded told = none_more us (is_accepted answer) _ (record { state = grounded; sent = tt })

-- histories

set_ups_from-append : (c : Config) (g : Readings) (h k : List Item) → set_ups_from c g (h ++ k) ≡ set_ups_from c g h ++ set_ups_from c (read_from c g h) k
set_ups_from-append c g [] k = refl
set_ups_from-append c g (e ∷ h) k =
    ap (λ rest. set_up_in g e ++ rest) (set_ups_from-append c (read_one c g e) h k)
    ∙ sym (append_assoc (set_up_in g e) (set_ups_from c (read_one c g e) h) (set_ups_from c (read_from c (read_one c g e) h) k))

-- what a state and its readings are for a legal history behind them
record Stand (us : List SetUp) (c : Config) (st : State) (g : Readings) : Type 0 where
  agrees : Agrees c st g
  sound : IsSound st
  grounded : Grounded us st

stand_opening : (c : Setting) → Stand [] c.config (opening c) (nothing_read c)
stand_opening c = record { agrees = agrees_opening c; sound = opening_sound c; grounded = tt }

record StandStep (us : List SetUp) (c : Config) (st : State) (g : Readings) (e : Item) : Type 0 where
  next : Stand (us ++ set_up_in g e) c (step c st e.event).state (read_one c g e)
  sent : Each (GoesToLast (us ++ set_up_in g e)) (step c st e.event).sent

stand_step : (us : List SetUp) (c : Config) (st : State) (g : Readings) (e : Item) (es : List Item) → Stand us c st g → IsEvent e.event
    → LegalFrom c st (e ∷ es) → StandStep us c st g e
stand_step us c st g e es stand is legal =
    let lands = step_lands us c st g e.event e.answer stand.sound.below stand.agrees.loosely.made stand.grounded legal.0.answer in
    record {
      next = record {
        agrees = agrees_step c st g e is legal.0 stand.agrees;
        sound = (a_step c st e.event stand.sound).sound;
        grounded = lands.state;
      };
      sent = lands.sent;
    }

last_goes : (us : List SetUp) (c : Config) (st : State) (g : Readings) (h : List Item) (e : Item) → Stand us c st g
    → Each (λ (x : Item). IsEvent x.event) (h ++ e ∷ []) → LegalFrom c st (h ++ e ∷ [])
    → Each (GoesToLast (us ++ set_ups_from c g (h ++ e ∷ []))) (step c (after_from c st h) e.event).sent
last_goes us c st g [] e stand is legal =
    subst (λ (vs : List SetUp). Each (GoesToLast (us ++ vs)) (step c st e.event).sent) (sym (append-nil (set_up_in g e)))
    (stand_step us c st g e [] stand is.0 legal).sent
last_goes us c st g (x ∷ h) e stand is legal =
    subst (λ (vs : List SetUp). Each (GoesToLast vs) (step c (after_from c (step c st x.event).state h) e.event).sent)
    (append_assoc us (set_up_in g x) (set_ups_from c (read_one c g x) (h ++ e ∷ [])))
    (last_goes (us ++ set_up_in g x) c (step c st x.event).state (read_one c g x) h e (stand_step us c st g x (h ++ e ∷ []) stand is.0 legal).next is.1 legal.1)

pub datagrams_go_to_last : DatagramsGoToLast
datagrams_go_to_last c h e legal = last_goes [] c.config (opening c) (nothing_read c) h e (stand_opening c) legal.events legal.entries

-- the last SETUP is one of them

record IsOneOf (us : List SetUp) (s : SessionId) (u : SetUp) : Type 0 where
  has : Has u us
  session : u.session ≡ s

last_is : (s : SessionId) (us : List SetUp) (u : SetUp) → last_of s us ≡ Some u → IsOneOf us s u
last_is s [] u e = cc
last_is s (v ∷ vs) u e = by (last_of s vs) refl (same_id v.session s) refl e (λ f. last_is s vs u f)
  where
    by : (o : Option SetUp) → last_of s vs ≡ o → (b : Bool) → same_id v.session s ≡ b → later_or o (if b then Some v else None) ≡ Some u
        → (last_of s vs ≡ Some u → IsOneOf vs s u) → IsOneOf (v ∷ vs) s u
    by (Some w) f b g h rest = let one = rest (f ∙ h) in record { has = inr one.has; session = one.session }
    by None f true g h rest =
        let same : v ≡ u = cc h in
        record { has = inl (sym same); session = ap (λ (w : SetUp). w.session) (sym same) ∙ same_id_is v.session s g }
    by None f false g h rest = cc

goes_where : (us : List SetUp) (s : SessionId) (to : Address) (address : SetUp → Address) → option_map address (last_of s us) ≡ Some to
    → GoesWhere us s to address
goes_where us s to address e = by (last_of s us) refl e
  where
    some_is : (a b : Address) → Some a ≡ Some b → b ≡ a
    some_is a b e = cc

    by : (o : Option SetUp) → last_of s us ≡ o → option_map address o ≡ Some to → GoesWhere us s to address
    by None f g = cc
    by (Some u) f g =
        let one = last_is s us u f in
        record { setup = u; has = one.has; session = one.session; to_it = some_is (address u) to g }

goes_to_one : (us : List SetUp) (d : Sent) → GoesToLast us d → GoesToOne us d
goes_to_one us (Rtp id to number clock ssrc packets) goes = goes_where us id to rtp_address goes
goes_to_one us (Report id view sender) goes = goes_where us id sender.to rtcp_address goes

more_where : (us vs : List SetUp) (s : SessionId) (to : Address) (address : SetUp → Address) → GoesWhere us s to address → GoesWhere (us ++ vs) s to address
more_where us vs s to address goes = record { setup = goes.setup; has = Has-append_left goes.setup us vs goes.has; session = goes.session; to_it = goes.to_it }

more_setups : (us vs : List SetUp) (d : Sent) → GoesToOne us d → GoesToOne (us ++ vs) d
more_setups us vs (Rtp id to number clock ssrc packets) goes = more_where us vs id to rtp_address goes
more_setups us vs (Report id view sender) goes = more_where us vs id sender.to rtcp_address goes

all_go : (us : List SetUp) (c : Config) (st : State) (g : Readings) (h : List Item) → Stand us c st g → Each (λ (x : Item). IsEvent x.event) h
    → LegalFrom c st h
    → Each (GoesToOne (us ++ set_ups_from c g h)) (sent_from c st h)
all_go us c st g [] stand is legal = tt
all_go us c st g (e ∷ es) stand is legal =
    let one = stand_step us c st g e es stand is.0 legal in
    let later = set_ups_from c (read_one c g e) es in
    let whole : (us ++ set_up_in g e) ++ later ≡ us ++ (set_up_in g e ++ later) = append_assoc us (set_up_in g e) later in
    subst (λ (vs : List SetUp). Each (GoesToOne vs) ((step c st e.event).sent ++ sent_from c (step c st e.event).state es)) whole
    (Each-append (GoesToOne ((us ++ set_up_in g e) ++ later)) (step c st e.event).sent (sent_from c (step c st e.event).state es)
    (each_follows (GoesToLast (us ++ set_up_in g e)) (GoesToOne ((us ++ set_up_in g e) ++ later))
    (λ d goes. more_setups (us ++ set_up_in g e) later d (goes_to_one (us ++ set_up_in g e) d goes)) (step c st e.event).sent one.sent)
    (all_go (us ++ set_up_in g e) c (step c st e.event).state (read_one c g e) es one.next is.1 legal.1))

pub datagrams_go_to_one : DatagramsGoToOne
datagrams_go_to_one c h legal = all_go [] c.config (opening c) (nothing_read c) h (stand_opening c) legal.events legal.entries
