-- What an accepted SETUP may do, and where its session comes to be.
use Rattle.std.proofs.Common.{◌≡◌, ◌∙◌, ℕ, ◌==◌, ◌&&◌, ◌||◌, not, nat_le, Bool, true, false, cond, List, [], ◌∷◌, ◌++◌, length, find, IfSome, Option, Some, None, is_none, is_some, option_map, unwrap_or, refl, ap, sym, subst}
use Rattle.std.specs.Option.{option_map_or}
use Rattle.std.proofs.lemmas.Bool.{false≢true}
use Rattle.std.proofs.lemmas.List.{length-map}
use Rattle.std.proofs.lemmas.Option.{same_Some}
use Rattle.satip_rtsp.specs.declared.requests.Method.{Method}
use Rattle.satip_rtsp.specs.declared.requests.Method.TheVariants.{Setup}
use Rattle.satip_rtsp.specs.declared.requests.SessionName.{SessionName}
use Rattle.satip_rtsp.specs.declared.requests.SessionName.TheVariants.{Absent, Named, Other}
use Rattle.satip_rtsp.specs.Replies.{setup_reply}
use Rattle.satip_pids.specs.Pids.{Only}
use Rattle.satip_plain.specs.Types.{Config, Tuning, Query, Pids, Peer, Draw, Ports, Request, HttpRequest, SessionId}
use Rattle.satip_plain.specs.State.{Session, Stream, State, change_where, same_id, most_made, most_sessions, stream_of}
use Rattle.satip_fronts.specs.Choice.{Outlook}
use Rattle.satip_query.specs.declared.bodies.RefusalBody.TheVariants.{NotOwner, NoMoreSessions, NoMoreFrontends}
use Rattle.satip_plain.specs.Streams.{asked_pids, change_by, changed_tuning, outlook_of}
use Rattle.satip_plain.specs.Refusals.{Refused, first_given, where_true, plainly, telling, front_missing, key_missing, new_outlook, not_owner, of_change, of_pids, of_tuning, stream_of_another, of_message, of_http_message, decide, decide_get, session_missing, stream_missing, is_full, makes_session, of_query, session_named, stream_meant}
use Rattle.satip_rtsp.specs.Methods.{is_setup, names_none, needs_session, changes, looks_at_stream, is_describe}
use Rattle.satip_plain.specs.Steps.{accepted, change_session, found, hear, heard_by, is_session, join, least_free, next_id, no_ports, set_up, setup, setup_number, setup_session}
use Rattle.satip_state.specs.Asking.{IsUntuned}
use Rattle.satip_state.specs.Kept.{Kept}
use Rattle.satip_state.specs.Standing.{StandsFor}
use Rattle.satip_state.proofs.Picking.{map_nothing}
use Rattle.satip_core.specs.declared.deciding.Accepted.{Accepted as Found}
use Rattle.satip_core.specs.Doing.{Accepted, MaySetUp, SetUpAs}
use Rattle.satip_core.specs.Places.{of_asked, of_names, setup_before}

-- each cause that comes first isn't there, where none is
given_none : (o : Option Refused) (more : List (Option Refused)) → first_given (o ∷ more) ≡ None → (o ≡ None) × (first_given more ≡ None)
given_none None more e = (refl, e)
given_none (Some x) more e = absurd (cc)

where_none : (b : Bool) (x : Refused) → where_true b x ≡ None → b ≡ false
where_none true x e = absurd (cc)
where_none false x e = refl

pub record Passed (c : Config) (st : State) (r : Request) : Type 0 where
  pub session : session_missing st r ≡ false
  pub stream : stream_missing st r ≡ false
  pub another : stream_of_another st r ≡ false
  pub placed : (is_setup r.method && not (names_none r.session) && is_none r.stream) ≡ false
  pub asked : first_given (of_asked c st r) ≡ None

pub passed : (c : Config) (st : State) (r : Request) → decide c st r ≡ None → Passed c st r
passed c st r e =
    let message = given_none (option_map of_message r.refusal) (of_names c st r) e in
    let session = given_none (where_true (session_missing st r) (plainly 454))
    (where_true (stream_missing st r) (plainly 404) ∷ where_true (stream_of_another st r) (plainly 454) ∷ where_true (not_owner st r) (telling 403 NotOwner)
    ∷ (setup_before r ++ of_asked c st r)) message.1 in
    let stream = given_none (where_true (stream_missing st r) (plainly 404))
    (where_true (stream_of_another st r) (plainly 454) ∷ where_true (not_owner st r) (telling 403 NotOwner) ∷ (setup_before r ++ of_asked c st r)) session.1 in
    let another = given_none (where_true (stream_of_another st r) (plainly 454))
    (where_true (not_owner st r) (telling 403 NotOwner) ∷ (setup_before r ++ of_asked c st r)) stream.1 in
    let owner = given_none (where_true (not_owner st r) (telling 403 NotOwner)) ((setup_before r ++ of_asked c st r)) another.1 in
    let placed = given_none (where_true (is_setup r.method && not (names_none r.session) && is_none r.stream) (plainly 455))
    (where_true (is_setup r.method && is_none r.ports) (plainly 461) ∷ of_asked c st r) owner.1 in
    let ports = given_none (where_true (is_setup r.method && is_none r.ports) (plainly 461)) (of_asked c st r) placed.1 in
    record {
      session = where_none (session_missing st r) (plainly 454) session.0;
      stream = where_none (stream_missing st r) (plainly 404) stream.0;
      another = where_none (stream_of_another st r) (plainly 454) another.0;
      placed = where_none (is_setup r.method && not (names_none r.session) && is_none r.stream) (plainly 455) placed.0;
      asked = ports.1;
    }

pub unrefused : (c : Config) (st : State) (r : Request) → decide c st r ≡ None → is_none r.refusal ≡ true
unrefused c st r e = ap is_none (map_nothing of_message r.refusal (given_none (option_map of_message r.refusal) (of_names c st r) e).0)

-- what a session that is heard of leaves

pub heard_streams : (r : Request) (st : State) → (heard_by r st).streams ≡ st.streams
heard_streams r st = by (session_named st r.session) (is_none r.refusal)
  where
    by : (o : Option Session) (b : Bool) → (option_map_or (λ (s : Session). cond b (hear s.id st) st) o st).streams ≡ st.streams
    by None b = refl
    by (Some s) true = refl
    by (Some s) false = refl

heard_full : (r : Request) (st : State) → is_full (heard_by r st) ≡ is_full st
heard_full r st = by (session_named st r.session) (is_none r.refusal)
  where
    by : (o : Option Session) (b : Bool) → is_full (option_map_or (λ (s : Session). cond b (hear s.id st) st) o st) ≡ is_full st
    by None b = refl
    by (Some s) true = ap (λ n. nat_le most_sessions n || nat_le most_made st.made)
        (length-map st.sessions (λ (x : Session). cond (is_session s.id x) (record x { heard = st.clock }) x))
    by (Some s) false = refl

cons_none : (b : Bool) (y : Session) (o : Option Session) → cond b (Some y) o ≡ None → (b ≡ false) × (o ≡ None)
cons_none true y o e = absurd (cc)
cons_none false y o e = (refl, e)

none_heard : (id own : SessionId) (clock : ℕ) (ss : List Session)
    → find (λ s. same_id s.id id && not s.http) (change_where (is_session own) (λ x. record x { heard = clock }) ss) ≡ None
    → find (λ s. same_id s.id id && not s.http) ss ≡ None
none_heard id own clock [] e = refl
none_heard id own clock (s ∷ ss) e = by (is_session own s) e (none_heard id own clock ss)
  where
    by : (b : Bool) → find (λ s. same_id s.id id && not s.http)
        (cond b (record s { heard = clock }) s ∷ change_where (is_session own) (λ x. record x { heard = clock }) ss) ≡ None
        → (find (λ s. same_id s.id id && not s.http) (change_where (is_session own) (λ x. record x { heard = clock }) ss) ≡ None
        → find (λ s. same_id s.id id && not s.http) ss ≡ None)
        → find (λ s. same_id s.id id && not s.http) (s ∷ ss) ≡ None
    by true f rest = let r = cons_none (same_id s.id id && not s.http) _ _ f in
        ap (λ b. cond b (Some s) (find (λ s. same_id s.id id && not s.http) ss)) r.0 ∙ rest r.1
    by false f rest = let r = cons_none (same_id s.id id && not s.http) _ _ f in
        ap (λ b. cond b (Some s) (find (λ s. same_id s.id id && not s.http) ss)) r.0 ∙ rest r.1

heard_none : (own : SessionId) (st : State) (name : SessionName) → session_named (hear own st) name ≡ None → session_named st name ≡ None
heard_none own st Absent e = refl
heard_none own st (Named id) e = none_heard id own st.clock st.sessions e
heard_none own st Other e = refl

heard_named : (r : Request) (st : State) → session_named (heard_by r st) r.session ≡ None → session_named st r.session ≡ None
heard_named r st e = by (session_named st r.session) (is_none r.refusal) e
  where
    by : (o : Option Session) (b : Bool) → session_named (option_map_or (λ (s : Session). cond b (hear s.id st) st) o st) r.session ≡ None
        → session_named st r.session ≡ None
    by None b f = f
    by (Some s) true f = heard_none s.id st r.session f
    by (Some s) false f = f

-- a SETUP that isn't refused

named_some : (st : State) (name : SessionName) (s : Session) → session_named st name ≡ Some s → names_none name ≡ false
named_some st Absent s e = absurd (cc)
named_some st (Named id) s e = refl
named_some st Other s e = absurd (cc)

names_of : (n x : Bool) (o : Option Session) → o ≡ None → cond n x (is_none o) ≡ false → n ≡ true
names_of true x o none e = refl
names_of false x o none e = absurd (false≢true (sym e ∙ ap is_none none))

third_none : (a b : Option Refused) (x : Bool) (refused : Refused) (more : List (Option Refused))
    → first_given (a ∷ b ∷ where_true x refused ∷ more) ≡ None → x ≡ false
third_none a b x refused more e =
    let first = given_none a (b ∷ where_true x refused ∷ more) e in
    let second = given_none b (where_true x refused ∷ more) first.1 in
    where_none x refused (given_none (where_true x refused) more second.1).0

-- that there is room for a session is looked at for each change that makes one
change_room : (c : Config) (st : State) (o : Outlook) (tuning : Option Tuning) (pids : Pids) (makes : Bool) (q : Query)
    → first_given (of_change c st o tuning pids makes q) ≡ None → (makes && is_full st) ≡ false
change_room c st o tuning pids makes q e =
    third_none (key_missing tuning q.change) (of_pids (asked_pids pids q)) (makes && is_full st) (telling 503 NoMoreSessions)
    (where_true (front_missing c o tuning q.change) (telling 503 NoMoreFrontends) ∷ []) e

full_of : (c : Config) (st : State) (r : Request) (o : Option Stream) → first_given (of_query c st r o) ≡ None → (makes_session r && is_full st) ≡ false
full_of c st r None e = change_room c st (new_outlook c st) None (Only []) (makes_session r) r.query e
full_of c st r (Some t) e = change_room c st (outlook_of c st t.number) t.tuning t.pids (makes_session r) r.query e

lives_of : (r : Request) (st : State) (o : Option ℕ) (d : Bool) → option_map_or (λ n. is_none (stream_of st n)) o d ≡ false
    → IfSome o (λ n. is_none (stream_of (heard_by r st) n) ≡ false)
lives_of r st None d e = tt
lives_of r st (Some n) d e = ap (λ (ts : List Stream). is_none (find (λ t. t.number == n) ts)) (heard_streams r st) ∙ e

may_heard : (c : Config) (st : State) (r : Request) → Passed c st r → r.method ≡ Setup → MaySetUp (heard_by r st) r
may_heard c st r p m =
    let lacks : Bool = option_map_or (λ n. is_none (stream_of st n)) r.stream (is_describe r.method && length st.streams == 0) in
    record {
      lives = lives_of r st r.stream (is_describe r.method && length st.streams == 0) (sym (ap (λ (k : Method). looks_at_stream k && lacks) m) ∙ p.stream);
      moves = λ s e.
          let names = named_some (heard_by r st) r.session s e in
          sym (ap (λ (k : Method). is_setup k && not (names_none r.session) && is_none r.stream) m ∙ ap (λ (n : Bool). not n && is_none r.stream) names)
          ∙ p.placed;
      makes = λ e.
          let named = heard_named r st e in
          let names = names_of (names_none r.session) (needs_session r.method) (session_named st r.session) named p.session in
          let asked = full_of c st r (stream_meant st r)
          (sym (ap (λ (k : Method). first_given (cond (changes k) (of_query c st r (stream_meant st r)) [])) m) ∙ p.asked) in
          heard_full r st ∙ sym (ap (λ (k : Method). (is_setup k && names_none r.session) && is_full st) m ∙ ap (λ (n : Bool). n && is_full st) names) ∙ asked;
    }

pub may_set_up : (c : Config) (st : State) (r : Request) (found : Found) (pids : Pids) → Accepted c st r found pids → r.method ≡ Setup → MaySetUp st r
may_set_up c st r found pids a m = subst (λ (s : State). MaySetUp s r) (sym a.heard) (may_heard c a.before r (passed c a.before r a.accepted) m)

-- a GET that isn't refused
pub get_room : (c : Config) (st : State) (r : HttpRequest) → decide_get c st r ≡ None → is_full st ≡ false
get_room c st r e =
    let message = given_none (option_map of_http_message r.refusal)
    (of_tuning (changed_tuning None r.query.change) ∷ of_change c st (new_outlook c st) None (Only []) true r.query) e in
    let tuning = given_none (of_tuning (changed_tuning None r.query.change)) (of_change c st (new_outlook c st) None (Only []) true r.query) message.1 in
    change_room c st (new_outlook c st) None (Only []) true r.query tuning.1

-- where the session comes to be

pub none_some : {X : Type 0} (o : Option X) → is_none o ≡ false → is_some o ≡ true
none_some None e = absurd (false≢true (sym e))
none_some (Some x) e = refl

id_is : (o : Option Session) (id d : SessionId) → Some id ≡ option_map (λ (s : Session). s.id) o → id ≡ option_map_or (λ (s : Session). s.id) o d
id_is None id d e = absurd (cc)
id_is (Some s) id d e = same_Some id s.id e

abbrev pair : SessionId → ℕ → SessionId × ℕ
pair id n = (id, n)

number_is : (q : Option ℕ) (id : SessionId) (d : ℕ) → is_none q ≡ false → option_map (pair id) q ≡ Some (pair id (unwrap_or q d))
number_is None id d e = absurd (false≢true (sym e))
number_is (Some n) id d e = refl

moves_of : (st : State) (r : Request) (o : Option Session) (id : SessionId) → MaySetUp st r → session_named st r.session ≡ o
    → Some id ≡ option_map (λ (s : Session). s.id) o → is_none r.stream ≡ false
moves_of st r None id may is e = absurd (cc)
moves_of st r (Some s) id may is e = may.moves s is

moved_is : (o : Option Session) (id : SessionId) (f : Session → Session) (st d : State) → Some id ≡ option_map (λ (s : Session). s.id) o
    → change_session id f st ≡ option_map_or (λ (s : Session). change_session s.id f st) o d
moved_is None id f st d e = absurd (cc)
moved_is (Some s) id f st d e = ap (λ (i : SessionId). change_session i f st) (same_Some id s.id e)

some_id : (o : Option Session) (id : SessionId) → Some id ≡ option_map (λ (s : Session). s.id) o → o ≡ None → ⊥
some_id None id named none = absurd (cc)
some_id (Some s) id named none = absurd (cc)

-- a session moves
pub placed_moved : (c : Config) (v : Kept) (peer : Peer) (draw : Draw) (ports : Ports) (r : Request) (st : State) (id : SessionId)
    (given : Option (SessionId × ℕ)) → MaySetUp st r
    → Some id ≡ option_map (λ (s : Session). s.id) (session_named st r.session) → given ≡ option_map (pair id) r.stream
    → StandsFor c v (change_session id (λ x. record x { peer = peer; ports = ports }) st) → SetUpAs c v peer draw ports r st given
placed_moved c v peer draw ports r st id given may named is stands =
    let placed = moves_of st r (session_named st r.session) id may refl named in
    record {
      made = is ∙ number_is r.stream id (least_free st.streams) placed
          ∙ ap (λ (i : SessionId). Some (pair i (setup_number r st))) (id_is (session_named st r.session) id (next_id st draw) named);
      stands = subst (StandsFor c v) (moved_is (session_named st r.session) id (λ x. record x { peer = peer; ports = ports }) st _ named) stands;
      untuned = λ none _. absurd (some_id (session_named st r.session) id named none);
    }

-- a session is made
pub placed_made : (c : Config) (v : Kept) (peer : Peer) (draw : Draw) (ports : Ports) (r : Request) (st : State) (given : Option (SessionId × ℕ))
    → None ≡ option_map (λ (s : Session). s.id) (session_named st r.session)
    → given ≡ Some (pair (next_id st draw) (unwrap_or r.stream (least_free st.streams)))
    → StandsFor c v (option_map_or (λ number. join false peer draw ports number st) r.stream (found false peer draw ports st))
    → (r.stream ≡ None → IsUntuned (found false peer draw ports st) (least_free st.streams))
    → SetUpAs c v peer draw ports r st given
placed_made c v peer draw ports r st given named is stands new =
    let none = sym (map_nothing (λ (s : Session). s.id) (session_named st r.session) (sym named)) in
    let made : State = option_map_or (λ number. join false peer draw ports number st) r.stream (found false peer draw ports st) in
    record {
      made = is ∙ ap (λ (o : Option Session). Some (pair (option_map_or (λ (s : Session). s.id) o (next_id st draw)) (setup_number r st))) none;
      stands = subst (StandsFor c v)
          (ap (λ (o : Option Session). option_map_or (λ (s : Session). change_session s.id (λ x. record x { peer = peer; ports = ports }) st) o made) none)
          stands;
      untuned = λ _ nowhere. new nowhere;
    }

-- the outcome, with what it is made of
pub setup_as : (c : Config) (peer : Peer) (draw : Draw) (r : Request) (st : State) (ports : Ports) (id : SessionId) (number timeout : ℕ)
    → ports ≡ unwrap_or r.ports no_ports → id ≡ setup_session draw r st → number ≡ setup_number r st → timeout ≡ c.timeout
    → accepted (change_by c number r.query (set_up peer draw ports r st)) (setup_reply r.cseq id timeout ports number) ≡ setup c peer draw r st
setup_as c peer draw r st ports id number timeout p i n t =
    ap (λ (x : Ports). accepted (change_by c number r.query (set_up peer draw x r st)) (setup_reply r.cseq id timeout x number)) p
    ∙ ap (λ (x : SessionId). accepted (change_by c number r.query (set_up peer draw (unwrap_or r.ports no_ports) r st))
    (setup_reply r.cseq x timeout (unwrap_or r.ports no_ports) number)) i
    ∙ ap (λ (x : ℕ). accepted (change_by c x r.query (set_up peer draw (unwrap_or r.ports no_ports) r st))
    (setup_reply r.cseq (setup_session draw r st) timeout (unwrap_or r.ports no_ports) x)) n
    ∙ ap (λ (x : ℕ). accepted (change_by c (setup_number r st) r.query (set_up peer draw (unwrap_or r.ports no_ports) r st))
    (setup_reply r.cseq (setup_session draw r st) x (unwrap_or r.ports no_ports) (setup_number r st))) t

pub both_same : (a b : SessionId) (m n : ℕ) → Some (pair a m) ≡ Some (pair b n) → (a ≡ b) × (m ≡ n)
both_same a b m n e =
    let same = same_Some (pair a m) (pair b n) e in
    (ap (λ (x : SessionId × ℕ). x.0) same, ap (λ (x : SessionId × ℕ). x.1) same)

pub none_named : (st : State) (r : Request) → None ≡ option_map (λ (s : Session). s.id) (session_named st r.session) → session_named st r.session ≡ None
none_named st r named = map_nothing (λ (s : Session). s.id) (session_named st r.session) (sym named)
