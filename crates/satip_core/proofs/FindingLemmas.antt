-- What an accepted request was found to name and to change, where it is executed.
use Rattle.std.proofs.Common.{◌≡◌, ◌∙◌, ℕ, ◌==◌, ◌&&◌, ◌||◌, not, Bool, true, false, cond, List, [], ◌∷◌, find, IfSome, Option, Some, None, is_none, is_some, option_map, unwrap_or, refl, ap, sym, subst}
use Rattle.std.specs.Option.{option_and_then, option_map_or}
use Rattle.std.proofs.lemmas.Bool.{eqb-true, false≢true}
use Rattle.satip_rtsp.specs.declared.requests.Method.{Method}
use Rattle.satip_rtsp.specs.declared.requests.Method.TheVariants.{Play, Setup}
use Rattle.satip_rtsp.specs.declared.requests.SessionName.{SessionName}
use Rattle.satip_rtsp.specs.declared.requests.SessionName.TheVariants.{Absent, Named, Other}
use Rattle.satip_rtsp.specs.Methods.{changes, is_setup, needs_session}
use Rattle.satip_plain.specs.Types.{Config, Draw, Peer, Pids, Ports, Query, Request, SessionId, Tuning}
use Rattle.satip_plain.specs.State.{Session, State, Stream, change_where, same_id, stream_of}
use Rattle.satip_plain.specs.Refusals.{decide, number_meant, session_named, stream_meant, stream_of_another}
use Rattle.satip_plain.specs.Steps.{change_session, found, hear, heard_by, is_session, join, least_free, set_up, setup_number}
use Rattle.satip_state.specs.Asking.{Asks, IsUntuned}
use Rattle.satip_state.proofs.Picking.{map_some}
use Rattle.satip_core.specs.declared.deciding.Accepted.{Accepted as Found}
use Rattle.satip_core.specs.declared.places.Party.{Party}
use Rattle.satip_core.specs.Doing.{Accepted, MaySetUp}
use Rattle.satip_core.specs.Finding.{AsksOf, Finds}
use Rattle.satip_core.specs.RefusalRows.{IsRtsp, NamesSession, party_of}
use Rattle.satip_core.specs.Rows.{id_in}
use Rattle.satip_core.proofs.HearingLemmas.{heard_as, id_party}
use Rattle.satip_core.proofs.KindLemmas.{kind, kind_heard}
use Rattle.satip_core.proofs.SetupLemmas.{heard_streams, none_some, passed, unrefused}

-- a session that is heard of keeps its id and its stream

party_cons : (b : Bool) (x y : Session) (o p : Option Session) → party_of x ≡ party_of y → option_map party_of o ≡ option_map party_of p
    → option_map party_of (cond b (Some x) o) ≡ option_map party_of (cond b (Some y) p)
party_cons true x y o p same rest = ap Some same
party_cons false x y o p same rest = rest

party_heard : (id own : SessionId) (clock : ℕ) (ss : List Session)
    → option_map party_of (find (λ s. same_id s.id id && not s.http) (change_where (is_session own) (λ x. record x { heard = clock }) ss)) ≡ option_map party_of
    (find (λ s. same_id s.id id && not s.http) ss)
party_heard id own clock [] = refl
party_heard id own clock (s ∷ ss) = by (is_session own s) (party_heard id own clock ss)
  where
    by : (b : Bool)
        → option_map party_of (find (λ s. same_id s.id id && not s.http) (change_where (is_session own) (λ x. record x { heard = clock }) ss)) ≡ option_map
        party_of (find (λ s. same_id s.id id && not s.http) ss)
        → option_map party_of (find (λ s. same_id s.id id && not s.http)
        (cond b (record s { heard = clock }) s ∷ change_where (is_session own) (λ x. record x { heard = clock }) ss)) ≡ option_map party_of
        (find (λ s. same_id s.id id && not s.http) (s ∷ ss))
    by true rest = party_cons (same_id s.id id && not s.http) (record s { heard = clock }) s _ _ refl rest
    by false rest = party_cons (same_id s.id id && not s.http) s s _ _ refl rest

named_heard : (own : SessionId) (st : State) (name : SessionName)
    → option_map party_of (session_named (hear own st) name) ≡ option_map party_of (session_named st name)
named_heard own st Absent = refl
named_heard own st (Named id) = party_heard id own st.clock st.sessions
named_heard own st Other = refl

names_same : (r : Request) (st : State) → option_map party_of (session_named (heard_by r st) r.session) ≡ option_map party_of (session_named st r.session)
names_same r st = by (session_named st r.session) (is_none r.refusal)
  where
    by : (o : Option Session) (b : Bool) → option_map party_of (session_named (option_map_or (λ (s : Session). cond b (hear s.id st) st) o st) r.session)
        ≡ option_map party_of (session_named st r.session)
    by None b = refl
    by (Some s) true = named_heard s.id st r.session
    by (Some s) false = refl

kind_same : (r : Request) (st : State) (id : SessionId) → kind id (heard_by r st).sessions ≡ kind id st.sessions
kind_same r st id = by (session_named st r.session) (is_none r.refusal)
  where
    by : (o : Option Session) (b : Bool) → kind id (option_map_or (λ (s : Session). cond b (hear s.id st) st) o st).sessions ≡ kind id st.sessions
    by None b = refl
    by (Some s) true = kind_heard id s.id st.clock st.sessions
    by (Some s) false = refl

-- the session that was found is the one that is named
pub names_now : (c : Config) (st : State) (r : Request) (given : Found) (pids : Pids) → Accepted c st r given pids → NamesSession st r given.session
names_now c st r given pids a =
    a.finds.names ∙ sym (names_same r a.before) ∙ ap (λ (s : State). option_map party_of (session_named s r.session)) (sym a.heard)

pub id_now : (st : State) (r : Request) (session : Option Party) → NamesSession st r session
    → id_in session ≡ option_map (λ (s : Session). s.id) (session_named st r.session)
id_now st r session names = ap id_in names ∙ id_party (session_named st r.session)

pub kind_now : (c : Config) (st : State) (r : Request) (given : Found) (pids : Pids) (party : Party) → Accepted c st r given pids → given.session ≡ Some party
    → kind party.id st.sessions ≡ Some false
kind_now c st r given pids party a is =
    let it = subst (λ (o : Option Party). IfSome o (IsRtsp a.before)) is a.finds.kind in
    ap (λ (s : State). kind party.id s.sessions) a.heard ∙ kind_same r a.before party.id ∙ it.rtsp

-- the session that was found is heard of
pub heard_now : (c : Config) (st : State) (r : Request) (given : Found) (pids : Pids) (id : Option SessionId) → None ≡ decide c st r → Finds st r given pids
    → id ≡ id_in given.session → option_map_or (λ id. hear id st) id st ≡ heard_by r st
heard_now c st r given pids id decided finds is =
    ap (λ (i : Option SessionId). option_map_or (λ id. hear id st) i st) (is ∙ id_now st r given.session finds.names)
    ∙ heard_as true (session_named st r.session) st
    ∙ ap (λ (b : Bool). option_map_or (λ (s : Session). cond b (hear s.id st) st) (session_named st r.session) st) (sym (unrefused c st r (sym decided)))

-- a stream, and what a query asks of it
pub record Meant (st : State) (number : ℕ) (query : Query) (tuning : Option Tuning) (pids : Pids) : Type 0 where
  pub stream : Stream
  pub found : stream_of st number ≡ Some stream
  pub asks : Asks stream.tuning stream.pids query tuning pids

meant_of : (st : State) (number : ℕ) (query : Query) (tuning : Option Tuning) (pids : Pids) (o : Option Stream) → stream_of st number ≡ o → is_some o ≡ true
    → AsksOf o query tuning pids → Meant st number query tuning pids
meant_of st number query tuning pids None is lives asks = absurd (false≢true lives)
meant_of st number query tuning pids (Some t) is lives asks = record { stream = t; found = is; asks = asks }

not_false : (b : Bool) → not b ≡ false → b ≡ true
not_false true e = refl
not_false false e = absurd (false≢true (sym e))

-- the stream of an accepted PLAY is its session's

play_number : (st : State) (r : Request) (s : Session) → session_named st r.session ≡ Some s → r.method ≡ Play → stream_of_another st r ≡ false
    → number_meant st r ≡ Some s.stream
play_number st r s named m another = by r.stream refl
  where
    own : Option ℕ
    own = cond (needs_session r.method) (option_map (λ (x : Session). x.stream) (session_named st r.session)) None

    own_is : own ≡ Some s.stream
    own_is = ap (λ (k : Method). cond (needs_session k) (option_map (λ (x : Session). x.stream) (session_named st r.session)) None) m
        ∙ ap (option_map (λ (x : Session). x.stream)) named

    differs : Option ℕ → Session → Bool
    differs q x = option_map_or (λ number. not (x.stream == number)) q false

    by : (q : Option ℕ) → r.stream ≡ q → number_meant st r ≡ Some s.stream
    by None e = ap (λ (q : Option ℕ). cond (is_some q) q own) e ∙ own_is
    by (Some n) e =
        let same : not (s.stream == n) ≡ false =
        sym (ap (λ (k : Method). (is_setup k || needs_session k) && option_map_or (differs r.stream) (session_named st r.session) false) m
        ∙ ap (λ (o : Option Session). option_map_or (differs r.stream) o false) named ∙ ap (λ (q : Option ℕ). differs q s) e) ∙ another in
        ap (λ (q : Option ℕ). cond (is_some q) q own) e ∙ ap Some (sym (eqb-true s.stream n (not_false (s.stream == n) same)))

pub meant_by_play : (c : Config) (st : State) (r : Request) (given : Found) (pids : Pids) (party : Party) → Accepted c st r given pids → r.method ≡ Play
    → given.session ≡ Some party → Meant st party.stream r.query given.tuning pids
meant_by_play c st r given pids party a m is =
    let it = subst (λ (o : Option Party). IfSome o (IsRtsp a.before)) is a.finds.kind in
    let s = map_some party_of (session_named a.before r.session) party (sym (sym is ∙ a.finds.names)) in
    let number = play_number a.before r s.0 s.1 m (passed c a.before r a.accepted).another ∙ ap (λ (p : Party). Some p.stream) s.2 in
    let streams : st.streams ≡ a.before.streams = ap (λ (x : State). x.streams) a.heard ∙ heard_streams r a.before in
    let same : stream_of st party.stream ≡ stream_of a.before party.stream = ap (find (λ (t : Stream). t.number == party.stream)) streams in
    let meant : stream_meant a.before r ≡ stream_of a.before party.stream = ap (option_and_then (stream_of a.before)) number in
    meant_of st party.stream r.query given.tuning pids (stream_of a.before party.stream) same it.housed
    (subst (λ (o : Option Stream). AsksOf o r.query given.tuning pids) meant (a.finds.asks (ap changes m)))

-- the stream of an accepted SETUP is the named one, or a new one

pub meant_by_setup : (c : Config) (peer : Peer) (draw : Draw) (ports : Ports) (st : State) (r : Request) (given : Found) (pids : Pids) → MaySetUp st r
    → Accepted c st r given pids → r.method ≡ Setup
    → (session_named st r.session ≡ None → r.stream ≡ None → IsUntuned (found false peer draw ports st) (least_free st.streams))
    → Meant (set_up peer draw ports r st) (setup_number r st) r.query given.tuning pids
meant_by_setup c peer draw ports st r given pids may a m new = by (session_named st r.session) r.stream refl refl
  where
    lives : (n : ℕ) → r.stream ≡ Some n → is_some (stream_of st n) ≡ true
    lives n e = none_some (stream_of st n) (subst (λ (o : Option ℕ). IfSome o (λ k. is_none (stream_of st k) ≡ false)) e may.lives)

    own : Option ℕ
    own = cond (needs_session r.method) (option_map (λ (x : Session). x.stream) (session_named a.before r.session)) None

    none : own ≡ None
    none = ap (λ (k : Method). cond (needs_session k) (option_map (λ (x : Session). x.stream) (session_named a.before r.session)) None) m

    asks : AsksOf (option_and_then (stream_of a.before) (cond (is_some r.stream) r.stream own)) r.query given.tuning pids
    asks = a.finds.asks (ap changes m)

    streams : a.before.streams ≡ st.streams
    streams = sym (ap (λ (x : State). x.streams) a.heard ∙ heard_streams r a.before)

    asked : (n : ℕ) → r.stream ≡ Some n → AsksOf (stream_of st n) r.query given.tuning pids
    asked n e = subst (λ (o : Option Stream). AsksOf o r.query given.tuning pids)
        (ap (λ (q : Option ℕ). option_and_then (stream_of a.before) (cond (is_some q) q own)) e ∙ ap (find (λ (t : Stream). t.number == n)) streams) asks

    asked_new : r.stream ≡ None → AsksOf None r.query given.tuning pids
    asked_new e = subst (λ (o : Option Stream). AsksOf o r.query given.tuning pids)
        (ap (λ (q : Option ℕ). option_and_then (stream_of a.before) (cond (is_some q) q own)) e ∙ ap (option_and_then (stream_of a.before)) none) asks

    by : (o : Option Session) (q : Option ℕ) → session_named st r.session ≡ o → r.stream ≡ q
        → Meant (option_map_or (λ (s : Session). change_session s.id (λ x. record x { peer = peer; ports = ports }) st) o
        (option_map_or (λ number. join false peer draw ports number st) q (found false peer draw ports st))) (unwrap_or q (least_free st.streams)) r.query
        given.tuning pids
    by (Some s) (Some n) e f = meant_of _ n r.query given.tuning pids (stream_of st n) refl (lives n f) (asked n f)
    by (Some s) None e f = absurd (false≢true (sym (may.moves s e) ∙ ap is_none f))
    by None (Some n) e f = meant_of _ n r.query given.tuning pids (stream_of st n) refl (lives n f) (asked n f)
    by None None e f = record { stream = _; found = new e f; asks = asked_new f }
