-- What each event does to every session.
use Rattle.std.proofs.Common.{arith, ◌≡◌, ℕ, ◌+◌, ◌≤◌, ◌&&◌, not, Bool, true, false, List, [], ◌∷◌, ◌++◌, map, length, sum, take, drop, find, Option, Some, None, is_none, is_some, option_map, option_to_list, refl, ap, sym, subst, ◌∙◌, if◌then◌else◌, unwrap_or, option_and_then, append-nil, length-append, length-drop, length-take}
use Rattle.std.specs.List.{list_any}
use Rattle.std.specs.Option.{option_map_or}
use Rattle.std.proofs.lemmas.List.{drop-drop, take-append-drop, drop_min}
use Rattle.std.proofs.lemmas.List.Sums.{sum_by-append}
use Rattle.satip_plain.proofs.SameIds.{same_id_is}
use Rattle.satip_http.specs.Heads.{http_refusal}
use Rattle.satip_rtsp.specs.declared.requests.Method.{Method}
use Rattle.satip_rtsp.specs.declared.requests.Method.TheVariants.{Options, Describe, Setup, Play, Teardown}
use Rattle.satip_rtsp.specs.declared.requests.SessionName.{SessionName}
use Rattle.satip_rtsp.specs.declared.requests.SessionName.TheVariants.{Absent, Named, Other}
use Rattle.satip_plain.specs.declared.answers.Answer.TheVariants.{Get, Pulled, Closed}
use Rattle.satip_plain.specs.declared.answers.GetAnswer.TheVariants.{Refused as GetRefused}
use Rattle.satip_plain.specs.declared.answers.Pulled.TheVariants.{Gone as PulledGone}
use Rattle.satip_plain.specs.declared.answers.Closed.TheVariants.{Yes, Gone as ClosedGone}
use Rattle.satip_plain.specs.declared.events.Event.{Event}
use Rattle.satip_plain.specs.declared.events.Event.TheVariants.{Request as Asked, Get as Got, Tick, Packet, Ended, Ask, Pull, Close, Stop}
use Rattle.satip_plain.specs.Types.{SessionId, Config, Peer, Draw, Ports, Request, HttpRequest}
use Rattle.satip_plain.specs.State.{Session, State, Stream, same_id, held, http_session, served_by}
use Rattle.satip_plain.specs.Sending.{Move, settle}
use Rattle.satip_plain.specs.Streams.{change_by}
use Rattle.satip_plain.specs.Refusals.{Refused, session_named, session_missing, first_given, where_true, of_message, decide, decide_get, makes_session}
use Rattle.satip_rtsp.specs.Methods.{names_none, needs_session, is_setup}
use Rattle.satip_plain.specs.Steps
use Rattle.satip_plain.specs.Steps.{Outcome, step, is_session, change_session, hear, heard_by, set_up, join, found, no_ports, least_free, setup_number, new_session, done_by, play_of, teardown_of, end_where, pull_some, is_current, picks, deliver, most_pulled, put_stream}
use Rattle.satip_laws.specs.Makings.{made_by}
use Rattle.satip_laws.specs.Given.{given_in}
use Rattle.satip_laws.specs.Pulls.{taken_in}
use Rattle.satip_laws.proofs.Ids.{look, or_else, or_else_none, look_append, Apart, apart_append, below_append, found_id, id_same, look_where, any_of_id}
use Rattle.satip_laws.proofs.Told.{told}
use Rattle.satip_laws.proofs.Evolving.{Fine, Becomes, Evolves, Runs, runs_fine, most_of, kept_same, evolves_same}
use Rattle.satip_laws.proofs.Rounds.{round, round_apart, round_below, IsOwn, changing, after_of-changing}
use Rattle.satip_laws.proofs.Turns.{quiet}
use Rattle.satip_laws.proofs.Single.{Single, single_put, least_is_free}
use Rattle.satip_laws.proofs.Moves.{IsSound, Goes, goes_on, goes_same, goes_got, goes_change, goes_hear, goes_end, goes_change_by, goes_tick, nothing}
use Rattle.satip_laws.proofs.Delivery.{goes_deliver, meant_at}

-- the move that an outcome is
abbrev pub move_of : Outcome → Move
move_of o = record { state = o.state; sent = o.sent }

-- what an event does to every session: to those that lived, and to the one that it may make
pub record StepOf (st : State) (o : Outcome) (new : Option Session) (got took : SessionId → List (List ℕ)) : Type 0 where
  pub runs : (s : SessionId) → Runs (or_else (look s st.sessions) (look s (option_to_list new))) (told s o.sent) (got s) (took s) (look s o.state.sessions)
  pub sound : IsSound o.state
  pub made : o.state.made ≡ st.made + length (option_to_list new)

-- an event that makes no session
plain_step : (st : State) (o : Outcome) (got took : SessionId → List (List ℕ)) → Goes st (move_of o) got took → StepOf st o None got took
plain_step st o got took goes = record {
  runs = λ s. rw (or_else_none (look s st.sessions)) (goes.runs s);
  sound = goes.sound;
  made = goes.made ∙ omega arith;
}

stays : (st : State) (o : Outcome) → IsSound st → move_of o ≡ settle st → StepOf st o None nothing nothing
stays st o sound e = plain_step st o nothing nothing (rw e (goes_same st st sound refl refl sound.single))

-- one more session, with the next id and nothing given yet
pub record Adds (st st' : State) (new : Session) : Type 0 where
  pub sessions : st'.sessions ≡ st.sessions ++ new ∷ []
  pub made : st'.made ≡ st.made + 1
  pub count : new.id.count ≡ st.made + 1
  pub fine : Fine new
  pub single : Single st'.streams

fine_append : (xs : List Session) (new : Session) → ((s : SessionId) (x : Session) → look s xs ≡ Some x → Fine x) → Fine new → (s : SessionId) (x : Session)
    → look s (xs ++ new ∷ []) ≡ Some x → Fine x
fine_append xs new fine own s x e = by (look s xs) refl (sym (look_append s xs (new ∷ [])) ∙ e)
  where
    at : (b : Bool) → (if b then Some new else None) ≡ Some x → Fine x
    at true f = let same : new ≡ x = cc in subst Fine same own
    at false f = cc

    by : (o : Option Session) → look s xs ≡ o → or_else o (look s (new ∷ [])) ≡ Some x → Fine x
    by None g f = at (same_id new.id s) f
    by (Some y) g f = let same : y ≡ x = cc in subst Fine same (fine s y g)

pub adds_sound : (st st' : State) (new : Session) → IsSound st → Adds st st' new → IsSound st'
adds_sound st st' new sound adds = record {
  apart = rw adds.sessions (apart_append st.made st.sessions new sound.apart sound.below (omega (arith, adds.count)));
  below = rw (adds.sessions, adds.made) (below_append st.made st.sessions new sound.below adds.count);
  single = adds.single;
  fine = rw adds.sessions (fine_append st.sessions new sound.fine adds.fine);
}

-- an event that makes a session and changes its stream
making_step : (st start : State) (o : Outcome) (new : Session) → Adds st start new → Goes start (move_of o) nothing nothing
    → StepOf st o (Some new) nothing nothing
making_step st start o new adds goes = record {
  runs = λ s. rw (look_append s st.sessions (new ∷ [])) at (rw adds.sessions at (goes.runs s));
  sound = goes.sound;
  made = goes.made ∙ adds.made;
}

fine_new : (st : State) (http : Bool) (peer : Peer) (draw : Draw) (ports : Ports) (number : ℕ) → Fine (new_session st http peer draw ports number)
fine_new st http peer draw ports number = record { within = omega arith; few = by http }
  where
    by : (b : Bool) → 0 ≤ most_of b
    by true = omega arith
    by false = omega arith

join_adds : (http : Bool) (peer : Peer) (draw : Draw) (ports : Ports) (number : ℕ) (st : State) → IsSound st
    → Adds st (join http peer draw ports number st) (new_session st http peer draw ports number)
join_adds http peer draw ports number st sound =
    record { sessions = refl; made = refl; count = refl; fine = fine_new st http peer draw ports number; single = sound.single }

pub found_adds : (http : Bool) (peer : Peer) (draw : Draw) (ports : Ports) (st : State) → IsSound st
    → Adds st (found http peer draw ports st) (new_session st http peer draw ports (least_free st.streams))
found_adds http peer draw ports st sound = record {
  sessions = refl;
  made = refl;
  count = refl;
  fine = fine_new st http peer draw ports (least_free st.streams);
  single = single_put _ st.streams (least_is_free st.streams) sound.single;
}

-- requests

pub goes_heard : (r : Request) (st : State) → IsSound st → Goes st (settle (heard_by r st)) nothing nothing
goes_heard r st sound = at (session_named st r.session)
  where
    named : (x : Session) (b : Bool) → Goes st (settle (if b then hear x.id st else st)) nothing nothing
    named x true = goes_hear x.id st sound
    named x false = goes_same st st sound refl refl sound.single

    at : (o : Option Session) → Goes st (settle (option_map_or (λ x. if is_none r.refusal then hear x.id st else st) o st)) nothing nothing
    at None = goes_same st st sound refl refl sound.single
    at (Some x) = named x (is_none r.refusal)

-- whoever was named is named once it was heard of
find_map : (p : Session → Bool) (f : Session → Session) → ((x : Session) → p (f x) ≡ p x) → (xs : List Session) → find p (map f xs) ≡ option_map f (find p xs)
find_map p f same [] = refl
find_map p f same (x ∷ xs) = rw (same x) (by (p x) (find_map p f same xs))
  where
    by : (b : Bool) → find p (map f xs) ≡ option_map f (find p xs)
        → (if b then Some (f x) else find p (map f xs)) ≡ option_map f (if b then Some x else find p xs)
    by true e = refl
    by false e = e

pub named_heard : (st : State) (r : Request) (x : Session) → session_named st r.session ≡ Some x
    → (z : Session) × (session_named (heard_by r st) r.session ≡ Some z) × (z.stream ≡ x.stream)
named_heard st r x e = rw e (by (is_none r.refusal))
  where
    f : Session → Session
    f z = if is_session x.id z then record z { heard = st.clock } else z

    keeps : (id : SessionId) (z : Session) → (same_id (f z).id id && not (f z).http) ≡ (same_id z.id id && not z.http)
    keeps id z = at (is_session x.id z)
      where
        at : (b : Bool) → (same_id (if b then record z { heard = st.clock } else z).id id && not (if b then record z { heard = st.clock } else z).http)
            ≡ (same_id z.id id && not z.http)
        at true = refl
        at false = refl

    keeps_stream : (b : Bool) → (if b then record x { heard = st.clock } else x).stream ≡ x.stream
    keeps_stream true = refl
    keeps_stream false = refl

    in_name : (n : SessionName) → session_named st n ≡ Some x → session_named (hear x.id st) n ≡ Some (f x)
    in_name Absent g = cc
    in_name (Named id) g = find_map (λ z. same_id z.id id && not z.http) f (keeps id) st.sessions ∙ ap (option_map f) g
    in_name Other g = cc

    by : (b : Bool) → (z : Session) × (session_named (if b then hear x.id st else st) r.session ≡ Some z) × (z.stream ≡ x.stream)
    by true = (f x, in_name r.session e, keeps_stream (is_session x.id x))
    by false = (x, e, refl)

-- an accepted request that names a session names one that lives
first_none : {X : Type 0} → (o : Option X) (more : List (Option X)) → first_given (o ∷ more) ≡ None → first_given more ≡ None
first_none None more e = e
first_none (Some x) more e = cc

where_none : (b : Bool) (refused : Refused) (more : List (Option Refused)) → first_given (where_true b refused ∷ more) ≡ None → b ≡ false
where_none true refused more e = cc
where_none false refused more e = refl

pub not_missing : (c : Config) (st : State) (r : Request) → decide c st r ≡ None → session_missing st r ≡ false
not_missing c st r e = where_none (session_missing st r) _ _ (first_none (option_map of_message r.refusal) _ e)

none_named : (st : State) (n : SessionName) → names_none n ≡ true → session_named st n ≡ None
none_named st Absent e = refl
none_named st (Named id) e = cc
none_named st Other e = cc

-- a session that is moved, or made
pub moved_from : (peer : Peer) (draw : Draw) (ports : Ports) (r : Request) (st : State) → IsSound st → is_some (session_named st r.session) ≡ true
    → Goes st (settle (set_up peer draw ports r st)) nothing nothing
moved_from peer draw ports r st sound e = at (session_named st r.session) e
  where
    at : (o : Option Session) → is_some o ≡ true → Goes st (settle (option_map_or (λ s. change_session s.id (λ x. record x { peer = peer; ports = ports }) st) o
        (option_map_or (λ number. join false peer draw ports number st) r.stream (found false peer draw ports st)))) nothing nothing
    at None f = cc
    at (Some s) f = goes_change st s.id (λ x. record x { peer = peer; ports = ports })
        (λ x. quiet x (record x { peer = peer; ports = ports }) (record { id = refl; http = refl; stream = refl; ssrc = refl; first = refl }) refl refl) sound

pub made_from_none : (peer : Peer) (draw : Draw) (ports : Ports) (r : Request) (st : State) → IsSound st → session_named st r.session ≡ None
    → Adds st (set_up peer draw ports r st) (new_session st false peer draw ports (setup_number r st))
made_from_none peer draw ports r st sound e = rw e (by r.stream)
  where
    by : (o : Option ℕ) → Adds st (option_map_or (λ number. join false peer draw ports number st) o (found false peer draw ports st))
        (new_session st false peer draw ports (unwrap_or o (least_free st.streams)))
    by None = found_adds false peer draw ports st sound
    by (Some number) = join_adds false peer draw ports number st sound

abbrev setup_makes : Peer → Draw → Request → State → Session
setup_makes peer draw r st = new_session st false peer draw (unwrap_or r.ports no_ports) (setup_number r st)

heard_none : (r : Request) (st : State) → session_named st r.session ≡ None → heard_by r st ≡ st
heard_none r st e = rw e refl

setup_step : (c : Config) (peer : Peer) (draw : Draw) (r : Request) (st : State) → IsSound st → (b : Bool) → names_none r.session ≡ b
    → (if b then needs_session r.method else is_none (session_named st r.session)) ≡ false
    → StepOf st (Steps.setup c peer draw r (heard_by r st)) (if b then Some (setup_makes peer draw r st) else None) nothing nothing
setup_step c peer draw r st sound true e missing =
    let none : session_named st r.session ≡ None = none_named st r.session e in
    let ports : Ports = unwrap_or r.ports no_ports in
    let adds : Adds st (set_up peer draw ports r st) (setup_makes peer draw r st) = made_from_none peer draw ports r st sound none in
    let start : State = set_up peer draw ports r st in
    rw (heard_none r st none) (making_step st start (Steps.setup c peer draw r st) (setup_makes peer draw r st) adds
    (goes_change_by c (setup_number r st) r.query start (adds_sound st start (setup_makes peer draw r st) sound adds)))
setup_step c peer draw r st sound false e missing =
    let heard : State = heard_by r st in
    let ports : Ports = unwrap_or r.ports no_ports in
    let first : Goes st (settle heard) nothing nothing = goes_heard r st sound in
    let named : is_some (session_named heard r.session) ≡ true = by (session_named st r.session) refl missing in
    let second : Goes heard (settle (set_up peer draw ports r heard)) nothing nothing = moved_from peer draw ports r heard first.sound named in
    let third = goes_change_by c (setup_number r heard) r.query (set_up peer draw ports r heard) second.sound in
    let rest : Goes heard (change_by c (setup_number r heard) r.query (set_up peer draw ports r heard)) nothing nothing =
    goes_on heard (settle (set_up peer draw ports r heard)) (change_by c (setup_number r heard) r.query) second third in
    plain_step st (Steps.setup c peer draw r heard) nothing nothing
    (goes_on st (settle heard) (λ x. change_by c (setup_number r heard) r.query (set_up peer draw ports r heard)) first rest)
  where
    by : (o : Option Session) → session_named st r.session ≡ o → is_none o ≡ false → is_some (session_named (heard_by r st) r.session) ≡ true
    by None f g = cc
    by (Some x) f g = let still = named_heard st r x f in rw still.1 refl

-- an event in which a session is heard of first
heard_step : (r : Request) (st : State) (o : Outcome) → IsSound st → (IsSound (heard_by r st) → Goes (heard_by r st) (move_of o) nothing nothing)
    → StepOf st o None nothing nothing
heard_step r st o sound goes =
    let first : Goes st (settle (heard_by r st)) nothing nothing = goes_heard r st sound in
    plain_step st o nothing nothing (goes_on st (settle (heard_by r st)) (λ x. move_of o) first (goes first.sound))

play_goes : (c : Config) (r : Request) (st : State) (s : Session) → IsSound st → Goes st (move_of (play_of c r st s)) nothing nothing
play_goes c r st s sound =
    let m : Move = change_by c s.stream r.query st in
    let first : Goes st m nothing nothing = goes_change_by c s.stream r.query st sound in
    let second = goes_change m.state s.id (λ x. record x { playing = true })
    (λ x. quiet x (record x { playing = true }) (record { id = refl; http = refl; stream = refl; ssrc = refl; first = refl }) refl refl) first.sound in
    goes_on st m (λ now. settle (change_session s.id (λ x. record x { playing = true }) now)) first second

done_step : (m : Method) (c : Config) (peer : Peer) (draw : Draw) (r : Request) (st : State) → IsSound st → session_missing st r ≡ false
    → StepOf st (done_by m c peer draw r (heard_by r st)) (if is_setup m && names_none r.session then Some (setup_makes peer draw r st) else None)
    nothing nothing
done_step Options c peer draw r st sound missing =
    heard_step r st (done_by Options c peer draw r (heard_by r st)) sound (λ s. goes_same _ _ s refl refl s.single)
done_step Describe c peer draw r st sound missing =
    heard_step r st (done_by Describe c peer draw r (heard_by r st)) sound (λ s. goes_same _ _ s refl refl s.single)
done_step Setup c peer draw r st sound missing = setup_step c peer draw r st sound (names_none r.session) refl missing
done_step Play c peer draw r st sound missing =
    heard_step r st (done_by Play c peer draw r (heard_by r st)) sound (at (session_named (heard_by r st) r.session))
  where
    at : (o : Option Session) → IsSound (heard_by r st)
        → Goes (heard_by r st) (move_of (option_map_or (play_of c r (heard_by r st)) o (Steps.accepted (settle (heard_by r st)) []))) nothing nothing
    at None s = goes_same _ _ s refl refl s.single
    at (Some x) s = play_goes c r (heard_by r st) x s
done_step Teardown c peer draw r st sound missing =
    heard_step r st (done_by Teardown c peer draw r (heard_by r st)) sound (at (session_named (heard_by r st) r.session))
  where
    at : (o : Option Session) → IsSound (heard_by r st)
        → Goes (heard_by r st) (move_of (option_map_or (teardown_of r (heard_by r st)) o (Steps.accepted (settle (heard_by r st)) []))) nothing nothing
    at None s = goes_same _ _ s refl refl s.single
    at (Some x) s = goes_end (heard_by r st) (is_session x.id) s

request_step : (c : Config) (peer : Peer) (draw : Draw) (r : Request) (st : State) → IsSound st
    → StepOf st (Steps.on_request c peer draw r st) (made_by c st (Asked peer draw r)) nothing nothing
request_step c peer draw r st sound = at (decide c st r) refl
  where
    refused : (b : Bool) (x : Refused) → StepOf st (Steps.refuse r (heard_by r st) x) (if b && false then Some (setup_makes peer draw r st) else None)
        nothing nothing
    refused true x = heard_step r st (Steps.refuse r (heard_by r st) x) sound (λ s. goes_same _ _ s refl refl s.single)
    refused false x = heard_step r st (Steps.refuse r (heard_by r st) x) sound (λ s. goes_same _ _ s refl refl s.single)

    accepted : (b : Bool) → StepOf st (done_by r.method c peer draw r (heard_by r st)) (if b then Some (setup_makes peer draw r st) else None) nothing nothing
        → StepOf st (done_by r.method c peer draw r (heard_by r st)) (if b && true then Some (setup_makes peer draw r st) else None) nothing nothing
    accepted true s = s
    accepted false s = s

    at : (o : Option Refused) → decide c st r ≡ o
        → StepOf st (option_map_or (Steps.refuse r (heard_by r st)) o (done_by r.method c peer draw r (heard_by r st)))
        (if makes_session r && is_none o then Some (setup_makes peer draw r st) else None) nothing nothing
    at None e = accepted (makes_session r) (done_step r.method c peer draw r st sound (not_missing c st r e))
    at (Some x) e = refused (makes_session r) x

get_step : (c : Config) (peer : Peer) (draw : Draw) (r : HttpRequest) (st : State) → IsSound st
    → StepOf st (Steps.on_get c peer draw r st) (made_by c st (Got peer draw r)) nothing nothing
get_step c peer draw r st sound = at (decide_get c st r)
  where
    new : Session
    new = new_session st true peer draw no_ports (least_free st.streams)

    start : State
    start = found true peer draw no_ports st

    adds : Adds st start new
    adds = found_adds true peer draw no_ports st sound

    at : (o : Option Refused)
        → StepOf st (option_map_or (λ refused. Steps.outcome (settle st) (Get (GetRefused refused.status)) (http_refusal refused.status refused.body)) o
        (Steps.start c peer draw r st))
        (if is_none o then Some new else None) nothing nothing
    at None = making_step st start (Steps.start c peer draw r st) new adds
        (goes_change_by c (least_free st.streams) r.query start (adds_sound st start new sound adds))
    at (Some x) = stays st _ sound refl

-- pulls

sum-append : (ms ns : List ℕ) → sum (ms ++ ns) ≡ sum ms + sum ns
sum-append ms ns = sum_by-append (λ m. m) ms ns

take_drop : (n : ℕ) (xs : List (List ℕ)) → take n xs ++ drop (length (take n xs)) xs ≡ xs
take_drop n xs = rw (length-take n xs, drop_min n xs) (take-append-drop n xs)

abbrev pulled : ℕ → List (List ℕ) → Session → Session
pulled clock packets x = record x { heard = clock; sizes = x.sizes ++ length packets ∷ [] }

pulled_becomes : (clock n : ℕ) (x : Session) → Becomes x [] (take n (held x) ∷ []) (pulled clock (take n (held x)) x)
pulled_becomes clock n x =
    let took : List (List ℕ) = take n (held x) in
    let total : sum (x.sizes ++ length took ∷ []) ≡ sum x.sizes + length took = sum-append x.sizes (length took ∷ []) ∙ omega arith in
    let hold : held (pulled clock took x) ≡ drop (length took) (held x) =
    ap (λ m. drop m x.picked) total ∙ sym (drop-drop (length took) (sum x.sizes) x.picked) in
    let long : length (held x) ≡ length took + length (held (pulled clock took x)) =
    ap length (sym (take_drop n (held x))) ∙ length-append took (drop (length took) (held x)) ∙ ap (λ l. length took + length l) (sym hold) in
    record {
      kept = record { id = refl; http = refl; stream = refl; ssrc = refl; first = refl };
      picked = sym (append-nil x.picked);
      sizes = refl;
      fine = λ f. record { within = omega (arith, total, long, f.within, length-drop (sum x.sizes) x.picked); few = omega (arith, f.few, long) };
      whole = λ f. append-nil (held x) ∙ sym (take_drop n (held x)) ∙ ap (λ l. took ++ l) (sym hold)
          ∙ ap (λ l. l ++ held (pulled clock took x)) (sym (append-nil took));
    }

pulled_evolves : (clock n : ℕ) (x : Session) → x.http ≡ true → Evolves x [] [] (take n (held x)) (Some (pulled clock (take n (held x)) x))
pulled_evolves clock n x http = record {
  groups = take n (held x) ∷ [];
  tells = rw http refl;
  takes = λ e. sym (append-nil (take n (held x)));
  follows = pulled_becomes clock n x;
}

goes_took : (st : State) (m : Move) (g t u : SessionId → List (List ℕ)) → ((s : SessionId) → t s ≡ u s) → Goes st m g t → Goes st m g u
goes_took st m g t u same goes = record {
  runs = λ s. subst (λ l. Runs (look s st.sessions) (told s m.sent) (g s) l (look s m.state.sessions)) (same s) (goes.runs s);
  sound = goes.sound;
  made = goes.made;
}

abbrev no_packets : List (List ℕ)
no_packets = []

if_none : (b : Bool) → [] ≡ (if b then no_packets else [])
if_none true = refl
if_none false = refl

http_found : (st : State) (id : SessionId) (x : Session) → Apart st.sessions → http_session st id ≡ Some x → (look id st.sessions ≡ Some x) × (x.http ≡ true)
http_found st id x apart e = by (look id st.sessions) (sym (look_where id (λ s. s.http) st.sessions apart) ∙ e)
  where
    at : (y : Session) (b : Bool) → y.http ≡ b → (if b then Some y else None) ≡ Some x → (Some y ≡ Some x) × (x.http ≡ true)
    at y true h f = let same : y ≡ x = cc in (f, ap (λ z. z.http) (sym same) ∙ h)
    at y false h f = cc

    by : (o : Option Session) → option_map_or (λ s. if s.http then Some s else None) o None ≡ Some x → (o ≡ Some x) × (x.http ≡ true)
    by None f = cc
    by (Some y) f = at y y.http refl f

-- a pull that finds packets
goes_pull : (st : State) (x : Session) → IsSound st → look x.id st.sessions ≡ Some x → x.http ≡ true
    → Goes st (settle (change_session x.id (pulled st.clock (take most_pulled (held x))) st)) nothing
    (λ s. if same_id x.id s then take most_pulled (held x) else [])
goes_pull st x sound e http = record {
  runs = runs;
  sound = record {
    apart = rw (← after_of-changing f st.sessions) (round_apart (changing f) own st.sessions sound.apart);
    below = rw (← after_of-changing f st.sessions) (round_below st.made (changing f) own st.sessions sound.below);
    single = sound.single;
    fine = λ s y g. runs_fine (look s st.sessions) [] [] (if same_id x.id s then took else []) (look s (map f st.sessions)) y (runs s) (sound.fine s) g;
  };
  made = refl;
}
  where
    took : List (List ℕ)
    took = take most_pulled (held x)

    f : Session → Session
    f z = if is_session x.id z then pulled st.clock took z else z

    own : (z : Session) → IsOwn z (changing f z)
    own z = at (is_session x.id z)
      where
        at : (b : Bool) → IsOwn z (record { sends = []; after = Some (if b then pulled st.clock took z else z) })
        at true = record { id = λ y g. let same : y ≡ pulled st.clock took z = cc in ap (λ w. w.id) same; others = λ s g. refl }
        at false = record { id = λ y g. let same : y ≡ z = cc in ap (λ w. w.id) same; others = λ s g. refl }

    one : (s : SessionId) (z : Session) → look s st.sessions ≡ Some z → (b : Bool) → same_id z.id x.id ≡ b
        → Evolves z [] [] (if same_id x.id s then took else []) (Some (if b then pulled st.clock took z else z))
    one s z g true h =
        let there : s ≡ x.id = sym (found_id s st.sessions z g) ∙ same_id_is z.id x.id h in
        let same : z ≡ x = cc in
        rw (there, id_same x.id, same) (pulled_evolves st.clock most_pulled x http)
    one s z g false h =
        let other : same_id x.id s ≡ false = not_same (same_id x.id s) refl in
        rw other (evolves_same z z (kept_same z) refl refl)
      where
        not_same : (b : Bool) → same_id x.id s ≡ b → b ≡ false
        not_same true k = let same : z.id ≡ x.id = found_id s st.sessions z g ∙ sym (same_id_is x.id s k) in
            let yes : same_id z.id x.id ≡ true = ap (λ i. same_id i x.id) same ∙ id_same x.id in cc
        not_same false k = refl

    runs : (s : SessionId) → Runs (look s st.sessions) [] [] (if same_id x.id s then took else []) (look s (map f st.sessions))
    runs s = rw (← after_of-changing f st.sessions, (round s (changing f) own st.sessions sound.apart).found) (by (look s st.sessions) refl)
      where
        by : (o : Option Session) → look s st.sessions ≡ o → Runs o [] [] (if same_id x.id s then took else []) (option_and_then (λ z. Some (f z)) o)
        by None g = (refl, refl, absent (same_id x.id s) refl, refl)
          where
            absent : (b : Bool) → same_id x.id s ≡ b → (if b then took else []) ≡ []
            absent true h = let there : look s st.sessions ≡ Some x = rw (← same_id_is x.id s h) e in cc
            absent false h = refl
        by (Some z) g = one s z g (is_session x.id z) refl

pull_goes : (id : SessionId) (st : State) (x : Session) → IsSound st → look id st.sessions ≡ Some x → x.http ≡ true → (packets : List (List ℕ))
    → held x ≡ packets
    → Goes st (move_of (pull_some st x packets)) nothing (λ s. if same_id id s then take most_pulled packets else [])
pull_goes id st x sound e http [] none = goes_took st (move_of (pull_some st x [])) nothing nothing (λ s. if same_id id s then [] else [])
    (λ s. if_none (same_id id s)) (goes_hear x.id st sound)
pull_goes id st x sound e http (p ∷ ps) some =
    let same : x.id ≡ id = found_id id st.sessions x e in
    subst (λ (l : List (List ℕ)). Goes st (settle (change_session x.id (pulled st.clock (take most_pulled l)) st)) nothing
    (λ s. if same_id id s then take most_pulled l else [])) some
    (subst (λ (i : SessionId). Goes st (settle (change_session x.id (pulled st.clock (take most_pulled (held x))) st)) nothing
    (λ s. if same_id i s then take most_pulled (held x) else [])) same
    (goes_pull st x sound (ap (λ i. look i st.sessions) same ∙ e) http))

pull_step : (id : SessionId) (st : State) → IsSound st → StepOf st (Steps.on_pull id st) None nothing (taken_in st (Pull id))
pull_step id st sound = at (http_session st id) refl
  where
    at : (o : Option Session) → http_session st id ≡ o
        → StepOf st (option_map_or (λ s. pull_some st s (held s)) o (Steps.outcome (settle st) (Pulled PulledGone) [])) None nothing
        (λ s. if same_id id s then option_map_or (λ x. take most_pulled (held x)) o [] else [])
    at None e = plain_step st (Steps.outcome (settle st) (Pulled PulledGone) []) nothing (λ s. if same_id id s then [] else [])
        (goes_took st (settle st) nothing nothing (λ s. if same_id id s then [] else []) (λ s. if_none (same_id id s))
        (goes_same st st sound refl refl sound.single))
    at (Some x) e = let there = http_found st id x sound.apart e in
        plain_step st (pull_some st x (held x)) nothing (λ s. if same_id id s then take most_pulled (held x) else [])
        (pull_goes id st x sound there.0 there.1 (held x) refl)

close_step : (id : SessionId) (st : State) → IsSound st → StepOf st (Steps.on_close id st) None nothing nothing
close_step id st sound = at (http_session st id)
  where
    at : (o : Option Session)
        → StepOf st (option_map_or (λ s. Steps.outcome (end_where (is_session id) st) (Closed Yes) []) o (Steps.outcome (settle st) (Closed ClosedGone) []))
        None nothing nothing
    at None = stays st (Steps.outcome (settle st) (Closed ClosedGone) []) sound refl
    at (Some x) = plain_step st (Steps.outcome (end_where (is_session id) st) (Closed Yes) []) nothing nothing (goes_end st (is_session id) sound)

-- packets

any_agree : (p q : Stream → Bool) → ((t : Stream) → p t ≡ q t) → (ts : List Stream) → list_any p ts ≡ list_any q ts
any_agree p q same [] = refl
any_agree p q same (t ∷ ts) = rw (same t, any_agree p q same ts) refl

any_never : (ts : List Stream) → list_any (λ t. false) ts ≡ false
any_never [] = refl
any_never (t ∷ ts) = any_never ts

meant_is : (packet : List ℕ) (ts : List Stream) (xs : List Session) (s : SessionId) → Apart xs
    → meant_at packet ts (look s xs) ≡ (if list_any (λ t. list_any (λ x. same_id x.id s && picks t packet x) xs) ts then packet ∷ [] else [])
meant_is packet ts xs s apart =
    rw (any_agree (λ t. list_any (λ x. same_id x.id s && picks t packet x) xs) (λ t. option_map_or (picks t packet) (look s xs) false)
    (λ t. any_of_id s (picks t packet) xs apart) ts) (by (look s xs))
  where
    by : (o : Option Session) → meant_at packet ts o ≡ (if list_any (λ t. option_map_or (picks t packet) o false) ts then packet ∷ [] else [])
    by None = rw (any_never ts) refl
    by (Some x) = refl

packet_step : (front tune : ℕ) (packet : List ℕ) (st : State) → IsSound st
    → StepOf st (Steps.on_packet front tune packet st) None (given_in st (Packet front tune packet)) nothing
packet_step front tune packet st sound = by (is_current st front tune)
  where
    by : (b : Bool) → StepOf st (Steps.worked front (if b then deliver front packet st else settle st)) None
        (λ s. if b && list_any (λ t. list_any (λ x. same_id x.id s && picks t packet x) st.sessions) (served_by st front) then packet ∷ [] else []) nothing
    by true = plain_step st (Steps.worked front (deliver front packet st))
        (λ s. if list_any (λ t. list_any (λ x. same_id x.id s && picks t packet x) st.sessions) (served_by st front) then packet ∷ [] else []) nothing
        (goes_got st (deliver front packet st) (λ s. meant_at packet (served_by st front) (look s st.sessions))
        (λ s. if list_any (λ t. list_any (λ x. same_id x.id s && picks t packet x) st.sessions) (served_by st front) then packet ∷ [] else []) nothing
        (λ s. meant_is packet (served_by st front) st.sessions s sound.apart) (goes_deliver front packet st sound))
    by false = stays st (Steps.worked front (settle st)) sound refl

pub a_step : (c : Config) (st : State) (e : Event) → IsSound st → StepOf st (step c st e) (made_by c st e) (given_in st e) (taken_in st e)
a_step c st (Asked peer draw r) sound = request_step c peer draw r st sound
a_step c st (Got peer draw r) sound = get_step c peer draw r st sound
a_step c st (Tick now) sound = plain_step st (step c st (Tick now)) nothing nothing (goes_tick c now st sound)
a_step c st (Packet front tune packet) sound = packet_step front tune packet st sound
a_step c st (Ended front tune) sound = plain_step st (step c st (Ended front tune)) nothing nothing
    (goes_same st (step c st (Ended front tune)).state sound refl refl sound.single)
a_step c st (Ask front) sound = stays st (step c st (Ask front)) sound refl
a_step c st (Pull id) sound = pull_step id st sound
a_step c st (Close id) sound = close_step id st sound
a_step c st Stop sound = plain_step st (step c st Stop) nothing nothing (goes_same st (step c st Stop).state sound refl refl sound.single)
