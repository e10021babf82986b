-- What holds of a request that is accepted, and that no refusal has status 200.
use Rattle.std.proofs.Common.{ℕ, ◌||◌, ◌≡◌, ◌<◌, ◌==◌, ◌&&◌, not, Bool, true, false, cond, List, [], ◌∷◌, length, Option, Some, None, is_some, is_none, Result, Ok, Err, refl, ap, sym, subst, ◌∙◌}
use Rattle.std.specs.Option.{option_map, option_map_or, option_and_then}
use Rattle.std.proofs.lemmas.Bool.{and_parts, and_from, eqb-true, not-true}
use Rattle.satip_plain.proofs.SameIds.{same_id_is}
use Rattle.satip_base.specs.Lists.{Has, Each}
use Rattle.satip_pids.specs.declared.fault.PidFault.{PidFault}
use Rattle.satip_pids.specs.declared.fault.PidFault.TheVariants.{TooMany, UnderAll}
use Rattle.satip_pids.specs.Pids.{Pids, Only}
use Rattle.satip_tune.specs.Tunings.{gives_any}
use Rattle.satip_tune.specs.Frontends.{mux_for}
use Rattle.satip_query.specs.declared.faults.QueryFault.{QueryFault}
use Rattle.satip_query.specs.declared.faults.QueryFault.TheVariants.{Syntax, Range}
use Rattle.satip_query.specs.declared.bodies.RefusalBody.TheVariants.{NotOwner, NoMoreSessions, NoMoreFrontends}
use Rattle.satip_rtsp.specs.declared.requests.Refusal.{Refusal}
use Rattle.satip_rtsp.specs.declared.requests.Refusal.TheVariants.{Broken, TooLong, NoCseq, Version, Method as BadMethod, Require, Target, Query as QueryAt}
use Rattle.satip_http.specs.declared.requests.HttpRefusal.{HttpRefusal}
use Rattle.satip_http.specs.declared.requests.HttpRefusal.TheVariants.{Broken as HttpBroken, TooLong as HttpTooLong, Version as HttpVersion, Method as HttpMethod, Target as HttpTarget, NotFound, Query as HttpQuery}
use Rattle.satip_rtsp.specs.declared.requests.SessionName.{SessionName}
use Rattle.satip_rtsp.specs.declared.requests.SessionName.TheVariants.{Absent, Named, Other}
use Rattle.satip_fronts.specs.Choice.{Outlook, choose, blocked}
use Rattle.satip_fronts.proofs.Choosing.{chosen_unless_blocked}
use Rattle.satip_plain.specs.Types.{SessionId, Config, Tuning, Change, Key, Query, Request, HttpRequest}
use Rattle.satip_plain.specs.State.{Session, Stream, State, same_id, stream_of}
use Rattle.satip_plain.specs.Streams.{to_set, changed_tuning, asked_pids, outlook_of}
use Rattle.satip_rtsp.specs.Methods.{needs_session, names_none, is_setup, changes}
use Rattle.satip_plain.specs.Refusals.{Refused, first_given, where_true, of_message, of_http_message, of_query_fault, of_tuning, of_pids, key_missing, of_change, of_query, decide, decide_get, session_missing, stream_missing, stream_of_another, not_owner, stream_meant, session_named, makes_session, is_full, front_missing, new_outlook, plainly, telling}
use Rattle.satip_plain.specs.Readings.{Made, Readings, living, named_in, names, outlook_in}
use Rattle.satip_laws.specs.Agreement.{stream_told}
use Rattle.satip_laws.proofs.SameTests.{same_bool, id_same, id_turned, none_true, either_false, double_not}
use Rattle.satip_laws.proofs.Finding.{find_has, find_fails}
use Rattle.satip_laws.proofs.Agree.{stream_here, Same, IsTold, Agrees, Matched, alike_find, outlook_same, outlook_new}

-- lists of refusals

abbrev pub IsNone : Option Refused → Type 0
IsNone o = o ≡ None

-- where none is the first, all are none
pub all_none : (os : List (Option Refused)) → first_given os ≡ None → Each IsNone os
all_none [] e = tt
all_none (None ∷ os) e = (refl, all_none os e)
all_none (Some x ∷ os) e = cc

-- those of an HTTP request
abbrev pub get_causes : Config → State → HttpRequest → List (Option Refused)
get_causes c st r =
    option_map of_http_message r.refusal
    ∷ of_tuning (changed_tuning None r.query.change)
    ∷ of_change c st (new_outlook c st) None (Only []) true r.query

-- the causes, in their order
abbrev pub causes : Config → State → Request → List (Option Refused)
causes c st r =
    option_map of_message r.refusal
    ∷ where_true (session_missing st r) (plainly 454)
    ∷ where_true (stream_missing st r) (plainly 404)
    ∷ where_true (stream_of_another st r) (plainly 454)
    ∷ where_true (not_owner st r) (telling 403 NotOwner)
    ∷ where_true (is_setup r.method && not (names_none r.session) && is_none r.stream) (plainly 455)
    ∷ where_true (is_setup r.method && is_none r.ports) (plainly 461)
    ∷ cond (changes r.method) (of_query c st r (stream_meant st r)) []

pub where_none : (b : Bool) (x : Refused) → where_true b x ≡ None → b ≡ false
where_none true x e = cc
where_none false x e = refl

-- every refusal has another status than 200
abbrev Refuses : Option Refused → Type 0
Refuses None = Unit {0}
Refuses (Some x) = (x.status == 200) ≡ false

first_refuses : (os : List (Option Refused)) (x : Refused) → Each Refuses os → first_given os ≡ Some x → (x.status == 200) ≡ false
first_refuses [] x e f = cc
first_refuses (None ∷ os) x e f = first_refuses os x e.1 f
first_refuses (Some y ∷ os) x e f = let same : y ≡ x = cc in subst (λ z. (z.status == 200) ≡ false) same e.0

where_refuses : (b : Bool) (x : Refused) → (x.status == 200) ≡ false → Refuses (where_true b x)
where_refuses true x e = e
where_refuses false x e = tt

fault_refuses : (fault : QueryFault) → ((of_query_fault fault).status == 200) ≡ false
fault_refuses (Syntax key) = refl
fault_refuses (Range key) = refl

message_refuses : (o : Option Refusal) → Refuses (option_map of_message o)
message_refuses None = tt
message_refuses (Some Broken) = refl
message_refuses (Some TooLong) = refl
message_refuses (Some NoCseq) = refl
message_refuses (Some Version) = refl
message_refuses (Some BadMethod) = refl
message_refuses (Some (Require kept)) = refl
message_refuses (Some Target) = refl
message_refuses (Some (QueryAt fault)) = fault_refuses fault

http_refuses : (o : Option HttpRefusal) → Refuses (option_map of_http_message o)
http_refuses None = tt
http_refuses (Some HttpBroken) = refl
http_refuses (Some HttpTooLong) = refl
http_refuses (Some HttpVersion) = refl
http_refuses (Some HttpMethod) = refl
http_refuses (Some HttpTarget) = refl
http_refuses (Some NotFound) = refl
http_refuses (Some (HttpQuery fault)) = fault_refuses fault

tuning_refuses : (r : Result Tuning Key) → Refuses (of_tuning r)
tuning_refuses (Ok tuning) = tt
tuning_refuses (Err key) = refl

key_refuses : (old : Option Tuning) (change : Change) → Refuses (key_missing old change)
key_refuses old change = by (gives_any change)
  where
    by : (b : Bool) → Refuses (cond b (of_tuning (changed_tuning old change)) None)
    by true = tuning_refuses (changed_tuning old change)
    by false = tt

pids_refuses : (r : Result Pids PidFault) → Refuses (of_pids r)
pids_refuses (Ok pids) = tt
pids_refuses (Err UnderAll) = refl
pids_refuses (Err TooMany) = refl

change_refuses : (c : Config) (st : State) (outlook : Outlook) (tuning : Option Tuning) (pids : Pids) (makes : Bool) (query : Query)
    → Each Refuses (of_change c st outlook tuning pids makes query)
change_refuses c st outlook tuning pids makes query = (
  key_refuses tuning query.change,
  (
    pids_refuses (asked_pids pids query),
    (
      where_refuses (makes && is_full st) (telling 503 NoMoreSessions) refl,
      (where_refuses (front_missing c outlook tuning query.change) (telling 503 NoMoreFrontends) refl, tt),
    ),
  ),
)

query_refuses : (c : Config) (st : State) (r : Request) (o : Option Stream) → Each Refuses (of_query c st r o)
query_refuses c st r None = change_refuses c st (new_outlook c st) None (Only []) (makes_session r) r.query
query_refuses c st r (Some t) = change_refuses c st (outlook_of c st t.number) t.tuning t.pids (makes_session r) r.query

pub decided_refuses : (c : Config) (st : State) (r : Request) (x : Refused) → decide c st r ≡ Some x → (x.status == 200) ≡ false
decided_refuses c st r x e = first_refuses (causes c st r) x (
  message_refuses r.refusal,
  (
    where_refuses (session_missing st r) (plainly 454) refl,
    (
      where_refuses (stream_missing st r) (plainly 404) refl,
      (
        where_refuses (stream_of_another st r) (plainly 454) refl,
        (
          where_refuses (not_owner st r) (telling 403 NotOwner) refl,
          (
            where_refuses (is_setup r.method && not (names_none r.session) && is_none r.stream) (plainly 455) refl,
            (
              where_refuses (is_setup r.method && is_none r.ports) (plainly 461) refl,
              by (changes r.method),
            ),
          ),
        ),
      ),
    ),
  ),
) e
  where
    by : (b : Bool) → Each Refuses (cond b (of_query c st r (stream_meant st r)) [])
    by true = query_refuses c st r (stream_meant st r)
    by false = tt

-- an accepted request

pub record Passes (c : Config) (st : State) (r : Request) : Type 0 where
  pub present : session_missing st r ≡ false
  pub there : stream_missing st r ≡ false
  pub own : stream_of_another st r ≡ false
  pub owner : not_owner st r ≡ false
  pub complete : (is_setup r.method && not (names_none r.session) && is_none r.stream) ≡ false
  pub query : Each IsNone (cond (changes r.method) (of_query c st r (stream_meant st r)) [])

pub passes : (c : Config) (st : State) (r : Request) → decide c st r ≡ None → Passes c st r
passes c st r e = by (all_none (causes c st r) e)
  where
    by : Each IsNone (causes c st r) → Passes c st r
    by p = record {
      present = where_none (session_missing st r) (plainly 454) p.1.0;
      there = where_none (stream_missing st r) (plainly 404) p.1.1.0;
      own = where_none (stream_of_another st r) (plainly 454) p.1.1.1.0;
      owner = where_none (not_owner st r) (telling 403 NotOwner) p.1.1.1.1.0;
      complete = where_none (is_setup r.method && not (names_none r.session) && is_none r.stream) (plainly 455) p.1.1.1.1.1.0;
      query = p.1.1.1.1.1.1.1;
    }

-- a front end is to be had for the tuning that is to be set
abbrev pub IsReady : Config → Readings → SessionId → Query → Type 0
IsReady c g home query = (tuning : Tuning) → to_set (g.tuned home) query.change ≡ Some tuning
    → is_some (choose (outlook_in c g home) (mux_for c.muxes tuning) tuning) ≡ true

front_ready : (c : Config) (o : Outlook) (old : Option Tuning) (query : Query) (tuning : Tuning) → front_missing c o old query.change ≡ false
    → to_set old query.change ≡ Some tuning
    → is_some (choose o (mux_for c.muxes tuning) tuning) ≡ true
front_ready c o old query tuning missing set =
    let free : blocked o (mux_for c.muxes tuning) tuning ≡ false = sym (ap (λ s. option_map_or (λ t. blocked o (mux_for c.muxes t) t) s false) set) ∙ missing in
    chosen_unless_blocked o (mux_for c.muxes tuning) tuning ∙ ap not free

pub change_front : (c : Config) (st : State) (o : Outlook) (tuning : Option Tuning) (pids : Pids) (makes : Bool) (query : Query)
    → Each IsNone (of_change c st o tuning pids makes query) → front_missing c o tuning query.change ≡ false
change_front c st o tuning pids makes query p = where_none (front_missing c o tuning query.change) (telling 503 NoMoreFrontends) p.1.1.1.0

module _ (c : Config) (st : State) (g : Readings) (a : Agrees c st g) where
  pub ready_at : (r : Request) (m : Made) → Has m (living g) → changes r.method ≡ true → stream_meant st r ≡ Some (stream_told g m.home) → Passes c st r
      → IsReady c g m.home r.query
  ready_at r m h change meant p tuning set =
      let query : Each IsNone (of_query c st r (Some (stream_told g m.home))) =
      subst (λ o. Each IsNone (of_query c st r o)) meant (subst (λ b. Each IsNone (cond b (of_query c st r (stream_meant st r)) [])) change p.query) in
      let missing : front_missing c (outlook_of c st (g.number m.home)) (g.tuned m.home) r.query.change ≡ false =
      change_front c st (outlook_of c st (g.number m.home)) (g.tuned m.home) (g.pids m.home) (makes_session r) r.query query in
      ap (λ o. is_some (choose o (mux_for c.muxes tuning) tuning)) (sym (outlook_same c st g a m h))
      ∙ front_ready c (outlook_of c st (g.number m.home)) (g.tuned m.home) r.query tuning missing set

  new_ready : (query : Query) (pids : Pids) (makes : Bool) (id : SessionId) → length g.made < id.count
      → Each IsNone (of_change c st (new_outlook c st) None pids makes query) → IsReady c g id query
  new_ready query pids makes id above e tuning set =
      let u = a.loosely.told.unmade id above in
      let set_none : to_set None query.change ≡ Some tuning = ap (λ o. to_set o query.change) (sym u.tuned) ∙ set in
      ap (λ o. is_some (choose o (mux_for c.muxes tuning) tuning)) (sym (outlook_new c st g a id above))
      ∙ front_ready c (new_outlook c st) None query tuning (change_front c st (new_outlook c st) None pids makes query e) set_none

  pub ready_new : (r : Request) (id : SessionId) → length g.made < id.count → changes r.method ≡ true → stream_meant st r ≡ None → Passes c st r
      → IsReady c g id r.query
  ready_new r id above change meant p = new_ready r.query (Only []) (makes_session r) id above
      (subst (λ o. Each IsNone (of_query c st r o)) meant (subst (λ b. Each IsNone (cond b (of_query c st r (stream_meant st r)) [])) change p.query))

  pub ready_get : (r : HttpRequest) (id : SessionId) → length g.made < id.count → decide_get c st r ≡ None → IsReady c g id r.query
  ready_get r id above e = new_ready r.query (Only []) true id above (all_none (get_causes c st r) e).1.1

  -- sessions that are named

  pub named_match : (n : SessionName) → Matched g (named_in g n) (session_named st n)
  named_match Absent = tt
  named_match (Named id) = alike_find g (λ m. same_id m.id id && not m.http) (λ s. same_id s.id id && not s.http) (living g) st.sessions
      (λ m s h e. ap (λ x. same_id x id && not m.http) (sym e.id) ∙ ap (λ b. same_id s.id id && not b) (sym e.http)) a.loosely.sessions
  named_match Other = tt

pub named_facts : (g : Readings) (n : SessionName) (m : Made) → named_in g n ≡ Some m → Has m (living g) × (names n m.id ≡ true) × (m.http ≡ false)
named_facts g Absent m e = cc
named_facts g (Named id) m e =
    let there = find_has (λ x. same_id x.id id && not x.http) (living g) m e in
    let parts = and_parts (same_id m.id id) (not m.http) there.1 in
    (there.0, id_turned id m.id ∙ parts.0, not-true m.http parts.1)
named_facts g Other m e = cc

names_one : (n : SessionName) (x y : SessionId) → names n x ≡ true → names n y ≡ true → x ≡ y
names_one Absent x y e f = cc
names_one (Named id) x y e f = sym (same_id_is id x e) ∙ same_id_is id y f
names_one Other x y e f = cc

-- what is named is the session of this id
pub names_it : (g : Readings) (told : IsTold g) (n : SessionName) (m : Made) (other : SessionId) → named_in g n ≡ Some m → other ≡ m.id
    → (k : Made) (s : Session) → Has k (living g) → Same g k s → names n k.id ≡ same_id s.id other
names_it g told n m other e is k s h same =
    let found = named_facts g n m e in
    same_bool (names n k.id) (same_id s.id other)
    (λ f. id_same s.id other (same.id ∙ names_one n k.id m.id f found.1 ∙ sym is))
    (λ f. ap (names n) (sym same.id ∙ same_id_is s.id other f ∙ is) ∙ found.1)

pub rtsp_named : (g : Readings) (told : IsTold g) (n : SessionName) (m : Made) → named_in g n ≡ Some m → (k : Made) → Has k (living g)
    → (not k.http && names n k.id) ≡ names n k.id
rtsp_named g told n m e k h = same_bool (not k.http && names n k.id) (names n k.id) (λ f. (and_parts (not k.http) (names n k.id) f).1)
    (λ f. let found = named_facts g n m e in
    let one : k ≡ m = told.ids k m h found.0 (names_one n k.id m.id f found.1) in
    and_from (not k.http) (names n k.id) (ap not (ap (λ x. x.http) one ∙ found.2)) f)

pub none_named : (g : Readings) (n : SessionName) → named_in g n ≡ None → (k : Made) → Has k (living g) → (not k.http && names n k.id) ≡ false
none_named g Absent e k h = either_false (not k.http)
none_named g (Named id) e k h = by (same_id k.id id) (not k.http) (id_turned id k.id) (find_fails (λ x. same_id x.id id && not x.http) (living g) k e h)
  where
    by : (x y : Bool) → same_id id k.id ≡ x → (x && y) ≡ false → (y && same_id id k.id) ≡ false
    by true true f e = none_true true refl e
    by true false f e = refl
    by false y f e = ap (λ b. y && b) f ∙ either_false y
none_named g Other e k h = either_false (not k.http)

pub none_session : (st : State) (n : SessionName) → names_none n ≡ true → session_named st n ≡ None
none_session st Absent e = refl
none_session st (Named id) e = cc
none_session st Other e = cc

-- a session is named where the request needs one
pub needs_named : (st : State) (r : Request) → needs_session r.method ≡ true → session_missing st r ≡ false → names_none r.session ≡ false
needs_named st r needs present = by (names_none r.session) refl
  where
    by : (b : Bool) → names_none r.session ≡ b → names_none r.session ≡ false
    by true f = none_true (needs_session r.method) needs (sym (ap (λ b. cond b (needs_session r.method) (is_none (session_named st r.session))) f) ∙ present)
    by false f = f

pub meant_number : (st : State) (r : Request) (n : ℕ) → r.stream ≡ Some n → stream_meant st r ≡ stream_of st n
meant_number st r n is = ap (λ o. option_and_then (stream_of st)
    (cond (is_some o) o (cond (needs_session r.method) (option_map (λ s. s.stream) (session_named st r.session)) None))) is

module _ (c : Config) (st : State) (g : Readings) (a : Agrees c st g) (r : Request) where
  -- the named session lives
  pub named_present : names_none r.session ≡ false → session_missing st r ≡ false → (m : Made) × (named_in g r.session ≡ Some m)
  named_present named present = by (named_in g r.session) (session_named st r.session) refl (named_match c st g a r.session)
      (sym (ap (λ b. cond b (needs_session r.method) (is_none (session_named st r.session))) named) ∙ present)
    where
      by : (o : Option Made) (q : Option Session) → named_in g r.session ≡ o → Matched g o q → is_none q ≡ false → (m : Made) × (named_in g r.session ≡ Some m)
      by None None f same e = cc
      by None (Some s) f same e = absurd same
      by (Some m) None f same e = absurd same
      by (Some m) (Some s) f same e = (m, f)

  -- the stream that a request is about is that of the session which it names
  pub own_stream : stream_of_another st r ≡ false → (m : Made) → named_in g r.session ≡ Some m → (is_setup r.method || needs_session r.method) ≡ true → (n : ℕ)
      → r.stream ≡ Some n → g.number m.home ≡ n
  own_stream own m named looks n is = by (session_named st r.session)
      (subst (λ o. Matched g o (session_named st r.session)) named (named_match c st g a r.session)) own
    where
      by : (q : Option Session) → Matched g (Some m) q
          → ((is_setup r.method || needs_session r.method) && option_map_or (λ s. option_map_or (λ number. not (s.stream == number)) r.stream false) q false)
          ≡ false → g.number m.home ≡ n
      by None same e = absurd same
      by (Some s) same e =
          let other : not (s.stream == n) ≡ false =
          sym (ap (λ b. b && option_map_or (λ number. not (s.stream == number)) r.stream false) looks
          ∙ ap (λ o. option_map_or (λ number. not (s.stream == number)) o false) is) ∙ e in
          sym same.stream ∙ eqb-true s.stream n (double_not (s.stream == n) other)

  pub meant_named : stream_of_another st r ≡ false → (m : Made) → named_in g r.session ≡ Some m → (is_setup r.method || needs_session r.method) ≡ true
      → ((r.stream ≡ None) → needs_session r.method ≡ true)
      → stream_meant st r ≡ Some (stream_told g m.home)
  meant_named own m named looks needs = by r.stream refl
    where
      lives : Has m (living g)
      lives = (named_facts g r.session m named).0

      of_session : (q : Option Session) → Matched g (Some m) q → option_and_then (stream_of st) (option_map (λ s. s.stream) q) ≡ Some (stream_told g m.home)
      of_session None same = absurd same
      of_session (Some s) same = ap (stream_of st) same.stream ∙ stream_here c st g a m lives

      by : (o : Option ℕ) → r.stream ≡ o → stream_meant st r ≡ Some (stream_told g m.home)
      by (Some n) is = meant_number st r n is ∙ ap (stream_of st) (sym (own_stream own m named looks n is)) ∙ stream_here c st g a m lives
      by None is = ap (λ o. option_and_then (stream_of st)
          (cond (is_some o) o (cond (needs_session r.method) (option_map (λ s. s.stream) (session_named st r.session)) None))) is
          ∙ ap (λ b. option_and_then (stream_of st) (cond b (option_map (λ s. s.stream) (session_named st r.session)) None)) (needs is)
          ∙ of_session (session_named st r.session) (subst (λ o. Matched g o (session_named st r.session)) named (named_match c st g a r.session))
