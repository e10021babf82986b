-- The busy law.
use Rattle.std.proofs.Common.{arith, ◌≡◌, ℕ, ◌==◌, ◌<◌, ◌&&◌, ◌||◌, not, Bool, true, false, cond, List, [], ◌∷◌, ◌++◌, length, unwrap_or, Option, Some, None, is_some, is_none, Result, Ok, Err, refl, ap, sym, subst, ◌∙◌}
use Rattle.std.specs.Option.{option_map, option_and_then, option_map_or}
use Rattle.std.proofs.lemmas.Option.{same_Some}
use Rattle.satip_base.specs.Lists.{Has, Each}
use Rattle.satip_pids.specs.Pids.{Pids, Only}
use Rattle.satip_pids.specs.declared.fault.PidFault.{PidFault}
use Rattle.satip_pids.specs.declared.fault.PidFault.TheVariants.{TooMany, UnderAll}
use Rattle.satip_tune.specs.Frontends.{mux_for}
use Rattle.satip_tune.specs.Tunings.{gives_any}
use Rattle.satip_fronts.specs.Choice.{blocked}
use Rattle.satip_query.specs.declared.faults.QueryFault.{QueryFault}
use Rattle.satip_query.specs.declared.faults.QueryFault.TheVariants.{Syntax, Range}
use Rattle.satip_query.specs.declared.bodies.RefusalBody.TheVariants.{NotOwner, NoMoreSessions, NoMoreFrontends}
use Rattle.satip_tune.specs.declared.keys.Key.TheVariants.{Delpids}
use Rattle.satip_rtsp.specs.declared.requests.Refusal.{Refusal}
use Rattle.satip_rtsp.specs.declared.requests.Refusal.TheVariants.{Broken, TooLong, NoCseq, Version, Method as BadMethod, Require, Target, Query as QueryAt}
use Rattle.satip_http.specs.declared.requests.HttpRefusal.{HttpRefusal}
use Rattle.satip_http.specs.declared.requests.HttpRefusal.TheVariants.{Broken as HttpBroken, TooLong as HttpTooLong, Version as HttpVersion, Method as HttpMethod, Target as HttpTarget, NotFound, Query as HttpQuery}
use Rattle.satip_rtsp.specs.declared.requests.SessionName.{SessionName}
use Rattle.satip_rtsp.specs.declared.requests.SessionName.TheVariants.{Absent, Named, Other}
use Rattle.satip_rtsp.specs.declared.requests.Method.{Method}
use Rattle.satip_rtsp.specs.declared.requests.Method.TheVariants.{Options, Describe, Setup, Play, Teardown}
use Rattle.satip_rtsp.specs.Replies.{text_reply}
use Rattle.satip_http.specs.Heads.{http_refusal}
use Rattle.satip_frame.specs.declared.framing.Break.TheVariants.{Bad, TooLong as too_long}
use Rattle.satip_plain.specs.Types.{SessionId, Config, Peer, Draw, Tuning, Change, Key, Query, Request, HttpRequest}
use Rattle.satip_plain.specs.declared.answers.Answer.TheVariants.{Get}
use Rattle.satip_plain.specs.declared.answers.GetAnswer.TheVariants.{Refused as GetRefused}
use Rattle.satip_plain.specs.declared.events.Event.{Event}
use Rattle.satip_plain.specs.declared.events.Event.TheVariants.{Request as Asked, Get as Got, Tick, Packet, Ended, Ask, Pull, Close, Stop}
use Rattle.satip_plain.specs.State.{Session, Stream, State, stream_of}
use Rattle.satip_plain.specs.Sending.{settle}
use Rattle.satip_plain.specs.Streams.{to_set, asked_pids, changed_tuning, outlook_of}
use Rattle.satip_plain.specs.Refusals.{change_before, message_before, get_before, Refused, first_given, where_true, plainly, telling, of_message, of_http_message, of_query_fault, of_tuning, of_pids, key_missing, is_full, front_missing, new_outlook, of_query, session_missing, stream_missing, stream_of_another, not_owner, stream_meant, session_named, makes_session, decide, decide_get}
use Rattle.satip_rtsp.specs.Methods.{names_none, needs_session, is_setup, is_describe, looks_at_stream, changes}
use Rattle.satip_plain.specs.Steps.{outcome, step, on_request, on_get, refuse, done_by, start, accepted, play_of, teardown_of, heard_by, refused_reply, message_reply}
use Rattle.satip_plain.specs.Readings.{Made, Readings, living, home_of_number, named_in, names, next_made, outlook_in, readings}
use Rattle.satip_laws.specs.Agreement.{stream_told}
use Rattle.satip_laws.specs.Busy.{query_before, all_before, home_meant, IsBlocked, IsBlockedRequest, IsBlockedGet, IsBlockedHere, IsToldBusy, BusyWhereBlocked}
use Rattle.satip_laws.proofs.SameTests.{none_true}
use Rattle.satip_laws.proofs.Agree.{Agrees, outlook_same, outlook_new, home_found, home_has}
use Rattle.satip_laws.proofs.Deciding.{IsNone, all_none, where_none, named_present, named_facts, own_stream, meant_number, meant_named}
use Rattle.satip_laws.proofs.Latest.{latest}
use Rattle.satip_laws.proofs.BusyTexts

abbrev busy : Refused
busy = telling 503 NoMoreFrontends

-- lists of causes

first_later : (os ps : List (Option Refused)) → first_given os ≡ None → first_given (os ++ ps) ≡ first_given ps
first_later [] ps e = refl
first_later (None ∷ os) ps e = first_later os ps e
first_later (Some x ∷ os) ps e = cc

first_sooner : (os ps : List (Option Refused)) (x : Refused) → first_given os ≡ Some x → first_given (os ++ ps) ≡ Some x
first_sooner [] ps x e = cc
first_sooner (None ∷ os) ps x e = first_sooner os ps x e
first_sooner (Some y ∷ os) ps x e = e

-- causes whose reply has another text
abbrev IsOther : Option ℕ → Option Refused → Type 0
IsOther cseq None = Unit {0}
IsOther cseq (Some x) = BusyTexts.Another (refused_reply cseq x) cseq

first_other : (cseq : Option ℕ) (os : List (Option Refused)) (x : Refused) → Each (IsOther cseq) os → first_given os ≡ Some x
    → BusyTexts.Another (refused_reply cseq x) cseq
first_other cseq [] x e f = cc
first_other cseq (None ∷ os) x e f = first_other cseq os x e.1 f
first_other cseq (Some y ∷ os) x e f = let same : y ≡ x = cc in subst (λ z. BusyTexts.Another (refused_reply cseq z) cseq) same e.0

where_other : (cseq : Option ℕ) (b : Bool) (x : Refused) → BusyTexts.Another (refused_reply cseq x) cseq → IsOther cseq (where_true b x)
where_other cseq true x e = e
where_other cseq false x e = tt

fault_other : (cseq : Option ℕ) (fault : QueryFault) → BusyTexts.Another (refused_reply cseq (of_query_fault fault)) cseq
fault_other cseq (Syntax key) = BusyTexts.syntax_other cseq key
fault_other cseq (Range key) = BusyTexts.range_other cseq key

message_other : (cseq : Option ℕ) (o : Option Refusal) → IsOther cseq (option_map of_message o)
message_other cseq None = tt
message_other cseq (Some Broken) = BusyTexts.bad_other cseq
message_other cseq (Some TooLong) = BusyTexts.long_other cseq
message_other cseq (Some NoCseq) = BusyTexts.bad_other cseq
message_other cseq (Some Version) = BusyTexts.version_other cseq
message_other cseq (Some BadMethod) = BusyTexts.method_other cseq
message_other cseq (Some (Require kept)) = BusyTexts.option_other cseq
message_other cseq (Some Target) = BusyTexts.bad_other cseq
message_other cseq (Some (QueryAt fault)) = fault_other cseq fault

-- the reply to what the message is refused for
reply_other : (cseq : Option ℕ) (m : Refusal) → BusyTexts.Another (message_reply cseq (of_message m) m) cseq
reply_other cseq Broken = BusyTexts.closing_other cseq Bad
reply_other cseq TooLong = BusyTexts.closing_other cseq too_long
reply_other cseq NoCseq = BusyTexts.bad_other cseq
reply_other cseq Version = BusyTexts.version_other cseq
reply_other cseq BadMethod = BusyTexts.method_other cseq
reply_other cseq (Require kept) = BusyTexts.unsupported_other cseq kept
reply_other cseq Target = BusyTexts.bad_other cseq
reply_other cseq (QueryAt fault) = fault_other cseq fault

tuning_other : (cseq : Option ℕ) (r : Result Tuning Key) → IsOther cseq (of_tuning r)
tuning_other cseq (Ok tuning) = tt
tuning_other cseq (Err key) = BusyTexts.syntax_other cseq key

key_other : (cseq : Option ℕ) (old : Option Tuning) (change : Change) → IsOther cseq (key_missing old change)
key_other cseq old change = by (gives_any change)
  where
    by : (b : Bool) → IsOther cseq (cond b (of_tuning (changed_tuning old change)) None)
    by true = tuning_other cseq (changed_tuning old change)
    by false = tt

pids_are_other : (cseq : Option ℕ) (r : Result Pids PidFault) → IsOther cseq (of_pids r)
pids_are_other cseq (Ok pids) = tt
pids_are_other cseq (Err UnderAll) = BusyTexts.range_other cseq Delpids
pids_are_other cseq (Err TooMany) = BusyTexts.pids_other cseq

change_other : (cseq : Option ℕ) (st : State) (tuning : Option Tuning) (pids : Pids) (makes : Bool) (query : Query)
    → Each (IsOther cseq) (change_before st tuning pids makes query)
change_other cseq st tuning pids makes query = (
  key_other cseq tuning query.change,
  (pids_are_other cseq (asked_pids pids query), (where_other cseq (makes && is_full st) (telling 503 NoMoreSessions) (BusyTexts.sessions_other cseq), tt)),
)

query_other : (cseq : Option ℕ) (st : State) (r : Request) (o : Option Stream) → Each (IsOther cseq) (query_before st r o)
query_other cseq st r None = change_other cseq st None (Only []) (makes_session r) r.query
query_other cseq st r (Some t) = change_other cseq st t.tuning t.pids (makes_session r) r.query

before_other : (cseq : Option ℕ) (st : State) (r : Request) (later : List (Option Refused)) → Each (IsOther cseq) later
    → Each (IsOther cseq) (message_before st r ++ later)
before_other cseq st r later rest = (
  message_other cseq r.refusal,
  (
    where_other cseq (session_missing st r) (plainly 454) (BusyTexts.session_other cseq),
    (
      where_other cseq (stream_missing st r) (plainly 404) (BusyTexts.found_other cseq),
      (
        where_other cseq (stream_of_another st r) (plainly 454) (BusyTexts.session_other cseq),
        (
          where_other cseq (not_owner st r) (telling 403 NotOwner) (BusyTexts.owner_other cseq),
          (
            where_other cseq (is_setup r.method && not (names_none r.session) && is_none r.stream) (plainly 455) (BusyTexts.state_other cseq),
            (where_other cseq (is_setup r.method && is_none r.ports) (plainly 461) (BusyTexts.transport_other cseq), rest),
          ),
        ),
      ),
    ),
  ),
)

-- the last cause of all, for the stream that is meant

abbrev front_line : Config → State → Request → Option Stream → Bool
front_line c st r None = front_missing c (new_outlook c st) None r.query.change
front_line c st r (Some t) = front_missing c (outlook_of c st t.number) t.tuning r.query.change

query_parts : (c : Config) (st : State) (r : Request) (o : Option Stream)
    → of_query c st r o ≡ query_before st r o ++ where_true (front_line c st r o) busy ∷ []
query_parts c st r None = refl
query_parts c st r (Some t) = refl

decided : (c : Config) (st : State) (r : Request)
    → decide c st r ≡ first_given (message_before st r ++ cond (changes r.method) (of_query c st r (stream_meant st r)) [])
decided c st r = refl

decided_change : (c : Config) (st : State) (r : Request) → changes r.method ≡ true
    → decide c st r ≡ first_given (all_before st r ++ where_true (front_line c st r (stream_meant st r)) busy ∷ [])
decided_change c st r change = decided c st r ∙ ap (λ b. first_given (message_before st r ++ cond b (of_query c st r (stream_meant st r)) [])) change
    ∙ ap (λ os. first_given (message_before st r ++ os)) (query_parts c st r (stream_meant st r))

decided_still : (c : Config) (st : State) (r : Request) → changes r.method ≡ false → decide c st r ≡ first_given (message_before st r ++ [])
decided_still c st r still = decided c st r ∙ ap (λ b. first_given (message_before st r ++ cond b (of_query c st r (stream_meant st r)) [])) still

-- the reply says so only where this last cause is the first that applies
pub record IsLast (c : Config) (st : State) (r : Request) : Type 0 where
  pub change : changes r.method ≡ true
  pub before : first_given (all_before st r) ≡ None
  pub front : front_line c st r (stream_meant st r) ≡ true

module _ (c : Config) (st : State) (peer : Peer) (draw : Draw) (r : Request) where
  abbrev heard : State
  heard = heard_by r st

  done_other : (m : Method) → BusyTexts.Another (done_by m c peer draw r heard).reply r.cseq
  done_other Options = BusyTexts.options_other r.cseq (option_map (λ s. s.id) (session_named heard r.session))
  done_other Describe = BusyTexts.describe_other r.cseq c.address _ _
  done_other Setup = BusyTexts.setup_other r.cseq _ c.timeout _ _
  done_other Play = by (session_named heard r.session)
    where
      by : (q : Option Session) → BusyTexts.Another (option_map_or (play_of c r heard) q (accepted (settle heard) [])).reply r.cseq
      by None = BusyTexts.empty_other r.cseq
      by (Some s) = BusyTexts.play_other r.cseq s.id c.address s.stream _
  done_other Teardown = by (session_named heard r.session)
    where
      by : (q : Option Session) → BusyTexts.Another (option_map_or (teardown_of r heard) q (accepted (settle heard) [])).reply r.cseq
      by None = BusyTexts.empty_other r.cseq
      by (Some s) = BusyTexts.ok_other r.cseq

  told_last : (on_request c peer draw r st).reply ≡ text_reply r.cseq 503 NoMoreFrontends → IsLast c st r
  told_last told = by (decide c st r) refl told
    where
      last : (x : Refused) → decide c st r ≡ Some x → refused_reply r.cseq x ≡ text_reply r.cseq 503 NoMoreFrontends → IsLast c st r
      last x is text = kind (changes r.method) refl
        where
          still : changes r.method ≡ false → IsLast c st r
          still e = absurd (first_other r.cseq (message_before st r ++ []) x (before_other r.cseq st r [] tt) (sym (decided_still c st r e) ∙ is) text)

          changing : changes r.method ≡ true → (o : Option Refused) → first_given (all_before st r) ≡ o → IsLast c st r
          changing e (Some y) f =
              let same : y ≡ x = same_Some y x (sym (first_sooner (all_before st r) (where_true (front_line c st r (stream_meant st r)) busy ∷ []) y f)
              ∙ sym (decided_change c st r e) ∙ is) in
              absurd (first_other r.cseq (all_before st r) y
              (before_other r.cseq st r (query_before st r (stream_meant st r)) (query_other r.cseq st r (stream_meant st r))) f
              (ap (refused_reply r.cseq) same ∙ text))
          changing e None f = front (front_line c st r (stream_meant st r)) refl
              (sym (first_later (all_before st r) (where_true (front_line c st r (stream_meant st r)) busy ∷ []) f) ∙ sym (decided_change c st r e) ∙ is)
            where
              front : (b : Bool) → front_line c st r (stream_meant st r) ≡ b → first_given (where_true b busy ∷ []) ≡ Some x → IsLast c st r
              front true k i = record { change = e; before = f; front = k }
              front false k i = cc

          kind : (b : Bool) → changes r.method ≡ b → IsLast c st r
          kind true e = changing e (first_given (all_before st r)) refl
          kind false e = still e

      refused : (x : Refused) → decide c st r ≡ Some x → (o : Option Refusal) → r.refusal ≡ o
          → option_map_or (message_reply r.cseq x) o (refused_reply r.cseq x) ≡ text_reply r.cseq 503 NoMoreFrontends → IsLast c st r
      refused x is None f text = last x is text
      refused x is (Some m) f text =
          let first : decide c st r ≡ Some (of_message m) = ap (λ o. first_given (option_map of_message o ∷ later)) f in
          let same : of_message m ≡ x = same_Some (of_message m) x (sym first ∙ is) in
          absurd (reply_other r.cseq m (ap (λ y. message_reply r.cseq y m) same ∙ text))
        where
          later : List (Option Refused)
          later =
              where_true (session_missing st r) (plainly 454)
              ∷ where_true (stream_missing st r) (plainly 404)
              ∷ where_true (stream_of_another st r) (plainly 454)
              ∷ where_true (not_owner st r) (telling 403 NotOwner)
              ∷ where_true (is_setup r.method && not (names_none r.session) && is_none r.stream) (plainly 455)
              ∷ where_true (is_setup r.method && is_none r.ports) (plainly 461)
              ∷ cond (changes r.method) (of_query c st r (stream_meant st r)) []

      by : (o : Option Refused) → decide c st r ≡ o
          → (option_map_or (refuse r heard) o (done_by r.method c peer draw r heard)).reply ≡ text_reply r.cseq 503 NoMoreFrontends → IsLast c st r
      by None is text = absurd (done_other r.method text)
      by (Some x) is text = refused x is r.refusal refl text

  last_told : IsLast c st r → (on_request c peer draw r st).reply ≡ text_reply r.cseq 503 NoMoreFrontends
  last_told l = ap (λ o. (option_map_or (refuse r heard) o (done_by r.method c peer draw r heard)).reply) is
      ∙ ap (λ o. option_map_or (message_reply r.cseq busy) o (refused_reply r.cseq busy)) (whole r.refusal message)
    where
      is : decide c st r ≡ Some busy
      is = decided_change c st r l.change ∙ first_later (all_before st r) (where_true (front_line c st r (stream_meant st r)) busy ∷ []) l.before
          ∙ ap (λ b. first_given (where_true b busy ∷ [])) l.front

      message : option_map of_message r.refusal ≡ None
      message = (all_none (all_before st r) l.before).0

      whole : (o : Option Refusal) → option_map of_message o ≡ None → o ≡ None
      whole None e = refl
      whole (Some m) e = cc

-- what is missing by the readings

missing_blocked : (c : Config) (g : Readings) (home : SessionId) (query : Query) → front_missing c (outlook_in c g home) (g.tuned home) query.change ≡ true
    → IsBlocked c g home query
missing_blocked c g home query e = by (to_set (g.tuned home) query.change) refl e
  where
    by : (o : Option Tuning) → to_set (g.tuned home) query.change ≡ o → option_map_or (λ t. blocked (outlook_in c g home) (mux_for c.muxes t) t) o false ≡ true
        → IsBlocked c g home query
    by None f k = cc
    by (Some t) f k = record { tuning = t; set = f; taken = k }

blocked_missing : (c : Config) (g : Readings) (home : SessionId) (query : Query) → IsBlocked c g home query
    → front_missing c (outlook_in c g home) (g.tuned home) query.change ≡ true
blocked_missing c g home query b = ap (λ o. option_map_or (λ t. blocked (outlook_in c g home) (mux_for c.muxes t) t) o false) b.set ∙ b.taken

-- a stream that isn't founded yet
new_missing : (c : Config) (st : State) (g : Readings) → Agrees c st g → (id : SessionId) → length g.made < id.count → (query : Query)
    → front_missing c (new_outlook c st) None query.change ≡ front_missing c (outlook_in c g id) (g.tuned id) query.change
new_missing c st g a id above query =
    ap (λ o. front_missing c o None query.change) (outlook_new c st g a id above)
    ∙ ap (λ t. front_missing c (outlook_in c g id) t query.change) (sym (a.loosely.told.unmade id above).tuned)

module _ (c : Config) (st : State) (g : Readings) (a : Agrees c st g) (draw : Draw) (r : Request) (change : changes r.method ≡ true)
    (before : first_given (all_before st r) ≡ None) where
  lines : Each IsNone (all_before st r)
  lines = all_none (all_before st r) before

  present : session_missing st r ≡ false
  present = where_none (session_missing st r) (plainly 454) lines.1.0

  there : stream_missing st r ≡ false
  there = where_none (stream_missing st r) (plainly 404) lines.1.1.0

  own : stream_of_another st r ≡ false
  own = where_none (stream_of_another st r) (plainly 454) lines.1.1.1.0

  complete : (is_setup r.method && not (names_none r.session) && is_none r.stream) ≡ false
  complete = where_none (is_setup r.method && not (names_none r.session) && is_none r.stream) (plainly 455) lines.1.1.1.1.1.0

  abbrev wanted : SessionId → Bool
  wanted home = front_missing c (outlook_in c g home) (g.tuned home) r.query.change

  of_living : (m : Made) → Has m (living g) → stream_meant st r ≡ Some (stream_told g m.home) → home_meant g draw r ≡ m.home
      → front_line c st r (stream_meant st r) ≡ wanted (home_meant g draw r)
  of_living m h meant home = ap (front_line c st r) meant ∙ ap (λ o. front_missing c o (g.tuned m.home) r.query.change) (outlook_same c st g a m h)
      ∙ ap wanted (sym home)

  named : names_none r.session ≡ false → front_line c st r (stream_meant st r) ≡ wanted (home_meant g draw r)
  named no_name = of_living m facts.0 (meant_named c st g a r own m is looks needs_it) (home r.stream refl)
    where
      there_is : (m : Made) × (named_in g r.session ≡ Some m)
      there_is = named_present c st g a r no_name present

      m : Made
      m = there_is.0

      is : named_in g r.session ≡ Some m
      is = there_is.1

      facts : Has m (living g) × (names r.session m.id ≡ true) × (m.http ≡ false)
      facts = named_facts g r.session m is

      looks_at : (x : Method) → changes x ≡ true → (is_setup x || needs_session x) ≡ true
      looks_at Options f = cc
      looks_at Describe f = cc
      looks_at Setup f = refl
      looks_at Play f = refl
      looks_at Teardown f = refl

      looks : (is_setup r.method || needs_session r.method) ≡ true
      looks = looks_at r.method change

      needs : (x : Method) → changes x ≡ true → (is_setup x && not (names_none r.session) && is_none r.stream) ≡ false → r.stream ≡ None
          → needs_session x ≡ true
      needs Options f k i = cc
      needs Describe f k i = cc
      needs Setup f k i = none_true true refl (sym (ap (λ b. not b && is_none r.stream) no_name ∙ ap is_none i) ∙ k)
      needs Play f k i = refl
      needs Teardown f k i = refl

      needs_it : r.stream ≡ None → needs_session r.method ≡ true
      needs_it = needs r.method change complete

      home : (o : Option ℕ) → r.stream ≡ o → home_meant g draw r ≡ m.home
      home None f = ap (λ o. unwrap_or (option_and_then (home_of_number g) o) (option_map_or (λ x. x.home) (named_in g r.session) (next_made g draw.word))) f
          ∙ ap (λ o. option_map_or (λ x. x.home) o (next_made g draw.word)) is
      home (Some n) f = ap (λ o. unwrap_or (option_and_then (home_of_number g) o) (option_map_or (λ x. x.home) (named_in g r.session) (next_made g draw.word)))
          f
          ∙ ap (λ k. unwrap_or (home_of_number g k) (option_map_or (λ x. x.home) (named_in g r.session) (next_made g draw.word)))
          (sym (own_stream c st g a r own m is looks n f))
          ∙ ap (λ o. unwrap_or o (option_map_or (λ x. x.home) (named_in g r.session) (next_made g draw.word))) (home_found g a.loosely.told m facts.0)

  unnamed : names_none r.session ≡ true → front_line c st r (stream_meant st r) ≡ wanted (home_meant g draw r)
  unnamed none = by r.stream refl
    where
      setup_of : (x : Method) → changes x ≡ true → needs_session x ≡ false → x ≡ Setup
      setup_of Options f k = cc
      setup_of Describe f k = cc
      setup_of Setup f k = refl
      setup_of Play f k = cc
      setup_of Teardown f k = cc

      needless : needs_session r.method ≡ false
      needless = sym (ap (λ b. cond b (needs_session r.method) (is_none (session_named st r.session))) none) ∙ present

      method : r.method ≡ Setup
      method = setup_of r.method change needless

      numbered : (n : ℕ) → r.stream ≡ Some n → is_none (stream_of st n) ≡ false
      numbered n is = sym (ap (λ x. looks_at_stream x
          && option_map_or (λ number. is_none (stream_of st number)) r.stream (is_describe x && length st.streams == 0)) method
          ∙ ap (λ o. option_map_or (λ number. is_none (stream_of st number)) o (false && length st.streams == 0)) is) ∙ there

      at : (n : ℕ) → r.stream ≡ Some n → (o : Option SessionId) → home_of_number g n ≡ o → is_none (option_map (stream_told g) o) ≡ false
          → front_line c st r (stream_meant st r) ≡ wanted (home_meant g draw r)
      at n is None f e = cc
      at n is (Some h) f e =
          let m = home_has g a.loosely.told n h f in
          of_living m.0 m.1 (meant_number st r n is ∙ a.streams n ∙ ap (option_map (stream_told g)) (f ∙ ap Some (sym m.2)))
          (ap (λ o. unwrap_or (option_and_then (home_of_number g) o) (option_map_or (λ x. x.home) (named_in g r.session) (next_made g draw.word))) is
          ∙ ap (λ o. unwrap_or o (option_map_or (λ x. x.home) (named_in g r.session) (next_made g draw.word))) (f ∙ ap Some (sym m.2)))

      by : (o : Option ℕ) → r.stream ≡ o → front_line c st r (stream_meant st r) ≡ wanted (home_meant g draw r)
      by (Some n) is = at n is (home_of_number g n) refl (ap is_none (sym (a.streams n)) ∙ numbered n is)
      by None is =
          let meant : stream_meant st r ≡ None =
          ap (λ o. option_and_then (stream_of st)
          (cond (is_some o) o (cond (needs_session r.method) (option_map (λ s. s.stream) (session_named st r.session)) None))) is
          ∙ ap (λ b. option_and_then (stream_of st) (cond b (option_map (λ s. s.stream) (session_named st r.session)) None)) needless in
          let home : home_meant g draw r ≡ next_made g draw.word =
          ap (λ o. unwrap_or (option_and_then (home_of_number g) o) (option_map_or (λ x. x.home) (named_in g r.session) (next_made g draw.word))) is
          ∙ ap (λ o. option_map_or (λ x. x.home) o (next_made g draw.word)) (none_in r.session none) in
          ap (front_line c st r) meant ∙ new_missing c st g a (next_made g draw.word) (omega arith) r.query ∙ ap wanted (sym home)
        where
          none_in : (n : SessionName) → names_none n ≡ true → named_in g n ≡ None
          none_in Absent e = refl
          none_in (Named id) e = cc
          none_in Other e = cc

  front_read : front_line c st r (stream_meant st r) ≡ wanted (home_meant g draw r)
  front_read = by (names_none r.session) refl
    where
      by : (b : Bool) → names_none r.session ≡ b → front_line c st r (stream_meant st r) ≡ wanted (home_meant g draw r)
      by true none = unnamed none
      by false no_name = named no_name

request_busy : (c : Config) (st : State) (g : Readings) → Agrees c st g → (peer : Peer) (draw : Draw) (r : Request) (reply : List ℕ)
    → reply ≡ (on_request c peer draw r st).reply
    → (IsToldBusy (Asked peer draw r) reply → IsBlockedRequest c st g draw r) × (IsBlockedRequest c st g draw r → IsToldBusy (Asked peer draw r) reply)
request_busy c st g a peer draw r reply is = (
  (λ told. let l = told_last c st peer draw r (sym is ∙ told) in
      record {
        changes_stream = l.change;
        before = l.before;
        blocked = missing_blocked c g (home_meant g draw r) r.query (sym (front_read c st g a draw r l.change l.before) ∙ l.front);
      }),
  (λ b. is ∙ last_told c st peer draw r
      (record {
        change = b.changes_stream;
        before = b.before;
        front = front_read c st g a draw r b.changes_stream b.before ∙ blocked_missing c g (home_meant g draw r) r.query b.blocked;
      })),
)

-- GETs

abbrev IsOtherGet : Option Refused → Type 0
IsOtherGet None = Unit {0}
IsOtherGet (Some x) = BusyTexts.AnotherGet (http_refusal x.status x.body)

first_other_get : (os : List (Option Refused)) (x : Refused) → Each IsOtherGet os → first_given os ≡ Some x
    → BusyTexts.AnotherGet (http_refusal x.status x.body)
first_other_get [] x e f = cc
first_other_get (None ∷ os) x e f = first_other_get os x e.1 f
first_other_get (Some y ∷ os) x e f = let same : y ≡ x = cc in subst (λ z. BusyTexts.AnotherGet (http_refusal z.status z.body)) same e.0

get_fault_other : (fault : QueryFault) → BusyTexts.AnotherGet (http_refusal (of_query_fault fault).status (of_query_fault fault).body)
get_fault_other (Syntax key) = BusyTexts.get_syntax_other key
get_fault_other (Range key) = BusyTexts.get_range_other key

get_message_other : (o : Option HttpRefusal) → IsOtherGet (option_map of_http_message o)
get_message_other None = tt
get_message_other (Some HttpBroken) = BusyTexts.get_400_other
get_message_other (Some HttpTooLong) = BusyTexts.get_413_other
get_message_other (Some HttpVersion) = BusyTexts.get_505_other
get_message_other (Some HttpMethod) = BusyTexts.get_501_other
get_message_other (Some HttpTarget) = BusyTexts.get_400_other
get_message_other (Some NotFound) = BusyTexts.get_404_other
get_message_other (Some (HttpQuery fault)) = get_fault_other fault

get_tuning_other : (r : Result Tuning Key) → IsOtherGet (of_tuning r)
get_tuning_other (Ok tuning) = tt
get_tuning_other (Err key) = BusyTexts.get_syntax_other key

get_key_other : (old : Option Tuning) (change : Change) → IsOtherGet (key_missing old change)
get_key_other old change = by (gives_any change)
  where
    by : (b : Bool) → IsOtherGet (cond b (of_tuning (changed_tuning old change)) None)
    by true = get_tuning_other (changed_tuning old change)
    by false = tt

get_pids_are_other : (r : Result Pids PidFault) → IsOtherGet (of_pids r)
get_pids_are_other (Ok pids) = tt
get_pids_are_other (Err UnderAll) = BusyTexts.get_range_other Delpids
get_pids_are_other (Err TooMany) = BusyTexts.get_pids_other

get_full_other : (b : Bool) → IsOtherGet (where_true b (telling 503 NoMoreSessions))
get_full_other true = BusyTexts.get_sessions_other
get_full_other false = tt

get_before_other : (st : State) (r : HttpRequest) → Each IsOtherGet (get_before st r)
get_before_other st r = (
  get_message_other r.refusal,
  (
    get_tuning_other (changed_tuning None r.query.change),
    (get_key_other None r.query.change, (get_pids_are_other (asked_pids (Only []) r.query), (get_full_other (true && is_full st), tt))),
  ),
)

abbrev get_line : Config → State → HttpRequest → Bool
get_line c st r = front_missing c (new_outlook c st) None r.query.change

get_decided : (c : Config) (st : State) (r : HttpRequest) → decide_get c st r ≡ first_given (get_before st r ++ where_true (get_line c st r) busy ∷ [])
get_decided c st r = refl

module _ (c : Config) (st : State) (peer : Peer) (draw : Draw) (r : HttpRequest) where
  get_told : (on_get c peer draw r st).reply ≡ http_refusal 503 (Some NoMoreFrontends) → (first_given (get_before st r) ≡ None) × (get_line c st r ≡ true)
  get_told told = by (decide_get c st r) refl told
    where
      last : (x : Refused) → first_given (get_before st r ++ where_true (get_line c st r) busy ∷ []) ≡ Some x
          → http_refusal x.status x.body ≡ http_refusal 503 (Some NoMoreFrontends)
          → (o : Option Refused) → first_given (get_before st r) ≡ o → (first_given (get_before st r) ≡ None) × (get_line c st r ≡ true)
      last x is text (Some y) f =
          let same : y ≡ x = same_Some y x (sym (first_sooner (get_before st r) (where_true (get_line c st r) busy ∷ []) y f) ∙ is) in
          absurd (first_other_get (get_before st r) y (get_before_other st r) f (ap (λ z. http_refusal z.status z.body) same ∙ text))
      last x is text None f = (f, front (get_line c st r) (sym (first_later (get_before st r) (where_true (get_line c st r) busy ∷ []) f) ∙ is))
        where
          front : (b : Bool) → first_given (where_true b busy ∷ []) ≡ Some x → b ≡ true
          front true i = refl
          front false i = cc

      by : (o : Option Refused) → decide_get c st r ≡ o
          → (option_map_or (λ refused. outcome (settle st) (Get (GetRefused refused.status)) (http_refusal refused.status refused.body)) o
          (start c peer draw r st)).reply ≡ http_refusal 503 (Some NoMoreFrontends)
          → (first_given (get_before st r) ≡ None) × (get_line c st r ≡ true)
      by None is text = absurd (BusyTexts.start_other text)
      by (Some x) is text = last x is text (first_given (get_before st r)) refl

  get_last : first_given (get_before st r) ≡ None → get_line c st r ≡ true → (on_get c peer draw r st).reply ≡ http_refusal 503 (Some NoMoreFrontends)
  get_last before line =
      ap (λ o. (option_map_or (λ (refused : Refused). outcome (settle st) (Get (GetRefused refused.status)) (http_refusal refused.status refused.body)) o
      (start c peer draw r st)).reply)
      (get_decided c st r ∙ first_later (get_before st r) (where_true (get_line c st r) busy ∷ []) before ∙ ap (λ b. first_given (where_true b busy ∷ [])) line)

get_busy : (c : Config) (st : State) (g : Readings) → Agrees c st g → (peer : Peer) (draw : Draw) (r : HttpRequest) (reply : List ℕ)
    → reply ≡ (on_get c peer draw r st).reply
    → (IsToldBusy (Got peer draw r) reply → IsBlockedGet c st g draw r) × (IsBlockedGet c st g draw r → IsToldBusy (Got peer draw r) reply)
get_busy c st g a peer draw r reply is = (
  (λ told. let l = get_told c st peer draw r (sym is ∙ told) in
      record {
        before = l.0;
        blocked = missing_blocked c g (next_made g draw.word) r.query
            (sym (new_missing c st g a (next_made g draw.word) (omega arith) r.query) ∙ l.1);
      }),
  (λ b. is ∙ get_last c st peer draw r b.before
      (new_missing c st g a (next_made g draw.word) (omega arith) r.query ∙ blocked_missing c g (next_made g draw.word) r.query b.blocked)),
)

event_busy : (c : Config) (st : State) (g : Readings) → Agrees c st g → (event : Event) (reply : List ℕ) → reply ≡ (step c st event).reply
    → (IsToldBusy event reply → IsBlockedHere c st g event) × (IsBlockedHere c st g event → IsToldBusy event reply)
event_busy c st g a (Asked peer draw r) reply is = request_busy c st g a peer draw r reply is
event_busy c st g a (Got peer draw r) reply is = get_busy c st g a peer draw r reply is
event_busy c st g a (Tick now) reply is = ((λ t. t), (λ t. t))
event_busy c st g a (Packet front tune packet) reply is = ((λ t. t), (λ t. t))
event_busy c st g a (Ended front tune) reply is = ((λ t. t), (λ t. t))
event_busy c st g a (Ask front) reply is = ((λ t. t), (λ t. t))
event_busy c st g a (Pull id) reply is = ((λ t. t), (λ t. t))
event_busy c st g a (Close id) reply is = ((λ t. t), (λ t. t))
event_busy c st g a Stop reply is = ((λ t. t), (λ t. t))

pub busy_where_blocked : BusyWhereBlocked
busy_where_blocked c h e legal = let l = latest c h e legal in event_busy c.config _ (readings c h) l.agrees e.event e.out.reply l.fits.reply
