-- Which requests are refused, and why: one line for each cause, in order of precedence.
use Rattle.std.specs.Prelude.{ℕ, ◌==◌, ◌&&◌, ◌||◌, not, nat_le, Bool, true, false, List, [], ◌∷◌, ◌++◌, length, Option, None, Some, option_map, option_and_then, is_some, is_none, Result, Ok, Err, if◌then◌else◌}
use Rattle.std.specs.Option.{option_map_or}
use Rattle.satip_pids.specs.declared.fault.PidFault.{PidFault}
use Rattle.satip_pids.specs.declared.fault.PidFault.TheVariants.{TooMany, UnderAll}
use Rattle.satip_pids.specs.Pids.{Pids, Only}
use Rattle.satip_query.specs.Queries.{gives_key}
use Rattle.satip_tune.specs.Tunings.{gives_any}
use Rattle.satip_query.specs.declared.faults.QueryFault.{QueryFault}
use Rattle.satip_query.specs.declared.faults.QueryFault.TheVariants.{Syntax, Range}
use Rattle.satip_rtsp.specs.Methods.{changes, is_describe, is_setup, looks_at_stream, names_none, needs_session}
use Rattle.satip_rtsp.specs.declared.requests.Refusal.{Refusal}
use Rattle.satip_rtsp.specs.declared.requests.Refusal.TheVariants.{Broken, TooLong, NoCseq, Version, Method as BadMethod, Require, Target, Query as QueryAt}
use Rattle.satip_http.specs.declared.requests.HttpRefusal.{HttpRefusal}
use Rattle.satip_http.specs.declared.requests.HttpRefusal.TheVariants.{Broken as HttpBroken, TooLong as HttpTooLong, Version as HttpVersion, Method as HttpMethod, Target as HttpTarget, NotFound, Query as HttpQuery}
use Rattle.satip_query.specs.declared.bodies.RefusalBody.TheVariants.{CheckSyntax, OutOfRange, NotOwner, NoMorePids, NoMoreSessions, NoMoreFrontends}
use Rattle.satip_rtsp.specs.declared.requests.SessionName.{SessionName}
use Rattle.satip_rtsp.specs.declared.requests.SessionName.TheVariants.{Absent, Named, Other}
use Rattle.satip_tune.specs.declared.keys.Key.TheVariants.{Delpids}
use Rattle.satip_plain.specs.Types.{Tuning, Change, Key, Query, RefusalBody, Request, HttpRequest, Config}
use Rattle.satip_plain.specs.State.{Session, Stream, State, same_id, rtsp_session, stream_of, owner, most_sessions, most_made}
use Rattle.satip_fronts.specs.Choice.{Outlook, blocked}
use Rattle.satip_tune.specs.Frontends.{mux_for}
use Rattle.satip_plain.specs.Streams.{changed_tuning, to_set, outlook_of, asked_pids}

-- the first value that is present
abbrev pub first_given : {X : Type 0} → List (Option X) → Option X
first_given [] = None
first_given (None ∷ more) = first_given more
first_given (Some x ∷ more) = Some x

-- the status of a refusal, and its body if it has one
pub record Refused : Type 0 where
  pub status : ℕ
  pub body : Option RefusalBody

-- a refusal without a body, and one with a body
abbrev pub plainly : ℕ → Refused
plainly status = record { status = status; body = None }

abbrev pub telling : ℕ → RefusalBody → Refused
telling status body = record { status = status; body = Some body }

-- the refusal, if the test holds
abbrev pub where_true : Bool → Refused → Option Refused
where_true b refused = if b then Some refused else None

-- the refusal for a fault of the query
abbrev pub of_query_fault : QueryFault → Refused
of_query_fault (Syntax key) = telling 400 (CheckSyntax key)
of_query_fault (Range key) = telling 403 (OutOfRange key)

-- the refusal for a fault of the message itself
abbrev pub of_message : Refusal → Refused
of_message Broken = plainly 400
of_message TooLong = plainly 413
of_message NoCseq = plainly 400
of_message Version = plainly 505
of_message BadMethod = plainly 501
of_message (Require kept) = plainly 551
of_message Target = plainly 400
of_message (QueryAt fault) = of_query_fault fault

-- the refusal for a fault of the HTTP message itself
abbrev pub of_http_message : HttpRefusal → Refused
of_http_message HttpBroken = plainly 400
of_http_message HttpTooLong = plainly 413
of_http_message HttpVersion = plainly 505
of_http_message HttpMethod = plainly 501
of_http_message HttpTarget = plainly 400
of_http_message NotFound = plainly 404
of_http_message (HttpQuery fault) = of_query_fault fault

-- the living RTSP session that a request names
abbrev pub session_named : State → SessionName → Option Session
session_named st Absent = None
session_named st (Named id) = rtsp_session st id
session_named st Other = None

-- the named session doesn't live, or a session is needed and none is named
abbrev pub session_missing : State → Request → Bool
session_missing st r = if names_none r.session then needs_session r.method else is_none (session_named st r.session)

-- the named stream doesn't live; or DESCRIBE names none and none lives
abbrev pub stream_missing : State → Request → Bool
stream_missing st r =
    looks_at_stream r.method
    && option_map_or (λ number. is_none (stream_of st number)) r.stream (is_describe r.method && length st.streams == 0)

-- a session and a stream are named, and the stream isn't the session's
abbrev pub stream_of_another : State → Request → Bool
stream_of_another st r =
    (is_setup r.method || needs_session r.method)
    && option_map_or (λ s. option_map_or (λ number. not (s.stream == number)) r.stream false) (session_named st r.session) false

-- the number of the stream of a request: the named one; without a name, the session's for PLAY and TEARDOWN
abbrev pub number_meant : State → Request → Option ℕ
number_meant st r =
    if is_some r.stream then r.stream
    else (if needs_session r.method then option_map (λ s. s.stream) (session_named st r.session) else None)

-- the stream of a request, if it lives
abbrev pub stream_meant : State → Request → Option Stream
stream_meant st r = option_and_then (stream_of st) (number_meant st r)

-- whether the session is the owner of the stream of this number
abbrev pub owns : State → ℕ → Option Session → Bool
owns st number None = false
owns st number (Some s) = option_map_or (λ o. same_id o.id s.id) (owner st number) false

-- a known key is given for a living stream, but not by its owner
abbrev pub not_owner : State → Request → Bool
not_owner st r =
    changes r.method && gives_key r.query
    && option_map_or (λ t. not (owns st t.number (session_named st r.session))) (stream_meant st r) false

-- the refusal for a tuning key that is needed and missing
abbrev pub of_tuning : Result Tuning Key → Option Refused
of_tuning (Ok tuning) = None
of_tuning (Err key) = Some (telling 400 (CheckSyntax key))

-- a tuning key is given for a stream without a tuning, and a needed key is missing
abbrev pub key_missing : Option Tuning → Change → Option Refused
key_missing old change = if gives_any change then of_tuning (changed_tuning old change) else None

-- the refusal for a fault of the PIDs
abbrev pub of_pids : Result Pids PidFault → Option Refused
of_pids (Ok pids) = None
of_pids (Err UnderAll) = Some (telling 403 (OutOfRange Delpids))
of_pids (Err TooMany) = Some (telling 503 NoMorePids)

-- whether no further session can be created
abbrev pub is_full : State → Bool
is_full st = nat_le most_sessions (length st.sessions) || nat_le most_made st.made

-- a tuning is to be set, and each fitting front end is taken
abbrev pub front_missing : Config → Outlook → Option Tuning → Change → Bool
front_missing c outlook old change = option_map_or (λ tuning. blocked outlook (mux_for c.muxes tuning) tuning) (to_set old change) false

-- the refusals of a query for a stream with this tuning and these PIDs, before a front end is looked for; `makes`: the query also creates a session
abbrev pub change_before : State → Option Tuning → Pids → Bool → Query → List (Option Refused)
change_before st tuning pids makes query =
    key_missing tuning query.change
    ∷ of_pids (asked_pids pids query)
    ∷ where_true (makes && is_full st) (telling 503 NoMoreSessions)
    ∷ []

-- the refusal if no front end is available, which is last in precedence
abbrev pub front_last : Config → Outlook → Option Tuning → Query → List (Option Refused)
front_last c outlook tuning query = where_true (front_missing c outlook tuning query.change) (telling 503 NoMoreFrontends) ∷ []

-- the refusals of a query, that for a missing front end last
abbrev pub of_change : Config → State → Outlook → Option Tuning → Pids → Bool → Query → List (Option Refused)
of_change c st outlook tuning pids makes query = change_before st tuning pids makes query ++ front_last c outlook tuning query

-- the state of the front ends for a stream that isn't created yet
abbrev pub new_outlook : Config → State → Outlook
new_outlook c st = record (outlook_of c st 0) { own = None }

-- whether a SETUP creates a session
abbrev pub makes_session : Request → Bool
makes_session r = is_setup r.method && names_none r.session

-- the refusals of a request's query, for its stream or for a new one
abbrev pub of_query : Config → State → Request → Option Stream → List (Option Refused)
of_query c st r None = of_change c st (new_outlook c st) None (Only []) (makes_session r) r.query
of_query c st r (Some t) = of_change c st (outlook_of c st t.number) t.tuning t.pids (makes_session r) r.query

-- the refusals of any request, in order of precedence
abbrev pub message_before : State → Request → List (Option Refused)
message_before st r =
    option_map of_message r.refusal
    ∷ where_true (session_missing st r) (plainly 454)
    ∷ where_true (stream_missing st r) (plainly 404)
    ∷ where_true (stream_of_another st r) (plainly 454)
    ∷ where_true (not_owner st r) (telling 403 NotOwner)
    ∷ where_true (is_setup r.method && not (names_none r.session) && is_none r.stream) (plainly 455)
    ∷ where_true (is_setup r.method && is_none r.ports) (plainly 461)
    ∷ []

-- the refusal of a request; None if it is accepted
abbrev pub decide : Config → State → Request → Option Refused
decide c st r = first_given (message_before st r ++ (if changes r.method then of_query c st r (stream_meant st r) else []))

-- the refusals of an HTTP request, before a front end is looked for; it always asks for a tuning of a new stream
abbrev pub get_before : State → HttpRequest → List (Option Refused)
get_before st r =
    option_map of_http_message r.refusal
    ∷ of_tuning (changed_tuning None r.query.change)
    ∷ change_before st None (Only []) true r.query

-- the refusal of an HTTP request; None if it is accepted
abbrev pub decide_get : Config → State → HttpRequest → Option Refused
decide_get c st r = first_given (get_before st r ++ front_last c (new_outlook c st) None r.query)
