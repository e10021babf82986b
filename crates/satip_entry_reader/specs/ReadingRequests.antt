-- Reading queries and requests from the front of some bytes.
use Rattle.std.specs.Prelude.{ℕ, ◌==◌, if◌then◌else◌, List, Option, Some, None}
use Rattle.satip_tune.specs.declared.keys.Key.{Key}
use Rattle.satip_tune.specs.declared.keys.Key.TheVariants.{Fe, Src, Freq, Pol as PolKey, Ro, Msys, Mtype, Plts, Sr, Fec as FecKey, Pids, Addpids, Delpids}
use Rattle.satip_query.specs.declared.queries.Query.{Query}
use Rattle.satip_query.specs.declared.queries.PidsGiven.{PidsGiven}
use Rattle.satip_query.specs.declared.queries.PidsGiven.TheVariants.{Absent as NoPids, All as AllPids, Empty as EmptyPids, List as ThesePids}
use Rattle.satip_query.specs.declared.faults.QueryFault.{QueryFault}
use Rattle.satip_query.specs.declared.faults.QueryFault.TheVariants.{Syntax, Range}
use Rattle.satip_rtsp.specs.declared.requests.Method.{Method}
use Rattle.satip_rtsp.specs.declared.requests.Method.TheVariants.{Options, Describe, Setup, Play, Teardown}
use Rattle.satip_rtsp.specs.declared.requests.Refusal.{Refusal}
use Rattle.satip_rtsp.specs.declared.requests.Refusal.TheVariants.{Broken, TooLong, NoCseq, Version, Method as NoMethod, Require, Target, Query as AtQuery}
use Rattle.satip_rtsp.specs.declared.requests.SessionName.{SessionName}
use Rattle.satip_rtsp.specs.declared.requests.SessionName.TheVariants.{Absent, Named, Other}
use Rattle.satip_rtsp.specs.declared.requests.Request.{Request}
use Rattle.satip_http.specs.declared.requests.HttpRefusal.{HttpRefusal}
use Rattle.satip_http.specs.declared.requests.HttpRefusal.TheVariants.{Broken as HttpBroken, TooLong as HttpTooLong, Version as HttpVersion, Method as HttpMethod, Target as HttpTarget, NotFound, Query as HttpQuery}
use Rattle.satip_http.specs.declared.requests.HttpRequest.{HttpRequest}
use Rattle.satip_entry_reader.specs.Reading.{behind, then_read, u8_read, u16_read, u32_read, read_option, id_read, ports_read, change_read}
use Rattle.satip_entry_reader.specs.ReadingLists.{pid_list_read, short_read}

-- the fields after a variant's place
abbrev pub pids_behind : ℕ → List ℕ → Option (PidsGiven × List ℕ)
pids_behind place rest =
    if place == 0 then Some (NoPids, rest)
    else if place == 1 then Some (AllPids, rest)
    else if place == 2 then Some (EmptyPids, rest)
    else if place == 3 then then_read (pid_list_read rest) (λ pids more. Some (ThesePids pids, more))
    else None

unfoldable pub pids_given_read : List ℕ → Option (PidsGiven × List ℕ)
pids_given_read bytes = then_read (u8_read bytes) pids_behind

unfoldable pub query_read : List ℕ → Option (Query × List ℕ)
query_read bytes =
    then_read (change_read bytes) (λ change after_change.
    then_read (pids_given_read after_change) (λ pids after_pids.
    then_read (read_option pid_list_read after_pids) (λ addpids after_addpids.
    then_read (read_option pid_list_read after_addpids) (λ delpids more. Some (record { change = change; pids = pids; addpids = addpids; delpids = delpids }, more)))))

abbrev pub key_of : ℕ → Option Key
key_of place = if place == 0 then Some Fe else if place == 1 then Some Src else if place == 2 then Some Freq else if place == 3 then Some PolKey else if place == 4 then Some Ro else if place == 5 then Some Msys else if place == 6 then Some Mtype else if place == 7 then Some Plts else if place == 8 then Some Sr else if place == 9 then Some FecKey else if place == 10 then Some Pids else if place == 11 then Some Addpids else if place == 12 then Some Delpids else None

unfoldable pub key_read : List ℕ → Option (Key × List ℕ)
key_read bytes = then_read (u8_read bytes) (λ place rest. behind (key_of place) rest)

abbrev pub fault_behind : ℕ → List ℕ → Option (QueryFault × List ℕ)
fault_behind place rest =
    if place == 0 then then_read (key_read rest) (λ key more. Some (Syntax key, more))
    else if place == 1 then then_read (key_read rest) (λ key more. Some (Range key, more))
    else None

unfoldable pub fault_read : List ℕ → Option (QueryFault × List ℕ)
fault_read bytes = then_read (u8_read bytes) fault_behind

abbrev pub method_of : ℕ → Option Method
method_of place = if place == 0 then Some Options else if place == 1 then Some Describe else if place == 2 then Some Setup else if place == 3 then Some Play else if place == 4 then Some Teardown else None

unfoldable pub method_read : List ℕ → Option (Method × List ℕ)
method_read bytes = then_read (u8_read bytes) (λ place rest. behind (method_of place) rest)

abbrev pub refusal_behind : ℕ → List ℕ → Option (Refusal × List ℕ)
refusal_behind place rest =
    if place == 0 then Some (Broken, rest)
    else if place == 1 then Some (TooLong, rest)
    else if place == 2 then Some (NoCseq, rest)
    else if place == 3 then Some (Version, rest)
    else if place == 4 then Some (NoMethod, rest)
    else if place == 5 then then_read (short_read rest) (λ kept more. Some (Require kept, more))
    else if place == 6 then Some (Target, rest)
    else if place == 7 then then_read (fault_read rest) (λ fault more. Some (AtQuery fault, more))
    else None

unfoldable pub refusal_read : List ℕ → Option (Refusal × List ℕ)
refusal_read bytes = then_read (u8_read bytes) refusal_behind

abbrev pub name_behind : ℕ → List ℕ → Option (SessionName × List ℕ)
name_behind place rest =
    if place == 0 then Some (Absent, rest)
    else if place == 1 then then_read (id_read rest) (λ id more. Some (Named id, more))
    else if place == 2 then Some (Other, rest)
    else None

unfoldable pub name_read : List ℕ → Option (SessionName × List ℕ)
name_read bytes = then_read (u8_read bytes) name_behind

unfoldable pub request_read : List ℕ → Option (Request × List ℕ)
request_read bytes =
    then_read (read_option u32_read bytes) (λ cseq after_cseq.
    then_read (read_option refusal_read after_cseq) (λ refusal after_refusal.
    then_read (method_read after_refusal) (λ method after_method.
    then_read (read_option u16_read after_method) (λ stream after_stream.
    then_read (name_read after_stream) (λ session after_session.
    then_read (query_read after_session) (λ query after_query.
    then_read (read_option ports_read after_query) (λ ports more. Some (record { cseq = cseq; refusal = refusal; method = method; stream = stream; session = session; query = query; ports = ports }, more))))))))

abbrev pub http_refusal_behind : ℕ → List ℕ → Option (HttpRefusal × List ℕ)
http_refusal_behind place rest =
    if place == 0 then Some (HttpBroken, rest)
    else if place == 1 then Some (HttpTooLong, rest)
    else if place == 2 then Some (HttpVersion, rest)
    else if place == 3 then Some (HttpMethod, rest)
    else if place == 4 then Some (HttpTarget, rest)
    else if place == 5 then Some (NotFound, rest)
    else if place == 6 then then_read (fault_read rest) (λ fault more. Some (HttpQuery fault, more))
    else None

unfoldable pub http_refusal_read : List ℕ → Option (HttpRefusal × List ℕ)
http_refusal_read bytes = then_read (u8_read bytes) http_refusal_behind

unfoldable pub http_request_read : List ℕ → Option (HttpRequest × List ℕ)
http_request_read bytes =
    then_read (read_option http_refusal_read bytes) (λ refusal rest.
    then_read (query_read rest) (λ query more. Some (record { refusal = refusal; query = query }, more)))
