-- The bytes of requests: each field in turn, in the order in which the types declare them.
use Rattle.std.specs.Prelude.{ℕ, List, ◌++◌, length}
use Rattle.satip_tune.specs.declared.tunings.Change.{Change}
use Rattle.satip_query.specs.declared.queries.Query.{Query}
use Rattle.satip_query.specs.declared.queries.PidsGiven.{PidsGiven}
use Rattle.satip_query.specs.declared.queries.PidsGiven.TheVariants.{Absent as NoPids, All as AllPids, Empty as EmptyPids, List as ThesePids}
use Rattle.satip_query.specs.declared.faults.QueryFault.{QueryFault}
use Rattle.satip_query.specs.declared.faults.QueryFault.TheVariants.{Syntax, Range}
use Rattle.satip_rtsp.specs.declared.requests.Method.{Method}
use Rattle.satip_rtsp.specs.declared.requests.Method.TheVariants.{Options, Describe, Setup, Play, Teardown}
use Rattle.satip_rtsp.specs.declared.requests.Refusal.{Refusal}
use Rattle.satip_rtsp.specs.declared.requests.Refusal.TheVariants.{Broken, TooLong, NoCseq, Version, Method as NoMethod, Require, Target, Query as AtQuery}
use Rattle.satip_rtsp.specs.declared.requests.SessionName.{SessionName}
use Rattle.satip_rtsp.specs.declared.requests.SessionName.TheVariants.{Absent, Named, Other}
use Rattle.satip_rtsp.specs.declared.requests.Request.{Request}
use Rattle.satip_http.specs.declared.requests.HttpRefusal.{HttpRefusal}
use Rattle.satip_http.specs.declared.requests.HttpRefusal.TheVariants.{Broken as HttpBroken, TooLong as HttpTooLong, Version as HttpVersion, Method as HttpMethod, Target as HttpTarget, NotFound, Query as HttpQuery}
use Rattle.satip_http.specs.declared.requests.HttpRequest.{HttpRequest}
use Rattle.satip_entry_writer.specs.Fields.{u8_text, u16_text, u32_text, bool_text, option_text, pid_list_text, id_text, ports_text, pol_text, roll_off_text, system_text, modulation_text, fec_text, key_text}

-- the parts of a tuning, each an optional value
unfoldable pub change_text : Change → List ℕ
change_text c =
    option_text u16_text c.fe ++ (option_text u8_text c.src ++ (option_text u32_text c.freq ++ (option_text pol_text c.pol
    ++ (option_text roll_off_text c.ro ++ (option_text system_text c.msys ++ (option_text modulation_text c.mtype
    ++ (option_text bool_text c.plts ++ (option_text u32_text c.sr ++ option_text fec_text c.fec))))))))

-- the value of `pids`: its place in the type, then its list
unfoldable pub pids_text : PidsGiven → List ℕ
pids_text NoPids = u8_text 0
pids_text AllPids = u8_text 1
pids_text EmptyPids = u8_text 2
pids_text (ThesePids pids) = u8_text 3 ++ pid_list_text pids

-- a query: its tuning, `pids`, `addpids` and `delpids`
unfoldable pub query_text : Query → List ℕ
query_text q =
    change_text q.change ++ (pids_text q.pids ++ (option_text pid_list_text q.addpids ++ option_text pid_list_text q.delpids))

abbrev pub fault_text : QueryFault → List ℕ
fault_text (Syntax key) = u8_text 0 ++ key_text key
fault_text (Range key) = u8_text 1 ++ key_text key

abbrev pub method_text : Method → List ℕ
method_text Options = u8_text 0
method_text Describe = u8_text 1
method_text Setup = u8_text 2
method_text Play = u8_text 3
method_text Teardown = u8_text 4

-- the count of the kept bytes, and the bytes
abbrev pub short_text : List ℕ → List ℕ
short_text kept = u16_text (length kept) ++ kept

unfoldable pub refusal_text : Refusal → List ℕ
refusal_text Broken = u8_text 0
refusal_text TooLong = u8_text 1
refusal_text NoCseq = u8_text 2
refusal_text Version = u8_text 3
refusal_text NoMethod = u8_text 4
refusal_text (Require kept) = u8_text 5 ++ short_text kept
refusal_text Target = u8_text 6
refusal_text (AtQuery fault) = u8_text 7 ++ fault_text fault

unfoldable pub name_text : SessionName → List ℕ
name_text Absent = u8_text 0
name_text (Named id) = u8_text 1 ++ id_text id
name_text Other = u8_text 2

-- an RTSP request: its CSeq, refusal, method, stream, session, query and ports
unfoldable pub request_text : Request → List ℕ
request_text r =
    option_text u32_text r.cseq ++ (option_text refusal_text r.refusal ++ (method_text r.method ++ (option_text u16_text r.stream
    ++ (name_text r.session ++ (query_text r.query ++ option_text ports_text r.ports)))))

unfoldable pub http_refusal_text : HttpRefusal → List ℕ
http_refusal_text HttpBroken = u8_text 0
http_refusal_text HttpTooLong = u8_text 1
http_refusal_text HttpVersion = u8_text 2
http_refusal_text HttpMethod = u8_text 3
http_refusal_text HttpTarget = u8_text 4
http_refusal_text NotFound = u8_text 5
http_refusal_text (HttpQuery fault) = u8_text 6 ++ fault_text fault

-- an HTTP request: its refusal and its query
unfoldable pub http_request_text : HttpRequest → List ℕ
http_request_text r = option_text http_refusal_text r.refusal ++ query_text r.query
