-- Queries and requests are read again.
use Rattle.std.proofs.Common.{◌≡◌, ℕ, ◌^◌, ◌<◌, List, ◌++◌, append_assoc, Option, Some, None, refl}
use Rattle.std.specs.Prelude.{IfSome}
use Rattle.satip_tune.specs.declared.keys.Key.{Key}
use Rattle.satip_tune.specs.declared.keys.Key.TheVariants.{Fe, Src, Freq, Pol as PolKey, Ro, Msys, Mtype, Plts, Sr, Fec as FecKey, Pids, Addpids, Delpids}
use Rattle.satip_pids.specs.Pids.{IsPidList}
use Rattle.satip_query.specs.declared.queries.PidsGiven.TheVariants.{Absent as NoPids, All as AllPids, Empty as EmptyPids, List as ThesePids}
use Rattle.satip_query.specs.declared.faults.QueryFault.{QueryFault}
use Rattle.satip_query.specs.declared.faults.QueryFault.TheVariants.{Syntax, Range}
use Rattle.satip_rtsp.specs.declared.requests.Method.{Method}
use Rattle.satip_rtsp.specs.declared.requests.Method.TheVariants.{Options, Describe, Setup, Play, Teardown}
use Rattle.satip_rtsp.specs.declared.requests.Refusal.TheVariants.{Broken, TooLong, NoCseq, Version, Method as NoMethod, Require, Target, Query as AtQuery}
use Rattle.satip_rtsp.specs.declared.requests.SessionName.TheVariants.{Absent, Named, Other}
use Rattle.satip_http.specs.declared.requests.HttpRefusal.{HttpRefusal}
use Rattle.satip_http.specs.declared.requests.HttpRefusal.TheVariants.{Broken as HttpBroken, TooLong as HttpTooLong, Version as HttpVersion, Method as HttpMethod, Target as HttpTarget, NotFound, Query as HttpQuery}
use Rattle.satip_http.specs.declared.requests.HttpRequest.{HttpRequest}
use Rattle.satip_plain.specs.Values.{ArePidsGiven, ArePorts, IsName, IsQuery, IsRefusal, IsRequest}
use Rattle.satip_entry_writer.specs.Fields.{u8_text, u16_text, u32_text, option_text, id_text, ports_text, pid_list_text, key_text}
use Rattle.satip_entry_writer.specs.Requests.{change_text, fault_text, http_refusal_text, http_request_text, method_text, name_text, pids_text, query_text, refusal_text, request_text, short_text}
use Rattle.satip_entry_reader.specs.Reading.{ReadsAgain, u8_read, u16_read, u32_read, ports_read}
use Rattle.satip_entry_reader.proofs.ValuesAgain.{change_again, id_again, option_again, ports_again, u16_again, u32_again}
use Rattle.satip_entry_reader.specs.ReadingLists.{pid_list_read}
use Rattle.satip_entry_reader.specs.ReadingRequests.{fault_read, http_refusal_read, http_request_read, key_read, method_read, name_read, pids_given_read, query_read, refusal_read, request_read}
use Rattle.satip_entry_reader.proofs.ListsAgain.{pid_list_again, short_again}

-- the place of a variant
pub place_again : (place : ℕ) (rest : List ℕ) → u8_read (u8_text place ++ rest) ≡ Some (place, rest)
unfolding u8_read u8_text
place_again place rest = refl

pids_given_again : ReadsAgain ArePidsGiven pids_text pids_given_read
unfolding pids_given_read pids_text
pids_given_again NoPids rest h = rw (place_again 0 rest) refl
pids_given_again AllPids rest h = rw (place_again 1 rest) refl
pids_given_again EmptyPids rest h = rw (place_again 2 rest) refl
pids_given_again (ThesePids pids) rest h =
    rw (append_assoc (u8_text 3) (pid_list_text pids) rest, place_again 3 (pid_list_text pids ++ rest), pid_list_again pids rest h) refl

pub query_again : ReadsAgain IsQuery query_text query_read
unfolding query_read query_text
query_again q rest h =
    let t3 : List ℕ = option_text pid_list_text q.delpids ++ rest in
    let t2 : List ℕ = option_text pid_list_text q.addpids ++ t3 in
    let t1 : List ℕ = pids_text q.pids ++ t2 in
    let u2 : List ℕ = option_text pid_list_text q.addpids ++ (option_text pid_list_text q.delpids) in
    let u1 : List ℕ = pids_text q.pids ++ u2 in
    rw (
      append_assoc (change_text q.change) u1 rest,
      append_assoc (pids_text q.pids) u2 rest,
      append_assoc (option_text pid_list_text q.addpids) (option_text pid_list_text q.delpids) rest,
      change_again q.change t1 h.change,
      pids_given_again q.pids t2 h.pids,
      option_again IsPidList pid_list_text pid_list_read pid_list_again q.addpids t3 h.addpids,
      option_again IsPidList pid_list_text pid_list_read pid_list_again q.delpids rest h.delpids,
    ) refl

key_again : ReadsAgain (λ (x : Key). Unit {0}) key_text key_read
unfolding key_read
key_again Fe rest h = rw (place_again 0 rest) refl
key_again Src rest h = rw (place_again 1 rest) refl
key_again Freq rest h = rw (place_again 2 rest) refl
key_again PolKey rest h = rw (place_again 3 rest) refl
key_again Ro rest h = rw (place_again 4 rest) refl
key_again Msys rest h = rw (place_again 5 rest) refl
key_again Mtype rest h = rw (place_again 6 rest) refl
key_again Plts rest h = rw (place_again 7 rest) refl
key_again Sr rest h = rw (place_again 8 rest) refl
key_again FecKey rest h = rw (place_again 9 rest) refl
key_again Pids rest h = rw (place_again 10 rest) refl
key_again Addpids rest h = rw (place_again 11 rest) refl
key_again Delpids rest h = rw (place_again 12 rest) refl

fault_again : ReadsAgain (λ (x : QueryFault). Unit {0}) fault_text fault_read
unfolding fault_read
fault_again (Syntax key) rest h = rw (append_assoc (u8_text 0) (key_text key) rest, place_again 0 (key_text key ++ rest), key_again key rest tt) refl
fault_again (Range key) rest h = rw (append_assoc (u8_text 1) (key_text key) rest, place_again 1 (key_text key ++ rest), key_again key rest tt) refl

method_again : ReadsAgain (λ (x : Method). Unit {0}) method_text method_read
unfolding method_read
method_again Options rest h = rw (place_again 0 rest) refl
method_again Describe rest h = rw (place_again 1 rest) refl
method_again Setup rest h = rw (place_again 2 rest) refl
method_again Play rest h = rw (place_again 3 rest) refl
method_again Teardown rest h = rw (place_again 4 rest) refl

refusal_again : ReadsAgain IsRefusal refusal_text refusal_read
unfolding refusal_read refusal_text
refusal_again Broken rest h = rw (place_again 0 rest) refl
refusal_again TooLong rest h = rw (place_again 1 rest) refl
refusal_again NoCseq rest h = rw (place_again 2 rest) refl
refusal_again Version rest h = rw (place_again 3 rest) refl
refusal_again NoMethod rest h = rw (place_again 4 rest) refl
refusal_again (Require kept) rest h =
    rw (append_assoc (u8_text 5) (short_text kept) rest, place_again 5 (short_text kept ++ rest), short_again kept rest h) refl
refusal_again Target rest h = rw (place_again 6 rest) refl
refusal_again (AtQuery fault) rest h =
    rw (append_assoc (u8_text 7) (fault_text fault) rest, place_again 7 (fault_text fault ++ rest), fault_again fault rest tt) refl

name_again : ReadsAgain IsName name_text name_read
unfolding name_read name_text
name_again Absent rest h = rw (place_again 0 rest) refl
name_again (Named id) rest h = rw (append_assoc (u8_text 1) (id_text id) rest, place_again 1 (id_text id ++ rest), id_again id rest h) refl
name_again Other rest h = rw (place_again 2 rest) refl

pub request_again : ReadsAgain IsRequest request_text request_read
unfolding request_read request_text
request_again r rest h =
    let t6 : List ℕ = option_text ports_text r.ports ++ rest in
    let t5 : List ℕ = query_text r.query ++ t6 in
    let t4 : List ℕ = name_text r.session ++ t5 in
    let t3 : List ℕ = option_text u16_text r.stream ++ t4 in
    let t2 : List ℕ = method_text r.method ++ t3 in
    let t1 : List ℕ = option_text refusal_text r.refusal ++ t2 in
    let u5 : List ℕ = query_text r.query ++ (option_text ports_text r.ports) in
    let u4 : List ℕ = name_text r.session ++ u5 in
    let u3 : List ℕ = option_text u16_text r.stream ++ u4 in
    let u2 : List ℕ = method_text r.method ++ u3 in
    let u1 : List ℕ = option_text refusal_text r.refusal ++ u2 in
    rw (
      append_assoc (option_text u32_text r.cseq) u1 rest,
      append_assoc (option_text refusal_text r.refusal) u2 rest,
      append_assoc (method_text r.method) u3 rest,
      append_assoc (option_text u16_text r.stream) u4 rest,
      append_assoc (name_text r.session) u5 rest,
      append_assoc (query_text r.query) (option_text ports_text r.ports) rest,
      option_again (λ x. x < 2 ^ 32) u32_text u32_read u32_again r.cseq t1 h.cseq,
      option_again IsRefusal refusal_text refusal_read refusal_again r.refusal t2 h.refusal,
      method_again r.method t3 tt,
      option_again (λ x. x < 2 ^ 16) u16_text u16_read u16_again r.stream t4 h.stream,
      name_again r.session t5 h.session,
      query_again r.query t6 h.query,
      option_again ArePorts ports_text ports_read ports_again r.ports rest h.ports,
    ) refl

http_refusal_again : ReadsAgain (λ (x : HttpRefusal). Unit {0}) http_refusal_text http_refusal_read
unfolding http_refusal_read http_refusal_text
http_refusal_again HttpBroken rest h = rw (place_again 0 rest) refl
http_refusal_again HttpTooLong rest h = rw (place_again 1 rest) refl
http_refusal_again HttpVersion rest h = rw (place_again 2 rest) refl
http_refusal_again HttpMethod rest h = rw (place_again 3 rest) refl
http_refusal_again HttpTarget rest h = rw (place_again 4 rest) refl
http_refusal_again NotFound rest h = rw (place_again 5 rest) refl
http_refusal_again (HttpQuery fault) rest h =
    rw (append_assoc (u8_text 6) (fault_text fault) rest, place_again 6 (fault_text fault ++ rest), fault_again fault rest tt) refl

-- a value of a type without limits
known : {T : Type 0} (value : Option T) → IfSome value (λ x. Unit {0})
known None = tt
known (Some x) = tt

pub http_request_again : ReadsAgain (λ (r : HttpRequest). IsQuery r.query) http_request_text http_request_read
unfolding http_request_read http_request_text
http_request_again r rest h =
    let t1 : List ℕ = query_text r.query ++ rest in
    rw (
      append_assoc (option_text http_refusal_text r.refusal) (query_text r.query) rest,
      option_again (λ x. Unit {0}) http_refusal_text http_refusal_read http_refusal_again r.refusal t1 (known r.refusal),
      query_again r.query rest h,
    ) refl
