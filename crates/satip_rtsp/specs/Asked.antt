-- The request of a message.
use Rattle.std.specs.Prelude.{◌≡◌, ℕ, Bool, true, false, List, [], ◌∷◌, take, Option, Some, None, Result, Ok, Err, option_and_then, codes, if◌then◌else◌}
use Rattle.std.specs.Str.{bytes_eq}
use Rattle.satip_base.specs.Numbers.{number_of}
use Rattle.satip_base.specs.declared.network.Ports.{Ports}
use Rattle.satip_frame.specs.declared.framing.Break.{Break}
use Rattle.satip_frame.specs.declared.framing.Break.TheVariants.{Bad, TooLong as too_long}
use Rattle.satip_frame.specs.Said.{Said, first_value}
use Rattle.satip_query.specs.Queries.{new_query}
use Rattle.satip_query.specs.Reading.{query_of}
use Rattle.satip_query.specs.declared.queries.Query.{Query}
use Rattle.satip_query.specs.declared.faults.QueryFault.{QueryFault}
use Rattle.satip_rtsp.specs.declared.requests.Method.{Method}
use Rattle.satip_rtsp.specs.declared.requests.Method.TheVariants.{Options, Describe, Setup, Play, Teardown}
use Rattle.satip_rtsp.specs.declared.requests.Refusal.{Refusal}
use Rattle.satip_rtsp.specs.declared.requests.Refusal.TheVariants.{Broken, TooLong, NoCseq, Version, Method as BadMethod, Require, Target as BadTarget, Query as QueryAt}
use Rattle.satip_rtsp.specs.declared.requests.Request.{Request}
use Rattle.satip_rtsp.specs.declared.requests.SessionName.TheVariants.{Absent}
use Rattle.satip_rtsp.specs.Targets.{TargetParts, target_of}
use Rattle.satip_rtsp.specs.Sessions.{session_in}
use Rattle.satip_rtsp.specs.Transports.{ports_accepted}

-- the number in the first CSeq, if there is one that fits 32 bits
unfoldable pub cseq_of : Said → Option ℕ
cseq_of m = option_and_then (number_of 4294967295) (first_value (codes "CSeq") m.headers)

-- the method with this name, in upper case
unfoldable pub method_named : List ℕ → Option Method
method_named word =
    if bytes_eq word (codes "OPTIONS") then Some Options
    else if bytes_eq word (codes "DESCRIBE") then Some Describe
    else if bytes_eq word (codes "SETUP") then Some Setup
    else if bytes_eq word (codes "PLAY") then Some Play
    else if bytes_eq word (codes "TEARDOWN") then Some Teardown
    else None

-- the first 128 bytes of the value of `Require`, if it isn't empty
abbrev pub requirement : Option (List ℕ) → Option (List ℕ)
requirement None = None
requirement (Some []) = None
requirement (Some (b ∷ value)) = Some (take 128 (b ∷ value))

-- whether the method reads a query
abbrev pub reads_query : Method → Bool
reads_query Setup = true
reads_query Play = true
reads_query method = false

-- whether the method is OPTIONS
abbrev pub is_options_method : Method → Bool
is_options_method Options = true
is_options_method method = false

-- the ports that a request with this method asks for
abbrev pub ports_asked : Method → Option (List ℕ) → Option Ports
ports_asked Setup value = option_and_then ports_accepted value
ports_asked method value = None

-- the request that asks for nothing
abbrev pub blank : Request
blank = record {
  cseq = None;
  refusal = None;
  method = Options;
  stream = None;
  session = Absent;
  query = new_query;
  ports = None;
}

-- a request that is refused
abbrev pub refused : Option ℕ → Refusal → Request
refused cseq refusal = record {
  cseq = cseq;
  refusal = Some refusal;
  method = Options;
  stream = None;
  session = Absent;
  query = new_query;
  ports = None;
}

-- the query of a target, if the method reads one
abbrev pub query_read : Method → List ℕ → Result Query QueryFault
query_read method text = if reads_query method then query_of text else Ok new_query

-- the request of a message with a number, a method and a target, by the result of reading its query
abbrev pub with_query : ℕ → Said → Method → TargetParts → Result Query QueryFault → Request
with_query n m method target (Err fault) = refused (Some n) (QueryAt fault)
with_query n m method target (Ok query) = record {
  cseq = Some n;
  refusal = None;
  method = method;
  stream = target.stream;
  session = session_in (first_value (codes "Session") m.headers);
  query = query;
  ports = ports_asked method (first_value (codes "Transport") m.headers);
}

-- the request of a message with a number and a method, by its target
abbrev pub with_target : ℕ → Said → Method → Option TargetParts → Request
with_target n m method None = refused (Some n) BadTarget
with_target n m method (Some target) = with_query n m method target (query_read method target.query)

-- the request of a message with a number and a method, by the value of its `Require`
abbrev pub with_required : ℕ → Said → Method → Option (List ℕ) → Request
with_required n m method (Some kept) = refused (Some n) (Require kept)
with_required n m method None = with_target n m method (target_of (is_options_method method) m.target)

-- the request of a message with a number and the served version, by its method
abbrev pub with_method : ℕ → Said → Option Method → Request
with_method n m None = refused (Some n) BadMethod
with_method n m (Some method) = with_required n m method (requirement (first_value (codes "Require") m.headers))

-- the request of a message with a number, by whether its version is served
abbrev pub with_version : ℕ → Said → Bool → Request
with_version n m false = refused (Some n) Version
with_version n m true = with_method n m (method_named m.method)

-- the request of a message, by its number: the first refusal is the result, in the order number, version, method, required option, target, query
abbrev pub asked_with : Option ℕ → Said → Request
asked_with None m = refused None NoCseq
asked_with (Some n) m = with_version n m (bytes_eq m.version (codes "RTSP/1.0"))

-- the request of a message
unfoldable pub asked : Said → Request
asked m = asked_with (cseq_of m) m

-- the message has a number, the version that is served, and this method
pub record IsServed (m : Said) (method : Method) : Type 0 where
  pub number : ℕ
  pub cseq : cseq_of m ≡ Some number
  pub version : bytes_eq m.version (codes "RTSP/1.0") ≡ true
  pub named : method_named m.method ≡ Some method

-- the first 128 bytes of the option that a message requires, if it names one
abbrev pub required_in : Said → Option (List ℕ)
required_in m = requirement (first_value (codes "Require") m.headers)

-- the request of a text that is no message
abbrev pub broken_request : Break → Request
broken_request Bad = refused None Broken
broken_request too_long = refused None TooLong
