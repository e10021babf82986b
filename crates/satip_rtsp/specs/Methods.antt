-- Properties of methods and session names.
use Rattle.std.specs.Prelude.{Bool, true, false}
use Rattle.satip_rtsp.specs.declared.requests.Method.{Method}
use Rattle.satip_rtsp.specs.declared.requests.Method.TheVariants.{Options, Describe, Setup, Play, Teardown}
use Rattle.satip_rtsp.specs.declared.requests.SessionName.{SessionName}
use Rattle.satip_rtsp.specs.declared.requests.SessionName.TheVariants.{Absent, Named, Other}

-- whether no session is named
abbrev pub names_none : SessionName → Bool
names_none Absent = true
names_none (Named id) = false
names_none Other = false

-- whether the method is refused without a session (RFC 2326, 10.5 and 10.7)
abbrev pub needs_session : Method → Bool
needs_session Options = false
needs_session Describe = false
needs_session Setup = false
needs_session Play = true
needs_session Teardown = true

-- whether the method is SETUP
abbrev pub is_setup : Method → Bool
is_setup Setup = true
is_setup _ = false

-- whether the method is DESCRIBE
abbrev pub is_describe : Method → Bool
is_describe Describe = true
is_describe _ = false

-- whether the query of the method changes a stream
abbrev pub changes : Method → Bool
changes Setup = true
changes Play = true
changes _ = false

-- whether a stream that the target names has to live
abbrev pub looks_at_stream : Method → Bool
looks_at_stream Options = false
looks_at_stream _ = true
