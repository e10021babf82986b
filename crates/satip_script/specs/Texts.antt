-- The meaning of a text of bytes, which must be one message and nothing more.
use Rattle.std.specs.Prelude.{ℕ, List, []}
use Rattle.satip_frame.specs.declared.framing.Break.{Break}
use Rattle.satip_frame.specs.Said.{Said}
use Rattle.satip_frame.specs.Stream.{Broken, Begins, Messages}
use Rattle.satip_rtsp.specs.declared.requests.Request.{Request}
use Rattle.satip_rtsp.specs.Asked.{asked, broken_request}
use Rattle.satip_http.specs.declared.requests.HttpRequest.{HttpRequest}
use Rattle.satip_http.specs.Gets.{asked_get, broken_get}

-- one whole message, or the cause why there is none
pub data Told : Type 0 where
  Whole : Said → Told
  NotWhole : Break → Told

-- the text is this message, with nothing before it or after it; or it is broken at its first message, of any length, which CR and LF may precede
abbrev pub Tells : List ℕ → Told → Type 0
Tells text (Whole m) = Begins text m []
Tells text (NotWhole cause) = Messages text [] (Broken cause)

-- the text is neither
abbrev pub TellsNothing : List ℕ → Type 0
TellsNothing text = (told : Told) → Tells text told → ⊥

-- the RTSP request of a text
abbrev pub request_of : Told → Request
request_of (Whole m) = asked m
request_of (NotWhole cause) = broken_request cause

-- the HTTP request of a text
abbrev pub get_of : Told → HttpRequest
get_of (Whole m) = asked_get m
get_of (NotWhole cause) = broken_get cause
