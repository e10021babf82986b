-- The session that a request names (RFC 2326, 12.37).
use Rattle.std.specs.Prelude.{ℕ, List, Option, Some, None}
use Rattle.std.specs.List.{before_first}
use Rattle.satip_base.specs.declared.identity.SessionId.{SessionId}
use Rattle.satip_base.specs.Texts.{id_of}
use Rattle.satip_tune.specs.Pieces.{is_byte}
use Rattle.satip_rtsp.specs.Blanks.{text_trimmed}
use Rattle.satip_rtsp.specs.declared.requests.SessionName.{SessionName}
use Rattle.satip_rtsp.specs.declared.requests.SessionName.TheVariants.{Absent, Named, Other}

-- the session of a text: that of an id, or a text that isn't an id
abbrev pub name_of : Option SessionId → SessionName
name_of None = Other
name_of (Some id) = Named id

-- the session of the first Session header: its id is before the first ;
abbrev pub session_in : Option (List ℕ) → SessionName
session_in None = Absent
session_in (Some value) = name_of (id_of (text_trimmed (before_first (is_byte 59) value)))
