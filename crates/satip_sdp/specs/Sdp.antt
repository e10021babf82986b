-- The session description of a server and its streams, line by line.
use Rattle.std.specs.Prelude.{ℕ, Bool, true, false, List, [], ◌∷◌, ◌++◌, decimal, codes}
use Rattle.std.specs.List.{flat_map}
use Rattle.satip_base.specs.Texts.{address_text}
use Rattle.satip_rtcp.specs.Ses1.{ses1}
use Rattle.satip_rtcp.specs.declared.views.StreamView.{StreamView}

-- the end of each line
abbrev pub line_end : List ℕ
line_end = 13 ∷ 10 ∷ []

-- the version of the format
unfoldable pub version_line : List ℕ
version_line = codes "v=0" ++ line_end

-- the origin of the description
unfoldable pub origin_line : ℕ → List ℕ
origin_line address = codes "o=- 1 1 IN IP4 " ++ address_text address ++ line_end

-- the name of the server and the number of its front ends
unfoldable pub name_line : ℕ → List ℕ
name_line fronts = codes "s=SatIPServer:1 " ++ decimal fronts ++ line_end

-- no start and no end of the session
unfoldable pub time_line : List ℕ
time_line = codes "t=0 0" ++ line_end

-- the lines of the server
unfoldable pub head_lines : ℕ → ℕ → List ℕ
head_lines address fronts = version_line ++ origin_line address ++ name_line fronts ++ time_line

-- the payload: transport packets, RTP's payload type 33
unfoldable pub media_line : List ℕ
media_line = codes "m=video 0 RTP/AVP 33" ++ line_end

-- no group address
unfoldable pub connection_line : List ℕ
connection_line = codes "c=IN IP4 0.0.0.0" ++ line_end

-- the name of the stream in requests
unfoldable pub control_line : ℕ → List ℕ
control_line number = codes "a=control:stream=" ++ decimal number ++ line_end

-- the tuning of the stream, and its PIDs
unfoldable pub format_line : StreamView → List ℕ
format_line view = codes "a=fmtp:33 " ++ ses1 view ++ line_end

-- the direction: whether one of the stream's sessions plays
unfoldable pub direction_line : Bool → List ℕ
direction_line true = codes "a=sendonly" ++ line_end
direction_line false = codes "a=inactive" ++ line_end

-- the lines of a stream
unfoldable pub stream_lines : StreamView → List ℕ
stream_lines view =
    media_line ++ connection_line ++ control_line view.number ++ format_line view ++ direction_line view.playing

-- the server's lines, followed by those of each stream
unfoldable pub sdp : ℕ → ℕ → List StreamView → List ℕ
sdp address fronts streams = head_lines address fronts ++ flat_map stream_lines streams
