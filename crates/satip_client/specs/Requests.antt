-- The requests of a client (RFC 2326, section 6; SAT>IP 1.2.2, 3.5), byte by byte.
use Rattle.std.specs.Prelude.{ℕ, ◌+◌, List, [], ◌∷◌, ◌++◌, decimal, codes}

-- the end of each line
abbrev pub line_end : List ℕ
line_end = 13 ∷ 10 ∷ []

-- the end of a request line, and the start of the header with its number
abbrev pub numbered : List ℕ
numbered = codes " RTSP/1.0" ++ line_end ++ codes "CSeq: "

abbrev pub session_header : List ℕ
session_header = line_end ++ codes "Session: "

-- the end of a header line, and the empty line
abbrev pub head_end : List ℕ
head_end = line_end ++ line_end

-- the first request: sets up a stream by this query, with this port for RTP and the next one for RTCP
unfoldable pub setup_request : (address query : List ℕ) → (port : ℕ) → List ℕ
setup_request address query port =
    codes "SETUP rtsp://" ++ address ++ codes "/?" ++ query
    ++ (numbered ++ codes "1" ++ line_end ++ codes "Transport: RTP/AVP;unicast;client_port=")
    ++ decimal port ++ codes "-" ++ decimal (port + 1) ++ head_end

-- the second request: lets the stream play
unfoldable pub play_request : (address : List ℕ) → (stream : ℕ) → (session : List ℕ) → List ℕ
play_request address stream session =
    codes "PLAY rtsp://" ++ address ++ codes "/stream=" ++ decimal stream
    ++ (numbered ++ codes "2" ++ session_header) ++ session ++ head_end

-- a request that keeps the session alive
unfoldable pub options_request : (address : List ℕ) → (cseq : ℕ) → (session : List ℕ) → List ℕ
options_request address cseq session =
    codes "OPTIONS rtsp://" ++ address ++ (codes "/" ++ numbered) ++ decimal cseq ++ session_header ++ session ++ head_end

-- the last request: gives the stream back
unfoldable pub teardown_request : (address : List ℕ) → (stream cseq : ℕ) → (session : List ℕ) → List ℕ
teardown_request address stream cseq session =
    codes "TEARDOWN rtsp://" ++ address ++ codes "/stream=" ++ decimal stream
    ++ numbered ++ decimal cseq ++ session_header ++ session ++ head_end
