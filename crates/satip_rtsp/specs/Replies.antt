-- The texts of replies.
use Rattle.std.specs.Prelude.{ℕ, ◌+◌, List, [], ◌++◌, Option, Some, None, codes, decimal}
use Rattle.satip_base.specs.Texts.{address_text, id_text}
use Rattle.satip_base.specs.declared.identity.SessionId.{SessionId}
use Rattle.satip_base.specs.declared.network.Ports.{Ports}
use Rattle.satip_frame.specs.declared.framing.Break.{Break}
use Rattle.satip_frame.specs.declared.framing.Break.TheVariants.{Bad, TooLong}
use Rattle.satip_query.specs.Bodies.{body_part, line_end, number_line}
use Rattle.satip_query.specs.Statuses.{phrase_of}
use Rattle.satip_query.specs.declared.bodies.RefusalBody.{RefusalBody}

-- the first line of a reply
unfoldable pub status_line : ℕ → List ℕ
status_line status = codes "RTSP/1.0 " ++ decimal status ++ codes " " ++ phrase_of status ++ line_end

-- the number of the request, if it has one
abbrev pub cseq_line : Option ℕ → List ℕ
cseq_line None = []
cseq_line (Some n) = codes "CSeq: " ++ decimal n ++ line_end

-- the session, if one is named
abbrev pub session_line : Option SessionId → List ℕ
session_line None = []
session_line (Some id) = codes "Session: " ++ id_text id ++ line_end

-- the reply to OPTIONS
unfoldable pub options_reply : Option ℕ → Option SessionId → List ℕ
options_reply cseq session =
    status_line 200 ++ cseq_line cseq ++ (codes "Public: OPTIONS, DESCRIBE, SETUP, PLAY, TEARDOWN" ++ line_end) ++ session_line session ++ line_end

-- the status of a reply that closes the connection
abbrev pub closing_status : Break → ℕ
closing_status Bad = 400
closing_status TooLong = 413

-- the reply that closes the connection
unfoldable pub closing_reply : Break → List ℕ
closing_reply cause = status_line (closing_status cause) ++ (codes "Connection: close" ++ line_end ++ line_end)

-- a reply without content
unfoldable pub plain_reply : Option ℕ → ℕ → List ℕ
plain_reply cseq status = status_line status ++ cseq_line cseq ++ line_end

-- the base URL of the server's streams
abbrev pub base_line : ℕ → List ℕ
base_line address = codes "Content-Base: rtsp://" ++ address_text address ++ (codes "/" ++ line_end)

-- the reply to DESCRIBE without its body
unfoldable pub describe_head : Option ℕ → ℕ → ℕ → List ℕ
describe_head cseq address size =
    status_line 200 ++ cseq_line cseq ++ (codes "Content-Type: application/sdp" ++ line_end) ++ base_line address
    ++ number_line (codes "Content-Length: ") size ++ line_end

-- a session and its timeout in seconds
abbrev pub lasting_session_line : SessionId → ℕ → List ℕ
lasting_session_line id seconds = codes "Session: " ++ id_text id ++ codes ";timeout=" ++ decimal seconds ++ line_end

-- the destination of the packets
abbrev pub transport_line : Ports → List ℕ
transport_line ports =
    codes "Transport: RTP/AVP;unicast;client_port=" ++ decimal ports.rtp ++ codes "-" ++ decimal ports.rtcp ++ line_end

-- the reply to SETUP
unfoldable pub setup_reply : Option ℕ → SessionId → ℕ → Ports → ℕ → List ℕ
setup_reply cseq id seconds ports stream =
    status_line 200 ++ cseq_line cseq ++ lasting_session_line id seconds ++ transport_line ports
    ++ number_line (codes "com.ses.streamID: ") stream ++ line_end

-- the first sequence number of a stream's packets
abbrev pub rtp_info_line : ℕ → ℕ → ℕ → List ℕ
rtp_info_line address stream seq =
    codes "RTP-Info: url=rtsp://" ++ address_text address ++ codes "/stream=" ++ decimal stream ++ number_line (codes ";seq=") seq

-- the reply to PLAY
unfoldable pub play_reply : Option ℕ → SessionId → ℕ → ℕ → ℕ → List ℕ
play_reply cseq id address stream seq =
    status_line 200 ++ cseq_line cseq ++ session_line (Some id) ++ rtp_info_line address stream seq ++ line_end

-- the refusal of a required option, with the first bytes of its header's value
unfoldable pub unsupported_reply : Option ℕ → List ℕ → List ℕ
unsupported_reply cseq kept =
    status_line 551 ++ cseq_line cseq ++ codes "Unsupported: " ++ kept ++ (line_end ++ line_end)

-- a refusal with its reason
unfoldable pub text_reply : Option ℕ → ℕ → RefusalBody → List ℕ
text_reply cseq status body = status_line status ++ cseq_line cseq ++ body_part body
