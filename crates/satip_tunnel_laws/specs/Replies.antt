-- The replies of an RTSP server, and the values in them.
use Rattle.std.specs.Prelude.{◌≡◌, ℕ, ◌<◌, ◌^◌, true, List, ◌++◌, length, Option}
use Rattle.std.specs.List.{list_all}
use Rattle.satip_base.specs.declared.identity.SessionId.{SessionId}
use Rattle.satip_base.specs.declared.network.Ports.{Ports}
use Rattle.satip_rtsp_interleaved.specs.Turned.{turned}
use Rattle.satip_frame.specs.declared.framing.Break.{Break}
use Rattle.satip_query.specs.declared.bodies.RefusalBody.{RefusalBody}
use Rattle.satip_rtsp.specs.Replies.{closing_reply, describe_head, options_reply, plain_reply, play_reply, setup_reply, text_reply, unsupported_reply}
use Rattle.satip_tunnel_laws.specs.Pieces.{IsReply, is_plain}

-- a reply by its values: the number of its request, and then a session, a status, an address, a body and so on
pub data Told : Type 0 where
  Options : Option ℕ → Option SessionId → Told
  Closing : Break → Told
  Plain : Option ℕ → ℕ → Told
  Described : Option ℕ → ℕ → List ℕ → Told
  SetUp : Option ℕ → SessionId → ℕ → Ports → ℕ → Told
  Playing : Option ℕ → SessionId → ℕ → ℕ → ℕ → Told
  Unsupported : Option ℕ → List ℕ → Told
  Telling : Option ℕ → ℕ → RefusalBody → Told

-- the bytes of a reply
abbrev pub text_of : Told → List ℕ
text_of (Options cseq session) = options_reply cseq session
text_of (Closing cause) = closing_reply cause
text_of (Plain cseq status) = plain_reply cseq status
text_of (Described cseq address body) = describe_head cseq address (length body) ++ body
text_of (SetUp cseq id seconds ports stream) = setup_reply cseq id seconds ports stream
text_of (Playing cseq id address stream seq) = play_reply cseq id address stream seq
text_of (Unsupported cseq kept) = unsupported_reply cseq kept
text_of (Telling cseq status body) = text_reply cseq status body

-- the length of a description has 64 bits, and a client's `Require` text has no CR and no LF
abbrev pub IsTold : Told → Type 0
IsTold (Described cseq address body) = length body < 2 ^ 64
IsTold (Unsupported cseq kept) = list_all is_plain kept ≡ true
IsTold told = Unit {0}

-- each reply has the form of a reply, and so has the reply rewritten to channels
abbrev pub RepliesAreReplies : Type 0
RepliesAreReplies = (told : Told) → IsTold told → IsReply (text_of told) × IsReply (turned (text_of told))
