-- Each reply is one by its form, turned or not.
use Rattle.satip_tunnel_laws.specs.Pieces.{IsReply}
use Rattle.satip_tunnel_laws.specs.Replies.{IsTold, RepliesAreReplies, Told, Options, Closing, Plain, Described, SetUp, Playing, Unsupported, Telling, text_of}
use Rattle.satip_tunnel_laws.proofs.Forming.{closing_is, described_is, options_is, plain_is, playing_is, set_up_is, telling_is, unsupported_is}
use Rattle.satip_tunnel_laws.proofs.PieceTurning.{turned_reply}

is_reply : (told : Told) → IsTold told → IsReply (text_of told)
is_reply (Options cseq session) is = options_is cseq session
is_reply (Closing cause) is = closing_is cause
is_reply (Plain cseq status) is = plain_is cseq status
is_reply (Described cseq address body) is = described_is cseq address body is
is_reply (SetUp cseq id seconds ports stream) is = set_up_is cseq id seconds ports stream
is_reply (Playing cseq id address stream seq) is = playing_is cseq id address stream seq
is_reply (Unsupported cseq kept) is = unsupported_is cseq kept is
is_reply (Telling cseq status body) is = telling_is cseq status body

pub replies_are_replies : RepliesAreReplies
replies_are_replies told is = let reply = is_reply told is in (reply, turned_reply (text_of told) reply)
