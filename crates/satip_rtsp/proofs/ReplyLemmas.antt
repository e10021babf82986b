-- How long replies are.
use Rattle.std.proofs.Common.{ℕ, ◌<◌, ◌≤◌, ◌^◌, ◌/◌, ◌%◌, List, length, Option, Some, None, IfSome, arith, length-append}
use Rattle.satip_base.proofs.NumberLemmas.{length-decimal_u8, length-decimal_u16, length-decimal_u32, length-decimal_u64}
use Rattle.satip_base.proofs.TextLemmas.{length-id_text}
use Rattle.satip_base.specs.Texts.{address_text}
use Rattle.satip_base.specs.declared.network.Ports.{Ports}
use Rattle.satip_base.specs.declared.identity.SessionId.{SessionId}
use Rattle.satip_frame.specs.declared.framing.Break.{Break}
use Rattle.satip_frame.specs.declared.framing.Break.TheVariants.{Bad, TooLong}
use Rattle.satip_query.specs.declared.bodies.RefusalBody.{RefusalBody}
use Rattle.satip_query.proofs.BodyLengths.{length-phrase_of-le, length-body_part-le}
use Rattle.satip_rtsp.specs.Replies.{status_line, cseq_line, session_line, options_reply, closing_reply, plain_reply, describe_head, setup_reply, play_reply, unsupported_reply, text_reply}

pub length-status_line-le : (status : ℕ) → status < 2 ^ 16 → length (status_line status) ≤ 47
unfolding status_line
length-status_line-le status small =
    simp length-append (omega (arith, length-decimal_u16 status small, length-phrase_of-le status))

-- a number of a request
abbrev pub IsCseq : Option ℕ → Type 0
IsCseq cseq = IfSome cseq (λ n. n < 2 ^ 32)

pub length-cseq_line-le : (cseq : Option ℕ) → IsCseq cseq → length (cseq_line cseq) ≤ 18
length-cseq_line-le None small = omega arith
length-cseq_line-le (Some n) small = simp length-append (omega (arith, length-decimal_u32 n small))

pub length-session_line-le : (session : Option SessionId) → length (session_line session) ≤ 27
length-session_line-le None = omega arith
length-session_line-le (Some id) = simp length-append (omega (arith, length-id_text id))

pub length-options_reply-le : (cseq : Option ℕ) (session : Option SessionId) → IsCseq cseq → length (options_reply cseq session) ≤ 256
unfolding options_reply
length-options_reply-le cseq session small =
    simp length-append (omega (arith, length-status_line-le 200 (omega arith), length-cseq_line-le cseq small, length-session_line-le session))

pub length-closing_reply-le : (cause : Break) → length (closing_reply cause) ≤ 256
unfolding closing_reply
length-closing_reply-le Bad = simp length-append (omega (arith, length-status_line-le 400 (omega arith)))
length-closing_reply-le TooLong = simp length-append (omega (arith, length-status_line-le 413 (omega arith)))

pub length-plain_reply-le : (cseq : Option ℕ) (status : ℕ) → status < 2 ^ 16 → IsCseq cseq → length (plain_reply cseq status) ≤ 256
unfolding plain_reply
length-plain_reply-le cseq status code small =
    simp length-append (omega (arith, length-status_line-le status code, length-cseq_line-le cseq small))

length-address_text-le : (ip : ℕ) → ip < 2 ^ 32 → length (address_text ip) ≤ 15
unfolding address_text
length-address_text-le ip small =
    simp length-append (omega (
      arith,
      length-decimal_u8 (ip / 16777216) (omega arith),
      length-decimal_u8 (ip / 65536 % 256) (omega arith),
      length-decimal_u8 (ip / 256 % 256) (omega arith),
      length-decimal_u8 (ip % 256) (omega arith),
    ))

pub length-describe_head-le : (cseq : Option ℕ) (address size : ℕ) → IsCseq cseq → address < 2 ^ 32 → size < 2 ^ 64
    → length (describe_head cseq address size) ≤ 256
unfolding describe_head
length-describe_head-le cseq address size small host few =
    simp length-append (omega (
      arith,
      length-status_line-le 200 (omega arith),
      length-cseq_line-le cseq small,
      length-address_text-le address host,
      length-decimal_u64 size few,
    ))

pub length-setup_reply-le : (cseq : Option ℕ) (id : SessionId) (seconds : ℕ) (ports : Ports) (stream : ℕ) → IsCseq cseq → seconds < 2 ^ 32 → ports.rtp < 2 ^ 16
    → ports.rtcp < 2 ^ 16 → stream < 2 ^ 16
    → length (setup_reply cseq id seconds ports stream) ≤ 256
unfolding setup_reply
length-setup_reply-le cseq id seconds ports stream small s a b n =
    simp length-append (omega (
      arith,
      length-status_line-le 200 (omega arith),
      length-cseq_line-le cseq small,
      length-id_text id,
      length-decimal_u32 seconds s,
      length-decimal_u16 ports.rtp a,
      length-decimal_u16 ports.rtcp b,
      length-decimal_u16 stream n,
    ))

pub length-play_reply-le : (cseq : Option ℕ) (id : SessionId) (address stream seq : ℕ) → IsCseq cseq → address < 2 ^ 32 → stream < 2 ^ 16 → seq < 2 ^ 16
    → length (play_reply cseq id address stream seq) ≤ 256
unfolding play_reply
length-play_reply-le cseq id address stream seq small host n s =
    simp length-append (omega (
      arith,
      length-status_line-le 200 (omega arith),
      length-cseq_line-le cseq small,
      length-id_text id,
      length-address_text-le address host,
      length-decimal_u16 stream n,
      length-decimal_u16 seq s,
    ))

pub length-unsupported_reply-le : (cseq : Option ℕ) (kept : List ℕ) → IsCseq cseq → length kept ≤ 128 → length (unsupported_reply cseq kept) ≤ 256
unfolding unsupported_reply
length-unsupported_reply-le cseq kept small few =
    simp length-append (omega (arith, length-status_line-le 551 (omega arith), length-cseq_line-le cseq small))

pub length-text_reply-le : (cseq : Option ℕ) (status : ℕ) (body : RefusalBody) → status < 2 ^ 16 → IsCseq cseq → length (text_reply cseq status body) ≤ 256
unfolding text_reply
length-text_reply-le cseq status body code small =
    simp length-append (omega (arith, length-status_line-le status code, length-cseq_line-le cseq small, length-body_part-le body))

pub ruleset reply_bounds = (
  length-options_reply-le,
  length-closing_reply-le,
  length-plain_reply-le,
  length-describe_head-le,
  length-setup_reply-le,
  length-play_reply-le,
  length-unsupported_reply-le,
  length-text_reply-le,
)
