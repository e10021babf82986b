-- The sequence numbers and the SSRC of a session's RTP datagrams (RFC 3550, 5.1).
use Rattle.std.specs.Prelude.{ℕ, ◌≡◌, ◌==◌, ◌&&◌, not, Bool, false, List, filter, Some}
use Rattle.std.specs.List.{list_any}
use Rattle.satip_plain.specs.declared.setting.Setting.{Setting}
use Rattle.satip_plain.specs.Types.{SessionId}
use Rattle.satip_plain.specs.State.{Session, same_id}
use Rattle.satip_plain.specs.Sending.{Sent, Rtp, Report}
use Rattle.satip_plain.specs.Steps.{is_session}
use Rattle.satip_plain.specs.Histories.{Item, opening}
use Rattle.satip_plain.specs.Packets.{sent_from}
use Rattle.satip_plain.specs.Numbering.{numbers_for, counted}
use Rattle.satip_laws.specs.Makings.{made, made_as}

-- the datagrams of a history, in order
abbrev pub sent_in : Setting → List Item → List Sent
sent_in c h = sent_from c.config (opening c) h

-- the numbers begin with `first` and count up by one, modulo 65536
pub record CountFrom (first : ℕ) (numbers : List ℕ) : Type 0 where
  pub many : ℕ
  pub are : numbers ≡ counted first 0 many

-- the RTP datagrams of each session are numbered one after another, from the first number of its draw on
abbrev pub NumbersCountFromFirst : Type 0
NumbersCountFromFirst = (c : Setting) (h : List Item) (s : SessionId) (x : Session) → made_as c h s ≡ Some x → CountFrom x.first (numbers_for s (sent_in c h))

-- whether it is an RTP datagram of the session
abbrev pub is_rtp_of : SessionId → Sent → Bool
is_rtp_of s (Rtp id to number clock ssrc packets) = same_id id s
is_rtp_of s (Report id view sender) = false

-- whether it is an RTP datagram that carries this SSRC
abbrev pub carries : ℕ → Sent → Bool
carries n (Rtp id to number clock ssrc packets) = ssrc == n
carries n (Report id view sender) = false

-- whether another session was created with this SSRC
abbrev pub shares_ssrc : Setting → List Item → SessionId → ℕ → Bool
shares_ssrc c h s ssrc = list_any (λ y. not (is_session s y) && y.ssrc == ssrc) (made c h)

-- the RTP datagrams of a session are those that carry its SSRC, if no other session was created with it
abbrev pub SsrcTells : Type 0
SsrcTells = (c : Setting) (h : List Item) (s : SessionId) (x : Session) → made_as c h s ≡ Some x → shares_ssrc c h s x.ssrc ≡ false
    → filter (is_rtp_of s) (sent_in c h) ≡ filter (carries x.ssrc) (sent_in c h)
