-- The bytes of a report: a sender report, a source description and an application-defined part (RFC 3550, 6.4.1, 6.5, 6.7).
use Rattle.std.specs.Prelude.{ℕ, ◌+◌, ◌-◌, ◌*◌, ◌/◌, ◌%◌, ◌^◌, List, [], ◌∷◌, ◌++◌, length, replicate, codes}
use Rattle.std.specs.Int.{to_be_bytes, w16, w32}
use Rattle.satip_base.specs.Texts.{address_text}
use Rattle.satip_rtcp.specs.Ses1.{ses1}
use Rattle.satip_rtcp.specs.declared.views.StreamView.{StreamView}
use Rattle.satip_rtcp.specs.declared.views.Sender.{Sender}

-- the start of a part: version and count, its type, and its number of 32-bit words minus one
abbrev pub header : ℕ → ℕ → ℕ → List ℕ
header first kind length_of_part = first ∷ kind ∷ to_be_bytes w16 (length_of_part / 4 - 1)

-- a part, whose body follows its first four bytes
abbrev pub part : ℕ → ℕ → List ℕ → List ℕ
part first kind body = header first kind (4 + length body) ++ body

-- the seconds since 1900, modulo 2^32, of a clock that counts milliseconds from 1970
abbrev pub ntp_seconds_of : ℕ → ℕ
ntp_seconds_of clock = (clock / 1000 + 2208988800) % 2 ^ 32

-- the rest of the clock in units of 2^-32 seconds, rounded down
abbrev pub ntp_fraction_of : ℕ → ℕ
ntp_fraction_of clock = clock % 1000 * 2 ^ 32 / 1000

-- the clock in units of 90 kHz, modulo 2^32
abbrev pub rtp_time_of : ℕ → ℕ
rtp_time_of clock = clock * 90 % 2 ^ 32

-- the body of a sender report
unfoldable pub sender_body : Sender → List ℕ
sender_body sender =
    to_be_bytes w32 sender.ssrc ++ to_be_bytes w32 (ntp_seconds_of sender.clock) ++ to_be_bytes w32 (ntp_fraction_of sender.clock)
    ++ to_be_bytes w32 (rtp_time_of sender.clock) ++ to_be_bytes w32 sender.datagrams ++ to_be_bytes w32 sender.octets

-- the body of a source description: a source's canonical name, and one to four zero bytes up to a whole number of words
unfoldable pub description_body : ℕ → List ℕ → List ℕ
description_body ssrc name =
    to_be_bytes w32 ssrc ++ (1 ∷ length name ∷ []) ++ name ++ replicate (4 - (2 + length name) % 4) 0

-- the body of an application-defined part: a SES1 text, and up to three zero bytes up to a whole number of words
unfoldable pub application_body : ℕ → List ℕ → List ℕ
application_body ssrc text =
    to_be_bytes w32 ssrc ++ codes "SES1" ++ to_be_bytes w16 0 ++ to_be_bytes w16 (length text) ++ text
    ++ replicate ((4 - length text % 4) % 4) 0

-- the first part: version 2, no reception reports, type 200
abbrev pub sender_report : Sender → List ℕ
sender_report sender = part 128 200 (sender_body sender)

-- the second part: version 2, one source, type 202
abbrev pub source_description : ℕ → List ℕ → List ℕ
source_description ssrc name = part 129 202 (description_body ssrc name)

-- the third part: version 2, subtype 0, type 204
abbrev pub application : ℕ → List ℕ → List ℕ
application ssrc text = part 128 204 (application_body ssrc text)

-- the whole report
unfoldable pub report : StreamView → Sender → List ℕ
report view sender =
    sender_report sender ++ source_description sender.ssrc (address_text sender.address) ++ application sender.ssrc (ses1 view)
