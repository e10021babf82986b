-- The six counts of a history, and their text.
use Rattle.std.specs.Prelude.{ℕ, ◌-◌, ◌/◌, ◌==◌, not, Bool, true, false, cond, List, ◌++◌, length, sum_by, codes, decimal, slice_index}
use Rattle.std.specs.List.{count_by}
use Rattle.satip_base.specs.Output.{Datagram}
use Rattle.satip_plain.specs.declared.answers.Answer.{Answer}
use Rattle.satip_plain.specs.declared.answers.Answer.TheVariants.{Replied}
use Rattle.satip_plain.specs.Histories.{Item}
use Rattle.satip_stress.specs.declared.counting.Counts.{Counts}

-- whether an answer is an RTSP reply
abbrev pub is_reply : Answer → Bool
is_reply (Replied replied) = true
is_reply answer = false

-- whether an answer is an RTSP reply with another status than 200
abbrev pub is_refusal : Answer → Bool
is_refusal (Replied replied) = not (replied.status == 200)
is_refusal answer = false

-- the kind of a datagram is its second byte: payload type 33 is a transport stream over RTP (RFC 3550, 5.1; RFC 2250, 2), packet type 200 a sender report (RFC
-- 3550, 6.4.1)
abbrev pub is_media : Datagram → Bool
is_media d = slice_index d.bytes 1 == 33

-- whether a datagram is a sender report
abbrev pub is_report : Datagram → Bool
is_report d = slice_index d.bytes 1 == 200

-- the number of transport packets after a datagram's RTP header
abbrev pub packets_in : Datagram → ℕ
packets_in d = cond (is_media d) ((length d.bytes - 12) / 188) 0

-- the counts of a history: entries, replies, those that refuse, RTP datagrams, their transport packets, reports
unfoldable pub counts : List Item → Counts
counts h = record {
  events = length h;
  replies = count_by (λ e. is_reply e.answer) h;
  refused = count_by (λ e. is_refusal e.answer) h;
  datagrams = sum_by (λ e. count_by is_media e.out.datagrams) h;
  payload = sum_by (λ e. sum_by packets_in e.out.datagrams) h;
  reports = sum_by (λ e. count_by is_report e.out.datagrams) h;
}

-- a line of a count
abbrev pub line : List ℕ → ℕ → List ℕ
line name number = name ++ codes " " ++ decimal number ++ codes "\n"

-- the six lines
abbrev pub lines : Counts → List ℕ
lines c =
    line (codes "events") c.events
    ++ line (codes "replies") c.replies
    ++ line (codes "refused") c.refused
    ++ line (codes "datagrams") c.datagrams
    ++ line (codes "payload") c.payload
    ++ line (codes "reports") c.reports
