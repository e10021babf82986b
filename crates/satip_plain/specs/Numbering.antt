-- The sequence numbers of a session's RTP datagrams (RFC 3550, 5.1).
use Rattle.std.specs.Prelude.{ℕ, ◌+◌, ◌%◌, zero, suc, List, [], ◌∷◌, if◌then◌else◌}
use Rattle.satip_plain.specs.Types.{SessionId}
use Rattle.satip_plain.specs.State.{same_id}
use Rattle.satip_plain.specs.Sending.{Sent, Rtp, Report}

-- the datagram's number in front of more numbers, if it is an RTP datagram of the session; else those numbers
abbrev pub numbered_before : SessionId → Sent → List ℕ → List ℕ
numbered_before s (Rtp id to number clock ssrc packets) more = if same_id id s then number ∷ more else more
numbered_before s (Report id view sender) more = more

-- the numbers of the session's RTP datagrams, in order
abbrev pub numbers_for : SessionId → List Sent → List ℕ
numbers_for s [] = []
numbers_for s (d ∷ sent) = numbered_before s d (numbers_for s sent)

-- n numbers that count up by one, modulo 65536, from `first` plus `before` on
abbrev pub counted : ℕ → ℕ → ℕ → List ℕ
counted first before zero = []
counted first before (suc n) = (first + before) % 65536 ∷ counted first (before + 1) n
