-- The bytes of an RTP datagram (RFC 3550, 5.1) with transport packets (RFC 2250, 2).
use Rattle.std.specs.Prelude.{ℕ, ◌*◌, ◌%◌, List, [], ◌∷◌, ◌++◌}
use Rattle.std.specs.List.{concat}
use Rattle.std.specs.Int.{to_be_bytes, w16, w32}

-- the RTP timestamp of a clock in milliseconds: it counts at 90 kHz, modulo 2^32
abbrev pub timestamp : ℕ → ℕ
timestamp clock = clock * 90 % 4294967296

-- the header: version 2 without padding, extension and contributing sources; payload type 33; number, timestamp and source
unfoldable pub rtp_header : ℕ → ℕ → ℕ → List ℕ
rtp_header number clock ssrc =
    128 ∷ 33 ∷ [] ++ to_be_bytes w16 number ++ to_be_bytes w32 (timestamp clock) ++ to_be_bytes w32 ssrc

-- the datagram of these packets
unfoldable pub rtp_datagram : ℕ → ℕ → ℕ → List (List ℕ) → List ℕ
rtp_datagram number clock ssrc packets = rtp_header number clock ssrc ++ concat packets
