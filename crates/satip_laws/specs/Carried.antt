-- The contents of the bytes of an RTP datagram (RFC 3550, 5.1; RFC 2250, 2).
use Rattle.std.specs.Prelude.{ℕ, ◌≡◌, ◌<◌, ◌^◌, List, length, drop, slice_range}
use Rattle.std.specs.Int.{from_be_bytes, w16, w32}
use Rattle.satip_base.specs.Lists.{Each}
use Rattle.satip_rtp.specs.Bytes.{rtp_datagram}
use Rattle.satip_plain.specs.Readings.{packets_of}

-- the sequence number, in bytes 2 and 3
abbrev pub number_inside : List ℕ → ℕ
number_inside bytes = from_be_bytes w16 (slice_range bytes 2 4)

-- the SSRC, in bytes 8 to 11
abbrev pub ssrc_inside : List ℕ → ℕ
ssrc_inside bytes = from_be_bytes w32 (slice_range bytes 8 12)

-- the transport packets, of 188 bytes each, from byte 12 on
abbrev pub packets_inside : List ℕ → List (List ℕ)
packets_inside bytes = packets_of (length bytes) (drop 12 bytes)

-- these bytes carry this number, this SSRC and these packets
pub record Carries (number ssrc : ℕ) (packets : List (List ℕ)) (bytes : List ℕ) : Type 0 where
  pub numbered : number_inside bytes ≡ number
  pub marked : ssrc_inside bytes ≡ ssrc
  pub filled : packets_inside bytes ≡ packets

-- the bytes of a datagram carry its number, its SSRC and its packets, if each packet has 188 bytes
abbrev pub DatagramsCarry : Type 0
DatagramsCarry =
    (number clock ssrc : ℕ) (packets : List (List ℕ)) → number < 2 ^ 16 → ssrc < 2 ^ 32 → Each (λ packet. length packet ≡ 188) packets
    → Carries number ssrc packets (rtp_datagram number clock ssrc packets)
