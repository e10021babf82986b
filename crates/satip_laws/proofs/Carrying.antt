-- That the bytes of a datagram carry its number, its SSRC and its packets.
use Rattle.std.proofs.Common.{arith, ◌≡◌, ℕ, ◌≤◌, List, length, drop, refl, ap, ◌∙◌}
use Rattle.std.specs.List.{concat}
use Rattle.std.specs.Int.{to_be_bytes, from_be_bytes, w16, w32}
use Rattle.std.specs.Prelude.{slice_range}
use Rattle.std.proofs.lemmas.Nat.{from_be_bytes-to_be_bytes_2, from_be_bytes-to_be_bytes_4}
use Rattle.satip_base.specs.Lists.{Each}
use Rattle.satip_rtp.specs.Bytes.{rtp_header, rtp_datagram}
use Rattle.satip_laws.proofs.Pulling.{packets_back}
use Rattle.satip_laws.specs.Carried.{packets_inside, DatagramsCarry}

number_at : (number clock ssrc : ℕ) (packets : List (List ℕ)) → slice_range (rtp_datagram number clock ssrc packets) 2 4 ≡ to_be_bytes w16 number
unfolding rtp_datagram rtp_header
number_at number clock ssrc packets = refl

ssrc_at : (number clock ssrc : ℕ) (packets : List (List ℕ)) → slice_range (rtp_datagram number clock ssrc packets) 8 12 ≡ to_be_bytes w32 ssrc
unfolding rtp_datagram rtp_header
ssrc_at number clock ssrc packets = refl

packets_at : (number clock ssrc : ℕ) (packets : List (List ℕ)) → drop 12 (rtp_datagram number clock ssrc packets) ≡ concat packets
unfolding rtp_datagram rtp_header
packets_at number clock ssrc packets = refl

long : (number clock ssrc : ℕ) (packets : List (List ℕ)) → length (concat packets) ≤ length (rtp_datagram number clock ssrc packets)
unfolding rtp_datagram rtp_header
long number clock ssrc packets = omega arith

pub packets_carried : (number clock ssrc : ℕ) (packets : List (List ℕ)) → Each (λ packet. length packet ≡ 188) packets
    → packets_inside (rtp_datagram number clock ssrc packets) ≡ packets
packets_carried number clock ssrc packets whole =
    rw (packets_at number clock ssrc packets) (packets_back packets (length (rtp_datagram number clock ssrc packets)) whole (long number clock ssrc packets))

pub datagrams_carry : DatagramsCarry
datagrams_carry number clock ssrc packets n s whole = record {
  numbered = ap (from_be_bytes w16) (number_at number clock ssrc packets) ∙ from_be_bytes-to_be_bytes_2 number n;
  marked = ap (from_be_bytes w32) (ssrc_at number clock ssrc packets) ∙ from_be_bytes-to_be_bytes_4 ssrc s;
  filled = packets_carried number clock ssrc packets whole;
}
