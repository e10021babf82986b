-- RTP datagrams (RFC 3550, 5.1) with transport packets (RFC 2250, 2), over their bytes.
use Rattle.std.specs.Prelude.{ℕ, ◌≡◌, ◌%◌, ◌≤◌, List, length, drop, slice_index, slice_range}
use Rattle.std.specs.Int.{from_be_bytes, w16, w32}
use Rattle.satip_rtp_receiver.specs.Packets.{ArePackets}
use Rattle.satip_rtp_receiver.specs.declared.view.RtpView.{RtpView}

-- version 2 without padding, extension and contributing sources; payload type 33, with or without the marker bit
pub record IsRtp (bytes : List ℕ) : Type 0 where
  pub header : 12 ≤ length bytes
  pub version : slice_index bytes 0 ≡ 128
  pub payload_type : slice_index bytes 1 % 128 ≡ 33
  pub packets : ArePackets (drop 12 bytes)

-- the content of such a datagram: its sequence number, its source and its packets
pub record Says (bytes : List ℕ) (view : RtpView) : Type 0 where
  pub is_rtp : IsRtp bytes
  pub number : view.number ≡ from_be_bytes w16 (slice_range bytes 2 4)
  pub ssrc : view.ssrc ≡ from_be_bytes w32 (slice_range bytes 8 12)
  pub packets : view.packets.now ≡ drop 12 bytes
