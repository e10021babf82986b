use Rattle.std.proofs.Common.{◌-◌, ◌*◌, ◌<◌, ◌≤◌, length}
use Rattle.satip_packet_tests.proofs.rtp.plain.extend_packets.Given as goal

-- there is room for the packets that are left
abbrev pub invariant-loop-packet : goal.invariant-loop-packet
invariant-loop-packet l = record {
  begun : 0 < length l.out.datagrams;
  room : 188 * (length l.packets - l.packet-index) ≤ l.out.datagram_spare;
}
