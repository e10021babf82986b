use Rattle.std.proofs.Common.{◌+◌, ◌*◌, ◌≤◌}
use Rattle.satip_packet_tests.proofs.rtp.push_packets.Given as goal

abbrev pub invariant-loop-pushed : goal.invariant-loop-pushed
invariant-loop-pushed l = record {
  bytes : l.initial.out.datagram_spare ≤ l.out.datagram_spare + 1328 * l._pushed;
  count : l.initial.out.count_spare ≤ l.out.count_spare + l._pushed;
}
