use Rattle.std.proofs.Common.{◌*◌, ◌+◌, ◌≤◌}
use Rattle.satip_packet_tests.proofs.flow.plain.pull_packets.Given as goal

-- there is room for the packets that are left
abbrev pub invariant-loop-pulled : goal.invariant-loop-pulled
invariant-loop-pulled l = record {
  bytes : l.bytes ≤ 188 * l._pulled;
  room : 12032 ≤ l.out.reply_spare + 188 * l._pulled;
}
