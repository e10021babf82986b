use Rattle.std.proofs.Common.{◌≡◌, ◌++◌, replicate, None}
use Rattle.circular_buffer.specs.Buffer.{buffer}
use Rattle.satip_rtp_receiver.proofs.holding.push_missing.Given as goal

abbrev pub invariant-loop-pushed : goal.invariant-loop-pushed
invariant-loop-pushed l = l.ring ≡ buffer (l.initial.ring.items ++ replicate l._pushed None) 64
