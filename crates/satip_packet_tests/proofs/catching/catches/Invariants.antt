use Rattle.satip_rtp_receiver.specs.Catching.{Rests}
use Rattle.satip_packet_tests.proofs.catching.catches.Given as goal

-- no item waits before a datagram
abbrev pub invariant-loop-round : goal.invariant-loop-round
invariant-loop-round l = Rests l.catcher
