use Rattle.std.proofs.Common.{refl}
use Rattle.satip_ts.specs.Recording.{cut_packets}
use Rattle.satip_packet_tests.proofs.transport.worked_recording.Goals as goal

pub returns : goal.returns
unfolding cut_packets
returns c = record { cut = refl }
