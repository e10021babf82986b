use Rattle.std.proofs.Common.{refl}
use Rattle.satip_rtp.specs.Bytes.{rtp_header}
use Rattle.satip_rtp.specs.Held.{packets_in}
use Rattle.satip_packet_tests.proofs.rtp.worked_cuts.Goals as goal

pub returns : goal.returns
unfolding rtp_header packets_in
returns c = record { held = refl; seventh = refl; flushed = refl; nothing = refl; header = refl; no_places = refl; places = refl }
