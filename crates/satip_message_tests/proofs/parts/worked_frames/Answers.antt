use Rattle.std.proofs.Common.{refl}
use Rattle.satip_message_tests.proofs.parts.worked_frames.Goals as goal

pub returns : goal.returns
returns c = record { bytes = refl; four = refl; none = refl; many = refl; unfinished = refl; head = refl; message = refl }
