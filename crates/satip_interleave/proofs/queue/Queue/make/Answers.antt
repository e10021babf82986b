use Rattle.std.proofs.Common.{ap, ◌∙◌}
use Rattle.satip_interleave.specs.Framed.{frames_of}
use Rattle.satip_interleave.proofs.FrameLemmas.{frames_of-nil}
use Rattle.satip_interleave.proofs.queue.Queue.make.Goals as goal

pub returns-in-Ok : goal.returns-in-Ok
returns-in-Ok c = record { empty = ap frames_of c.in-Ok.ensures.empty ∙ frames_of-nil }
