use Rattle.std.proofs.Common.{ap, ◌∙◌}
use Rattle.satip_interleave.specs.Framed.{frames_of}
use Rattle.satip_interleave.proofs.FrameLemmas.{frames_of-nil}
use Rattle.satip_interleave.proofs.queue.Queue.clear.Goals as goal

pub returns : goal.returns
returns c = record { empty = ap frames_of c.clear.ensures.empty ∙ frames_of-nil }
