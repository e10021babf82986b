use Rattle.satip_interleave.proofs.FrameLemmas.{no_frames}
use Rattle.satip_interleave.proofs.queue.Queue.is_empty.Goals as goal

pub returns : goal.returns
returns c = record { empty = no_frames c.self.inside.ring c.args.self.now c.len.result c.self.invariant c.self.view_is c.len.ensures.count }
