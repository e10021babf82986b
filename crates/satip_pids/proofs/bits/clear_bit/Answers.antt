use Rattle.satip_pids.proofs.BitSets.{has_bit-clear}
use Rattle.satip_pids.proofs.bits.clear_bit.Goals as goal

pub returns : goal.returns
returns c = record { bits = has_bit-clear c.args.words.now c.args.pid c.requires.size c.requires.below }
