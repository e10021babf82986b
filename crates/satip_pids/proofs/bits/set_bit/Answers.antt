use Rattle.satip_pids.proofs.BitSets.{has_bit-set}
use Rattle.satip_pids.proofs.bits.set_bit.Goals as goal

pub returns : goal.returns
returns c = record { bits = has_bit-set c.args.words.now c.args.pid c.requires.size c.requires.below }
