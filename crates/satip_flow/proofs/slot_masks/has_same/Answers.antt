use Rattle.satip_flow.proofs.Rewriting.{same_more}
use Rattle.satip_flow.proofs.slot_masks.has_same.Goals as goal

pub loop-at-preserved : goal.loop-at-preserved
loop-at-preserved c =
    same_more c.loop-at.at c.word.result c.word-in-loop-at.result c.args.a.now c.args.b.now c.word.ensures.bits c.word-in-loop-at.ensures.bits c.if-word.false
    c.loop-at.invariant
