use Rattle.std.proofs.Common.{arith}
use Rattle.satip_rtcp.proofs.SameTexts.{same_more, same_sets}
use Rattle.satip_rtcp.proofs.kept.has_same.Goals as goal

pub loop-at-preserved : goal.loop-at-preserved
loop-at-preserved c =
    same_more c.loop-at.at c.word.result c.word-in-loop-at.result c.args.a.now c.args.b.now c.word.ensures.bits c.word-in-loop-at.ensures.bits c.if-word.false
    c.loop-at.invariant

pub returns : goal.returns
returns c = record {
  same = λ yes.
      same_sets c.args.a.now c.args.b.now c.has.ensures.limits c.has-2.ensures.limits (λ pid lt.
      c.loop-at.invariant pid (omega (arith, lt, c.loop-at-test.false)));
}
