use Rattle.std.proofs.Common.{arith}
use Rattle.std.proofs.lemmas.List.{length-drop}
use Rattle.satip_interleave.proofs.FrameLemmas.{front_past, past_more, past_over, past_all}
use Rattle.satip_interleave.proofs.queue.first_bytes.Goals as goal

pub loop-count-init : goal.loop-count-init
loop-count-init c = record { framed = c.requires.framed; rest = omega arith; within = omega arith; limit = omega arith }

pub frame_bytes-size-requires-clause-head : goal.frame_bytes-size-requires-clause-head
frame_bytes-size-requires-clause-head c =
    let count = c.loop-count.count in
    let bytes = c.args.ring.now in
    let front = front_past bytes count c.loop-count.invariant (omega (arith, c.loop-count-test.true, c.len.ensures.count)) in
    omega (arith, front.head, length-drop count bytes)

pub returns-then-count-size-clause-count : goal.returns-then-count-size-clause-count
returns-then-count-size-clause-count c =
    past_over c.args.ring.now c.loop-count.count c.frame_bytes-size.result c.loop-count.invariant
    (omega (arith, c.loop-count-test.true, c.len.ensures.count)) c.frame_bytes-size.ensures.size c.if-count-size.true

pub loop-count-preserved : goal.loop-count-preserved
loop-count-preserved c =
    past_more c.args.ring.now c.loop-count.count c.frame_bytes-size.result c.loop-count.invariant
    (omega (arith, c.loop-count-test.true, c.len.ensures.count)) c.frame_bytes-size.ensures.size c.if-count-size.false

pub loop-count-smaller : goal.loop-count-smaller
loop-count-smaller c =
    let front = front_past c.args.ring.now c.loop-count.count c.loop-count.invariant (omega (arith, c.loop-count-test.true, c.len.ensures.count)) in
    omega (arith, front.some, c.frame_bytes-size.ensures.size, c.loop-count-test.true, c.len.ensures.count)

pub returns-clause-count : goal.returns-clause-count
returns-clause-count c =
    past_all c.args.ring.now c.loop-count.count c.loop-count.invariant (omega (arith, c.loop-count-test.false, c.len.ensures.count))
