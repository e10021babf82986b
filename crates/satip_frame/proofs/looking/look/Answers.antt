use Rattle.std.proofs.Common.{arith}
use Rattle.satip_frame.proofs.FramerLemmas.{still_waits, body_open}
use Rattle.satip_frame.proofs.looking.look.Goals as goal

pub returns-then-text-seen : goal.returns-then-text-seen
returns-then-text-seen c = record { front = still_waits c.args.text.now c.args.seen c.requires.seen c.if-text-seen.true }

pub returns-then-text-len : goal.returns-then-text-len
returns-then-text-len c = record {
  front = body_open c.args.text.now c.args.seen c.in-Some.head _ c.in-Some-read_head.read.body c.requires.seen c.in-Some.ensures.found
      c.in-Some-read_head.ensures.found (omega (arith, c.if-read-gt-BODY_LIMIT.false)) (omega (arith, c.if-text-len.true));
}
