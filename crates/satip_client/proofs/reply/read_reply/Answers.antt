use Rattle.std.proofs.Common.{arith}
use Rattle.satip_client.proofs.HeadLemmas.{may-become, never-becomes, body-open, body-whole}
use Rattle.satip_client.proofs.reply.read_reply.Goals as goal

pub returns-then-may_go_on : goal.returns-then-may_go_on
returns-then-may_go_on c = record {
  read = (λ h size reply. c.in_default.ensures.only h size reply.has_head, may-become c.args.bytes.now (c.may_go_on.ensures.may c.if-may_go_on.true));
}

pub returns-in_default : goal.returns-in_default
returns-in_default c = record {
  read = never-becomes c.args.bytes.now c.in_default.ensures.only (c.may_go_on.ensures.never c.if-may_go_on.false);
}

pub returns-then-bytes-head : goal.returns-then-bytes-head
returns-then-bytes-head c = record { read = body-open c.in-Some.ensures.found c.in-Some.ensures.only (omega arith) }

pub returns : goal.returns
returns c = record { read = body-whole c.in-Some.ensures.found c.in-Some.ensures.only c.view_of.result (omega arith) c.view_of.ensures.says }
