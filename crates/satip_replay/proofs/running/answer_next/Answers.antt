use Rattle.satip_replay.proofs.RunLemmas.{parts_answered}
use Rattle.satip_replay.proofs.running.answer_next.Goals as goal

pub returns-in-Some-clause-answered : goal.returns-in-Some-clause-answered
returns-in-Some-clause-answered c = λ events gives.
    parts_answered events c.next_parts.new.self c.args.server.now c.answer_parts.new.server c.in-Some.parts c.answer_parts.result c.answer_parts.new.out
    c.answer_parts.ensures.steps (c.in-Some.ensures.given events gives)
