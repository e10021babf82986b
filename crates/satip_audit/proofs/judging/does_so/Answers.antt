use Rattle.std.proofs.Common.{refl}
use Rattle.satip_audit.proofs.LineAgain.{does, other_answer}
use Rattle.satip_audit.proofs.judging.does_so.Goals as goal

pub returns-in_default-clause-does : goal.returns-in_default-clause-does
returns-in_default-clause-does c = λ p is_p same. absurd (c.in_default.ensures.none refl p.entry is_p same)

pub returns-then-not-same_answer-clause-does : goal.returns-then-not-same_answer-clause-does
returns-then-not-same_answer-clause-does c = λ p is_p same.
    other_answer c.args.server.now c.event-done.new.self c.read_record.new.event c.in-Some.answer c.read_record.new.out c.event-done.result
    c.event-done.new.out c.args.bytes.now c.event-done.ensures.steps c.in-Some.ensures.read p is_p same c.if-not-same_answer.ensures.same

pub returns-clause-does : goal.returns-clause-does
returns-clause-does c = λ p is_p same.
    does c.args.server.now c.event-done.new.self c.read_record.new.event c.in-Some.answer c.read_record.new.out c.event-done.result
    c.event-done.new.out c.args.bytes.now c.event-done.ensures.steps c.in-Some.ensures.read p is_p same _ c.if-not-same_answer.ensures.same
    c.same_output.ensures.same
