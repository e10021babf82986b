use Rattle.satip_script.proofs.ScriptLemmas.{passed_skip, event_given, wrong_given, end_given}
use Rattle.satip_script.proofs.scripts.Script.next.Goals as goal

pub lines-preserved : goal.lines-preserved
lines-preserved c = passed_skip c.args.self.now c.lines.self c.next_line.new.self c.in-Some.line.now c.in-Some.ensures.line c.lines.invariant
    c.in-Skip.ensures.line

pub returns-in-Event-clause-given : goal.returns-in-Event-clause-given
returns-in-Event-clause-given c = event_given c.args.self.now c.lines.self c.next_line.new.self c.in-Some.line.now c.in-Some.ensures.line c.lines.invariant
    c.in-Event.event c.in-Event.ensures.line

pub returns-in-Wrong-clause-given : goal.returns-in-Wrong-clause-given
returns-in-Wrong-clause-given c = wrong_given c.args.self.now c.lines.self c.next_line.new.self c.in-Some.line.now c.in-Some.ensures.line c.lines.invariant
    c.in-Wrong.ensures.line

pub returns-clause-given : goal.returns-clause-given
returns-clause-given c = end_given c.args.self.now c.lines.self c.in_default.ensures.line.0 c.lines.invariant

pub returns-clause-ended : goal.returns-clause-ended
returns-clause-ended c = λ none. c.in_default.ensures.line.1
