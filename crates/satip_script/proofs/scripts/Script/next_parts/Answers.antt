use Rattle.satip_script.proofs.ScriptLemmas.{passed_skip, parts_given, next_parts, parts_wrong, end_given}
use Rattle.satip_script.proofs.scripts.Script.next_parts.Goals as goal

pub lines-preserved : goal.lines-preserved
lines-preserved c = passed_skip c.args.self.now c.lines.self c.next_line.new.self c.in-Some.line.now c.in-Some.ensures.line c.lines.invariant
    c.in_default-read_parts.ensures.parts

pub returns-in-Some-read_parts-clause-given : goal.returns-in-Some-read_parts-clause-given
returns-in-Some-read_parts-clause-given c =
    parts_given c.args.self.now c.lines.self c.next_line.new.self c.in-Some.line.now c.in-Some.ensures.line c.lines.invariant c.in-Some-read_parts.parts
    c.in-Some-read_parts.ensures.parts

pub returns-in-Some-read_parts-clause-next : goal.returns-in-Some-read_parts-clause-next
returns-in-Some-read_parts-clause-next c =
    next_parts c.args.self.now c.lines.self c.next_line.new.self c.in-Some.line.now c.in-Some.ensures.line c.lines.invariant c.in-Some-read_parts.parts
    c.in-Some-read_parts.ensures.parts

pub returns-in-Some-read_parts-clause-wrong : goal.returns-in-Some-read_parts-clause-wrong
returns-in-Some-read_parts-clause-wrong c =
    parts_wrong c.args.self.now c.lines.self c.next_line.new.self c.in-Some.line.now c.in-Some.ensures.line c.lines.invariant c.in-Some-read_parts.parts
    c.in-Some-read_parts.ensures.parts

pub returns-clause-given : goal.returns-clause-given
returns-clause-given c = end_given c.args.self.now c.lines.self c.in_default.ensures.line.0 c.lines.invariant
