use Rattle.std.proofs.Common.{length, ap, arith, List, ℕ}
use Rattle.satip_script.proofs.ScriptLemmas.{reads_none, reads_wrong, reads_skip, reads_event, reads_all, lines_few}
use Rattle.satip_script.proofs.scripts.check_script.Goals as goal
use Rattle.satip_script.proofs.scripts.check_script.Goals.{in-Skip, in-Right}

pub lines-init : goal.lines-init
lines-init c = reads_none c.args.text.now c.of-script.result c.of-script.ensures.lines

pub returns-in-Wrong-clause-wrong : goal.returns-in-Wrong-clause-wrong
returns-in-Wrong-clause-wrong c =
    reads_wrong c.args.text.now c.lines.number c.in-Some.line.now c.lines.script c.next_line.new.self c.in-Some.ensures.line c.lines.invariant
    c.in-Wrong.ensures.check

pub overflow_add-number : goal.overflow_add-number
overflow_add-number c =
    omega (arith, lines_few c.args.text.now, c.lines.invariant.few, ap (λ (xs : List (List ℕ)). length xs) c.in-Some.ensures.line)

pub lines-preserved : goal.lines-preserved
lines-preserved c =
    elim c.match-check_line.branch [
      | in-Skip w ↦ reads_skip c.args.text.now c.lines.number c.in-Some.line.now c.lines.script c.next_line.new.self c.in-Some.ensures.line c.lines.invariant
          w.in-Skip.ensures.check
      | in-Right w ↦ reads_event c.args.text.now c.lines.number c.in-Some.line.now c.lines.script c.next_line.new.self c.in-Some.ensures.line c.lines.invariant
          w.in-Right.ensures.check.0 w.in-Right.ensures.check.1
    ]

pub returns-clause-right : goal.returns-clause-right
returns-clause-right c = reads_all c.args.text.now c.lines.number c.lines.script c.in_default.ensures.line.0 c.lines.invariant
