use Rattle.std.proofs.Common.{arith, refl}
use Rattle.satip_frame.proofs.LineLemmas.{no_word_at_end, no_word_before, no_empty_word, word_from_run}
use Rattle.satip_frame.proofs.heads.read_target.Goals as goal
use Rattle.satip_frame.proofs.heads.read_target.Goals.{then-end-head-via-then-end-head, then-end-head-via-else-end-head+then-head-end-ne32, then-end-head-via-else-end-head+else-head-end-ne32+then-end-start}

pub returns-then-end-head-clause-none : goal.returns-then-end-head-clause-none
returns-then-end-head-clause-none c =
    let run = c.visible_end-end.ensures.run in
    elim c.then-end-head.branch [
      | then-end-head-via-then-end-head w ↦ no_word_at_end refl run (omega arith)
      | then-end-head-via-else-end-head+then-head-end-ne32 w ↦
          no_word_before refl run (omega (arith, run.in_range)) (omega arith)
      | then-end-head-via-else-end-head+else-head-end-ne32+then-end-start w ↦
          no_empty_word refl run (omega (arith, run.in_range)) (omega arith)
    ]

pub returns-clause-found : goal.returns-clause-found
returns-clause-found c =
    let run = c.visible_end-end.ensures.run in
    word_from_run refl run (omega (arith, run.in_range)) (omega arith) (omega arith)
