use Rattle.std.proofs.Common.{arith, inl, inr}
use Rattle.satip_frame.proofs.LineLemmas.{no_version_of, no_version_end, version_from_run}
use Rattle.satip_frame.proofs.heads.read_version.Goals as goal
use Rattle.satip_frame.proofs.heads.read_version.Goals.{then-end-start-via-then-end-start, then-end-start-via-else-end-start+then-end-start-gt-VERSION_LIMIT}

pub returns-then-end-start-clause-none : goal.returns-then-end-start-clause-none
returns-then-end-start-clause-none c =
    let run = c.visible_end-end.ensures.run in
    elim c.then-end-start.branch [
      | then-end-start-via-then-end-start w ↦ no_version_of run (inl (omega arith))
      | then-end-start-via-else-end-start+then-end-start-gt-VERSION_LIMIT w ↦ no_version_of run (inr (omega arith))
    ]

pub returns-in_default-clause-none : goal.returns-in_default-clause-none
returns-in_default-clause-none c = no_version_end c.visible_end-end.ensures.run c.in_default.ensures.none

pub returns-clause-found : goal.returns-clause-found
returns-clause-found c =
    let found = c.in-Some.ensures.found in
    (found.0, version_from_run c.visible_end-end.ensures.run c.in-Some.next found.0 (omega arith) (omega arith) found.1)
