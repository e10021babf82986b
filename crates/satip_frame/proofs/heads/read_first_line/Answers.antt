use Rattle.satip_frame.proofs.LineLemmas.{no_target, no_version}
use Rattle.satip_frame.proofs.heads.read_first_line.Goals as goal

pub returns-in_default-read_target-clause-none : goal.returns-in_default-read_target-clause-none
returns-in_default-read_target-clause-none c =
    no_target _ _ _ c.in-Some.ensures.found c.in_default-read_target.ensures.none

pub returns-in_default-read_version-clause-none : goal.returns-in_default-read_version-clause-none
returns-in_default-read_version-clause-none c =
    no_version _ _ _ _ _ c.in-Some.ensures.found c.in-Some-read_target.ensures.found c.in_default-read_version.ensures.none
