use Rattle.std.proofs.Common.{length}
use Rattle.satip_script.proofs.ScriptLemmas.{Passed}
use Rattle.satip_script.proofs.scripts.Script.next_parts.Given as goal

abbrev pub invariant-lines : goal.invariant-lines
invariant-lines l = Passed l.initial.self l.self

abbrev pub decreases-lines : goal.decreases-lines
decreases-lines l = length l.self
