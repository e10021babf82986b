use Rattle.std.proofs.Common.{length}
use Rattle.satip_script.proofs.ScriptLemmas.{Reads}
use Rattle.satip_script.proofs.scripts.check_script.Given as goal

abbrev pub invariant-lines : goal.invariant-lines
invariant-lines l = Reads l.text l.number l.script

abbrev pub decreases-lines : goal.decreases-lines
decreases-lines l = length l.script
