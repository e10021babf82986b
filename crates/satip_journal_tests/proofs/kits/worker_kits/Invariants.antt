use Rattle.std.proofs.Common.{◌≡◌, length}
use Rattle.satip_journal_tests.proofs.kits.worker_kits.Given as goal

-- this number of kits was made
abbrev pub invariant-loop-made : goal.invariant-loop-made
invariant-loop-made g l = length l.kits.items ≡ l._made
