use Rattle.std.proofs.Common.{◌≡◌}
use Rattle.satip_status_tests.proofs.kits.add.Given as goal

-- connections that are to come don't show in doors
abbrev pub invariant-loop-pieces : goal.invariant-loop-pieces
invariant-loop-pieces g l = l.doors ≡ l.initial.doors
