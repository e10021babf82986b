use Rattle.std.proofs.Common.{◌≡◌}
use Rattle.satip_packet_tests.proofs.catching.gives_all.Given as goal

-- an item ends nothing
abbrev pub invariant-loop-wanted : goal.invariant-loop-wanted
invariant-loop-wanted l = l.catcher.finished ≡ l.initial.catcher.finished
