use Rattle.std.proofs.Common.{◌≡◌, ◌≤◌, length, take}
use Rattle.satip_pids.specs.Rising.{without}
use Rattle.satip_session_tests.proofs.pids.rising.difference.Given as goal

abbrev pub invariant-loop-pid : goal.invariant-loop-pid
invariant-loop-pid l = record {
  kept : l.kept.items ≡ without (take l.pid-index l.pids) l.list;
  few : length l.kept.items ≤ l.pid-index;
}
