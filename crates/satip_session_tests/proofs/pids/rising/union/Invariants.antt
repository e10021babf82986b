use Rattle.std.proofs.Common.{◌≡◌, ◌≤◌, length, take}
use Rattle.satip_pids.specs.Rising.{IsRising, put_all}
use Rattle.satip_session_tests.proofs.pids.rising.union.Given as goal

abbrev pub invariant-loop-pid : goal.invariant-loop-pid
invariant-loop-pid l = record {
  united : l.all.items ≡ put_all l.pids (take l.pid-index l.list);
  rising : IsRising 0 l.all.items;
  few : length l.all.items ≤ 256;
}
