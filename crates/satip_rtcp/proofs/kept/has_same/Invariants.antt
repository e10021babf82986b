use Rattle.std.proofs.Common.{ℕ, ◌≡◌, ◌*◌, ◌<◌}
use Rattle.satip_pids.specs.Pids.{has_pid}
use Rattle.satip_rtcp.proofs.kept.has_same.Given as goal

abbrev pub invariant-loop-at : goal.invariant-loop-at
invariant-loop-at l = (pid : ℕ) → pid < 64 * l.at → has_pid l.a pid ≡ has_pid l.b pid
