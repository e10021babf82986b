use Rattle.std.proofs.Common.{◌+◌, ◌*◌, ◌≤◌, length, take}
use Rattle.std.specs.List.{flat_map}
use Rattle.satip_base.specs.Printed.{Printed}
use Rattle.satip_pids.specs.Texts.{next_text}
use Rattle.satip_session_tests.proofs.pids.plain.print_others.Given as goal

abbrev pub invariant-loop-pid : goal.invariant-loop-pid
invariant-loop-pid l = record {
  printed : Printed l.fn.strip (flat_map next_text (take l.pid-index l.pids)) l.strip;
  room : length l.strip ≤ length l.fn.strip + 5 * l.pid-index;
}
