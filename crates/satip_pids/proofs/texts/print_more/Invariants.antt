use Rattle.std.proofs.Common.{ℕ, List, ◌+◌, ◌-◌, ◌*◌, ◌≤◌, length}
use Rattle.std.specs.List.{flat_map}
use Rattle.satip_base.specs.Printed.{Printed}
use Rattle.satip_pids.specs.Bits.{members_above}
use Rattle.satip_pids.specs.Texts.{next_text}
use Rattle.satip_pids.proofs.texts.print_more.Given as goal

abbrev pub invariant-loop-pid : goal.invariant-loop-pid
invariant-loop-pid l = record {
  within : l.from ≤ 8192;
  printed : (n : List ℕ) → Printed l.strip (flat_map next_text (members_above l.words l.from)) n
      → Printed l.fn.strip (flat_map next_text (members_above l.words l.first)) n;
  room : length l.strip + 5 * length (members_above l.words l.from) ≤ 1600;
}

abbrev pub decreases-loop-pid : goal.decreases-loop-pid
decreases-loop-pid l = 8192 - l.from
