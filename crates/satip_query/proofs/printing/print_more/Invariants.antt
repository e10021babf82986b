use Rattle.std.proofs.Common.{◌≤◌, length, drop}
use Rattle.std.specs.List.{flat_map}
use Rattle.satip_base.specs.Output.{Output, Wrote}
use Rattle.satip_pids.specs.Texts.{next_text}
use Rattle.satip_query.proofs.printing.print_more.Given as goal

abbrev pub invariant-loop-pid : goal.invariant-loop-pid
invariant-loop-pid l = record {
  rest : (n : Output) → Wrote l.out (flat_map next_text (drop l.pid-index l.pids)) n
      → Wrote l.fn.out (flat_map next_text l.pids) n;
  room : length (flat_map next_text (drop l.pid-index l.pids)) ≤ l.out.reply_spare;
}
