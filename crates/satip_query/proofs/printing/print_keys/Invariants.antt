use Rattle.std.proofs.Common.{◌≤◌, false, length, drop}
use Rattle.satip_base.specs.Output.{Output, Wrote}
use Rattle.satip_query.specs.Printing.{parts_text}
use Rattle.satip_query.proofs.printing.print_keys.Given as goal

abbrev pub invariant-loop-key : goal.invariant-loop-key
invariant-loop-key l = record {
  rest : (n : Output) → Wrote l.out (parts_text l.query l.started (drop l.key-index l.keys)) n
      → Wrote l.fn.out (parts_text l.query false l.keys) n;
  room : length (parts_text l.query l.started (drop l.key-index l.keys)) ≤ l.out.reply_spare;
}
