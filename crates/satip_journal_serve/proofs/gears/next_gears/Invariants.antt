-- The sinks so far have journals, and there are sinks, rooms and memory for the others.
use Rattle.std.proofs.Common.{◌≡◌, ◌+◌, ◌-◌, ◌≤◌, ◌++◌, length, vec_len, vec_capacity}
use Rattle.satip_journal_serve.specs.SinkGears.{AreOpen, sinks_of}
use Rattle.satip_journal_serve.proofs.gears.next_gears.Given as goal

abbrev pub invariant-jobs : goal.invariant-jobs
invariant-jobs g l = record {
  sinks_are : l.initial.sinks.items ≡ sinks_of l.gears.items ++ l.sinks.items;
  are_open : AreOpen l.first l.gears.items;
  number : l.number ≡ l.first + length l.gears.items;
  made : length l.gears.items ≡ vec_len l.gears;
  most : vec_len l.gears ≤ l.count;
  left : vec_len l.initial.sinks ≡ vec_len l.sinks + vec_len l.gears;
  rooms : vec_len l.initial.lines ≡ vec_len l.lines + vec_len l.gears;
  capacity : vec_capacity l.sinks ≡ vec_capacity l.initial.sinks;
  space : vec_capacity l.gears ≡ vec_capacity l.initial.gears;
}

abbrev pub decreases-jobs : goal.decreases-jobs
decreases-jobs g l = l.count - vec_len l.gears
