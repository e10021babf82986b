-- The sinks so far came back, and there is memory for the others.
use Rattle.std.proofs.Common.{◌≡◌, ◌+◌, ◌++◌, ◌||◌, vec_len, vec_capacity}
use Rattle.satip_journal_serve.specs.SinkGears.{has_failed, sinks_of}
use Rattle.satip_journal_serve.proofs.gears.give_back.Given as goal

abbrev pub invariant-gears : goal.invariant-gears
invariant-gears g l = record {
  sinks_are : l.sinks.items ++ sinks_of l.gears.items ≡ l.initial.sinks.items ++ sinks_of l.initial.gears.items;
  failed_is : (l.failed || has_failed l.gears.items) ≡ has_failed l.initial.gears.items;
  count : vec_len l.sinks + vec_len l.gears ≡ vec_len l.initial.sinks + vec_len l.initial.gears;
  capacity : vec_capacity l.sinks ≡ vec_capacity l.initial.sinks;
}

abbrev pub decreases-gears : goal.decreases-gears
decreases-gears g l = vec_len l.gears
