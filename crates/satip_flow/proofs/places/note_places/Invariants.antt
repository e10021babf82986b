use Rattle.std.proofs.Common.{◌≡◌, length}
use Rattle.satip_flow.proofs.RowLemmas.{NotedTo}
use Rattle.satip_flow.proofs.places.note_places.Given as goal

abbrev pub invariant-loop-at : goal.invariant-loop-at
invariant-loop-at l = record {
  size : length l.places ≡ 64;
  noted : NotedTo l.at l.places l.subscribers;
}
