use Rattle.std.proofs.Common.{◌≡◌, length}
use Rattle.satip_flow.proofs.Marking.{IsRemarked}
use Rattle.satip_flow.proofs.flow.remark_all.Given as goal

abbrev pub invariant-loop-subscriber : goal.invariant-loop-subscriber
invariant-loop-subscriber l = record {
  remarked : IsRemarked l.subscriber-index l.left l.slots l.front l.pids l.initial.rows l.rows l.subscribers;
  count : length l.rows ≡ 131072;
}
