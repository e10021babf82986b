use Rattle.std.proofs.Common.{◌≡◌, ◌*◌, length}
use Rattle.satip_pids.specs.Pids.{has_pid}
use Rattle.satip_flow.specs.Rows.{bit, IsRewritten}
use Rattle.satip_flow.proofs.slot_masks.remark_front.Given as goal

abbrev pub invariant-loop-at : goal.invariant-loop-at
invariant-loop-at l = record {
  written : IsRewritten (64 * l.at) l.start l.slots (λ pid. bit (has_pid l.old pid)) (λ pid. bit (has_pid l.pids pid)) l.initial.rows l.rows;
  count : length l.rows ≡ length l.initial.rows;
}
