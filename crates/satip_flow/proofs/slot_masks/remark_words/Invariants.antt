use Rattle.std.proofs.Common.{◌≡◌, length}
use Rattle.std.specs.Int.{bit_at}
use Rattle.satip_flow.specs.Rows.{IsRewritten}
use Rattle.satip_flow.proofs.slot_masks.remark_words.Given as goal

abbrev pub invariant-loop-at : goal.invariant-loop-at
invariant-loop-at l = record {
  written : IsRewritten l.at l.start l.slots (λ i. bit_at l.old i) (λ i. bit_at l.new i) l.initial.rows l.rows;
  count : length l.rows ≡ length l.initial.rows;
}
