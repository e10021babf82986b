use Rattle.std.proofs.Common.{◌≡◌, ◌<◌, ℕ, get_or, ap, ◌∙◌, arith}
use Rattle.std.proofs.lemmas.Nat.Bits.{bit_at-zero}
use Rattle.std.specs.Int.{bit_at}
use Rattle.satip_flow.proofs.RowLemmas.{word_none}
use Rattle.satip_flow.proofs.slot_masks.are_unmarked.Goals as goal

pub returns-then-row-ne0 : goal.returns-then-row-ne0
returns-then-row-ne0 c =
    let rows = c.args.rows.now in
    let at = c.loop-row.row-index in
    record {
      unmarked = (
        λ h. absurd (cc),
        λ none. absurd (c.if-row-ne0.true (word_none (get_or rows at 0) ((c.type_inv.rows at).fits) (λ slot below. none at slot c.loop-row-test.true below))),
      );
    }
