use Rattle.std.proofs.Common.{◌≡◌, ◌<◌, length, get_or, ap, ◌∙◌, arith}
use Rattle.std.proofs.lemmas.List.{get_or-replicate}
use Rattle.std.proofs.lemmas.Nat.Bits.{bit_at-zero}
use Rattle.std.specs.Int.{bit_at}
use Rattle.satip_flow.proofs.slot_masks.make_rows.Goals as goal

pub returns-in-Ok-clause-unmarked : goal.returns-in-Ok-clause-unmarked
returns-in-Ok-clause-unmarked c = λ at slot within below.
    let inside : at < 131072 = omega (arith, within, c.in-Ok.ensures.len, c.in-Ok.rows.ok.0) in
    let items : get_or c.in-Ok.rows.items at 0 ≡ 0 =
    ap (λ xs. get_or xs at 0) (c.in-Ok.ensures.items_if_clones_equal (λ y h. h)) ∙ get_or-replicate 131072 at 0 0 inside in
    ap (λ w. bit_at w slot) items ∙ bit_at-zero slot
