use Rattle.std.proofs.Common.{cond, w64, sym, ap, ◌∙◌}
use Rattle.std.proofs.lemmas.Nat.Bits.{bit_at_set_same, bit_at_set_other, bit_at_clear_same, bit_at_clear_other}
use Rattle.satip_flow.proofs.bits.with_bit.Goals as goal

pub returns-then-is_set-clause-bit : goal.returns-then-is_set-clause-bit
returns-then-is_set-clause-bit c = bit_at_set_same w64 c.args.word c.args.place c.requires.place ∙ ap (λ t. cond t 1 0) (sym c.if-is_set.true)

pub returns-then-is_set-clause-others : goal.returns-then-is_set-clause-others
returns-then-is_set-clause-others c = λ other below differs. bit_at_set_other w64 c.args.word c.args.place c.requires.place other differs

pub returns-else-is_set-clause-bit : goal.returns-else-is_set-clause-bit
returns-else-is_set-clause-bit c = bit_at_clear_same w64 c.args.word c.args.place c.requires.place ∙ ap (λ t. cond t 1 0) (sym c.if-is_set.false)

pub returns-else-is_set-clause-others : goal.returns-else-is_set-clause-others
returns-else-is_set-clause-others c = λ other below differs. bit_at_clear_other w64 c.args.word c.args.place c.requires.place other below differs
