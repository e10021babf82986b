use Rattle.std.proofs.Common.{◌&&◌, cond, eqb, sym, ap, ◌∙◌}
use Rattle.satip_flow.proofs.Sends.{slot_mark}
use Rattle.satip_flow.proofs.flow.slot_bit.Goals as goal

pub returns-then-is_set : goal.returns-then-is_set
returns-then-is_set c = record {
  bits = λ other. slot_mark c.args.slot other c.requires.slot ∙ sym (ap (λ t. cond (t && eqb c.args.slot other) 1 0) c.if-is_set.true);
}
