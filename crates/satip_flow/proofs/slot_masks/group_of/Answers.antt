use Rattle.std.proofs.Common.{ℕ, ◌≡◌, ◌*◌, ◌^◌, ◌%◌, eqb, cond, refl, sym, ap, ◌∙◌, arith}
use Rattle.std.proofs.lemmas.Bool.{eq-eqb}
use Rattle.std.proofs.lemmas.Nat.Bits.{bit_at_and, bit_at-lt}
use Rattle.std.specs.Int.{bit_at}
use Rattle.satip_flow.proofs.Sends.{slot_mark}
use Rattle.satip_flow.proofs.Marking.{IsOne, one_is, is_own}
use Rattle.satip_flow.proofs.slot_masks.group_of.Goals as goal

pub returns-then-alike-slot-eq1 : goal.returns-then-alike-slot-eq1
returns-then-alike-slot-eq1 c =
    let left = c.args.left in
    let known = c.args.alike in
    let slot = c.args.slot in
    let own : bit_at known slot ≡ 1 = c.if-alike-slot-eq1.true in
    record {
      group = record {
        own = omega (arith, bit_at_and left known slot, own, c.requires.left);
        among = λ k below h. omega (arith, bit_at_and left known k, h, bit_at-lt left k);
        others = λ k below h differs. (omega (arith, bit_at_and left known k, h, bit_at-lt known k), own);
      };
    }

pub returns-else-alike-slot-eq1 : goal.returns-else-alike-slot-eq1
returns-else-alike-slot-eq1 c =
    let slot = c.args.slot in
    let own : ℕ = 1 * 2 ^ slot % 18446744073709551616 in
    let one : IsOne own slot = λ k. slot_mark slot k c.requires.slot in
    record {
      group = record {
        own = one_is own slot slot one refl;
        among = λ k below h. ap (λ n. bit_at c.args.left n) (sym (is_own own slot k one h)) ∙ c.requires.left;
        others = λ k below h differs. absurd (differs (sym (is_own own slot k one h)));
      };
    }
