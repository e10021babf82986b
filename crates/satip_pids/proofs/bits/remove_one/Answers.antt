use Rattle.std.proofs.Common.{false, true, sym, ◌∙◌, arith}
use Rattle.satip_pids.specs.Bits.{has_bit}
use Rattle.satip_pids.proofs.BitSets.{members-without, members-without_absent, length_less, listed_less}
use Rattle.satip_pids.proofs.bits.remove_one.Goals as goal

pub returns-then-not-has_bit-clause-left : goal.returns-then-not-has_bit-clause-left
returns-then-not-has_bit-clause-left c =
    members-without_absent c.args.words.now c.args.pid (sym c.has_bit.ensures.is_set ∙ c.if-not-has_bit.true)

pub overflow_sub-result : goal.overflow_sub-result
overflow_sub-result c =
    omega (
      arith,
      length_less c.args.words.now c.args.count c.args.pid c.requires.listed c.requires.below
          (sym c.has_bit.ensures.is_set ∙ c.if-not-has_bit.false),
    )

pub returns-clause-left : goal.returns-clause-left
returns-clause-left c = members-without c.args.words.now c.clear_bit.new.words c.args.pid (λ n lt. c.clear_bit.ensures.bits n)

pub returns-clause-listed : goal.returns-clause-listed
returns-clause-listed c =
    listed_less c.args.words.now c.clear_bit.new.words c.args.count c.args.pid c.requires.listed c.requires.below
    (sym c.has_bit.ensures.is_set ∙ c.if-not-has_bit.false) (returns-clause-left c)
