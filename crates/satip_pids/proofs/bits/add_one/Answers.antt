use Rattle.std.proofs.Common.{false, true, sym, ◌∙◌, arith}
use Rattle.satip_pids.specs.Bits.{has_bit}
use Rattle.satip_pids.proofs.BitSets.{members-put, members-put_there, length_more, listed_more}
use Rattle.satip_pids.proofs.bits.add_one.Goals as goal

pub returns-then-has_bit-clause-added : goal.returns-then-has_bit-clause-added
returns-then-has_bit-clause-added c =
    members-put_there c.args.words.now c.args.pid c.requires.below (sym c.has_bit.ensures.is_set ∙ c.if-has_bit.true)

pub returns-then-count-eq-LISTED-clause-added : goal.returns-then-count-eq-LISTED-clause-added
returns-then-count-eq-LISTED-clause-added c =
    omega (arith, length_more c.args.words.now c.args.count c.args.pid c.requires.listed c.requires.below (sym c.has_bit.ensures.is_set ∙ c.if-has_bit.false))

pub returns-clause-added : goal.returns-clause-added
returns-clause-added c = members-put c.args.words.now c.set_bit.new.words c.args.pid c.requires.below c.set_bit.ensures.bits

pub returns-clause-listed : goal.returns-clause-listed
returns-clause-listed c =
    listed_more c.args.words.now c.set_bit.new.words c.args.count c.args.pid c.requires.listed c.requires.below
    (sym c.has_bit.ensures.is_set ∙ c.if-has_bit.false) c.if-count-eq-LISTED.false (returns-clause-added c)
