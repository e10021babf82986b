use Rattle.std.proofs.Common.{◌/◌, ◌^◌, ◌<◌, w64, refl, arith}
use Rattle.std.specs.Int.{trailing_zeros}
use Rattle.satip_flow.proofs.BitLemmas.{none_behind, lowest_behind}
use Rattle.satip_flow.proofs.bits.next_bit.Goals as goal

pub returns-then-rest-eq0 : goal.returns-then-rest-eq0
returns-then-rest-eq0 c = record { next = none_behind c.args.word c.args.from c.requires.from c.if-rest-eq0.true }

pub returns : goal.returns
returns c =
    let rest = c.args.word / 2 ^ c.args.from in
    let fits : c.args.word < 2 ^ 64 = omega arith in
    record { next = lowest_behind c.args.word c.args.from rest (trailing_zeros w64 rest) fits refl (omega arith) refl }
