use Rattle.std.proofs.Common.{◌≡◌, ◌+◌, ◌*◌, get_or, w64, refl, subst, arith}
use Rattle.std.specs.Int.{trailing_zeros}
use Rattle.satip_pids.specs.Bits.{IsNextFrom}
use Rattle.satip_pids.proofs.BitSets.{next_in_word}
use Rattle.satip_pids.proofs.bits.first_bit.Goals as goal

pub returns-then-word-ne0 : goal.returns-then-word-ne0
returns-then-word-ne0 c =
    let ws = c.args.words.now in
    let at = c.loop-at.at in
    let word = get_or ws at 0 in
    let lowest = trailing_zeros w64 word in
    let low = 64 * c.args.place in
    let is : IsNextFrom ws low (64 * at + 0 + lowest) =
    next_in_word ws low at 0 word word lowest c.loop-at-test.true (omega arith) (omega arith) refl (let fits = c.type_inv.words at in omega arith) (omega arith)
    (omega arith) refl (λ n le lt. c.loop-at.invariant n le (omega arith)) in
    let next : 64 * at + 0 + lowest ≡ 64 * at + lowest = omega arith in
    record { first = subst (IsNextFrom ws low) next is }
