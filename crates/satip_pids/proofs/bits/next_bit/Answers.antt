use Rattle.std.proofs.Common.{◌≡◌, ◌+◌, ◌*◌, ◌/◌, ◌%◌, ◌^◌, false, get_or, w64, refl, subst, arith}
use Rattle.std.specs.Int.{trailing_zeros}
use Rattle.satip_pids.specs.Bits.{IsNextFrom}
use Rattle.satip_pids.proofs.BitSets.{next_in_word, next_later, rest_passed}
use Rattle.satip_pids.proofs.bits.next_bit.Goals as goal

pub returns-then-rest-ne0 : goal.returns-then-rest-ne0
returns-then-rest-ne0 c =
    let ws = c.args.words.now in
    let from = c.args.from in
    let at = from / 64 in
    let skip = from % 64 in
    let word = get_or ws at 0 in
    let rest = word / 2 ^ skip in
    let lowest = trailing_zeros w64 rest in
    let is : IsNextFrom ws from (64 * at + skip + lowest) =
    next_in_word ws from at skip word rest lowest (omega arith) (omega arith) (omega arith) refl (let fits = c.type_inv.words at in omega arith) refl
    (omega arith) refl (λ n le lt. absurd (omega arith)) in
    let next : 64 * at + skip + lowest ≡ from + lowest = omega arith in
    record { next = subst (IsNextFrom ws from) next is }

pub returns : goal.returns
returns c =
    let from = c.args.from in
    let passed = rest_passed c.args.words.now from c.if-rest-ne0.false in
    record { next = next_later c.args.words.now from (64 * (from / 64 + 1)) c.first_bit.result (omega arith) passed c.first_bit.ensures.first }
