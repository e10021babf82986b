use Rattle.std.proofs.Common.{◌≡◌, ◌<◌, ◌-◌, ◌++◌, length, drop, ap, sym, ◌∙◌, arith, length-drop}
use Rattle.std.proofs.lemmas.Bool.Decides.{nat_tests}
use Rattle.satip_rtp_receiver.specs.Catching.{missing}
use Rattle.satip_rtp_receiver.specs.Held.{tail_held}
use Rattle.satip_rtp_receiver.proofs.MissingLemmas.{missing-within, missing-behind, missing-length, drop-behind}
use Rattle.satip_rtp_receiver.proofs.holding.pass_missing.Goals as goal

pub returns-then-not-is_empty-clause-missing : goal.returns-then-not-is_empty-clause-missing
returns-then-not-is_empty-clause-missing c =
    let items = c.args.ring.now.items in
    let popped = c.pop_missing-count.ensures in
    let left = ap (λ b. length b.items) popped.left in
    let some : 0 < length c.pop_missing-count.new.ring.items = grind (arith, nat_tests, c.is_empty.ensures, c.if-not-is_empty.true) in
    popped.missing ∙ sym (missing-within c.args.most items (tail_held c.args.tail.now)
    (omega (arith, some, left, popped.missing, length-drop c.pop_missing-count.result items)))

pub returns-clause-missing : goal.returns-clause-missing
returns-clause-missing c =
    let items = c.args.ring.now.items in
    let popped = c.pop_missing-count.ensures in
    let left = ap (λ b. length b.items) popped.left in
    let none : length c.pop_missing-count.new.ring.items ≡ 0 = grind (arith, nat_tests, c.is_empty.ensures, c.if-not-is_empty.false) in
    let whole : missing c.args.most items ≡ length items =
    omega (arith, none, left, popped.missing, length-drop c.pop_missing-count.result items, missing-length c.args.most items) in
    omega (
      arith,
      popped.missing,
      c.skip_missing.ensures.missing,
      missing-behind c.args.most items (tail_held c.args.tail.now) whole,
      ap (λ n. missing (c.args.most - n) (tail_held c.args.tail.now)) popped.missing,
    )

pub returns-clause-left : goal.returns-clause-left
returns-clause-left c =
    let items = c.args.ring.now.items in
    let popped = c.pop_missing-count.ensures in
    let left = ap (λ b. length b.items) popped.left in
    let none : length c.pop_missing-count.new.ring.items ≡ 0 = grind (arith, nat_tests, c.is_empty.ensures, c.if-not-is_empty.false) in
    let whole : c.pop_missing-count.result ≡ length items =
    omega (arith, none, left, popped.missing, length-drop c.pop_missing-count.result items, missing-length c.args.most items) in
    ap (λ b. b.items ++ tail_held c.skip_missing.new.tail) popped.left
    ∙ ap (λ t. drop c.pop_missing-count.result items ++ t) c.skip_missing.ensures.left
    ∙ drop-behind c.pop_missing-count.result c.skip_missing.result items (tail_held c.args.tail.now) whole
