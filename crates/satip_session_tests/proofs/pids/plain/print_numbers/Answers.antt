use Rattle.std.proofs.Common.{◌≡◌, ◌==◌, false, ℕ, ◌++◌, ◌<◌, length, get_or, decimal, sym, ap, ◌∙◌, subst, arith}
use Rattle.std.specs.List.{flat_map}
use Rattle.std.proofs.lemmas.Bool.Decides.{nat_tests}
use Rattle.satip_base.specs.Printed.{Printed}
use Rattle.satip_base.proofs.Writing.{◌then_printed◌}
use Rattle.satip_pids.specs.Texts.{next_text}
use Rattle.satip_pids.proofs.PidTexts.{listed_text-nil, listed_text-parts}
use Rattle.satip_session_tests.proofs.pids.plain.print_numbers.Goals as goal

pub returns-then-is_empty : goal.returns-then-is_empty
returns-then-is_empty c =
    let none : length c.args.pids.now ≡ 0 = grind (arith, c.if-is_empty.ensures, c.if-is_empty.true) in
    record { printed = subst (λ bs. Printed c.args.strip.now bs c.write.new.self) (sym (listed_text-nil c.args.pids.now none)) c.write.ensures.printed }

-- a list that isn't empty has a first PID
not_empty : (n : ℕ) → false ≡ (n == 0) → 0 < n
not_empty n differs = grind (arith, nat_tests, differs)

pub returns : goal.returns
returns c =
    let pids = c.args.pids.now in
    let some = not_empty (length pids) c.if-is_empty.ensures in
    let text = listed_text-parts pids some in
    let pieces = ap (λ rest. decimal (get_or pids 0 0) ++ flat_map next_text rest) c.split_at.ensures.back in
    record {
      printed = subst (λ bs. Printed c.args.strip.now bs c.print_others.new.strip) (pieces ∙ sym text)
          (c.write_number.ensures.printed then_printed c.print_others.ensures.printed);
    }
