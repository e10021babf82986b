use Rattle.std.proofs.Common.{◌≡◌, ◌==◌, false, ℕ, ◌<◌, ◌++◌, length, drop, get_or, decimal, subst, sym, ap, ◌∙◌, arith, length-append}
use Rattle.std.specs.List.{flat_map}
use Rattle.std.proofs.lemmas.Bool.Decides.{nat_tests}
use Rattle.satip_base.specs.Output.{Wrote}
use Rattle.satip_base.proofs.Writing.{nothing_wrote, ◌then◌}
use Rattle.satip_pids.specs.Texts.{next_text}
use Rattle.satip_query.specs.Printing.{list_text}
use Rattle.satip_query.proofs.PrintLemmas.{room_behind, list_text-nil, list_text-parts}
use Rattle.satip_query.proofs.printing.print_list.Goals as goal

pub returns-then-is_empty : goal.returns-then-is_empty
returns-then-is_empty c =
    let none : length c.args.pids.now ≡ 0 = grind (arith, c.if-is_empty.ensures, c.if-is_empty.true) in
    record {
      wrote = subst (λ bs. Wrote c.args.out.now bs c.args.out.now) (sym (list_text-nil c.args.pids.now none)) (nothing_wrote c.args.out.now);
    }

-- a list that isn't empty has a first PID
not_empty : (n : ℕ) → false ≡ (n == 0) → 0 < n
not_empty n differs = grind (arith, nat_tests, differs)

pub write_number-requires : goal.write_number-requires
write_number-requires c =
    let pids = c.args.pids.now in
    let parts = ap length (list_text-parts pids (not_empty (length pids) c.if-is_empty.ensures)) in
    record {
      room = omega (arith, parts, c.requires.room, length-append (decimal (get_or pids 0 0)) (flat_map next_text (drop 1 pids)));
    }

pub print_more-requires : goal.print_more-requires
print_more-requires c =
    let pids = c.args.pids.now in
    let parts = list_text-parts pids (not_empty (length pids) c.if-is_empty.ensures) in
    let back = ap (λ rest. decimal (get_or pids 0 0) ++ flat_map next_text rest) (sym c.split_at.ensures.back) in
    record {
      room = room_behind c.args.out.now c.write_number.new.self (list_text pids) (decimal (get_or pids 0 0)) (flat_map next_text c.split_at.result.1.now)
          c.requires.room (parts ∙ back) c.write_number.ensures.wrote;
    }

pub returns : goal.returns
returns c =
    let pids = c.args.pids.now in
    let parts = list_text-parts pids (not_empty (length pids) c.if-is_empty.ensures) in
    let back = ap (λ rest. decimal (get_or pids 0 0) ++ flat_map next_text rest) (sym c.split_at.ensures.back) in
    record {
      wrote = subst (λ bs. Wrote c.args.out.now bs c.print_more.new.out) (sym (parts ∙ back))
          (c.write_number.ensures.wrote then c.print_more.ensures.wrote);
    }
