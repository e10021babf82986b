use Rattle.std.proofs.Common.{◌≡◌, ◌≤◌, ◌∙◌, [], false, ap, sym, vec_capacity, rules}
use Rattle.std.proofs.lemmas.Bool.{false≢true}
use Rattle.std.proofs.lemmas.List.{get_or-replicate}
use Rattle.satip_table.specs.Placed.{is_there}
use Rattle.satip_table.proofs.order.Order.make.Goals as goal

pub invariant_of-result : goal.invariant_of-result
invariant_of-result c =
    let empty : c.in-Ok.numbers.items ≡ [] = search rules in
    let room : 64 ≤ vec_capacity c.in-Ok.numbers = search rules in
    record {
      room = room;
      within = λ number there. absurd (false≢true (sym (ap (is_there number) empty) ∙ there));
      marks = λ number below. get_or-replicate 64 number false false below ∙ sym (ap (is_there number) empty);
    }
