use Rattle.std.proofs.Common.{◌≡◌, ◌∙◌, ◌==◌, not, filter, ap, sym, rules, arith}
use Rattle.std.proofs.lemmas.Fn.{filter_same}
use Rattle.satip_table.specs.Placed.{is_there}
use Rattle.satip_table.proofs.OrderLaws.{removed_marks, removed_within}
use Rattle.satip_table.proofs.order.Order.remove.Goals as goal

pub returns : goal.returns
returns c =
    let removed : c.retain.new.self.items ≡ filter (λ other. not (c.args.number == other)) c.self.inside.numbers.items =
    filter_same _ (λ other. not (c.args.number == other)) _ (λ x b f' k. search rules) c.self.inside.numbers.items c.retain.new.self.items
    c.retain.ensures.filtered in
    record { removed = removed ∙ ap (filter (λ other. not (c.args.number == other))) c.self.view_is }

pub invariant_of-self : goal.invariant_of-self
invariant_of-self c =
    let xs = c.self.inside.numbers.items in
    let removed : c.retain.new.self.items ≡ filter (λ other. not (c.args.number == other)) xs =
    filter_same _ (λ other. not (c.args.number == other)) _ (λ x b f' k. search rules) xs c.retain.new.self.items c.retain.ensures.filtered in
    record {
      room = omega (arith, c.self.invariant.room, c.retain.ensures.capacity);
      within = λ other there. removed_within xs c.args.number c.self.invariant.within other (ap (is_there other) (sym removed) ∙ there);
      marks = λ other below. removed_marks c.self.inside.there xs c.args.number c.self.told c.requires.number c.self.invariant.marks other below
          ∙ ap (is_there other) (sym removed);
    }
