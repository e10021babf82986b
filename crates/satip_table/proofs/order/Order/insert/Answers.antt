use Rattle.std.proofs.Common.{◌≡◌, ◌∙◌, ap, sym, cond, is_ok, arith}
use Rattle.std.specs.List.{insert}
use Rattle.satip_table.specs.Placed.{is_there}
use Rattle.satip_table.proofs.OrderLaws.{insert_marks, insert_within}
use Rattle.satip_table.proofs.order.Order.insert.Goals as goal

pub invariant_of-self : goal.invariant_of-self
invariant_of-self c =
    let xs = c.self.inside.numbers.items in
    let items : c.insert.new.self.items ≡ insert xs c.args.place c.args.number = c.insert.ensures.items
    ∙ ap (λ r. cond (is_ok r) (insert xs c.args.place c.args.number) xs) c.unwrap.ensures in
    record {
      room = omega (arith, c.self.invariant.room, c.insert.ensures.capacity);
      within = λ other there. insert_within xs c.args.place c.args.number c.requires.number c.self.invariant.within other (ap (is_there other) (sym items)
          ∙ there);
      marks = λ other below. insert_marks c.self.inside.there xs c.args.place c.args.number c.self.told c.requires.number c.self.invariant.marks other below
          ∙ ap (is_there other) (sym items);
    }
