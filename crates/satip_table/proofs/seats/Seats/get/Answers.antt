use Rattle.std.proofs.Common.{◌≡◌, ◌∙◌, Some, ap, length, vec_len, rules, arith}
use Rattle.std.specs.List.{slice_get}
use Rattle.satip_table.proofs.Placing.{there_at}
use Rattle.satip_table.proofs.SeatPlaces.{get_some}
use Rattle.satip_table.proofs.seats.Seats.get.Goals as goal

pub index-requires : goal.index-requires
index-requires c =
    let at : slice_get c.self.inside.order c.args.place ≡ Some c.in-Some.slot = search rules in
    let below = c.self.invariant.within c.in-Some.slot (there_at c.self.inside.order c.args.place c.in-Some.slot at) in
    let long : vec_len c.self.inside.seats ≡ length c.self.inside.seats.items = search rules in
    omega (arith, below, long, c.self.invariant.long)

pub returns : goal.returns
returns c =
    let at : slice_get c.self.inside.order c.args.place ≡ Some c.in-Some.slot = search rules in
    let below = c.self.invariant.within c.in-Some.slot (there_at c.self.inside.order c.args.place c.in-Some.slot at) in
    record {
      seat = get_some c.self.inside c.self.invariant c.args.place c.in-Some.slot at below c.index.result.now c.index.ensures
          ∙ ap (λ ss. slice_get ss c.args.place) c.self.view_is;
    }
