use Rattle.std.proofs.Common.{◌≡◌, ◌∙◌, Some, ap, length, vec_len, rules, arith}
use Rattle.std.specs.List.{slice_get}
use Rattle.satip_table.proofs.Placing.{there_at}
use Rattle.satip_table.proofs.StreamPlaces.{get_some}
use Rattle.satip_table.proofs.streams.Streams.get.Goals as goal

pub index-requires : goal.index-requires
index-requires c =
    let at : slice_get c.self.inside.order c.args.place ≡ Some c.in-Some.place = search rules in
    let below = c.self.invariant.within c.in-Some.place (there_at c.self.inside.order c.args.place c.in-Some.place at) in
    let long : vec_len c.self.inside.streams ≡ length c.self.inside.streams.items = search rules in
    omega (arith, below, long, c.self.invariant.long)

pub returns : goal.returns
returns c =
    let at : slice_get c.self.inside.order c.args.place ≡ Some c.in-Some.place = search rules in
    let below = c.self.invariant.within c.in-Some.place (there_at c.self.inside.order c.args.place c.in-Some.place at) in
    record {
      stream = get_some c.self.inside c.self.invariant c.args.place c.in-Some.place at below c.index.result.now c.index.ensures
          ∙ ap (λ ss. slice_get ss c.args.place) c.self.view_is;
    }
