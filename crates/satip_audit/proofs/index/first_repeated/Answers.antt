use Rattle.std.proofs.Common.{◌∙◌}
use Rattle.satip_audit.proofs.PlaceLemmas.{repeat_end, repeat_here, repeat_more, repeated_from, rises_from}
use Rattle.satip_audit.proofs.index.first_repeated.Goals as goal

pub returns-then-spots-next-clause-repeated : goal.returns-then-spots-next-clause-repeated
returns-then-spots-next-clause-repeated c =
    repeated_from _ _ c.requires.climbs
    (repeat_here c.args.spots.now c.spots.next _ c.spots.auto.next c.spots-test.true c.if-spots-next.true ∙ c.spots.invariant)

pub spots-preserved : goal.spots-preserved
spots-preserved c = repeat_more c.args.spots.now c.spots.next _ c.spots.auto.next c.spots-test.true c.if-spots-next.false ∙ c.spots.invariant

pub returns-clause-rises : goal.returns-clause-rises
returns-clause-rises c = λ none. rises_from _ c.requires.climbs (repeat_end c.args.spots.now c.spots.next c.spots-test.false ∙ c.spots.invariant)
