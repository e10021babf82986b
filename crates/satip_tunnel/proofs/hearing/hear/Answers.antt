use Rattle.std.proofs.Common.{◌++◌, refl, append_assoc, take, drop, ◌∙◌}
use Rattle.satip_tunnel.specs.declared.ends.TunnelEnd.TheVariants.{Broken as end_broken}
use Rattle.satip_tunnel.proofs.HearingLemmas.{stands_fed, closed_stays, first_stays, lost_stays, stopped_stays, heard_none, piece_parts, text_parts}
use Rattle.satip_tunnel.proofs.hearing.hear.Goals as goal

pub piece-init : goal.piece-init
piece-init g c = (
  λ course received text same listens. heard_none _ course _ _ _ received text _ _ listens,
  refl,
  c.requires.goes_on,
  c.requires.space,
)

pub piece-preserved : goal.piece-preserved
piece-preserved g c = (
  λ course received text same listens.
      let before = c.piece.invariant.0 course received text same listens in
      let s = before.2.stands in
      let fed = stands_fed _ course _ _ _ received (text ++ before.0) _ _ _ c.feed-count.new.self s (c.feed-count.ensures.follows _ _ s.leads) in
      let heard = c.in-All.ensures.hears course received _ before.2.messages same fed in
      let parts = piece_parts before.0 _ _ c.feed-count.result before.1 in
      (before.0 ++ take c.feed-count.result c.piece.rest.now, rw c.split_at.ensures.back parts, rw (← append_assoc text before.0 _) heard),
  c.answer.ensures.input ∙ c.piece.invariant.1,
  c.in-All.ensures.goes_on refl,
  c.in-All.ensures.space refl,
)

pub returns-in-Closed-clause-hears : goal.returns-in-Closed-clause-hears
returns-in-Closed-clause-hears g c = λ course received text same listens.
    let before = c.piece.invariant.0 course received text same listens in
    let s = before.2.stands in
    let fed = stands_fed _ course _ _ _ received (text ++ before.0) _ _ _ c.feed-count.new.self s (c.feed-count.ensures.follows _ _ s.leads) in
    let closed = closed_stays _ course _ _ _ received _ (drop c.feed-count.result c.piece.rest.now)
    (c.in-Closed.ensures.hears course received _ before.2.messages same fed) in
    rw (← text_parts text before.0 _ _ c.feed-count.result before.1) closed

pub returns-in-Broken-clause-hears : goal.returns-in-Broken-clause-hears
returns-in-Broken-clause-hears g c = λ course received text same listens.
    let before = c.piece.invariant.0 course received text same listens in
    let s = before.2.stands in
    let fed = stands_fed _ course _ _ _ received (text ++ before.0) _ _ _ c.feed-count.new.self s (c.feed-count.ensures.follows _ _ s.leads) in
    let first = first_stays _ course _ _ _ received _ (drop c.feed-count.result c.piece.rest.now) end_broken tt
    (c.in-Broken.ensures.hears course received _ before.2.messages same fed) in
    rw (← text_parts text before.0 _ _ c.feed-count.result before.1) first

pub returns-in-Lost-clause-hears : goal.returns-in-Lost-clause-hears
returns-in-Lost-clause-hears g c = λ course received text same listens.
    let before = c.piece.invariant.0 course received text same listens in
    let s = before.2.stands in
    let fed = stands_fed _ course _ _ _ received (text ++ before.0) _ _ _ c.feed-count.new.self s (c.feed-count.ensures.follows _ _ s.leads) in
    let lost = lost_stays _ course _ _ _ received _ (drop c.feed-count.result c.piece.rest.now)
    (c.in-Lost.ensures.hears course received _ before.2.messages same fed) in
    rw (← text_parts text before.0 _ _ c.feed-count.result before.1) lost

pub returns-in-Spent-clause-hears : goal.returns-in-Spent-clause-hears
returns-in-Spent-clause-hears g c = λ course received text same listens.
    let before = c.piece.invariant.0 course received text same listens in
    let s = before.2.stands in
    let fed = stands_fed _ course _ _ _ received (text ++ before.0) _ _ _ c.feed-count.new.self s (c.feed-count.ensures.follows _ _ s.leads) in
    let stopped = stopped_stays _ course _ _ _ received _ (drop c.feed-count.result c.piece.rest.now)
    (c.in-Spent.ensures.hears course received _ before.2.messages same fed) in
    rw (← text_parts text before.0 _ _ c.feed-count.result before.1) stopped
