use Rattle.std.proofs.Common.{◌+◌, set, sym, ap, subst, ◌∙◌, arith}
use Rattle.std.proofs.lemmas.List.{length-set}
use Rattle.satip_flow.proofs.Slots.{slot_below, at_most_64}
use Rattle.satip_flow.proofs.RowLemmas.{NotedTo, noted_more}
use Rattle.satip_flow.proofs.places.note_places.Goals as goal

pub overflow_cast-places : goal.overflow_cast-places
overflow_cast-places c =
    let few = at_most_64 c.args.subscribers.now c.requires.apart in
    omega (arith, few, c.loop-at-test.true)

pub bounds-places-place : goal.bounds-places-place
bounds-places-place c =
    let xs = c.args.subscribers.now in
    let one = c.index-subscribers-at.result in
    let same = ap (λ place. place.slot) c.place.ensures.place ∙ ap (λ s. s.place.slot) c.index-subscribers-at.is in
    omega (arith, slot_below xs c.requires.apart c.loop-at.at one c.loop-at-test.true, same, c.loop-at.invariant.size)

pub loop-at-preserved : goal.loop-at-preserved
loop-at-preserved c =
    let xs = c.args.subscribers.now in
    let at = c.loop-at.at in
    let places = c.loop-at.places in
    let one = c.index-subscribers-at.result in
    let same = ap (λ place. place.slot) c.place.ensures.place ∙ ap (λ s. s.place.slot) c.index-subscribers-at.is in
    record {
      size = length-set places c.place.result.slot at ∙ c.loop-at.invariant.size;
      noted = subst (λ n. NotedTo (at + 1) (set places n at) xs) (sym same)
          (noted_more at places xs one c.loop-at.invariant.size c.requires.apart c.loop-at-test.true c.loop-at.invariant.noted);
    }
