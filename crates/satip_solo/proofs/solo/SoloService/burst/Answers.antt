use Rattle.std.proofs.Common.{◌∙◌, List, ◌++◌, ◌∷◌, [], refl, rules}
use Rattle.satip_base.specs.Output.{Output}
use Rattle.satip_base.specs.declared.entry.Taken.{Taken}
use Rattle.satip_base.specs.History.{taken}
use Rattle.satip_plain.specs.declared.answers.Answer.{Answer}
use Rattle.satip_plain.specs.declared.events.Event.{Event}
use Rattle.satip_plain.proofs.Bursting.{under_way_more, under_way_none}
use Rattle.satip_solo.proofs.LogLemmas.{adds_by, goes_on_more, suits_by}
use Rattle.satip_solo.proofs.solo.SoloService.burst.Goals as goal

pub loop-made-init : goal.loop-made-init
loop-made-init g c =
    let none = g.met.L.Lot.none_taken c.args.lot.now in
    (under_way_none 0 _ _ none, ([], none, refl), refl, c.requires.open, c.requires.none, λ last. last)

pub loop-made-preserved : goal.loop-made-preserved
loop-made-preserved g c =
    let i = c.loop-made.invariant in
    let goes = c.in-Ok.ensures.made in
    let takes : (ts : List (Taken Event Answer Output)) → g.L.Lot.has_taken c.args.lot.now c.loop-made.lot ts
    → g.L.Lot.has_taken c.args.lot.now c.took.new.self (ts ++ taken c.next.new.event c.in-Ok.answer c.make.new.out ∷ []) =
    λ ts has. c.took.ensures.taken c.args.lot.now ts c.next.new.event (search rules) (c.next.ensures.taken c.args.lot.now ts has) in (
      under_way_more 0 _ _ _ _ _ _ c.next.new.event c.in-Ok.answer c.make.new.out i.0
          (adds_by _ _ _ _ _ goes) (suits_by _ _ _ _ _ goes c.in-Ok.ensures.legal) takes,
      (i.1.0 ++ taken c.next.new.event c.in-Ok.answer c.make.new.out ∷ [], takes i.1.0 i.1.1, goes_on_more _ _ _ _ _ _ _ i.1.2 goes),
      goes.same_setting ∙ i.2,
      c.took.ensures.ended ∙ search rules,
      c.took.ensures.given,
      λ _. c.took.ensures.took_last,
    )
