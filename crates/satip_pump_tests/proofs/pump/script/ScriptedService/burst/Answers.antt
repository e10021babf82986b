use Rattle.std.proofs.Common.{◌∙◌, rules}
use Rattle.satip_plain.proofs.Bursting.{under_way_more}
use Rattle.satip_pump_tests.proofs.PumpLemmas.{adds_next}
use Rattle.satip_pump_tests.proofs.pump.script.ScriptedService.burst.Goals as goal

pub loop-made-preserved : goal.loop-made-preserved
loop-made-preserved g c =
    let i = c.loop-made.invariant in
    let made = c.in-Ok.ensures.made in (
      under_way_more 0 _ _ _ _ _ _ c.next.new.event c.in-Ok.answer c.make.new.out i.0 (adds_next _ _ _ made.0) made.1
          (λ ts has. c.took.ensures.taken c.args.lot.now ts c.next.new.event (search rules) (c.next.ensures.taken c.args.lot.now ts has)),
      c.took.ensures.ended ∙ search rules,
      c.took.ensures.given,
      λ _. c.took.ensures.took_last,
    )
