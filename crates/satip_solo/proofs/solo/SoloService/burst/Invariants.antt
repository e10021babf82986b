-- The events so far, each a call.
use Rattle.std.proofs.Common.{◌≡◌, false, None, List}
use Rattle.satip_base.specs.Output.{Output}
use Rattle.satip_base.specs.declared.entry.Taken.{Taken}
use Rattle.satip_plain.specs.declared.answers.Answer.{Answer}
use Rattle.satip_plain.specs.declared.events.Event.{Event}
use Rattle.satip_plain.proofs.Bursting.{UnderWay}
use Rattle.satip_solo.specs.Log.{GoesOn, known_of}
use Rattle.satip_solo.specs.Solos.{log_of}
use Rattle.satip_solo.proofs.solo.SoloService.burst.Given as goal

abbrev pub invariant-loop-made : goal.invariant-loop-made
invariant-loop-made g l =
    UnderWay 0 (known_of (log_of l.fn.self)) (known_of (log_of l.self)) (g.L.Lot.has_taken l.fn.lot l.lot) l.made
    × ((ts : List (Taken Event Answer Output)) × g.L.Lot.has_taken l.fn.lot l.lot ts × GoesOn (log_of l.fn.self) ts (log_of l.self))
    × ((log_of l.self).setting ≡ (log_of l.fn.self).setting)
    × (g.L.Lot.ended l.lot ≡ false) × (g.L.Lot.given l.lot ≡ None)
    × (g.L.Lot.took_last l.fn.lot l.fn.out → g.L.Lot.took_last l.lot l.out)
