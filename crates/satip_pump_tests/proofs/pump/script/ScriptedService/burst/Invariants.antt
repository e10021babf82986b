-- The events so far, each an entry.
use Rattle.std.proofs.Common.{◌≡◌, false, None, map}
use Rattle.satip_plain.proofs.Bursting.{UnderWay}
use Rattle.satip_pump_tests.specs.declared.pump.script.Note.{Note}
use Rattle.satip_pump_tests.specs.PumpScripts.{item_of, known_of}
use Rattle.satip_pump_tests.proofs.pump.script.ScriptedService.burst.Given as goal

abbrev pub invariant-loop-made : goal.invariant-loop-made
invariant-loop-made g l =
    UnderWay 0 (known_of (map (λ (n : Note). item_of n.kind n.front n.number n.packet n.answer n.sends) l.fn.self.notes.items))
    (known_of (map (λ (n : Note). item_of n.kind n.front n.number n.packet n.answer n.sends) l.self.notes.items))
    (g.L.Lot.has_taken l.fn.lot l.lot) l.made
    × (g.L.Lot.ended l.lot ≡ false) × (g.L.Lot.given l.lot ≡ None)
    × (g.L.Lot.took_last l.fn.lot l.fn.out → g.L.Lot.took_last l.lot l.out)
