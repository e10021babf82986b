use Rattle.std.proofs.Common.{◌<◌, arith, rules}
use Rattle.satip_recorder.proofs.WoundLemmas.{next-number, winds, wound-other}
use Rattle.satip_recorder.proofs.turns.wind.Goals as goal

pub returns-in_default-clause-winds : goal.returns-in_default-clause-winds
returns-in_default-clause-winds g c = wound-other _ _ _ _ c.in_default.ensures.read

pub returns-clause-winds : goal.returns-clause-winds
returns-clause-winds g c =
    let number : c.in-Some.view.number < 65536 = first_of (omega arith, search rules, grind arith) in
    winds _ _ _ _ _ _ _ _ _ _ _ _ c.in-Some.view c.put_items.result c.in-Some.ensures.read number c.take.ensures.taken
    c.put_items.ensures.tapes c.put_items.ensures.drained

pub returns-clause-ready : goal.returns-clause-ready
returns-clause-ready g c =
    let number : c.in-Some.view.number < 65536 = first_of (omega arith, search rules, grind arith) in
    λ whole left. record {
      rests = c.put_items.ensures.rests whole left;
      number = next-number c.args.catcher.now c.take.new.self c.put_items.new.catcher c.in-Some.view number c.requires.ready.number
          c.take.ensures.taken (c.put_items.ensures.drained whole left);
    }
