use Rattle.std.proofs.Common.{◌∙◌, List, ◌++◌, ◌∷◌, [], Err, false, rules, arith}
use Rattle.satip_base.specs.Output.{Output}
use Rattle.satip_base.specs.declared.entry.Taken.{Taken}
use Rattle.satip_base.specs.History.{taken}
use Rattle.satip_plain.specs.declared.answers.Answer.{Answer}
use Rattle.satip_plain.specs.declared.events.Event.{Event}
use Rattle.satip_plain.proofs.Bursting.{under_way_more, under_way_none, under_way_ends}
use Rattle.satip_journal.specs.Continuing.{same_journal, same_journal_then}
use Rattle.satip_journal.proofs.KeepLemmas.{adds_turned, under_way_still}
use Rattle.satip_journal.proofs.journal.JournalService.burst.Goals as goal

pub loop-made-init : goal.loop-made-init
loop-made-init g c = (
  under_way_none c.args.self.now.caller.pass.number _ _ (g.met.L.Lot.none_taken c.args.lot.now),
  same_journal g.K.JobSink.tells _,
  c.requires.open,
  c.requires.none,
  λ last. last,
)

pub loop-made-preserved : goal.loop-made-preserved
loop-made-preserved g c =
    let i = c.loop-made.invariant in
    let called = c.in-Ok.ensures.called in
    let own = adds_turned c.loop-made.self.caller.pass c.call.new.self.caller.pass c.args.self.now.caller.pass.number c.next.new.event c.in-Ok.answer
    c.call.new.out i.1.caller.pass.number c.in-Ok.ensures.turned in
    let takes : (ts : List (Taken Event Answer Output)) → g.L.Lot.has_taken c.args.lot.now c.loop-made.lot ts
    → g.L.Lot.has_taken c.args.lot.now c.took.new.self (ts ++ taken c.next.new.event c.in-Ok.answer c.call.new.out ∷ []) =
    λ ts has. c.took.ensures.taken c.args.lot.now ts c.next.new.event (search rules) (c.next.ensures.taken c.args.lot.now ts has) in (
      under_way_more c.args.self.now.caller.pass.number _ _ _ _ _ _ c.next.new.event c.in-Ok.answer c.call.new.out i.0 own called.suits takes,
      same_journal_then g.K.JobSink.tells _ _ _ i.1 c.call.ensures.same,
      c.took.ensures.ended ∙ search rules,
      c.took.ensures.given,
      λ _. c.took.ensures.took_last,
    )

pub returns-in-Err-clause-same : goal.returns-in-Err-clause-same
returns-in-Err-clause-same g c = same_journal_then g.K.JobSink.tells _ _ _ c.loop-made.invariant.1 c.call.ensures.same

pub returns-in-Err-clause-bursts : goal.returns-in-Err-clause-bursts
returns-in-Err-clause-bursts g c =
    let unmade = c.in-Err.ensures.called in
    let lot = c.next.new.self in
    let caller = c.args.self.now.caller.pass.number in
    let still = under_way_still caller _ _ _ _ (λ ts. g.L.Lot.has_taken c.args.lot.now lot ts) _ c.loop-made.invariant.0 unmade.adds
    (λ ts has. c.next.ensures.taken c.args.lot.now ts has) in
    under_way_ends false caller _ _ (g.L.Lot.ended lot) (g.L.Lot.given lot) (λ ts. g.L.Lot.has_taken c.args.lot.now lot ts) _ (Err c.in-Err.fault) still
    (omega (arith, c.loop-made-test.true))
    (search rules, unmade.cause)
