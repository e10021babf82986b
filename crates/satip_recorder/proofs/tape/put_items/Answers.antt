use Rattle.std.proofs.Common.{◌∷◌, [], ◌++◌, refl, sym, ◌∙◌, arith}
use Rattle.satip_recorder.specs.Tapes.{deck}
use Rattle.satip_recorder.proofs.HandLemmas.{steps_on, hand-more, hand-done, hand-rest, hand-full, hand-failed}
use Rattle.satip_recorder.proofs.TapeLemmas.{taped-none}
use Rattle.satip_recorder.proofs.tape.put_items.Goals as goal

pub items-init : goal.items-init
items-init g c = ([], taped-none _ _ (deck c.args.tape.now (g.O.Sink.drain c.args.output.now) (g.E.Sink.drain c.args.errors.now)), refl, refl, c.requires.number, c.requires.unfinished)

pub returns-in_default-clause-tapes : goal.returns-in_default-clause-tapes
returns-in_default-clause-tapes g c =
    let i = c.items.invariant in
    hand-done _ _
    (deck c.args.tape.now (g.O.Sink.drain c.args.output.now) (g.E.Sink.drain c.args.errors.now))
    (deck c.items.tape (g.O.Sink.drain c.items.output) (g.E.Sink.drain c.items.errors))
    c.args.catcher.now c.items.catcher i.0 (sym c.next.ensures.item ∙ c.in_default.is) i.4 i.2 i.1

pub returns-in_default-clause-drained : goal.returns-in_default-clause-drained
returns-in_default-clause-drained g c =
    let i = c.items.invariant in
    λ _ _. hand-rest c.args.catcher.now c.items.catcher c.next.new.self (sym c.next.ensures.item ∙ c.in_default.is) c.next.ensures.after i.4 i.3

pub items-preserved : goal.items-preserved
items-preserved g c =
    let i = c.items.invariant in
    let s = steps_on c.args.catcher.now c.items.catcher c.next.new.self c.in-Some.item i.0 (sym c.next.ensures.item ∙ c.in-Some.is)
    c.next.ensures.after i.4 i.5 i.2 i.3 in (
      i.0 ++ c.in-Some.item ∷ [],
      hand-more _ _
          (deck c.args.tape.now (g.O.Sink.drain c.args.output.now) (g.E.Sink.drain c.args.errors.now))
          (deck c.items.tape (g.O.Sink.drain c.items.output) (g.E.Sink.drain c.items.errors))
          (deck c.put_item.new.tape (g.O.Sink.drain c.put_item.new.output) (g.E.Sink.drain c.put_item.new.errors))
          i.0 c.in-Some.item i.1 c.in-Whole.ensures.tapes,
      s.items,
      s.rest,
      s.number,
      s.finished,
    )

pub returns-in-Failed-clause-tapes : goal.returns-in-Failed-clause-tapes
returns-in-Failed-clause-tapes g c =
    let i = c.items.invariant in
    let s = steps_on c.args.catcher.now c.items.catcher c.next.new.self c.in-Some.item i.0 (sym c.next.ensures.item ∙ c.in-Some.is)
    c.next.ensures.after i.4 i.5 i.2 i.3 in
    hand-failed _ _
    (deck c.args.tape.now (g.O.Sink.drain c.args.output.now) (g.E.Sink.drain c.args.errors.now))
    (deck c.items.tape (g.O.Sink.drain c.items.output) (g.E.Sink.drain c.items.errors))
    (deck c.put_item.new.tape (g.O.Sink.drain c.put_item.new.output) (g.E.Sink.drain c.put_item.new.errors))
    c.args.catcher.now c.items.catcher c.next.new.self i.0 c.in-Some.item s i.1 c.in-Failed.ensures.tapes

pub returns-clause-tapes : goal.returns-clause-tapes
returns-clause-tapes g c =
    let i = c.items.invariant in
    hand-full _ _
    (deck c.args.tape.now (g.O.Sink.drain c.args.output.now) (g.E.Sink.drain c.args.errors.now))
    (deck c.items.tape (g.O.Sink.drain c.items.output) (g.E.Sink.drain c.items.errors))
    c.args.catcher.now c.items.catcher i.0 (omega (arith, c.items-test.false)) i.2 i.1
