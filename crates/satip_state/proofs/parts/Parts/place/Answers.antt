use Rattle.std.proofs.Common.{ap, sym, subst}
use Rattle.satip_fronts.specs.FrontEnds.{FrontEnds}
use Rattle.satip_state.specs.contracts.parts.Parts.{the_view}
use Rattle.satip_state.specs.Standing.{StandsFor}
use Rattle.satip_state.proofs.RequestRetune.{beyond, gone, number_positive, placed_stands, taken_known, unplaced_stands}
use Rattle.satip_state.proofs.parts.Parts.place.Goals as goal

pub returns-in_default : goal.returns-in_default
returns-in_default c = record {
  placed = λ g st s lives. absurd (gone g (the_view c.self.inside) st (subst (λ v. StandsFor g v st) (sym c.self.view_is) s) c.args.number lives
      (sym c.in_default.ensures.found));
}

pub returns-then-number-gt-STREAMS : goal.returns-then-number-gt-STREAMS
returns-then-number-gt-STREAMS c = record {
  placed = λ g st s lives. absurd (beyond g c.args.self.now st s c.args.number lives c.if-number-gt-STREAMS.true);
}

pub take-requires-clause-from_one : goal.take-requires-clause-from_one
take-requires-clause-from_one c = number_positive c.args.number 0 c.in-Some.stream.now c.self.inside.table.streams c.self.invariant.table.numbers
    (sym c.in-Some.ensures.found)

pub returns-in_default-take : goal.returns-in_default-take
returns-in_default-take c = record {
  placed = λ g st s lives.
      let v = the_view c.self.inside in
      let some = number_positive c.args.number 0 c.in-Some.stream.now c.self.inside.table.streams c.self.invariant.table.numbers
      (sym c.in-Some.ensures.found) in
      unplaced_stands g v (record v { fronts = c.take.new.self }) st (subst (λ k. StandsFor g k st) (sym c.self.view_is) s) c.args.number c.args.tuning.now
      c.self.invariant.table some
      c.in_default-take.ensures.chosen (ap (λ (f : FrontEnds). record v { fronts = f }) c.in_default-take.ensures.unchanged);
}

pub change-requires-2 : goal.change-requires-2
change-requires-2 c = record {
  front =
      taken_known c.self.inside.fronts c.args.number c.in-Some-take.front c.args.tuning.now c.self.invariant.fronts c.in-Some-take.ensures.chosen;
}

pub returns : goal.returns
returns c = record {
  placed = λ g st s lives.
      let some = number_positive c.args.number 0 c.in-Some.stream.now c.self.inside.table.streams c.self.invariant.table.numbers
      (sym c.in-Some.ensures.found) in
      placed_stands g (the_view c.self.inside) st (subst (λ k. StandsFor g k st) (sym c.self.view_is) s) c.args.number c.in-Some-take.front c.args.tuning.now
      c.in-Some.stream.now c.change.new.self c.take.new.self c.change-2.new.self
      c.self.invariant.table c.self.invariant.fronts c.change.ensures.sound c.in-Some-take.ensures.sound some c.if-number-gt-STREAMS.false
      (sym c.in-Some.ensures.found)
      c.in-Some-take.ensures.chosen c.in-Some-take.ensures.moved (rw (c.copy.ensures.same, c.copy-pids.ensures.same) at c.change.ensures.changed)
      (rw c.copy-pids.ensures.same at c.change-2.ensures.changed);
}
