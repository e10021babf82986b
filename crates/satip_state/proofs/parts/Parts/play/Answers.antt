use Rattle.std.proofs.Common.{sym, subst}
use Rattle.satip_state.specs.contracts.parts.Parts.{the_view}
use Rattle.satip_state.specs.Standing.{StandsFor}
use Rattle.satip_state.proofs.RequestSession.{unchanged}
use Rattle.satip_state.proofs.RequestPlay.{front_known, housed_in, play_stands, plays_already, seat_is}
use Rattle.satip_state.proofs.parts.Parts.play.Goals as goal

pub returns-in_default : goal.returns-in_default
returns-in_default c = record {
  plays = λ g st s. unchanged g (the_view c.self.inside) c.args.self.now st s c.args.id _ c.self.view_is (sym c.in_default.ensures.slot);
}

pub returns-then-session : goal.returns-then-session
returns-then-session c = record {
  plays = λ g st s. plays_already g (the_view c.self.inside) c.args.self.now st s c.args.id c.in-Some.slot c.in-Some-find.session.now c.self.view_is
      c.self.invariant.table
      (seat_is c.self.inside.table.seats c.args.id c.in-Some.slot c.in-Some-find.session.now (sym c.in-Some.ensures.slot) (sym c.in-Some-find.ensures.found))
      c.if-session.true;
}

pub returns-in_default-find_stream : goal.returns-in_default-find_stream
returns-in_default-find_stream c = record {
  plays = λ g st s. absurd (housed_in g (the_view c.self.inside) st (subst (λ v. StandsFor g v st) (sym c.self.view_is) s) c.args.id c.in-Some.slot
      c.in-Some-find.session.now c.self.invariant.table
      (seat_is c.self.inside.table.seats c.args.id c.in-Some.slot c.in-Some-find.session.now (sym c.in-Some.ensures.slot) (sym c.in-Some-find.ensures.found))
      (sym c.in_default-find_stream.ensures.found));
}

pub returns : goal.returns
returns c = record {
  plays = λ g st s.
      let was = subst (λ v. StandsFor g v st) (sym c.self.view_is) s in
      let seat = seat_is c.self.inside.table.seats c.args.id c.in-Some.slot c.in-Some-find.session.now (sym c.in-Some.ensures.slot)
      (sym c.in-Some-find.ensures.found) in
      let front = front_known g (the_view c.self.inside) st was c.self.invariant.fronts c.in-Some-find.session.now.stream c.in-Some-find_stream.stream.now
      (sym c.in-Some-find_stream.ensures.found) in
      play_stands g (the_view c.self.inside) st was c.args.id c.in-Some.slot c.in-Some-find.session.now c.in-Some-find_stream.stream.now c.play.new.self
      c.subscribe.new.flow
      c.self.invariant.table seat c.if-session.false (sym c.in-Some-find_stream.ensures.found) c.play.ensures.plays (c.subscribe.ensures.added front);
}
