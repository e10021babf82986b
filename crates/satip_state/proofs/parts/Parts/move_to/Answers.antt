use Rattle.std.proofs.Common.{sym, subst}
use Rattle.satip_state.specs.contracts.parts.Parts.{the_view}
use Rattle.satip_state.specs.Standing.{StandsFor}
use Rattle.satip_state.proofs.RequestSession.{moved_stands, unchanged}
use Rattle.satip_state.proofs.parts.Parts.move_to.Goals as goal

pub returns-in_default : goal.returns-in_default
returns-in_default c = record {
  moved = λ g st s. unchanged g (the_view c.self.inside) c.args.self.now st s c.args.id _ c.self.view_is (sym c.in_default.ensures.slot);
}

pub returns : goal.returns
returns c = record {
  moved = λ g st s. moved_stands g (the_view c.self.inside) st c.args.id c.in-Some.slot c.args.peer c.args.ports c.move_to.new.self c.address.new.self
      (subst (λ v. StandsFor g v st) (sym c.self.view_is) s) c.self.invariant.table
      (sym c.in-Some.ensures.slot) c.move_to.ensures.moved c.address.ensures.readdressed;
}
