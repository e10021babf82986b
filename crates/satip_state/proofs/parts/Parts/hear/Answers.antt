use Rattle.std.proofs.Common.{rules, sym, subst}
use Rattle.satip_state.specs.contracts.parts.Parts.{the_view}
use Rattle.satip_state.specs.Standing.{StandsFor}
use Rattle.satip_state.proofs.RequestSession.{heard_stands, unchanged}
use Rattle.satip_state.proofs.parts.Parts.hear.Goals as goal

pub returns-in_default : goal.returns-in_default
returns-in_default c = record {
  heard = λ g st s. unchanged g (the_view c.self.inside) c.args.self.now st s c.args.id _ c.self.view_is (sym c.in_default.ensures.slot);
}

pub returns : goal.returns
returns c = record {
  heard = λ g st s. heard_stands g (the_view c.self.inside) st c.args.id c.in-Some.slot c.heard.new.self c.set.new.self c.saturating_add-end.result
      (subst (λ v. StandsFor g v st) (sym c.self.view_is) s) c.self.invariant.table (sym c.in-Some.ensures.slot) c.in-Some.ensures.within
      (search rules) c.saturating_add-end.ensures c.heard.ensures.heard c.set.ensures.replaced;
}
