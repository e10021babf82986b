use Rattle.std.proofs.Common.{sym, subst, Some, None}
use Rattle.satip_state.specs.Standing.{StandsFor}
use Rattle.satip_state.proofs.Looking.{owner_looked}
use Rattle.satip_state.proofs.parts.Parts.owner.Goals as goal

pub returns-in-None : goal.returns-in-None
returns-in-None c = record {
  owner = λ cfg st stands.
      let at = subst (λ v. StandsFor cfg v st) (sym c.self.view_is) stands in
      owner_looked cfg _ st c.args.number None at c.self.invariant.table c.in-None.ensures.found;
}

pub returns-in-Some : goal.returns-in-Some
returns-in-Some c = record {
  owner = λ cfg st stands.
      let at = subst (λ v. StandsFor cfg v st) (sym c.self.view_is) stands in
      owner_looked cfg _ st c.args.number (Some c.in-Some.stream.now) at c.self.invariant.table c.in-Some.ensures.found;
}
