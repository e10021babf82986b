use Rattle.std.proofs.Common.{◌∙◌, Option, ℕ, ap, sym, subst}
use Rattle.satip_fronts.specs.Openings.{blocked_for}
use Rattle.satip_state.specs.Standing.{StandsFor}
use Rattle.satip_state.proofs.Outlooks.{blocked_looked}
use Rattle.satip_state.proofs.parts.Parts.is_blocked.Goals as goal

pub returns : goal.returns
returns c = record {
  blocked = λ cfg st stands.
      let at = subst (λ v. StandsFor cfg v st) (sym c.self.view_is) stands in
      c.is_blocked.ensures.blocked
      ∙ ap (λ (stream : Option ℕ). blocked_for c.self.inside.fronts stream c.args.tuning.now) c.number_of.ensures.number
      ∙ blocked_looked cfg _ st c.args.stream c.args.tuning.now at c.self.invariant.table;
}
