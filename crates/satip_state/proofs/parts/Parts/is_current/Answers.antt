use Rattle.std.proofs.Common.{◌≡◌, Some, None, subst, ◌∙◌}
use Rattle.satip_table.specs.Living.{Sound}
use Rattle.satip_fronts.specs.FrontEnds.{state_of}
use Rattle.satip_state.specs.Kept.{Kept}
use Rattle.satip_state.proofs.Pumping.{no_front_current, front_current}
use Rattle.satip_state.proofs.parts.Parts.is_current.Goals as goal

pub returns-in-None : goal.returns-in-None
returns-in-None c = record {
  current = λ config st stands.
      let told = subst (λ (v : Kept). None ≡ state_of v.fronts c.args.front) c.self.view_is c.in-None.ensures.state in
      no_front_current config c.args.self.now st stands c.args.front c.args.tune told;
}

pub returns-in-Some : goal.returns-in-Some
returns-in-Some c = record {
  current = λ config st stands.
      let sound : Sound c.args.self.now.table = subst (λ (v : Kept). Sound v.table) c.self.view_is c.self.invariant.table in
      let told = subst (λ (v : Kept). Some c.in-Some.state ≡ state_of v.fronts c.args.front) c.self.view_is c.in-Some.ensures.state in
      c.serves_tune.ensures.serves ∙ front_current config c.args.self.now st stands sound c.args.front c.args.tune c.in-Some.state told;
}
