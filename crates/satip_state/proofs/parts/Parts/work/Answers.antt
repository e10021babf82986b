use Rattle.std.proofs.Common.{◌≡◌, false, Some, None, subst, ◌∙◌}
use Rattle.satip_table.specs.Living.{Sound}
use Rattle.satip_fronts.specs.FrontEnds.{state_of}
use Rattle.satip_state.specs.Kept.{Kept}
use Rattle.satip_state.proofs.Pumping.{no_front_works, front_works}
use Rattle.satip_state.proofs.parts.Parts.work.Goals as goal

pub returns-in-None : goal.returns-in-None
returns-in-None c = record {
  work = λ config st stands.
      let on = subst (λ (v : Kept). v.stopped ≡ false) c.self.view_is c.if-self.false in
      let told = subst (λ (v : Kept). None ≡ state_of v.fronts c.args.front) c.self.view_is c.in-None.ensures.state in
      no_front_works config c.args.self.now st stands on c.args.front told;
}

pub returns-in-Some : goal.returns-in-Some
returns-in-Some c = record {
  work = λ config st stands.
      let sound : Sound c.args.self.now.table = subst (λ (v : Kept). Sound v.table) c.self.view_is c.self.invariant.table in
      let on = subst (λ (v : Kept). v.stopped ≡ false) c.self.view_is c.if-self.false in
      let told = subst (λ (v : Kept). Some c.in-Some.state ≡ state_of v.fronts c.args.front) c.self.view_is c.in-Some.ensures.state in
      c.work_of.ensures.work ∙ front_works config c.args.self.now st stands sound on c.args.front c.in-Some.state told;
}
