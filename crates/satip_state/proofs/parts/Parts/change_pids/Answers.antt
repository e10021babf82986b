use Rattle.std.proofs.Common.{◌∙◌, ap, map, sym, subst}
use Rattle.satip_flow.specs.Subscription.{changed}
use Rattle.satip_state.specs.contracts.parts.Parts.{the_view}
use Rattle.satip_state.specs.Standing.{StandsFor}
use Rattle.satip_state.proofs.RequestPlay.{front_known}
use Rattle.satip_state.proofs.RequestPids.{pids_stand, stream_unchanged}
use Rattle.satip_state.proofs.parts.Parts.change_pids.Goals as goal

pub returns-in_default : goal.returns-in_default
returns-in_default c = record {
  changed = λ g st s. stream_unchanged g (the_view c.self.inside) c.args.self.now st s c.args.number _ c.self.view_is (sym c.in_default.ensures.found);
}

pub returns : goal.returns
returns c = record {
  changed = λ g st s.
      let was = subst (λ v. StandsFor g v st) (sym c.self.view_is) s in
      let front = front_known g (the_view c.self.inside) st was c.self.invariant.fronts c.args.number c.in-Some.stream.now (sym c.in-Some.ensures.found) in
      pids_stand g (the_view c.self.inside) st was c.args.number c.in-Some.stream.now c.args.pids.now c.change.new.self c.change-2.new.self
      c.self.invariant.table (sym c.in-Some.ensures.found)
      (rw c.copy.ensures.same at c.change.ensures.changed) (c.change-2.ensures.changed
      ∙ ap (λ f. map (changed c.args.number f c.args.pids.now) c.self.inside.flow) (c.known_front.ensures.same front));
}
