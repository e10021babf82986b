use Rattle.std.proofs.Common.{◌≡◌, Some, ap, sym, subst}
use Rattle.satip_plain.specs.declared.events.Event.TheVariants.{Get as Got}
use Rattle.satip_plain.specs.Refusals.{decide_get}
use Rattle.satip_plain.specs.Steps.{step}
use Rattle.satip_core.specs.Held.{Held}
use Rattle.satip_core.specs.Serving.{Stands}
use Rattle.satip_core.proofs.ServingLemmas.{rests, steps_of}
use Rattle.satip_core.proofs.server.Server.get.Goals as goal

pub invariant_of-self : goal.invariant_of-self
invariant_of-self c =
    let standing = c.self.invariant in
    record {
      few = standing.few;
      state = (step c.self.inside.setting.config standing.state (Got c.args.peer c.args.draw c.args.request.now)).state;
      stands = (c.answer_get.ensures.did standing.state standing.stands).stands;
    }

pub returns-clause-setting : goal.returns-clause-setting
returns-clause-setting c = ap (λ (s : Held). s.setting) c.self.view_is

pub returns-clause-steps : goal.returns-clause-steps
returns-clause-steps c = steps_of _ c.args.self.now _ (Got c.args.peer c.args.draw c.args.request.now) _ _ c.self.view_is
    (λ st stands. c.answer_get.ensures.did st stands)

pub returns-clause-refused : goal.returns-clause-refused
returns-clause-refused c = λ st refused stands e.
    let at = subst (λ (s : Held). Stands s st) (sym c.self.view_is) stands in
    let r = rests c.self.inside.setting.config _ _ _ _ _ (c.answer_get.ensures.did st at)
    (c.refused_get_changes_nothing.ensures.law c.self.inside.setting.config st c.args.peer c.args.draw c.args.request.now refused
    (subst (λ (s : Held). decide_get s.setting.config st c.args.request.now ≡ Some refused) (sym c.self.view_is) e)) in
    record { stands = r.0; sent = r.1 }
