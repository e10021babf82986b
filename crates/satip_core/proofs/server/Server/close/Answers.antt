use Rattle.std.proofs.Common.{refl, ap, sym, subst}
use Rattle.satip_plain.specs.declared.events.Event.TheVariants.{Close}
use Rattle.satip_plain.specs.Steps.{step}
use Rattle.satip_core.specs.Held.{Held}
use Rattle.satip_core.specs.Serving.{Stands}
use Rattle.satip_core.proofs.ServingLemmas.{did_close, rests, steps_of}
use Rattle.satip_core.proofs.server.Server.close.Goals as goal

pub invariant_of-self : goal.invariant_of-self
invariant_of-self c =
    let standing = c.self.invariant in
    record {
      few = standing.few;
      state = (step c.self.inside.setting.config standing.state (Close c.args.session)).state;
      stands = (did_close c.self.inside.setting.config _ c.clear.new.self _ _ c.args.session standing.state _ c.clear.ensures.empty (c.close.ensures.moved c.self.inside.setting.config standing.state standing.stands) refl refl (c.close.ensures.answer c.self.inside.setting.config standing.state standing.stands)).stands;
    }

pub returns-clause-setting : goal.returns-clause-setting
returns-clause-setting c = ap (λ (s : Held). s.setting) c.self.view_is

pub returns-clause-steps : goal.returns-clause-steps
returns-clause-steps c = steps_of _ c.args.self.now _ (Close c.args.session) _ _ c.self.view_is
    (λ st stands. did_close c.self.inside.setting.config _ c.clear.new.self _ _ c.args.session st _ c.clear.ensures.empty (c.close.ensures.moved c.self.inside.setting.config st stands) refl refl (c.close.ensures.answer c.self.inside.setting.config st stands))

pub returns-clause-gone : goal.returns-clause-gone
returns-clause-gone c = λ st stands e.
    let at = subst (λ (s : Held). Stands s st) (sym c.self.view_is) stands in
    let r = rests c.self.inside.setting.config _ _ _ _ _ (did_close c.self.inside.setting.config _ c.clear.new.self _ _ c.args.session st _ c.clear.ensures.empty (c.close.ensures.moved c.self.inside.setting.config st at) refl refl (c.close.ensures.answer c.self.inside.setting.config st at))
    ((c.gone_changes_nothing.ensures.law c.self.inside.setting.config st c.args.session e).1) in
    record { stands = r.0; sent = r.1 }
