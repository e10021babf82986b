use Rattle.std.proofs.Common.{refl, ap}
use Rattle.satip_plain.specs.declared.events.Event.TheVariants.{Stop}
use Rattle.satip_plain.specs.Steps.{step}
use Rattle.satip_core.specs.Held.{Held}
use Rattle.satip_core.proofs.ServingLemmas.{did_quietly, steps_of}
use Rattle.satip_core.proofs.server.Server.stop.Goals as goal

pub invariant_of-self : goal.invariant_of-self
invariant_of-self c =
    let standing = c.self.invariant in
    record {
      few = standing.few;
      state = (step c.self.inside.setting.config standing.state (Stop)).state;
      stands = c.stop.ensures.stopped c.self.inside.setting.config standing.state standing.stands;
    }

pub returns-clause-setting : goal.returns-clause-setting
returns-clause-setting c = ap (λ (s : Held). s.setting) c.self.view_is

pub returns-clause-steps : goal.returns-clause-steps
returns-clause-steps c = steps_of _ c.args.self.now _ (Stop) _ _ c.self.view_is
    (λ st stands. did_quietly c.self.inside.setting.config _ c.clear.new.self _ (step c.self.inside.setting.config st (Stop)) c.clear.ensures.empty
    (c.stop.ensures.stopped c.self.inside.setting.config st stands) (refl) refl refl)
